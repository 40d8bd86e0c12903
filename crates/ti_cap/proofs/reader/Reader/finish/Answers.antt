use Rattle.std.proofs.Common.{◌≡◌, arith, refl, sym, ◌∙◌, ap, length}
use Rattle.ti_cap.proofs.IsRefusalLemmas.{parse_done}
use Rattle.ti_cap.proofs.ReaderLemmas.{reading_parsed, reading_whole}
use Rattle.ti_cap.proofs.reader.Reader.finish.Goals as goal

pub known-requires : goal.known-requires
known-requires c =
    let i = c.self.inside in
    let none : length i.left.now ≡ 0 = omega (arith, ap (λ s. length s.left) c.self.view_is, ap length c.requires.end) in
    let p = reading_parsed i.bytes.now i.left.now i.tokens i.scan i.opens.now c.self.invariant in
    parse_done _ _ _ _ _ _ c.self.invariant.short (omega (arith, none)) p (sym c.is_in_first_test.ensures ∙ c.if-is_in_first_test.false) refl c.depth.ensures c.nest.ensures c.bound.ensures

pub returns-clause-accepted : goal.returns-clause-accepted
returns-clause-accepted c =
    let i = c.self.inside in
    let none : length i.left.now ≡ 0 = omega (arith, ap (λ s. length s.left) c.self.view_is, ap length c.requires.end) in
    let p = reading_parsed i.bytes.now i.left.now i.tokens i.scan i.opens.now c.self.invariant in
    let k = parse_done _ _ _ _ _ (record { tokens = i.tokens; depth = c.depth.result; nest = c.nest.result; bound = c.bound.result }) c.self.invariant.short (omega (arith, none)) p (sym c.is_in_first_test.ensures ∙ c.if-is_in_first_test.false) refl c.depth.ensures c.nest.ensures c.bound.ensures in
    rw (← c.self.view_is) (rw (reading_whole i.bytes.now i.left.now c.self.invariant.rest) k.faultless)
