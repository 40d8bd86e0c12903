use Rattle.std.proofs.Common.{◌∙◌, ◌++◌, ◌+◌, [], ◌∷◌, ap, arith, drop, sym}
use Rattle.std.proofs.lemmas.List.{take_rest}
use Rattle.ti_rules.specs.NameBytes.{parted}
use Rattle.ti_rules.specs.inner.Lent.{texts_lent}
use Rattle.ti_rules.proofs.PartedLemmas.{added, between, one_more, parted_end, parted_here, parted_on}
use Rattle.ti_rules.proofs.name_bytes.parts_of.Goals as goal

pub bytes-preserved-then-not-is_bar : goal.bytes-preserved-then-not-is_bar
bytes-preserved-then-not-is_bar g c =
    let bytes = c.args.bytes.now in
    let i = c.bytes.place in
    record {
      low = omega (arith, c.bytes.invariant.low);
      parts =
          ap (λ l. texts_lent c.bytes.parts.items ++ l)
          (sym (parted_on bytes c.bytes.start i c.bytes.invariant.low c.bytes-test.true (sym c.is_bar.ensures ∙ c.if-not-is_bar.true)))
          ∙ c.bytes.invariant.parts;
    }

pub bytes-preserved : goal.bytes-preserved
bytes-preserved g c =
    let bytes = c.args.bytes.now in
    let i = c.bytes.place in
    let here = between bytes c.bytes.start i in
    record {
      low = omega arith;
      parts =
          added (texts_lent c.bytes.parts.items) (texts_lent c.push.new.self.items) (here ∷ []) (parted (between bytes (i + 1) (i + 1)) (drop (i + 1) bytes))
          (parted (between bytes c.bytes.start i) (drop i bytes)) _ c.bytes.invariant.parts
          (parted_here bytes c.bytes.start i c.bytes-test.true (sym c.is_bar.ensures ∙ c.if-not-is_bar.false))
          (one_more c.bytes.parts.items c.push.new.self.items c.part_of.result here c.in_ok-push.ensures.items c.part_of.ensures);
    }

pub returns : goal.returns
returns g c =
    let bytes = c.args.bytes.now in
    let last = drop c.bytes.start bytes in
    one_more c.bytes.parts.items c.push-2.new.self.items c.part_of-2.result last c.in_ok-push-2.ensures.items (c.part_of-2.ensures ∙ take_rest bytes c.bytes.start)
    ∙ ap (λ l. texts_lent c.bytes.parts.items ++ l) (sym (parted_end bytes c.bytes.start c.bytes.place (omega (arith, c.bytes-test.false))))
    ∙ c.bytes.invariant.parts
