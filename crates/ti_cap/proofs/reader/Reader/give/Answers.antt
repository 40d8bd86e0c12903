use Rattle.std.proofs.Common.{arith, ◌∙◌, ap, rules}
use Rattle.ti_cap.specs.inner.Lexer.{token_read}
use Rattle.ti_cap.proofs.IsRefusalLemmas.{parsed_low, parsed_small, parsed_few}
use Rattle.ti_cap.proofs.ReaderLemmas.{reading_parsed, reading_on}
use Rattle.ti_cap.proofs.reader.Reader.give.Goals as goal

pub take-requires : goal.take-requires
take-requires g c =
    let i = c.self.inside in
    let p = reading_parsed i.bytes.now i.left.now i.tokens i.scan i.opens.now c.self.invariant in
    (omega arith, (omega arith, (parsed_low _ _ _ _ _ p, (parsed_small _ _ _ _ _ (omega arith) c.self.invariant.short p, c.self.invariant.order))))

pub slice_bounds-self-count : goal.slice_bounds-self-count
slice_bounds-self-count g c =
    let i = c.self.inside in
    let f = reading_on i.bytes.now i.left.now i.tokens c.args.token c.args.long i.scan i.opens.now _ _ c.self.invariant (ap (λ s. token_read s.left) c.self.view_is ∙ c.requires.front) c.in-Ok.ensures.fine c.in-Ok.ensures.taken c.in-Ok.ensures.order in
    omega (arith, f.low)

pub slice_bounds-self-start : goal.slice_bounds-self-start
slice_bounds-self-start g c =
    let i = c.self.inside in
    let f = reading_on i.bytes.now i.left.now i.tokens c.args.token c.args.long i.scan i.opens.now _ _ c.self.invariant (ap (λ s. token_read s.left) c.self.view_is ∙ c.requires.front) c.in-Ok.ensures.fine c.in-Ok.ensures.taken c.in-Ok.ensures.order in
    omega (arith, f.low)

pub overflow_add-self : goal.overflow_add-self
overflow_add-self g c =
    let i = c.self.inside in
    omega (arith, parsed_few _ _ _ _ _ (reading_parsed i.bytes.now i.left.now i.tokens i.scan i.opens.now c.self.invariant), c.self.invariant.short)

pub invariant_of-self-in-Ok : goal.invariant_of-self-in-Ok
invariant_of-self-in-Ok g c =
    let i = c.self.inside in
    let f = reading_on i.bytes.now i.left.now i.tokens c.args.token c.args.long i.scan i.opens.now _ _ c.self.invariant (ap (λ s. token_read s.left) c.self.view_is ∙ c.requires.front) c.in-Ok.ensures.fine c.in-Ok.ensures.taken c.in-Ok.ensures.order in
    f.reading

pub invariant_of-self-in_err-answer-in-Ok : goal.invariant_of-self-in_err-answer-in-Ok
invariant_of-self-in_err-answer-in-Ok g c =
    let i = c.self.inside in
    let f = reading_on i.bytes.now i.left.now i.tokens c.args.token c.args.long i.scan i.opens.now _ _ c.self.invariant (ap (λ s. token_read s.left) c.self.view_is ∙ c.requires.front) c.in-Ok.ensures.fine c.in-Ok.ensures.taken c.in-Ok.ensures.order in
    f.reading

pub returns-in_ok-answer-in-Ok : goal.returns-in_ok-answer-in-Ok
returns-in_ok-answer-in-Ok g c =
    let i = c.self.inside in
    let f = reading_on i.bytes.now i.left.now i.tokens c.args.token c.args.long i.scan i.opens.now _ _ c.self.invariant (ap (λ s. token_read s.left) c.self.view_is ∙ c.requires.front) c.in-Ok.ensures.fine c.in-Ok.ensures.taken c.in-Ok.ensures.order in
    record { taken = (rw (← c.self.view_is) f.takes, rw (← c.self.view_is) f.first, search rules) }
