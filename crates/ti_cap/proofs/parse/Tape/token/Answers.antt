use Rattle.std.proofs.Common.{◌++◌, ◌+◌, drop, sym, ◌∙◌, ap, arith}
use Rattle.ti_cap.specs.inner.Lexer.{token_read}
use Rattle.ti_cap.proofs.IsRefusalLemmas.{from_place}
use Rattle.ti_cap.proofs.IsTapeLemmas.{Next, tape_step, tape_never, tape_first}
use Rattle.ti_cap.proofs.parse.Tape.token.Goals as goal

pub overflow_add-self : goal.overflow_add-self
overflow_add-self c =
    let n : Next c.self.inside.bytes.now c.self.inside.place c.self.inside.maxima c.in-Ok.token c.in-Ok.long =
    tape_step _ _ _ _ _ c.self.invariant c.if-self.false (ap token_read (sym (from_place c.self.inside.bytes.now c.self.inside.place)) ∙ sym c.read_token.ensures ∙ c.in-Ok.is) in
    omega (arith, n.within)

pub invariant_of-self : goal.invariant_of-self
invariant_of-self c =
    let n : Next c.self.inside.bytes.now c.self.inside.place c.self.inside.maxima c.in-Ok.token c.in-Ok.long =
    tape_step _ _ _ _ _ c.self.invariant c.if-self.false (ap token_read (sym (from_place c.self.inside.bytes.now c.self.inside.place)) ∙ sym c.read_token.ensures ∙ c.in-Ok.is) in
    n.tape

pub unreachable-requires : goal.unreachable-requires
unreachable-requires c =
    tape_never c.self.inside.bytes.now c.self.inside.place c.self.inside.maxima c.in-Err.field-0 c.self.invariant c.if-self.false
    (ap token_read (sym (from_place c.self.inside.bytes.now c.self.inside.place)) ∙ sym c.read_token.ensures ∙ c.in-Err.is)

pub returns-clause-some : goal.returns-clause-some
returns-clause-some c =
    let n : Next c.self.inside.bytes.now c.self.inside.place c.self.inside.maxima c.in-Ok.token c.in-Ok.long =
    tape_step _ _ _ _ _ c.self.invariant c.if-self.false (ap token_read (sym (from_place c.self.inside.bytes.now c.self.inside.place)) ∙ sym c.read_token.ensures ∙ c.in-Ok.is) in
    (n.spelling, n.spells, ap (λ t. t.left) (sym c.self.view_is) ∙ n.left, n.taken ∙ ap (λ t. t.taken ++ n.spelling) c.self.view_is)

pub returns-clause-order : goal.returns-clause-order
returns-clause-order c =
    let n : Next c.self.inside.bytes.now c.self.inside.place c.self.inside.maxima c.in-Ok.token c.in-Ok.long =
    tape_step _ _ _ _ _ c.self.invariant c.if-self.false (ap token_read (sym (from_place c.self.inside.bytes.now c.self.inside.place)) ∙ sym c.read_token.ensures ∙ c.in-Ok.is) in
    tape_first c.in-Ok.token c.args.self.now.left (drop (c.self.inside.place + c.in-Ok.long) c.self.inside.bytes.now) n.spelling n.spells (ap (λ t. t.left) (sym c.self.view_is) ∙ n.left)
