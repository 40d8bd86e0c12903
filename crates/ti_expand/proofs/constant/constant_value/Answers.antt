use Rattle.std.proofs.Common.{◌∙◌, ◌+◌, drop, ap, sym, rules}
use Rattle.std.specs.Int.{w32}
use Rattle.std.proofs.lemmas.Int.{to_z-of_z}
use Rattle.std.proofs.lemmas.List.{drop_all}
use Rattle.ti_expand.specs.Constants.{stack_after}
use Rattle.ti_expand.specs.State.{number_on}
use Rattle.ti_expand.specs.inner.Numbers.{stack_of}
use Rattle.ti_expand.proofs.ConstantsLemmas.{next_token}
use Rattle.ti_expand.proofs.constant.constant_value.Goals as goal

pub tokens-preserved : goal.tokens-preserved
tokens-preserved g c =
    let ts = c.args.tokens.now in
    let i = c.tokens.token-index in
    ap (λ s. stack_after s (drop (i + 1) ts)) c.in_ok-take.ensures ∙ sym (next_token ts i (stack_of c.tokens.numbers.items) _ c.tokens-test.true) ∙ c.tokens.invariant

pub returns : goal.returns
returns g c = record {
  exact =
      let ts = c.args.tokens.now in
      let s = stack_of c.tokens.numbers.items in
      to_z-of_z w32 c.pop.result (search rules) ∙ c.pop.ensures.value
      ∙ ap number_on (sym (ap (λ l. stack_after s l) (drop_all c.tokens.token-index ts c.tokens-test.false)) ∙ c.tokens.invariant);
}
