-- The pass starts at the first token, and the capability names no parameter exactly if the set of those named is empty.
use Rattle.std.proofs.Common.{◌∙◌, [], ◌↔◌, All, Bool, IsTrue, List, ap, length, nat_eq, sym, subst, arith}
use Rattle.ti_cap.specs.declared.language.Token.{Token}
use Rattle.ti_lint.specs.inner.Facts.{IsLettered}
use Rattle.ti_cap.specs.Capability.{Spot, whole}
use Rattle.ti_lint.specs.declared.pass.Pass.{Pass}
use Rattle.ti_lint.specs.Findings.{NamesNone}
use Rattle.ti_lint.specs.inner.Pass.{IsAt}
use Rattle.ti_lint.specs.inner.Outlook.{IsAhead, outlooks}
use Rattle.ti_lint.proofs.AtLemmas.{at_start}
use Rattle.ti_lint.proofs.AheadLemmas.{lettered_all, written_long}
use Rattle.ti_lint.proofs.FoundLemmas.{names_none}
use Rattle.ti_lint.specs.inner.Conditionals.{HasTokens}
use Rattle.ti_lint.proofs.WithinLemmas.{tokens_start}
use Rattle.ti_lint.proofs.findings.Findings.new.Goals as goal

pub outlooks-requires-clause-lettered : goal.outlooks-requires-clause-lettered
outlooks-requires-clause-lettered g c =
    let P : List Token → Type 0 = λ x. All IsLettered x in
    subst P (sym c.as_slice.ensures.value) (lettered_all c.in_ok-tokens.tokens.items c.args.capability.now c.in_ok-tokens.ensures)

pub outlooks-requires-clause-few : goal.outlooks-requires-clause-few
outlooks-requires-clause-few g c =
    omega (arith, written_long c.in_ok-tokens.tokens.items c.args.capability.now c.in_ok-tokens.ensures, c.tape-tape.ensures.tree.short, ap length c.as_slice.ensures.value)

pub invariant_of-result : goal.invariant_of-result
invariant_of-result g c =
    let bytes = c.args.capability.now in
    let start : Spot = record { taken = []; left = bytes } in
    let named = c.parameters.result.named in
    let P : Pass → Type 0 = λ x. IsAt start x in
    let Q : Bool → Type 0 = λ x. IsTrue x ↔ NamesNone (whole start) in
    let list = c.in_ok-outlooks.outlooks.items in
    let R : Spot → Type 0 = λ x. IsAt x c.new.result × (IsTrue c.eq.result ↔ NamesNone (whole x)) × IsAhead x list × HasTokens x c.in_ok-tokens.tokens.items 0 in
    let none : IsTrue (nat_eq named.mask 0) ↔ NamesNone (whole start) = names_none bytes named c.parameters.ensures.named in
    subst R (sym c.tape-tape.ensures.start) (
      subst P (sym c.new.ensures) (at_start bytes c.tape-tape.ensures.tree),
      subst Q (sym c.eq.ensures) none,
      record { rest = c.in_ok-tokens.tokens.items; left = c.in_ok-tokens.ensures; list_is = c.in_ok-outlooks.ensures ∙ ap outlooks c.as_slice.ensures.value },
      tokens_start bytes c.in_ok-tokens.tokens.items c.in_ok-tokens.ensures c.tape-tape.ensures.tree.short,
    )
