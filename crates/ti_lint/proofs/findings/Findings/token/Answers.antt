-- What the passes know at a place goes on with the token that is taken there.
use Rattle.std.proofs.Common.{◌≡◌, ℕ, ◌↔◌, List, IsTrue, sym, ◌∙◌, ap, subst}
use Rattle.std.specs.Prelude.{Some}
use Rattle.ti_cap.specs.Capability.{Spot, whole}
use Rattle.ti_lint.specs.declared.pass.Pass.{Pass}
use Rattle.ti_lint.specs.Findings.{Underway, NamesNone, IsFoundBefore, IsFoundAfter, IsFoundWithin}
use Rattle.ti_lint.specs.inner.Facts.{judgement}
use Rattle.ti_lint.specs.inner.Outlook.{prospect, IsAhead}
use Rattle.ti_lint.specs.inner.Pass.{IsAt}
use Rattle.ti_lint.proofs.AtLemmas.{same_whole}
use Rattle.ti_lint.proofs.FoundLemmas.{found_exact}
use Rattle.ti_lint.proofs.FoundAfterLemmas.{Taken, taken, prospect_exact}
use Rattle.ti_lint.specs.Conditionals.{IsFoundAmong}
use Rattle.ti_lint.specs.inner.Conditionals.{HasTokens}
use Rattle.ti_lint.proofs.WithinLemmas.{Among, among, within_exact}
use Rattle.ti_lint.proofs.findings.Findings.token.Goals as goal

pub invariant_of-self : goal.invariant_of-self
invariant_of-self g c =
    let i = c.self.inside in
    let P : Spot → Type 0 = λ x. IsAt x i.pass × (IsTrue i.termcap ↔ NamesNone (whole x)) × IsAhead x i.outlooks.items × HasTokens x i.tokens.items i.count in
    subst P (sym c.in_err-token.ensures.none.0) c.self.invariant

pub take-requires-clause-takeable : goal.take-requires-clause-takeable
take-requires-clause-takeable g c =
    let i = c.self.inside in
    let k = c.in_ok-token.token in
    let o = c.in_ok-outlook.outlook in
    let t : Taken i.tape c.token.new.self k i.pass c.pop.new.self.items o = taken i.tape c.token.new.self k i.pass i.outlooks.items c.pop.new.self.items o
    c.self.invariant.0 c.self.invariant.2 c.in_ok-token.ensures.some c.in_ok-token.ensures.order c.in_ok-outlook.ensures.items in
    t.takeable

pub take-requires-clause-few : goal.take-requires-clause-few
take-requires-clause-few g c =
    let i = c.self.inside in
    let k = c.in_ok-token.token in
    let o = c.in_ok-outlook.outlook in
    let t : Taken i.tape c.token.new.self k i.pass c.pop.new.self.items o = taken i.tape c.token.new.self k i.pass i.outlooks.items c.pop.new.self.items o
    c.self.invariant.0 c.self.invariant.2 c.in_ok-token.ensures.some c.in_ok-token.ensures.order c.in_ok-outlook.ensures.items in
    t.few

pub invariant_of-self-2 : goal.invariant_of-self-2
invariant_of-self-2 g c =
    let i = c.self.inside in
    let k = c.in_ok-token.token in
    let o = c.in_ok-outlook.outlook in
    let t : Taken i.tape c.token.new.self k i.pass c.pop.new.self.items o = taken i.tape c.token.new.self k i.pass i.outlooks.items c.pop.new.self.items o
    c.self.invariant.0 c.self.invariant.2 c.in_ok-token.ensures.some c.in_ok-token.ensures.order c.in_ok-outlook.ensures.items in
    let P : Pass → Type 0 = λ x. IsAt c.token.new.self x in
    let Q : List ℕ → Type 0 = λ x. IsTrue i.termcap ↔ NamesNone x in (
      subst P (sym c.take.ensures) t.at,
      subst Q (same_whole i.tape c.token.new.self k c.in_ok-token.ensures.some) c.self.invariant.1,
      t.ahead,
      (among i.tape c.token.new.self i.tokens.items i.count k c.self.invariant.3 c.in_ok-token.ensures.some c.in_ok-token.ensures.order).next,
    )

pub returns-clause-before : goal.returns-clause-before
returns-clause-before g c finding =
    let i = c.self.inside in
    let k = c.in_ok-token.token in
    let o = c.in_ok-outlook.outlook in
    let t : Taken i.tape c.token.new.self k i.pass c.pop.new.self.items o = taken i.tape c.token.new.self k i.pass i.outlooks.items c.pop.new.self.items o
    c.self.invariant.0 c.self.invariant.2 c.in_ok-token.ensures.some c.in_ok-token.ensures.order c.in_ok-outlook.ensures.items in
    let is : c.judge-before.result ≡ judgement i.expected i.termcap k i.pass.here = c.judge-before.ensures ∙ ap (λ x. judgement i.expected i.termcap k x) c.here-here.ensures in
    let exact : (judgement i.expected i.termcap k i.pass.here ≡ Some finding) ↔ IsFoundBefore (record { spot = i.tape; expected = i.expected }) k finding =
    found_exact i.tape i.expected i.termcap k i.pass t.between.before c.self.invariant.1 finding in
    let P : Underway → Type 0 = λ x. IsFoundBefore x k finding in
    ((λ a. subst P c.self.view_is (exact.0 (sym is ∙ a))), (λ f. is ∙ exact.1 (subst P (sym c.self.view_is) f)))

pub returns-clause-after : goal.returns-clause-after
returns-clause-after g c finding =
    let i = c.self.inside in
    let k = c.in_ok-token.token in
    let o = c.in_ok-outlook.outlook in
    let t : Taken i.tape c.token.new.self k i.pass c.pop.new.self.items o = taken i.tape c.token.new.self k i.pass i.outlooks.items c.pop.new.self.items o
    c.self.invariant.0 c.self.invariant.2 c.in_ok-token.ensures.some c.in_ok-token.ensures.order c.in_ok-outlook.ensures.items in
    let is : c.judge-after.result ≡ prospect k i.pass.here o = c.judge-after.ensures ∙ ap (λ x. prospect k x o) c.here-here.ensures in
    let exact : (prospect k i.pass.here o ≡ Some finding) ↔ IsFoundAfter (record { spot = i.tape; expected = i.expected }) k finding =
    prospect_exact i.tape i.expected k i.pass o t.between finding in
    let P : Underway → Type 0 = λ x. IsFoundAfter x k finding in
    ((λ a. subst P c.self.view_is (exact.0 (sym is ∙ a))), (λ f. is ∙ exact.1 (subst P (sym c.self.view_is) f)))

pub returns-clause-within : goal.returns-clause-within
returns-clause-within g c finding =
    let i = c.self.inside in
    let k = c.in_ok-token.token in
    let a : Among i.tape c.token.new.self i.tokens.items i.count k =
    among i.tape c.token.new.self i.tokens.items i.count k c.self.invariant.3 c.in_ok-token.ensures.some c.in_ok-token.ensures.order in
    let exact = c.judge_conditional-within.ensures a.before a.after k finding (c.deref.ensures.value ∙ a.spans) a.counts in
    let w : IsFoundAmong a.before k a.after finding ↔ IsFoundWithin (record { spot = i.tape; expected = i.expected }) k finding =
    within_exact i.tape c.token.new.self i.expected i.tokens.items i.count k finding a in
    let P : Underway → Type 0 = λ x. IsFoundWithin x k finding in
    ((λ e. subst P c.self.view_is (w.0 (exact.0 e))), (λ f. exact.1 (w.1 (subst P (sym c.self.view_is) f))))
