use Rattle.std.proofs.Common.{◌≡◌, ℕ, List, ◌++◌, length, sym, ◌∙◌, ap, subst}
use Rattle.ti_lint.specs.declared.placed_finding.PlacedFinding.{PlacedFinding}
use Rattle.ti_lint.specs.inner.Found.{found_at}
use Rattle.ti_lint.proofs.FoundAtLemmas.{Lists, IsJudged, lists_start, lists_next, listed}
use Rattle.ti_lint.proofs.placed_finding.findings_of.Goals as goal

pub loop-judged-init : goal.loop-judged-init
loop-judged-init g c =
    let e = c.in_ok-findings.ensures in
    let P : List PlacedFinding → Type 0 = λ x. Lists c.args.capability.now c.args.expected c.in_ok-findings.findings x in (
      subst P (sym c.new-list.ensures.items) (lists_start c.args.capability.now c.args.expected c.in_ok-findings.findings e.tree e.start e.expected),
      sym (ap (λ x. length x.taken) e.start),
    )

pub loop-judged-preserved : goal.loop-judged-preserved
loop-judged-preserved g c =
    let l = c.loop-judged in
    let new = c.token.new.self in
    let judged = c.in-Some.judged in
    let e = c.in-Some.ensures in
    let judged_by : IsJudged l.findings new judged.token judged.before judged.after judged.within =
    record { takes = e.takes; first = e.order; same = e.expected; by_before = e.before; by_after = e.after; by_within = e.within } in
    let items : c.note-in-Some-2.new.list.items ≡ ((l.list.items ++ found_at l.place judged.before) ++ found_at l.place judged.after) ++ found_at l.place judged.within =
    c.in_ok-note-3.ensures ∙ ap (λ x. x ++ found_at l.place judged.within) (c.in_ok-note-2.ensures ∙ ap (λ x. x ++ found_at l.place judged.after) c.in_ok-note.ensures) in
    let P : List PlacedFinding → Type 0 = λ x. Lists c.args.capability.now c.args.expected new x in
    let Q : ℕ → Type 0 = λ x. P (((l.list.items ++ found_at x judged.before) ++ found_at x judged.after) ++ found_at x judged.within) in (
      subst P (sym items) (subst Q (sym l.invariant.1) (lists_next c.args.capability.now c.args.expected l.findings new judged.token judged.before judged.after judged.within l.list.items l.invariant.0 judged_by)),
      c.at-place.ensures.exact,
    )

pub returns-clause-exact : goal.returns-clause-exact
returns-clause-exact g c =
    let l = c.loop-judged in
    listed c.args.capability.now c.args.expected l.findings l.list.items l.invariant.0 c.in_default.ensures.none.1
