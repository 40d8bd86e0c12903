use Rattle.std.proofs.Common.{◌+◌, ℕ, List, arith, map, subst, take}
use Rattle.std.specs.Borrow.{Bor}
use Rattle.ti_words.specs.Items.{ExtendedSubject, SubjectValue}
use Rattle.ti_listing.specs.Differences.{IsDifference}
use Rattle.ti_listing.specs.Values.{difference_value}
use Rattle.ti_listing.specs.inner.Differences.{Adds}
use Rattle.ti_listing.proofs.DifferencesLemmas.{adds_next}
use Rattle.ti_listing.proofs.ExtendedNamesLemmas.{next_name}
use Rattle.ti_listing.proofs.diff.Compared.push_extended.Goals as goal

pub loop-index-preserved : goal.loop-index-preserved
loop-index-preserved g c =
    let a = c.args.self in
    let l = c.loop-index in
    let names = c.in_ok-names.names.items in
    let front : ℕ → List SubjectValue = λ n. map (ExtendedSubject c.args.kind) (take n (map (λ one. one.now) names)) in
    let P : Bor (List ℕ) → Type 0 = λ name. Adds (IsDifference a.likeness a.one.now a.other.now (ExtendedSubject c.args.kind name.now)) (map difference_value l.out.items) (map difference_value c.push_named.new.out.items) in
    adds_next (IsDifference a.likeness a.one.now a.other.now) (front l.index) (front (l.index + 1)) _ _ (map difference_value l.out.items) (map difference_value c.push_named.new.out.items)
    (next_name (λ one. one.now) c.args.kind names l.index _ (omega (arith, c.loop-index-test.true, l.auto.index-end, c.len-index-end.ensures))) l.invariant (subst P c.index.ensures c.in_ok-push_named.ensures)
