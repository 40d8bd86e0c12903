use Rattle.std.proofs.Common.{◌≡◌, ◌+◌, ◌∙◌, ℕ, List, ap, ap₂, arith, map, max, subst}
use Rattle.std.proofs.lemmas.List.FromFn.{map-range_with_len_more}
use Rattle.std.specs.List.{range_with_len}
use Rattle.ti_words.specs.Items.{StandardSubject, SubjectValue}
use Rattle.ti_words.specs.Value.{PartValue}
use Rattle.ti_entry.specs.Items.{count_of_kind}
use Rattle.ti_listing.specs.Differences.{AreTold, IsDifference}
use Rattle.ti_listing.specs.Values.{difference_value}
use Rattle.ti_listing.specs.inner.Differences.{Adds}
use Rattle.ti_listing.proofs.DifferencesLemmas.{adds_next, adds_none}
use Rattle.ti_listing.proofs.diff.Compared.push_standard.Goals as goal

pub loop-index-init : goal.loop-index-init
loop-index-init g c = let a = c.args.self in adds_none (IsDifference a.likeness a.one.now a.other.now) _

pub loop-index-preserved : goal.loop-index-preserved
loop-index-preserved g c =
    let a = c.args.self in
    let l = c.loop-index in
    let below : ℕ → List SubjectValue = λ n. map (StandardSubject c.args.kind) (range_with_len 0 n) in
    adds_next (IsDifference a.likeness a.one.now a.other.now) (below l.index) (below (l.index + 1)) (StandardSubject c.args.kind l.index) _ (map difference_value l.out.items) (map difference_value c.push.new.out.items)
    (map-range_with_len_more (StandardSubject c.args.kind) 0 l.index l.index (omega arith)) l.invariant c.in_ok-push.ensures

pub returns : goal.returns
returns g c =
    let a = c.args.self in
    let l = c.loop-index in
    let Below : ℕ → Type 0 = λ n. Adds (AreTold (IsDifference a.likeness a.one.now a.other.now) (map (StandardSubject c.args.kind) (range_with_len 0 n))) (map difference_value c.args.out.now.items) (map difference_value l.out.items) in
    let count : (p : PartValue) → ℕ = λ p. count_of_kind p c.args.kind in
    let end : l.index ≡ c.max-end.result = omega (arith, c.loop-index-test.false, l.auto.index-end) in
    subst Below (end ∙ c.max-end.ensures ∙ ap₂ max (c.count_of.ensures ∙ ap count c.standard-one.ensures) (c.count_of-2.ensures ∙ ap count c.standard-other.ensures)) l.invariant
