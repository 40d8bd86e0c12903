use Rattle.std.proofs.Common.{◌≡◌, ◌∙◌, ◌++◌, ap, subst}
use Rattle.std.specs.List.{flat_map}
use Rattle.std.specs.List.Sorted.{IsPermutation}
use Rattle.std.proofs.lemmas.List.Sorted.{IsPermutation-map}
use Rattle.ti_rules.specs.Keys.{keys_in, on_keys}
use Rattle.ti_rules.specs.inner.Lent.{key_lent, keys_lent}
use Rattle.ti_rules.specs.inner.Neighbours.{on_row}
use Rattle.ti_rules.proofs.KeysLemmas.{ascends_lent}
use Rattle.ti_rules.proofs.NeighboursLemmas.{neighbours_are}
use Rattle.ti_rules.proofs.report.Report.push_keys.Goals as goal

pub returns : goal.returns
returns g c =
    let keys = c.in_ok-keys.keys.items in
    let row = c.sort_unstable.new.self.items in
    let ascends = ascends_lent row c.sort_unstable.ensures.sorted in
    let remarks : on_row (keys_lent row) ≡ on_keys (keys_lent row) (keys_lent row) = neighbours_are (keys_lent row) ascends in
    let (kept, is) = c.in_ok-push_row.ensures in (
      kept,
      (
        on_row (keys_lent row),
        record {
          row = keys_lent row;
          same = subst (λ all. IsPermutation all (keys_lent row)) (c.in_ok-keys.ensures ∙ ap (flat_map keys_in) c.texts.ensures) (IsPermutation-map key_lent keys row c.sort_unstable.ensures.permutation);
          ascends = ascends;
          remarks_are = remarks;
        },
        is ∙ ap (λ items. c.args.self.now.remarks ++ on_row (keys_lent items)) c.as_slice.ensures.value,
      ),
    )
