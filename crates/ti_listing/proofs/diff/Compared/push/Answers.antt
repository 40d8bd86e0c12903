use Rattle.std.proofs.Common.{map}
use Rattle.ti_words.specs.Items.{item_value, subject_value}
use Rattle.ti_listing.specs.Values.{difference_value}
use Rattle.ti_listing.proofs.DifferencesLemmas.{difference_told}
use Rattle.ti_listing.proofs.diff.Compared.push.Goals as goal

pub returns : goal.returns
returns g c =
    let a = c.args.self in
    difference_told a.likeness a.one.now a.other.now (subject_value c.args.subject) _ (item_value c.item-first.result) (item_value c.item-other.result) (map difference_value c.args.out.now.items) _ c.item-first.ensures c.item-other.ensures c.push_change.ensures
