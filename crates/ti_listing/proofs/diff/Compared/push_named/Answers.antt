use Rattle.std.proofs.Common.{map}
use Rattle.ti_words.specs.Items.{ExtendedSubject, item_value}
use Rattle.ti_listing.specs.Values.{difference_value}
use Rattle.ti_listing.proofs.DifferencesLemmas.{difference_told}
use Rattle.ti_listing.proofs.diff.Compared.push_named.Goals as goal

pub returns : goal.returns
returns g c =
    let a = c.args.self in
    difference_told a.likeness a.one.now a.other.now (ExtendedSubject c.args.kind c.args.name.now) _ (item_value c.item_named-first.result) (item_value c.item_named-other.result) (map difference_value c.args.out.now.items) _
    c.item_named-first.ensures c.item_named-other.ensures c.push_change.ensures
