use Rattle.std.proofs.Common.{ap, map}
use Rattle.ti_listing.specs.Differences.{IsDifference, extended_of_both, of_each_kind, standard_of_both}
use Rattle.ti_listing.specs.Values.{difference_value}
use Rattle.ti_listing.proofs.DifferencesLemmas.{adds_both, adds_kinds, differences}
use Rattle.ti_listing.proofs.AreAlikeLemmas.{tells_apart}
use Rattle.ti_listing.proofs.diff.difference_of.Goals as goal

pub returns : goal.returns
returns g c =
    let v = c.args.one.now in
    let w = c.args.other.now in
    let P = IsDifference c.args.likeness v w in
    let told = map difference_value in
    let heads = rw (c.width.ensures, c.width-2.ensures) at c.in_ok-push_format.ensures in
    let names = rw (c.names.ensures, c.names-2.ensures) at c.in_ok-push_names.ensures in
    let before = told c.push_names.new.out.items in
    let between = told c.push_standard-3.new.out.items in
    let end = told c.push_extended-3.new.out.items in
    let standard = adds_kinds P (standard_of_both v w) before (told c.push_standard.new.out.items) (told c.push_standard-2.new.out.items) between c.in_ok-push_standard.ensures c.in_ok-push_standard-2.ensures c.in_ok-push_standard-3.ensures in
    let extended = adds_kinds P (extended_of_both v w) between (told c.push_extended.new.out.items) (told c.push_extended-2.new.out.items) end c.in_ok-push_extended.ensures c.in_ok-push_extended-2.ensures c.in_ok-push_extended-3.ensures in
    let all = differences c.args.likeness v w _ (told c.push_format.new.out.items) before end (ap told c.new-out.ensures.items) heads names
    (adds_both P (of_each_kind (standard_of_both v w)) (of_each_kind (extended_of_both v w)) before between end standard extended) in
    record {
      all = all;
      apart = tells_apart c.args.likeness v w end all;
    }
