use Rattle.std.proofs.Common.{◌++◌, ◌∙◌, [], ap, map}
use Rattle.ti_json.specs.Rows.{OfCapability, capability_row}
use Rattle.ti_words.specs.Items.{listed_value, subject_value}
use Rattle.ti_entry.proofs.ItemsLemmas.{flat_end, flat_next}
use Rattle.ti_listing.specs.Listing.{row_line}
use Rattle.ti_listing.proofs.listing.push_items.Goals as goal

pub items-preserved : goal.items-preserved
items-preserved g c =
    let line = row_line c.args.options [] in
    let x = listed_value (c.in-Some.subject, c.in-Some.item) in
    flat_next line (capability_row x) (map capability_row c.items.items) (map capability_row c.next.new.self) c.items.out.items c.push_row.new.out.items _
    (ap (map capability_row) c.in-Some.ensures.some)
    (c.in_ok-push_row.ensures ∙ ap (λ content. c.items.out.items ++ line (OfCapability (subject_value c.in-Some.subject), content)) c.of.ensures) c.items.invariant

pub returns : goal.returns
returns g c = flat_end (row_line c.args.options []) (map capability_row c.items.items) c.items.out.items _ (ap (map capability_row) c.in_default.ensures.none.0) c.items.invariant
