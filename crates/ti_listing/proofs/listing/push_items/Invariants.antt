-- What is written goes on to all lines.
use Rattle.std.proofs.Common.{◌≡◌, ◌++◌, length, map}
use Rattle.ti_json.specs.Rows.{capability_row}
use Rattle.ti_words.specs.Items.{items}
use Rattle.ti_listing.specs.Listing.{row_lines}
use Rattle.ti_listing.proofs.listing.push_items.Given as goal

abbrev pub invariant-items : goal.invariant-items
invariant-items g l =
    l.out.items ++ row_lines l.options (map capability_row l.items) ≡ l.initial.out.items ++ row_lines l.options (map capability_row (items l.entry))

abbrev pub decreases-items : goal.decreases-items
decreases-items g l = length l.items
