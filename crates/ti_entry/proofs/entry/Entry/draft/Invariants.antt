-- The draft with what is left is the entry, and of an entry without a capability nothing is left.
use Rattle.std.proofs.Common.{◌≡◌, [], length}
use Rattle.std.specs.List.{fold}
use Rattle.ti_words.specs.Value.{bare}
use Rattle.ti_entry.specs.Drafts.{with_item}
use Rattle.ti_entry.proofs.entry.Entry.draft.Given as goal

abbrev pub invariant-items : goal.invariant-items
invariant-items g l = record {
  added : fold with_item l.draft l.items ≡ l.self;
  none : l.self ≡ bare l.self.width l.self.names → l.items ≡ [];
}

abbrev pub decreases-items : goal.decreases-items
decreases-items g l = length l.items
