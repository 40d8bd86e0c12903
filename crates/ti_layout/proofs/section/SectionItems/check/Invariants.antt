use Rattle.std.proofs.Common.{◌≡◌, length}
use Rattle.ti_layout.specs.Checks.{verdict}
use Rattle.ti_layout.specs.Refusal.{item_check, item_size, items_checks}
use Rattle.ti_layout.specs.Stages.{first_items}
use Rattle.ti_layout.proofs.VerdictLemmas.{rest_of}
use Rattle.ti_layout.proofs.section.SectionItems.check.Given as goal

abbrev pub invariant-loop-i : goal.invariant-loop-i
invariant-loop-i l = rest_of (item_check l.bytes l.self.item) (length l.bytes) l.self.at (item_size l.self.item) l.count l.i ≡ verdict (length l.bytes) (items_checks l.bytes (first_items l.count l.self))
