-- It lacks nothing of the attributes so far.
use Rattle.std.proofs.Common.{◌≡◌, ℕ, ◌<◌}
use Rattle.ti_values.specs.Attributes.{LacksAttribute}
use Rattle.ti_values.specs.Findings.{sent_at}
use Rattle.ti_values.specs.Renditions.{parameters}
use Rattle.ti_values.specs.Sent.{texts_of}
use Rattle.ti_values.specs.inner.Rows.{slices_of}
use Rattle.ti_values.proofs.attribute.lacks_some.Given as goal

abbrev pub invariant-attributes : goal.invariant-attributes
invariant-attributes g l = record {
  old : slices_of l.both.old.items ≡ parameters (sent_at (texts_of l.sent) 0);
  mine : slices_of l.both.mine.items ≡ parameters (sent_at (texts_of l.sent) l.set);
  none : (n : ℕ) → n < l.attribute → ¬ LacksAttribute (texts_of l.sent) l.set n;
}
