-- It holds of nothing that is sent for the values so far.
use Rattle.std.proofs.Common.{ℕ, ◌<◌}
use Rattle.ti_values.specs.Findings.{sent_at}
use Rattle.ti_values.specs.Sent.{texts_of}
use Rattle.ti_values.specs.Sequences.{HasShown}
use Rattle.ti_values.proofs.sequence.find_shown.Given as goal

abbrev pub invariant-values : goal.invariant-values
invariant-values g l = (k : ℕ) → k < l.place → ¬ HasShown (sent_at (texts_of l.sent) k)
