-- For each value so far something is sent.
use Rattle.std.proofs.Common.{ℕ, ◌<◌, ◌≡◌, []}
use Rattle.ti_values.specs.Findings.{sent_at}
use Rattle.ti_values.specs.Sent.{texts_of}
use Rattle.ti_values.proofs.empty.first_empty.Given as goal

abbrev pub invariant-values : goal.invariant-values
invariant-values g l = (k : ℕ) → k < l.place → sent_at (texts_of l.sent) k ≡ [] → ⊥
