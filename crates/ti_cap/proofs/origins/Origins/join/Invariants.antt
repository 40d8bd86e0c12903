-- The places that are joined, and those that are not yet.
use Rattle.std.proofs.Common.{ℕ, ◌≡◌, ◌<◌, ◌≤◌, get_or, length}
use Rattle.ti_cap.specs.inner.Gathering.{no_parameter, united}
use Rattle.ti_cap.proofs.origins.Origins.join.Given as goal

abbrev pub invariant-loop-i : goal.invariant-loop-i
invariant-loop-i l = record {
  long : length l.self.sets ≡ 32;
  joined : (k : ℕ) → k < l.i → get_or l.self.sets k no_parameter ≡ united (get_or l.initial.self.sets k no_parameter) (get_or l.other.sets k no_parameter);
  left : (k : ℕ) → l.i ≤ k → get_or l.self.sets k no_parameter ≡ get_or l.initial.self.sets k no_parameter;
}
