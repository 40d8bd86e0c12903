-- What is put and the padded rest are the padded text; what stands after it is as before.
use Rattle.std.proofs.Common.{◌≡◌, ◌≤◌, ◌++◌, length, take, drop}
use Rattle.ti_pad.specs.Padded.{padded_text}
use Rattle.ti_pad.proofs.slice.put_padded.Given as goal

abbrev pub invariant-stretches : goal.invariant-stretches
invariant-stretches l = record {
  within : l.at ≤ length l.out;
  made : take l.at l.out ++ padded_text l.rest l.padding ≡ padded_text l.fn.bytes l.padding;
  kept : drop l.at l.out ≡ drop l.at l.initial.out;
}

abbrev pub decreases-stretches : goal.decreases-stretches
decreases-stretches l = length l.rest
