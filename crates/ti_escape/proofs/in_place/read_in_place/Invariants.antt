use Rattle.std.proofs.Common.{◌≡◌, ◌≤◌, ◌-◌, false, drop, length, take}
use Rattle.ti_escape.specs.Reading.{read_from, with_bytes}
use Rattle.ti_escape.proofs.in_place.read_in_place.Given as goal

-- the text so far, and what the characters mean that are left, are the text
abbrev pub invariant-characters : goal.invariant-characters
invariant-characters l = record {
  text : read_from false 0 l.fn.room ≡ with_bytes (take l.len l.room) (read_from l.after_percent 0 (drop l.at l.room));
  before : l.len ≤ l.at;
  within : l.at ≤ length l.room;
  all : length l.room ≡ length l.fn.room;
}

abbrev pub decreases-characters : goal.decreases-characters
decreases-characters l = length l.room - l.at
