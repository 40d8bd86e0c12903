-- The digits that are left give what all give, from the number so far.
use Rattle.std.proofs.Common.{◌≡◌, ◌≤◌, ◌+◌, drop, length}
use Rattle.ti_base.specs.Limits.{greatest_width}
use Rattle.ti_cap.specs.Spelling.{number_from, number_of}
use Rattle.ti_cap.specs.inner.Lexer.{front, is_digit}
use Rattle.ti_cap.proofs.read_format.small_number.Given as goal

abbrev pub invariant-loop-count : goal.invariant-loop-count
invariant-loop-count l = record {
  small : l.number ≤ greatest_width;
  same : number_from l.number (front is_digit (drop l.count l.bytes)) ≡ number_of (front is_digit l.bytes);
  long : l.count + length (front is_digit (drop l.count l.bytes)) ≡ length (front is_digit l.bytes);
}
