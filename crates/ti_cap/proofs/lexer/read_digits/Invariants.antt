-- What is left to read gives what the whole gives, from the number so far.
use Rattle.std.proofs.Common.{◌≡◌, ◌≤◌, drop}
use Rattle.ti_base.specs.Limits.{greatest_constant}
use Rattle.ti_cap.specs.inner.Lexer.{digits_read}
use Rattle.ti_cap.proofs.lexer.read_digits.Given as goal

abbrev pub invariant-loop-i : goal.invariant-loop-i
invariant-loop-i l = record {
  small : l.value ≤ greatest_constant;
  same : digits_read l.value l.i (drop l.i l.bytes) ≡ digits_read 0 0 l.bytes;
}
