-- The bytes so far stand as in a string.
use Rattle.std.proofs.Common.{◌≡◌, ◌++◌, take}
use Rattle.std.specs.List.{flat_map}
use Rattle.ti_sink.specs.Printed.{GoesOn, in_string}
use Rattle.ti_sink.proofs.printer.push_bytes.Given as goal

abbrev pub invariant-bytes : goal.invariant-bytes
invariant-bytes g l = record {
  kept : GoesOn l.initial.out.items l.out.items;
  text : l.out.items ≡ l.initial.out.items ++ flat_map in_string (take l.byte-index l.bytes);
}
