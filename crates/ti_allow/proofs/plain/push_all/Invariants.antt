-- The list has the tokens so far.
use Rattle.std.proofs.Common.{◌≡◌, ◌++◌, take}
use Rattle.std.specs.List.{flat_map}
use Rattle.ti_allow.specs.Plain.{doubled_byte}
use Rattle.ti_allow.proofs.plain.push_all.Given as goal

abbrev pub invariant-text : goal.invariant-text
invariant-text g l = l.bytes.items ≡ l.initial.bytes.items ++ flat_map doubled_byte (take l.byte-index l.text)
