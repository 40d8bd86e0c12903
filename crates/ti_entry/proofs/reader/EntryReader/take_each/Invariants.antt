-- The bytes before this one were fed, and none was refused.
use Rattle.std.proofs.Common.{◌≡◌, None, ◌≤◌, length, take}
use Rattle.ti_base.specs.Limits.{most_entry_bytes}
use Rattle.ti_entry.specs.Reading.{reading_after}
use Rattle.ti_entry.proofs.reader.EntryReader.take_each.Given as goal

abbrev pub invariant-bytes : goal.invariant-bytes
invariant-bytes l = record {
  first : l.initial.self.refusal ≡ None;
  no_refusal : l.self.refusal ≡ None;
  within : length l.self.kept ≤ most_entry_bytes;
  fed : l.self ≡ reading_after l.initial.self (take l.byte-index l.piece);
}
