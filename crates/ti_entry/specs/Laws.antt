-- What holds of the definitions for all bytes.
use Rattle.std.specs.Prelude.{◌≡◌, ℕ, List, ◌++◌, Some, None, Ok}
use Rattle.std.specs.List.{concat, fold}
use Rattle.ti_layout.specs.declared.fault.Refused.{Refused}
use Rattle.ti_words.specs.Value.{EntryValue}
use Rattle.ti_words.specs.Spelling.{Spells}
use Rattle.ti_layout.specs.Refusal.{refusal, failure}
use Rattle.ti_draft.specs.Canonical.{canonical}
use Rattle.ti_draft.specs.EncodeFaults.{encode_fault}
use Rattle.ti_entry.specs.Reading.{new_reading, reading_of, reading_after, final_answer, answer_for}

-- bytes spell at most one entry
abbrev pub SpellsAtMostOne : Type 0
SpellsAtMostOne = (bytes : List ℕ) (v w : EntryValue) → Spells bytes v → Spells bytes w → v ≡ w

-- a check that has failed has failed with the same refusal on every continuation
abbrev pub FailureLasts : Type 0
FailureLasts = (bytes more : List ℕ) (refused : Refused)
    → failure bytes ≡ Some refused → failure (bytes ++ more) ≡ Some refused

-- what has failed on the bytes so far is why they are refused
abbrev pub FailureRefuses : Type 0
FailureRefuses = (bytes : List ℕ) (refused : Refused)
    → failure bytes ≡ Some refused → refusal bytes ≡ Some refused

-- however an input is cut into pieces, a new reader that is fed them returns what a read of the whole returns
abbrev pub AnyCuttingReadsAlike : Type 0
AnyCuttingReadsAlike = (pieces : List (List ℕ))
    → final_answer (fold reading_after new_reading pieces) ≡ answer_for (concat pieces)

-- however an input is cut into pieces, the reader holds what the whole makes of it
abbrev pub AnyCutting : Type 0
AnyCutting = (pieces : List (List ℕ)) → fold reading_after new_reading pieces ≡ reading_of (concat pieces)

-- what is written of an entry without a fault spells it
abbrev pub EncodedSpells : Type 0
EncodedSpells = (v : EntryValue) → encode_fault v ≡ None → Spells (canonical v) v

-- equal entries have equal bytes
abbrev pub EqualEntriesHaveEqualBytes : Type 0
EqualEntriesHaveEqualBytes = (v w : EntryValue) → v ≡ w → canonical v ≡ canonical w

-- two entries without a fault that have equal bytes are equal
abbrev pub EqualBytesAreOfEqualEntries : Type 0
EqualBytesAreOfEqualEntries = (v w : EntryValue)
    → encode_fault v ≡ None → encode_fault w ≡ None → canonical v ≡ canonical w → v ≡ w

-- what is written of an entry without a fault is read as it
abbrev pub EncodedReads : Type 0
EncodedReads = (v : EntryValue) → encode_fault v ≡ None → answer_for (canonical v) ≡ Ok v
