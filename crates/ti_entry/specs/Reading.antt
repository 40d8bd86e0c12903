-- What a read of bytes returns, what a reader of entries holds, and what a piece makes of it.
use Rattle.std.specs.Prelude.{◌≡◌, ℕ, zero, suc, ◌≤◌, List, [], ◌++◌, Option, Some, None, Result, Ok, Err, IfOk, IfErr, IsOkAnd, length, take, is_some, if◌then◌else◌}
use Rattle.std.specs.Io.KnownBytes.{Consumes}
use Rattle.ti_base.specs.Limits.{most_entry_bytes}
use Rattle.ti_layout.specs.declared.fault.Refused.{Refused}
use Rattle.ti_layout.specs.declared.stage.Stage.{Stage}
use Rattle.ti_entry.specs.declared.source.ReadStop.{ReadStop}
use Rattle.ti_entry.specs.declared.source.ReadStop.TheVariants as stop
use Rattle.ti_words.specs.Value.{EntryValue}
use Rattle.ti_words.specs.Spelling.{Spells, texts_size, without_names}
use Rattle.ti_layout.specs.Refusal.{refusal, failure}
use Rattle.ti_layout.specs.Stages.{Stands, Waits}
use Rattle.ti_layout.specs.Content.{content}

-- the refusal if there is one, else a value
abbrev pub answer_under : {A : Type 0} → Option Refused → A → Result A Refused
answer_under None v = Ok v
answer_under (Some refused) v = Err refused

-- what a read of the bytes returns
abbrev pub answer_for : List ℕ → Result EntryValue Refused
answer_for bytes = answer_under (refusal bytes) (content bytes)

-- what is returned is a read of the bytes: an entry that they spell, the only one, or why they are refused
pub record IsReadOf (bytes : List ℕ) (result : Result EntryValue Refused) : Type 0 where
  pub found : IfOk result (λ v. Spells bytes v)
  pub only : (v : EntryValue) → Spells bytes v → IsOkAnd result (λ w. w ≡ v)
  pub refused : IfErr result (λ r. refusal bytes ≡ Some r)
  pub answer : result ≡ answer_for bytes

-- what the offsets of an entry's names are counted from: the end of its extended texts
abbrev pub base_of_names : EntryValue → ℕ
base_of_names v = texts_size (without_names v.extended).texts

-- ---- the reader

-- the bytes that are kept, and the refusal that lasts
pub record Reading : Type 0 where
  pub kept : List ℕ
  pub refusal : Option Refused

abbrev pub new_reading : Reading
new_reading = record { kept = []; refusal = None }

-- what a reader holds beside its bytes: no check has failed on them, and without a refusal the next one waits for more
pub record IsReading (kept : List ℕ) (stage : Stage) (refusal : Option Refused) : Type 0 where
  pub most : length kept ≤ most_entry_bytes
  pub none_failed : failure kept ≡ None
  pub stands : refusal ≡ None → Stands kept stage
  pub waits : refusal ≡ None → Waits kept stage

-- the greatest length, up to a given one, of a front of the bytes on which no check has failed
abbrev pub length_before_failure : List ℕ → ℕ → ℕ
length_before_failure bytes zero = zero
length_before_failure bytes (suc len) =
    if is_some (failure (take (suc len) bytes)) then length_before_failure bytes len else suc len

-- the longest front of the bytes on which no check has failed
unfoldable pub front_before_failure : List ℕ → List ℕ
front_before_failure bytes = take (length_before_failure bytes (length bytes)) bytes

-- what is kept of bytes that are refused, or are not
abbrev pub kept_under : Option Refused → List ℕ → List ℕ
kept_under None bytes = bytes
kept_under (Some refused) bytes = front_before_failure bytes

-- what a reader holds that was fed these bytes and no others
abbrev pub reading_of : List ℕ → Reading
reading_of bytes = record { kept = kept_under (failure bytes) bytes; refusal = failure bytes }

abbrev pub reading_under : Option Refused → Reading → List ℕ → Reading
reading_under None r piece = reading_of (r.kept ++ piece)
reading_under (Some refused) r piece = r

-- what a reader holds after one more piece: a refusal lasts
abbrev pub reading_after : Reading → List ℕ → Reading
reading_after r piece = reading_under r.refusal r piece

-- what is returned if nothing more comes: the refusal that lasts, else what a read of the kept bytes returns
abbrev pub final_answer_under : Option Refused → List ℕ → Result EntryValue Refused
final_answer_under None kept = answer_for kept
final_answer_under (Some refused) kept = Err refused

abbrev pub final_answer : Reading → Result EntryValue Refused
final_answer r = final_answer_under r.refusal r.kept

-- ---- reading from a source

-- the bytes that a source lost were all fed, in their order
abbrev pub FeedsFrom : Option (List ℕ) → Option (List ℕ) → Reading → Reading → Type 0
FeedsFrom before after old new = (bytes : List ℕ) × Consumes before after bytes × (new ≡ reading_after old bytes)

-- the refusal that a read stopped at, if it stopped at one
abbrev pub refusal_after : ReadStop → Option Refused
refusal_after (stop.Refused refused) = Some refused
refusal_after stop.Io = None
