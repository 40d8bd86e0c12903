-- What C gets of an entry, and what it finds in the arrays that an entry was read into.
use Rattle.std.specs.Prelude.{◌≡◌, ℕ, ◌+◌, ◌*◌, ◌≤◌, ℤ, pos, negsuc, List, [], ◌++◌, length, map, take, drop, ◌⊎◌, Some}
use Rattle.ti_base.specs.Limits.{most_entry_bytes}
use Rattle.ti_words.specs.declared.Flag.{Flag}
use Rattle.ti_words.specs.declared.Flag.TheVariants as flags
use Rattle.ti_words.specs.Marks.{word_of_number}
use Rattle.ti_words.specs.Texts.{TextValue, AbsentText, CancelledText, TextOf}
use Rattle.ti_words.specs.Value.{EntryValue}
use Rattle.ti_words.specs.Widths.{number_size}
use Rattle.ti_words.specs.Spelling.{Spells, mark_in}
use Rattle.ti_layout.specs.declared.fault.Fault.{Fault}
use Rattle.ti_layout.specs.Refusal.{refusal}
use Rattle.ti_c.specs.declared.entry.Arrays.{Arrays}
use Rattle.ti_c.specs.declared.entry.TextItem.{TextItem}
use Rattle.ti_c.specs.declared.entry.EntryCounts.{EntryCounts}
use Rattle.ti_c.specs.declared.names.Bytes.{Bytes}
use Rattle.ti_c.specs.Numbers.{done, room_too_small, entry_number}

-- ---- items

-- the mark of a flag
abbrev pub flag_mark : Flag → ℤ
flag_mark flags.No = pos 0
flag_mark flags.Yes = pos 1
flag_mark flags.Missing = negsuc 0
flag_mark flags.Cancelled = negsuc 1

-- the mark of a text, and its bytes
abbrev pub text_shown : TextValue → ℤ × List ℕ
text_shown (TextOf bytes) = (pos 0, bytes)
text_shown AbsentText = (negsuc 0, [])
text_shown CancelledText = (negsuc 1, [])

-- the mark and the bytes that an item of an array holds
abbrev pub text_held : TextItem → ℤ × List ℕ
text_held item = (item.mark, item.text.now)

abbrev pub bytes_held : Bytes → List ℕ
bytes_held item = item.bytes.now

-- an item that is its own value
abbrev pub itself : {A : Type 0} → A → A
itself item = item

-- ---- arrays: the standard items by index, and after them the extended ones

abbrev pub flag_marks : EntryValue → List ℤ
flag_marks v = map flag_mark v.standard.flags ++ map flag_mark (map mark_in v.extended.flags)

abbrev pub number_words : EntryValue → List ℤ
number_words v = map word_of_number v.standard.numbers ++ map word_of_number (map mark_in v.extended.numbers)

abbrev pub texts_shown : EntryValue → List (ℤ × List ℕ)
texts_shown v = map text_shown v.standard.texts ++ map text_shown (map mark_in v.extended.texts)

-- the array starts with what holds these items, and after them it is as before
pub record StartsWith {A B : Type 0} (held : A → B) (before after : List A) (items : List B) : Type 0 where
  pub front : map held (take (length items) after) ≡ items
  pub rest : drop (length items) after ≡ drop (length items) before

-- arrays of these lengths have room for the entry
pub record HasRoom (v : EntryValue) (flag_room number_room text_room name_room : ℕ) : Type 0 where
  pub flags : length v.standard.flags + length v.extended.flags ≤ flag_room
  pub numbers : length v.standard.numbers + length v.extended.numbers ≤ number_room
  pub texts : length v.standard.texts + length v.extended.texts ≤ text_room
  pub names : length v.extended.flags + length v.extended.numbers + length v.extended.texts ≤ name_room

-- arrays of these lengths have room for every entry: a flag takes a byte of it or more, a number and a text two, a name
-- with what it names three
pub record IsAmple (flag_room number_room text_room name_room : ℕ) : Type 0 where
  pub flags : most_entry_bytes ≤ flag_room
  pub numbers : most_entry_bytes ≤ 2 * number_room
  pub texts : most_entry_bytes ≤ 2 * text_room
  pub names : most_entry_bytes ≤ 3 * name_room

-- the caller's arrays have room for the entry, or for every entry
abbrev pub HasRoomIn : Arrays → EntryValue → Type 0
HasRoomIn arrays v =
    HasRoom v (length arrays.flags.now) (length arrays.numbers.now) (length arrays.texts.now) (length arrays.names.now)

abbrev pub AreAmple : Arrays → Type 0
AreAmple arrays =
    IsAmple (length arrays.flags.now) (length arrays.numbers.now) (length arrays.texts.now) (length arrays.names.now)

-- their items are as they were
pub record AreKept (old new : Arrays) : Type 0 where
  pub flags : new.flags.now ≡ old.flags.now
  pub numbers : new.numbers.now ≡ old.numbers.now
  pub texts : new.texts.now ≡ old.texts.now
  pub names : new.names.now ≡ old.names.now

-- the arrays are those that were handed over: each where it was, and as long
pub record StayInPlace (old new : Arrays) : Type 0 where
  pub flags : (new.flags.ref_ptr ≡ old.flags.ref_ptr) × (length new.flags.now ≡ length old.flags.now)
  pub numbers : (new.numbers.ref_ptr ≡ old.numbers.ref_ptr) × (length new.numbers.now ≡ length old.numbers.now)
  pub texts : (new.texts.ref_ptr ≡ old.texts.ref_ptr) × (length new.texts.now ≡ length old.texts.now)
  pub names : (new.names.ref_ptr ≡ old.names.ref_ptr) × (length new.names.now ≡ length old.names.now)

-- ---- names, counts and faults

-- the names, the counts and the width are those of the entry
pub record AreCountsOf (counts : EntryCounts) (v : EntryValue) : Type 0 where
  pub names : counts.names.now ≡ v.names
  pub flags : counts.flags ≡ length v.standard.flags
  pub numbers : counts.numbers ≡ length v.standard.numbers
  pub texts : counts.texts ≡ length v.standard.texts
  pub extended_flags : counts.extended_flags ≡ length v.extended.flags
  pub extended_numbers : counts.extended_numbers ≡ length v.extended.numbers
  pub extended_texts : counts.extended_texts ≡ length v.extended.texts
  pub number_bits : counts.number_bits ≡ 8 * number_size v.width

-- the number that is returned after an entry was read
abbrev pub IsRead : ℕ → Type 0
IsRead answer = (answer ≡ done) ⊎ (answer ≡ room_too_small)

-- the bytes spell an entry
abbrev pub SpellsSome : List ℕ → Type 0
SpellsSome bytes = (v : EntryValue) × Spells bytes v

-- P holds of the entry that the bytes spell
abbrev pub ForEntry : List ℕ → (EntryValue → Type 0) → Type 0
ForEntry bytes P = (v : EntryValue) → Spells bytes v → P v

-- the number is that of the fault of which the bytes are refused, at this place
abbrev pub IsEntryRefusedAs : List ℕ → ℕ → ℕ → Type 0
IsEntryRefusedAs bytes number place =
    (fault : Fault) × (number ≡ entry_number fault) × (refusal bytes ≡ Some (record { fault = fault; place = place }))
