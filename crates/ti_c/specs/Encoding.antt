-- The entry that arrays of C hold, and why it is not written.
use Rattle.std.specs.Prelude.{◌≡◌, ◌⊎◌, ◌<◌, ◌≤◌, ◌+◌, ℕ, zero, suc, ℤ, pos, negsuc, List, length, map, take, drop, nat_eq, if◌then◌else◌, Some, None}
use Rattle.std.specs.List.{zip}
use Rattle.ti_words.specs.declared.Flag.{Flag}
use Rattle.ti_words.specs.declared.Flag.TheVariants as flags
use Rattle.ti_words.specs.declared.Number.{Number}
use Rattle.ti_words.specs.declared.Number.TheVariants as numbers
use Rattle.ti_words.specs.declared.Width.{Width}
use Rattle.ti_words.specs.declared.Width.TheVariants.{Legacy, Wide}
use Rattle.ti_words.specs.Spelling.{part_names}
use Rattle.ti_words.specs.Texts.{TextValue, AbsentText, CancelledText, TextOf}
use Rattle.ti_words.specs.Value.{EntryValue}
use Rattle.ti_draft.specs.Canonical.{canonical}
use Rattle.ti_draft.specs.EncodeFaults.{encode_fault}
use Rattle.ti_draft.specs.declared.fault.EncodeFault.{EncodeFault}
use Rattle.ti_c.specs.declared.entry.Arrays.{Arrays}
use Rattle.ti_c.specs.declared.entry.TextItem.{TextItem}
use Rattle.ti_c.specs.declared.entry.EntryCounts.{EntryCounts}
use Rattle.ti_c.specs.declared.names.Bytes.{Bytes}
use Rattle.ti_c.specs.Entries.{AreCountsOf, bytes_held, flag_marks, itself, number_words, text_held, texts_shown}
use Rattle.ti_c.specs.Numbers.{encode_number, out_too_small, room_too_small}

-- ---- items

-- the flag of a mark; any other number is that of a flag that the terminal has
abbrev pub flag_given : ℤ → Flag
flag_given (pos zero) = flags.No
flag_given (pos (suc n)) = flags.Yes
flag_given (negsuc zero) = flags.Missing
flag_given (negsuc (suc zero)) = flags.Cancelled
flag_given (negsuc (suc (suc n))) = flags.Yes

-- the number of a word; below -2 it is a value that no entry has
abbrev pub number_given : ℤ → Number
number_given (pos n) = numbers.Value (pos n)
number_given (negsuc zero) = numbers.Absent
number_given (negsuc (suc zero)) = numbers.Cancelled
number_given (negsuc (suc (suc n))) = numbers.Value (negsuc (suc (suc n)))

-- the text of a mark and bytes; any other mark is that of an absent one
abbrev pub text_marked : ℤ → List ℕ → TextValue
text_marked (pos zero) bytes = TextOf bytes
text_marked (pos (suc n)) bytes = AbsentText
text_marked (negsuc zero) bytes = AbsentText
text_marked (negsuc (suc zero)) bytes = CancelledText
text_marked (negsuc (suc (suc n))) bytes = AbsentText

abbrev pub text_given : TextItem → TextValue
text_given item = text_marked item.mark item.text.now

-- a name as a text that is there
abbrev pub name_given : Bytes → TextValue
name_given item = TextOf item.bytes.now

-- how wide numbers of so many bits are
abbrev pub width_given : ℕ → Width
width_given bits = if nat_eq bits 32 then Wide else Legacy

-- ---- the entry

-- the arrays have as many items as the counts say
pub record HasItems (arrays : Arrays) (counts : EntryCounts) : Type 0 where
  pub flags : counts.flags + counts.extended_flags ≤ length arrays.flags.now
  pub numbers : counts.numbers + counts.extended_numbers ≤ length arrays.numbers.now
  pub texts : counts.texts + counts.extended_texts ≤ length arrays.texts.now
  pub names : counts.extended_flags + counts.extended_numbers + counts.extended_texts ≤ length arrays.names.now

-- so many items after the first ones
abbrev pub after : {A : Type 0} → ℕ → ℕ → List A → List A
after start count items = take count (drop start items)

-- the standard items by index, and after them the extended ones, each with its name
abbrev pub entry_given : Arrays → EntryCounts → ℕ → EntryValue
entry_given a c bits =
    record {
      width = width_given bits;
      names = c.names.now;
      standard = record {
        flags = map flag_given (take c.flags a.flags.now);
        numbers = map number_given (take c.numbers a.numbers.now);
        texts = map text_given (take c.texts a.texts.now);
      };
      extended = record {
        flags = zip (map bytes_held (take c.extended_flags a.names.now)) (map flag_given (after c.flags c.extended_flags a.flags.now));
        numbers = zip (map bytes_held (after c.extended_flags c.extended_numbers a.names.now))
            (map number_given (after c.numbers c.extended_numbers a.numbers.now));
        texts = zip (map bytes_held (after (c.extended_flags + c.extended_numbers) c.extended_texts a.names.now))
            (map text_given (after c.texts c.extended_texts a.texts.now));
      };
    }

-- the arrays start with the items of the entry, and the counts are its own, as after it was read
pub record AreItemsOf (arrays : Arrays) (counts : EntryCounts) (v : EntryValue) : Type 0 where
  pub counted : AreCountsOf counts v
  pub flags : map itself (take (length (flag_marks v)) arrays.flags.now) ≡ flag_marks v
  pub numbers : map itself (take (length (number_words v)) arrays.numbers.now) ≡ number_words v
  pub texts : map text_held (take (length (texts_shown v)) arrays.texts.now) ≡ texts_shown v
  pub names : map bytes_held (take (length (part_names v.extended)) arrays.names.now) ≡ part_names v.extended

-- ---- faults

-- why an entry is not written into so much room: the number of its first fault, or else the room is too small, with the bytes that
-- are needed
abbrev pub IsUnwrittenEntry : EntryValue → ℕ → ℕ → ℕ → Type 0
IsUnwrittenEntry v room number need =
    ((fault : EncodeFault) × (encode_fault v ≡ Some fault) × (encode_number fault ≡ Some number))
    ⊎ ((encode_fault v ≡ None) × (room < length (canonical v)) × (number ≡ out_too_small) × (need ≡ length (canonical v)))

-- first an array has fewer items than the counts say, then the entry is not written
abbrev pub IsUnwritten : Arrays → EntryCounts → ℕ → ℕ → ℕ → ℕ → Type 0
IsUnwritten arrays counts bits room number need =
    ((¬ HasItems arrays counts) × (number ≡ room_too_small))
    ⊎ (HasItems arrays counts × IsUnwrittenEntry (entry_given arrays counts bits) room number need)
