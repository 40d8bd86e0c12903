-- Where the sections of an entry lie (term(5)).
use Rattle.std.specs.Prelude.{◌≡◌, ℕ, zero, suc, ◌+◌, ◌*◌, ◌%◌, ◌≤◌, List, [], ◌∷◌, ◌==◌, length, Option, unwrap_or, if◌then◌else◌}
use Rattle.ti_base.specs.Limits.{most_entry_bytes}
use Rattle.ti_words.specs.declared.Kind.{Kind}
use Rattle.ti_words.specs.declared.Kind.TheVariants as kinds
use Rattle.ti_words.specs.declared.Width.{Width}
use Rattle.ti_words.specs.declared.Width.TheVariants.{Legacy}
use Rattle.ti_layout.specs.declared.part.Part.{Part}
use Rattle.ti_words.specs.Word.{unsigned_at}
use Rattle.ti_words.specs.Widths.{number_size, width_of_magic}

-- the format whose magic number an input starts with, if it starts with one
abbrev pub width_of : List ℕ → Option Width
width_of bytes = width_of_magic (unsigned_at 2 bytes 0)

-- where count items of a size start that lie one after the other from a place on
abbrev pub places : ℕ → ℕ → ℕ → List ℕ
places from size zero = []
places from size (suc count) = from ∷ places (from + size) size count

-- the next even place
abbrev pub even : ℕ → ℕ
even n = n + n % 2

-- the bytes up to the pad at a place, if one stands there
abbrev pub pad_end : ℕ → ℕ
pad_end n = if n % 2 == 0 then 0 else n + 1

-- ---- a part: flags, numbers from an even place on, offsets of texts, offsets of names, and a string table

-- where the flags end
abbrev pub flags_end : Part → ℕ
flags_end p = p.flags_from + p.flags

abbrev pub numbers_from : Part → ℕ
numbers_from p = even (flags_end p)

abbrev pub offsets_from : Part → ℕ
offsets_from p = numbers_from p + number_size p.width * p.numbers

abbrev pub names_from : Part → ℕ
names_from p = offsets_from p + 2 * p.texts

abbrev pub table_from : Part → ℕ
table_from p = names_from p + 2 * p.names

-- the end of the string table
abbrev pub end_of : Part → ℕ
end_of p = table_from p + p.table

-- how many capabilities of a kind there are
abbrev pub count_of_kind : Part → Kind → ℕ
count_of_kind p kinds.Flag = p.flags
count_of_kind p kinds.Number = p.numbers
count_of_kind p kinds.Text = p.texts

-- where the offsets of the names of a kind lie
abbrev pub kind_names_from : Part → Kind → ℕ
kind_names_from p kinds.Flag = names_from p
kind_names_from p kinds.Number = names_from p + 2 * p.flags
kind_names_from p kinds.Text = names_from p + 2 * (p.flags + p.numbers)

-- ---- the two parts of an entry

-- The standard part follows the header of 12 bytes and the names. Nothing in it has a name of its own.
-- Of an input that starts with no magic number the header says nothing of use.
abbrev pub standard : List ℕ → Part
standard bytes = record {
  width = unwrap_or (width_of bytes) Legacy;
  flags_from = 12 + unsigned_at 2 bytes 2;
  flags = unsigned_at 2 bytes 4;
  numbers = unsigned_at 2 bytes 6;
  texts = unsigned_at 2 bytes 8;
  names = 0;
  table = unsigned_at 2 bytes 10;
}

-- where the extended header starts, if there is one
abbrev pub extended_from : Part → ℕ
extended_from s = even (end_of s)

-- The extended part follows its header of 10 bytes (term(5), extended storage format). Each capability has a name.
-- The word items of the header says nothing more, and no reader of an entry needs it.
abbrev pub extended_after : Part → List ℕ → Part
extended_after s bytes =
    let from = extended_from s in
    let flags = unsigned_at 2 bytes from in
    let numbers = unsigned_at 2 bytes (from + 2) in
    let texts = unsigned_at 2 bytes (from + 4) in
    record {
      width = s.width;
      flags_from = from + 10;
      flags = flags;
      numbers = numbers;
      texts = texts;
      names = flags + numbers + texts;
      table = unsigned_at 2 bytes (from + 8);
    }

-- no extended part, held as one with no capability
abbrev pub no_capability : Part
no_capability = record { width = Legacy; flags_from = 0; flags = 0; numbers = 0; texts = 0; names = 0; table = 0 }

-- ---- parts from which items are read

-- a part lies within the bytes
abbrev pub IsWithin : List ℕ → Part → Type 0
IsWithin bytes p = (end_of p ≤ most_entry_bytes) × (end_of p ≤ length bytes)

-- an extended part: each capability has a name, and what their offsets are counted from lies within the greatest entry
abbrev pub IsExtended : List ℕ → Part → ℕ → Type 0
IsExtended bytes x base =
    IsWithin bytes x × (x.flags + x.numbers + x.texts ≡ x.names) × (base ≤ most_entry_bytes)

-- the standard part of the bytes: there is a name
abbrev pub IsStandard : List ℕ → Part → Type 0
IsStandard bytes s = IsWithin bytes s × (14 ≤ s.flags_from) × (s ≡ standard bytes)
