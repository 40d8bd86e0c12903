-- What the bytes of an entry say, each capability read at its place.
-- Of bytes that spell no entry it says nothing of use.
use Rattle.std.specs.Prelude.{ℕ, ◌+◌, ◌-◌, List, length, map, nat_le, if◌then◌else◌, slice_index, slice_range, unwrap_or}
use Rattle.std.specs.List.{zip}
use Rattle.ti_words.specs.declared.Flag.{Flag}
use Rattle.ti_words.specs.declared.Flag.TheVariants as flags
use Rattle.ti_words.specs.declared.Kind.{Kind}
use Rattle.ti_words.specs.declared.Kind.TheVariants as kinds
use Rattle.ti_words.specs.declared.Number.{Number}
use Rattle.ti_words.specs.declared.Number.TheVariants as numbers
use Rattle.ti_words.specs.Marks.{flag_of_byte, number_of_word}
use Rattle.ti_words.specs.Texts.{TextValue}
use Rattle.ti_words.specs.Word.{unsigned_at, word_at}
use Rattle.ti_words.specs.Value.{PartValue, NamedPart, EntryValue}
use Rattle.ti_layout.specs.declared.part.Part.{Part}
use Rattle.ti_layout.specs.Layout.{places, numbers_from, offsets_from, end_of, count_of_kind, kind_names_from, standard, extended_after, no_capability}
use Rattle.ti_words.specs.Widths.{number_size}
use Rattle.ti_layout.specs.Table.{text_from, text_of_word, table_of, base_of}

abbrev pub flag_at : List ℕ → ℕ → Flag
flag_at bytes p = unwrap_or (flag_of_byte (slice_index bytes p)) flags.No

abbrev pub number_at : ℕ → List ℕ → ℕ → Number
number_at size bytes p = unwrap_or (number_of_word (word_at size bytes p)) numbers.Absent

abbrev pub text_at : List ℕ → List ℕ → ℕ → TextValue
text_at table bytes p = text_of_word table (word_at 2 bytes p)

-- the name whose offset, counted from a base, stands at a place
abbrev pub name_from : List ℕ → Part → ℕ → ℕ → List ℕ
name_from bytes p base place = text_from (table_of bytes p) (base + unsigned_at 2 bytes place)

-- ---- what a part says

abbrev pub flags_in : List ℕ → Part → List Flag
flags_in bytes p = map (flag_at bytes) (places p.flags_from 1 p.flags)

abbrev pub numbers_in : List ℕ → Part → List Number
numbers_in bytes p = map (number_at (number_size p.width) bytes) (places (numbers_from p) (number_size p.width) p.numbers)

abbrev pub texts_in : List ℕ → Part → List TextValue
texts_in bytes p = map (text_at (table_of bytes p) bytes) (places (offsets_from p) 2 p.texts)

-- the names of the capabilities of a kind, whose offsets are counted from a base
abbrev pub names_in : List ℕ → Part → ℕ → Kind → List (List ℕ)
names_in bytes p base kind = map (name_from bytes p base) (places (kind_names_from p kind) 2 (count_of_kind p kind))

-- what a part says
abbrev pub part_in : List ℕ → Part → PartValue
part_in bytes p = record { flags = flags_in bytes p; numbers = numbers_in bytes p; texts = texts_in bytes p }

-- the same, with the names that are counted from a base
abbrev pub named_part_in : List ℕ → Part → ℕ → NamedPart
named_part_in bytes p base = record {
  flags = zip (names_in bytes p base kinds.Flag) (flags_in bytes p);
  numbers = zip (names_in bytes p base kinds.Number) (numbers_in bytes p);
  texts = zip (names_in bytes p base kinds.Text) (texts_in bytes p);
}

-- ---- the whole

-- the entry of two parts, the names of the second counted from a base
abbrev pub content_from : List ℕ → Part → Part → ℕ → EntryValue
content_from bytes s x base = record {
  width = s.width;
  names = slice_range bytes 12 (s.flags_from - 1);
  standard = part_in bytes s;
  extended = named_part_in bytes x base;
}

-- the entry of two parts
abbrev pub content_with : List ℕ → Part → Part → EntryValue
content_with bytes s x = content_from bytes s x (base_of bytes x)

-- the part after the standard one, if bytes follow it
abbrev pub extended_part : List ℕ → Part
extended_part bytes = extended_after (standard bytes) bytes

-- an entry that ends with its standard part has no extended capability
abbrev pub extended : List ℕ → Part
extended bytes = if nat_le (length bytes) (end_of (standard bytes)) then no_capability else extended_part bytes

abbrev pub content : List ℕ → EntryValue
content bytes = content_with bytes (standard bytes) (extended bytes)
