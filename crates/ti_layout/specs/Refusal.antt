-- Which bytes are refused, and why: all checks of an entry, section by section in their order.
use Rattle.std.specs.Prelude.{ℕ, ◌+◌, ◌-◌, Bool, not, List, [], ◌∷◌, ◌++◌, length, map, slice_index, Option, nat_le, is_some}
use Rattle.std.specs.List.{flat_map}
use Rattle.ti_words.specs.Marks.{flag_of_byte}
use Rattle.ti_words.specs.Texts.{is_nul}
use Rattle.ti_words.specs.Word.{word_at}
use Rattle.ti_layout.specs.declared.fault.Fault.{Fault}
use Rattle.ti_layout.specs.declared.fault.Fault.TheVariants.{BadMagic, BadHeader, HeaderTooBig, BadNames, BadFlag, BadNumber, BadOffset, BadExtendedHeader, ExtendedTooBig, BadExtendedName}
use Rattle.ti_layout.specs.declared.fault.Refused.{Refused}
use Rattle.ti_layout.specs.declared.part.Part.{Part}
use Rattle.ti_layout.specs.declared.section.Half.{Half}
use Rattle.ti_layout.specs.declared.section.Half.TheVariants.{Standard, Extended}
use Rattle.ti_layout.specs.declared.section.SectionItem.{SectionItem}
use Rattle.ti_layout.specs.declared.section.SectionItem.TheVariants.{Sign, Name, Flag, Number, Offset}
use Rattle.ti_layout.specs.declared.section.SectionItems.{SectionItems}
use Rattle.ti_layout.specs.declared.section.Section.{Section}
use Rattle.ti_layout.specs.declared.section.Section.TheVariants.{Magic, Header, Names, Flags, Numbers, Offsets, NameOffsets, TableEnd, ExtendedHeader, End}
use Rattle.ti_base.specs.Limits.{most_entry_bytes}
use Rattle.ti_layout.specs.Layout.{width_of, places, flags_end, numbers_from, offsets_from, names_from, end_of, standard, extended_from, extended_after}
use Rattle.ti_words.specs.Widths.{number_size}
use Rattle.ti_layout.specs.Table.{table_of, base_of}
use Rattle.ti_layout.specs.Checks.{Check, check, check_after, verdict, refusal_of, failure_of, is_not_negative, is_number_word, is_offset_below, nul_check, pad_checks, ending_checks, all_name_place_checks, end_check}

-- ---- items that lie one after the other

abbrev pub item_size : SectionItem → ℕ
item_size (Sign fault) = 2
item_size Name = 1
item_size Flag = 1
item_size (Number width) = number_size width
item_size (Offset table_size) = 2

abbrev pub item_holds : List ℕ → SectionItem → ℕ → Bool
item_holds bytes (Sign fault) p = is_not_negative (word_at 2 bytes p)
item_holds bytes Name p = not (is_nul (slice_index bytes p))
item_holds bytes Flag p = is_some (flag_of_byte (slice_index bytes p))
item_holds bytes (Number width) p = is_number_word (word_at (number_size width) bytes p)
item_holds bytes (Offset table_size) p = is_offset_below table_size (word_at 2 bytes p)

abbrev pub item_fault : SectionItem → Fault
item_fault (Sign fault) = fault
item_fault Name = BadNames
item_fault Flag = BadFlag
item_fault (Number width) = BadNumber
item_fault (Offset table_size) = BadOffset

abbrev pub item_check : List ℕ → SectionItem → ℕ → Check
item_check bytes item p = check (p + item_size item) (item_holds bytes item p) (item_fault item) p

abbrev pub items : SectionItem → ℕ → ℕ → SectionItems
items item at left = record { item = item; at = at; left = left }

-- the checks of the items that are left
abbrev pub items_checks : List ℕ → SectionItems → List Check
items_checks bytes s = map (item_check bytes s.item) (places s.at (item_size s.item) s.left)

-- ---- the headers

abbrev pub magic_check : List ℕ → Check
magic_check bytes = check 2 (is_some (width_of bytes)) BadMagic 0

abbrev pub size_check : Part → Check
size_check s = check 12 (nat_le (end_of s) most_entry_bytes) HeaderTooBig 0

-- there is a name
abbrev pub named_check : Part → Check
named_check s = check 12 (nat_le 14 s.flags_from) BadNames 12

abbrev pub size_checks : Part → List Check
size_checks s = size_check s ∷ named_check s ∷ []

-- if a byte follows the string table, there is room for the extended header
abbrev pub room_check : Part → Check
room_check s = check_after (end_of s) (nat_le (extended_from s + 10) most_entry_bytes) ExtendedTooBig

abbrev pub extended_size_check : Part → Check
extended_size_check x = check x.flags_from (nat_le (end_of x) most_entry_bytes) ExtendedTooBig (x.flags_from - 10)

-- the last word of the extended header, and the sizes in it
abbrev pub extended_header_checks : List ℕ → Part → List Check
extended_header_checks bytes s =
    item_check bytes (Sign BadExtendedHeader) (extended_from s + 8) ∷ extended_size_check (extended_after s bytes) ∷ []

-- ---- the tables

-- the NUL of each text, then the place and the NUL of each name
abbrev pub text_checks : List ℕ → Part → List Check
text_checks bytes p =
    ending_checks bytes (table_of bytes p) (end_of p) (offsets_from p) p.texts
    ++ all_name_place_checks bytes (table_of bytes p) (base_of bytes p) (end_of p) (places (names_from p) 2 p.names)

-- ---- the sections

abbrev pub part_of : Half → Part → Part → Part
part_of Standard s x = s
part_of Extended s x = x

-- the items of a section
abbrev pub items_of : Section → Part → Part → SectionItems
items_of Header s x = items (Sign BadHeader) 2 5
items_of Names s x = items Name 12 (s.flags_from - 13)
items_of (Flags half) s x = let p = part_of half s x in items Flag p.flags_from p.flags
items_of (Numbers half) s x = let p = part_of half s x in items (Number p.width) (numbers_from p) p.numbers
items_of (Offsets half) s x = let p = part_of half s x in items (Offset p.table) (offsets_from p) p.texts
items_of (NameOffsets half) s x = let p = part_of half s x in items (Sign BadExtendedName) (names_from p) p.names
items_of ExtendedHeader s x = items (Sign BadExtendedHeader) (extended_from s) 3
items_of _ s x = items Flag 0 0

-- what is checked at once after them
abbrev pub closing_checks : Section → Part → Part → List ℕ → List Check
closing_checks Magic s x bytes = magic_check bytes ∷ []
closing_checks Header s x bytes = size_checks (standard bytes)
closing_checks Names s x bytes = nul_check bytes BadNames (s.flags_from - 1) ∷ []
closing_checks (Flags half) s x bytes = pad_checks bytes (flags_end (part_of half s x))
closing_checks (NameOffsets half) s x bytes = text_checks bytes (part_of half s x)
closing_checks TableEnd s x bytes = room_check s ∷ pad_checks bytes (end_of s)
closing_checks ExtendedHeader s x bytes = extended_header_checks bytes s
closing_checks End s x bytes = end_check (end_of x) ∷ []
closing_checks _ s x bytes = []

abbrev pub section_checks : List ℕ → Section → List Check
section_checks bytes section =
    let s = standard bytes in
    let x = extended_after s bytes in
    items_checks bytes (items_of section s x) ++ closing_checks section s x bytes

abbrev pub part_sections : Half → List Section
part_sections half = Flags half ∷ Numbers half ∷ Offsets half ∷ NameOffsets half ∷ []

abbrev pub standard_sections : List Section
standard_sections = Magic ∷ Header ∷ Names ∷ part_sections Standard

abbrev pub extended_sections : List Section
extended_sections = ExtendedHeader ∷ part_sections Extended

-- an entry may end before the extended part, and ends after it
abbrev pub sections : List Section
sections = standard_sections ++ (TableEnd ∷ (extended_sections ++ (End ∷ [])))

-- ---- the whole

abbrev pub checks : List ℕ → List Check
checks bytes = flat_map (section_checks bytes) sections

-- why the bytes are refused, if they are
abbrev pub refusal : List ℕ → Option Refused
refusal bytes = refusal_of (length bytes) (verdict (length bytes) (checks bytes))

-- which check has failed on the bytes so far, whatever follows them
abbrev pub failure : List ℕ → Option Refused
failure bytes = failure_of (verdict (length bytes) (checks bytes))
