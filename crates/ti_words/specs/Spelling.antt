-- Which bytes spell an entry: a joining of whole sections, each tied to the entry by itself (term(5)).
use Rattle.std.specs.Prelude.{◌≡◌, ◌≢◌, ℕ, ◌+◌, ◌<◌, ◌≤◌, ◌^◌, ◌*◌, ◌%◌, ℤ, pos, negsuc, List, [], ◌∷◌, ◌++◌, length, map, take, drop, replicate, ◌⊎◌}
use Rattle.std.specs.List.{flat_map, AllByRecursion}
use Rattle.ti_words.specs.declared.Flag.{Flag}
use Rattle.ti_words.specs.declared.Number.{Number}
use Rattle.ti_words.specs.declared.Number.TheVariants as numbers
use Rattle.ti_words.specs.declared.Width.{Width}
use Rattle.ti_words.specs.Marks.{byte_of_flag, word_of_number}
use Rattle.ti_words.specs.Texts.{TextValue, AbsentText, CancelledText, TextOf}
use Rattle.ti_words.specs.Word.{word}
use Rattle.ti_words.specs.Value.{PartValue, NamedPart, EntryValue, no_named}
use Rattle.ti_base.specs.Limits.{most_entry_bytes}
use Rattle.ti_words.specs.Widths.{number_size, magic_number}

-- ---- items

-- no byte is a NUL
abbrev pub HasNoNul : List ℕ → Type 0
HasNoNul bytes = AllByRecursion (λ b. b ≢ 0) bytes

-- the list has the other at a place
pub record Has (xs : List ℕ) (place : ℕ) (ys : List ℕ) : Type 0 where
  pub found : take (length ys) (drop place xs) ≡ ys

-- a number that a word of this width means
abbrev pub FitsWidth : Width → Number → Type 0
FitsWidth w numbers.Absent = Unit {0}
FitsWidth w numbers.Cancelled = Unit {0}
FitsWidth w (numbers.Value (pos n)) = 2 * n < 256 ^ number_size w
FitsWidth w (numbers.Value (negsuc n)) = ⊥

-- a table has a text, with its NUL, where a word says
abbrev pub IsText : List ℕ → ℤ → TextValue → Type 0
IsText table w AbsentText = w ≡ negsuc 0
IsText table w CancelledText = w ≡ negsuc 1
IsText table w (TextOf text) = (place : ℕ) × (w ≡ pos place) × HasNoNul text × Has table place (text ++ 0 ∷ [])

-- a table has a name, with its NUL, where a word says, counted from base
abbrev pub IsName : List ℕ → ℕ → ℤ → List ℕ → Type 0
IsName table base w name = (place : ℕ) × (w ≡ pos place) × HasNoNul name × Has table (base + place) (name ++ 0 ∷ [])

-- two lists of one length whose items are related one by one
abbrev pub Each : {A B : Type 0} → (A → B → Type 0) → List A → List B → Type 0
Each R [] [] = Unit {0}
Each R [] (y ∷ ys) = ⊥
Each R (x ∷ xs) [] = ⊥
Each R (x ∷ xs) (y ∷ ys) = R x y × Each R xs ys

-- ---- sections

-- sections one after the other, and then what follows
abbrev pub join : List (List ℕ) → List ℕ → List ℕ
join [] rest = rest
join (section ∷ sections) rest = section ++ join sections rest

-- a count as a word
abbrev pub count_word : ℕ → List ℕ
count_word n = word 2 (pos n)

-- the magic number as a word
abbrev pub magic : Width → List ℕ
magic w = count_word (magic_number w)

-- the words of a list
abbrev pub words_of : List ℤ → List ℕ
words_of ws = flat_map (word 2) ws

abbrev pub numbers_of : Width → List Number → List ℕ
numbers_of w ns = flat_map (λ n. word (number_size w) (word_of_number n)) ns

abbrev pub flags_of : List Flag → List ℕ
flags_of fs = map byte_of_flag fs

-- the bytes after an odd count
abbrev pub pad_len : ℕ → ℕ
pad_len n = n % 2

-- one byte 0 after an odd count
abbrev pub pad : ℕ → List ℕ
pad n = replicate (pad_len n) 0

-- ---- a part

abbrev pub name_in : {A : Type 0} → List ℕ × A → List ℕ
name_in x = x.0

abbrev pub mark_in : {A : Type 0} → List ℕ × A → A
mark_in x = x.1

-- without the names
abbrev pub without_names : NamedPart → PartValue
without_names p = record { flags = map mark_in p.flags; numbers = map mark_in p.numbers; texts = map mark_in p.texts }

-- the names of flags, then numbers, then texts
abbrev pub part_names : NamedPart → List (List ℕ)
part_names p = map name_in p.flags ++ map name_in p.numbers ++ map name_in p.texts

-- the counts of a part
abbrev pub counts_spelling : PartValue → List (List ℕ)
counts_spelling p = count_word (length p.flags) ∷ count_word (length p.numbers) ∷ count_word (length p.texts) ∷ []

-- where the texts and the names of a part stand: a word for each, and their table
pub record Strings : Type 0 where
  pub offsets : List ℤ
  pub name_offsets : List ℤ
  pub table : List ℕ

-- the sections of a part after its counts; the flags end after a count of bytes that decides the pad
abbrev pub part_spelling : Width → ℕ → PartValue → Strings → List (List ℕ)
part_spelling w n p s =
    flags_of p.flags
    ∷ pad n
    ∷ numbers_of w p.numbers
    ∷ words_of s.offsets
    ∷ words_of s.name_offsets
    ∷ s.table
    ∷ []

-- the bytes of a text and its NUL, if it is there
abbrev pub text_size : TextValue → ℕ
text_size (TextOf text) = length text + 1
text_size AbsentText = 0
text_size CancelledText = 0

abbrev pub texts_size : List TextValue → ℕ
texts_size [] = 0
texts_size (t ∷ ts) = text_size t + texts_size ts

-- words can hold the counts, the numbers fit, and texts and names stand in the table; a name's place is counted from the
-- end of the texts
pub record SpellsPart (w : Width) (s : Strings) (p : PartValue) (names : List (List ℕ)) : Type 0 where
  pub few_flags : length p.flags < 2 ^ 15
  pub few_numbers : length p.numbers < 2 ^ 15
  pub few_texts : length p.texts < 2 ^ 15
  pub small_table : length s.table < 2 ^ 15
  pub numbers_fit : AllByRecursion (FitsWidth w) p.numbers
  pub texts_there : Each (IsText s.table) s.offsets p.texts
  pub names_there : Each (IsName s.table (texts_size p.texts)) s.name_offsets names

-- ---- the two parts of an entry

-- the sections up to the end of the string table
abbrev pub standard_spelling : EntryValue → Strings → List (List ℕ)
standard_spelling v s =
    (magic v.width ∷ count_word (length v.names + 1) ∷ [])
    ++ counts_spelling v.standard
    ++ (count_word (length s.table) ∷ (v.names ++ 0 ∷ []) ∷ [])
    ++ part_spelling v.width (length v.names + 1 + length v.standard.flags) v.standard s

-- the bytes are these sections, and then rest; no standard capability has a name of its own
pub record HasStandardPart (v : EntryValue) (s : Strings) (rest : List ℕ) (bytes : List ℕ) : Type 0 where
  pub joined : bytes ≡ join (standard_spelling v s) rest
  pub named : 0 < length v.names
  pub few_names : length v.names + 1 < 2 ^ 15
  pub names_fit : HasNoNul v.names
  pub part : SpellsPart v.width s v.standard []

-- the sections after a string table of a size, the word items given
abbrev pub extended_spelling : ℕ → List ℕ → Width → PartValue → Strings → List (List ℕ)
extended_spelling table_size items w p s =
    (pad table_size ∷ [])
    ++ counts_spelling p
    ++ (items ∷ count_word (length s.table) ∷ [])
    ++ part_spelling w (length p.flags) p s

-- the bytes are these sections; the word items may be anything
pub record HasExtendedPart (v : EntryValue) (table_size : ℕ) (bytes : List ℕ) : Type 0 where
  pub items : List ℕ
  pub strings : Strings
  pub joined : bytes ≡ join (extended_spelling table_size items v.width (without_names v.extended) strings) []
  pub items_size : length items ≡ 2
  pub part : SpellsPart v.width strings (without_names v.extended) (part_names v.extended)

pub record HasNoExtendedPart (v : EntryValue) (bytes : List ℕ) : Type 0 where
  pub ends : bytes ≡ []
  pub none : v.extended ≡ no_named

-- ---- the whole

-- the bytes spell the entry
pub record Spells (bytes : List ℕ) (v : EntryValue) : Type 0 where
  pub fits : length bytes ≤ most_entry_bytes
  pub strings : Strings
  pub rest : List ℕ
  pub standard : HasStandardPart v strings rest bytes
  pub extended : HasNoExtendedPart v rest ⊎ HasExtendedPart v (length strings.table) rest
