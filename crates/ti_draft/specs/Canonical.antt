-- The one layout in which an entry is written: no text is shared, and no byte of a table is left out.
use Rattle.std.specs.Prelude.{ℕ, ◌+◌, ℤ, pos, negsuc, List, [], ◌∷◌, ◌++◌, length, map, if◌then◌else◌, ◌==◌}
use Rattle.ti_words.specs.Texts.{TextValue, AbsentText, CancelledText, TextOf}
use Rattle.ti_words.specs.Value.{PartValue, NamedPart, EntryValue}
use Rattle.ti_words.specs.Spelling.{Strings, join, count_word, mark_in, text_size, without_names, part_names, standard_spelling, extended_spelling}

-- the texts that are there, in their order, each with its NUL
abbrev pub text_bytes : TextValue → List ℕ
text_bytes (TextOf text) = text ++ 0 ∷ []
text_bytes AbsentText = []
text_bytes CancelledText = []

abbrev pub texts_table : List TextValue → List ℕ
texts_table [] = []
texts_table (t ∷ ts) = text_bytes t ++ texts_table ts

-- where a text is put, or its mark
abbrev pub text_word : ℕ → TextValue → ℤ
text_word place (TextOf text) = pos place
text_word place AbsentText = negsuc 0
text_word place CancelledText = negsuc 1

-- the same of each, from a place on
abbrev pub text_words : ℕ → List TextValue → List ℤ
text_words from [] = []
text_words from (t ∷ ts) = text_word from t ∷ text_words (from + text_size t) ts

-- how many texts are there
abbrev pub present_count : List TextValue → ℕ
present_count [] = 0
present_count (TextOf text ∷ ts) = 1 + present_count ts
present_count (AbsentText ∷ ts) = present_count ts
present_count (CancelledText ∷ ts) = present_count ts

-- the strings of a part: its texts in their order, and then its names, which are written as texts
abbrev pub strings_of : PartValue → List TextValue → Strings
strings_of p names = record {
  offsets = text_words 0 p.texts;
  name_offsets = text_words 0 names;
  table = texts_table (p.texts ++ names);
}

abbrev pub standard_strings : EntryValue → Strings
standard_strings v = strings_of v.standard []

abbrev pub extended_strings : EntryValue → Strings
extended_strings v = strings_of (without_names v.extended) (map TextOf (part_names v.extended))

-- the word items counts the texts that are there and the names
abbrev pub items_of : NamedPart → ℕ
items_of p = present_count (map mark_in p.texts) + length (part_names p)

abbrev pub extended_bytes : EntryValue → List ℕ
extended_bytes v =
    join (extended_spelling (length (standard_strings v).table) (count_word (items_of v.extended)) v.width (without_names v.extended) (extended_strings v)) []

-- an extended part is written if there is a name
abbrev pub canonical : EntryValue → List ℕ
canonical v =
    join (standard_spelling v (standard_strings v)) (if length (part_names v.extended) == 0 then [] else extended_bytes v)
