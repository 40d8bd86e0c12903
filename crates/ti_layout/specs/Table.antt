-- String tables: texts that end with a NUL, told by words.
use Rattle.std.specs.Prelude.{ℕ, zero, suc, ◌+◌, ℤ, pos, negsuc, Bool, not, List, [], ◌∷◌, length, max, take, drop, ◌==◌, if◌then◌else◌}
use Rattle.std.specs.List.{list_any, take_while}
use Rattle.ti_words.specs.Texts.{TextValue, AbsentText, CancelledText, TextOf, is_nul}
use Rattle.ti_layout.specs.declared.part.Part.{Part}
use Rattle.ti_words.specs.Word.{word_at}
use Rattle.ti_layout.specs.Layout.{places, offsets_from, table_from}

-- a NUL stands at a place of the table or after it
abbrev pub ends_in : List ℕ → ℕ → Bool
ends_in table place = list_any is_nul (drop place table)

-- the bytes before the first NUL
abbrev pub until_nul : List ℕ → List ℕ
until_nul bytes = take_while (λ b. not (is_nul b)) bytes

-- the bytes from a place of the table up to the next NUL
abbrev pub text_from : List ℕ → ℕ → List ℕ
text_from table place = until_nul (drop place table)

-- what an offset says: a mark, or the text at its place
abbrev pub text_of_word : List ℕ → ℤ → TextValue
text_of_word table (pos place) = TextOf (text_from table place)
text_of_word table (negsuc zero) = AbsentText
text_of_word table (negsuc (suc n)) = CancelledText

-- the string table of a part
abbrev pub table_of : List ℕ → Part → List ℕ
table_of bytes p = take p.table (drop (table_from p) bytes)

-- the length of the text at an offset and its NUL, if the text is there
abbrev pub size_at : List ℕ → ℤ → ℕ
size_at table (pos place) = length (text_from table place) + 1
size_at table (negsuc n) = 0

abbrev pub sizes_at : List ℕ → List ℕ → List ℕ → ℕ
sizes_at bytes table [] = 0
sizes_at bytes table (p ∷ ps) = size_at table (word_at 2 bytes p) + sizes_at bytes table ps

-- where the text at an offset ends with its NUL, if it is there
abbrev pub end_at : List ℕ → ℤ → ℕ
end_at table (pos place) = place + size_at table (pos place)
end_at table (negsuc n) = 0

-- the last of these ends
abbrev pub last_end : List ℕ → List ℕ → List ℕ → ℕ
last_end bytes table [] = 0
last_end bytes table (p ∷ ps) = max (end_at table (word_at 2 bytes p)) (last_end bytes table ps)

-- what the places of names are counted from
abbrev pub base_of : List ℕ → Part → ℕ
base_of bytes p = sizes_at bytes (table_of bytes p) (places (offsets_from p) 2 p.texts)

-- the same, as far as there are names
abbrev pub names_base : List ℕ → Part → ℕ
names_base bytes p = if p.names == 0 then 0 else base_of bytes p
