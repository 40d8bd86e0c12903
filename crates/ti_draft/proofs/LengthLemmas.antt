-- How long the sections of canonical bytes are.
use Rattle.std.proofs.Common.{◌≡◌, ℕ, zero, suc, ◌+◌, ◌*◌, ◌/◌, ◌==◌, Bool, if◌then◌else◌, ℤ, pos, negsuc, List, [], ◌∷◌, ◌++◌, length, map, refl, sym, ap, ◌∙◌, arith, append_assoc}
use Rattle.std.proofs.lemmas.Grind.{common_steps}
use Rattle.std.proofs.lemmas.List.{length-append, length-map, length-replicate}
use Rattle.ti_words.specs.declared.Number.{Number}
use Rattle.ti_words.specs.declared.Width.{Width}
use Rattle.ti_words.specs.Texts.{TextValue, TextOf}
use Rattle.ti_words.specs.Marks.{word_of_number}
use Rattle.ti_words.specs.Word.{low_bytes, word}
use Rattle.ti_words.specs.Value.{NamedPart, EntryValue}
use Rattle.ti_words.specs.Widths.{number_size}
use Rattle.ti_words.specs.Spelling.{pad_len, words_of, numbers_of, join, standard_spelling, without_names, part_names}
use Rattle.ti_draft.specs.Canonical.{text_bytes, text_words, texts_table, standard_strings, extended_bytes, canonical}
use Rattle.ti_draft.specs.Lengths.{part_length}
use Rattle.ti_draft.proofs.JoinLemmas.{join_then}

pub length_low : (size n : ℕ) → length (low_bytes size n) ≡ size
length_low zero n = refl
length_low (suc size) n = ap suc (length_low size (n / 256))

pub length_word : (size : ℕ) (z : ℤ) → length (word size z) ≡ size
length_word size (pos n) = length_low size n
length_word size (negsuc n) = length_low size _

pub length_words : (ws : List ℤ) → length (words_of ws) ≡ length ws * 2
length_words [] = refl
length_words (w ∷ ws) = grind (arith, common_steps, length_words ws)

pub length_numbers : (w : Width) (ns : List Number) → length (numbers_of w ns) ≡ length ns * number_size w
length_numbers w [] = omega arith
length_numbers w (n ∷ ns) =
    let size = number_size w in
    let more : suc (length ns) * size ≡ size + length ns * size = omega arith in
    length-append (word size (word_of_number n)) (numbers_of w ns) ∙ omega (arith, length_word size (word_of_number n), length_numbers w ns)

pub length_text_words : (from : ℕ) (ts : List TextValue) → length (text_words from ts) ≡ length ts
length_text_words from [] = refl
length_text_words from (t ∷ ts) = let rest : (n : ℕ) → length (text_words n ts) ≡ length ts = λ n. length_text_words n ts in grind arith

pub length_part_names : (p : NamedPart) → length (part_names p) ≡ length p.flags + length p.numbers + length p.texts
length_part_names p = simp (length-append, length-map)

pub texts_table_append : (xs ys : List TextValue) → texts_table (xs ++ ys) ≡ texts_table xs ++ texts_table ys
texts_table_append [] ys = refl
texts_table_append (x ∷ xs) ys = ap (λ l. text_bytes x ++ l) (texts_table_append xs ys) ∙ sym (append_assoc (text_bytes x) (texts_table xs) (texts_table ys))

-- ---- the whole

ruleset lengths = (length-append, length-map, length-replicate, length_words, length_numbers, length_text_words)

-- the sections up to the end of the string table
abbrev pub standard_bytes : EntryValue → List ℕ
standard_bytes v = join (standard_spelling v (standard_strings v)) []

pub length_standard : (v : EntryValue) → length (standard_bytes v) ≡ 13 + length v.names + pad_len (length v.names + 1 + length v.standard.flags) + part_length v.width v.standard []
length_standard v = simp lengths (omega arith)

pub length_extended : (v : EntryValue) → length (extended_bytes v) ≡ pad_len (length (standard_strings v).table) + 10 + pad_len (length (without_names v.extended).flags) + part_length v.width (without_names v.extended) (map TextOf (part_names v.extended))
length_extended v = simp lengths (omega arith)

-- an entry is its standard part, and then the extended part if there is a name
pub in_parts : (v : EntryValue) (b : Bool) → (length (part_names v.extended) == 0) ≡ b → canonical v ≡ standard_bytes v ++ (if b then [] else extended_bytes v)
in_parts v b e = rw e (join_then (standard_spelling v (standard_strings v)) (if b then [] else extended_bytes v))

pub length_parts : (v : EntryValue) (b : Bool) → (length (part_names v.extended) == 0) ≡ b → length (canonical v) ≡ length (standard_bytes v) + length (if b then [] else extended_bytes v)
length_parts v b e = ap length (in_parts v b e) ∙ length-append (standard_bytes v) (if b then [] else extended_bytes v)
