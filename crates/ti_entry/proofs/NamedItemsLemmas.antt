-- The capabilities of an extended part, each with its name, as lists of names and lists of marks.
use Rattle.std.proofs.Common.{◌≡◌, ℕ, zero, suc, ◌+◌, ◌*◌, ◌≤◌, ℤ, pos, negsuc, cond, eqb, List, [], ◌∷◌, ◌++◌, map, length, take, drop, refl, sym, ap, ◌∙◌, arith}
use Rattle.std.specs.List.{zip}
use Rattle.std.proofs.lemmas.List.{drop_at, length-append, length-map, map-append, take_at}
use Rattle.std.proofs.lemmas.Bool.{ne_eqb}
use Rattle.std.proofs.lemmas.Slice.Zip.{firsts-zip, length-zip, seconds-zip}
use Rattle.ti_words.specs.Value.{NamedPart, PartValue}
use Rattle.ti_words.specs.Word.{word_at}
use Rattle.ti_words.specs.declared.Kind.{Kind}
use Rattle.ti_words.specs.declared.Kind.TheVariants as kinds
use Rattle.ti_words.specs.Widths.{number_size}
use Rattle.ti_layout.specs.declared.part.Part.{Part}
use Rattle.ti_layout.specs.Layout.{places, numbers_from, offsets_from, names_from}
use Rattle.ti_layout.specs.Table.{text_of_word, size_at, sizes_at, table_of, base_of, names_base}
use Rattle.ti_layout.specs.Content.{flag_at, number_at, text_at, name_from, texts_in, names_in, part_in, named_part_in}
use Rattle.ti_entry.specs.Finding.{names_of}
use Rattle.ti_layout.proofs.PlacesLemmas.{length_places, places_append}
use Rattle.ti_words.specs.Spelling.{text_size, texts_size, name_in, mark_in, without_names, part_names}

-- ---- count items, each with its name

pub marks_of_pairs : {A : Type 0} (name : ℕ → List ℕ) (item : ℕ → A) (from place size count : ℕ)
    → map mark_in (zip (map name (places from 2 count)) (map item (places place size count))) ≡ map item (places place size count)
marks_of_pairs name item from place size count = seconds-zip _ _ (length_places item place size count ∙ sym (length_places name from 2 count))

pub names_of_pairs : {A : Type 0} (name : ℕ → List ℕ) (item : ℕ → A) (from place size count : ℕ)
    → map name_in (zip (map name (places from 2 count)) (map item (places place size count))) ≡ map name (places from 2 count)
names_of_pairs name item from place size count = firsts-zip _ _ (length_places item place size count ∙ sym (length_places name from 2 count))

-- lists of pairs, their lengths and their parts
pub ruleset pairs = (length_places, length-zip, marks_of_pairs, names_of_pairs)

-- ---- the values of an extended part, and its names

pub values_are : (bytes : List ℕ) (x : Part) (base : ℕ) → without_names (named_part_in bytes x base) ≡ part_in bytes x
values_are bytes x base = simp marks_of_pairs

pub names_are : (bytes : List ℕ) (x : Part) (base : ℕ) (kind : Kind) → names_of (named_part_in bytes x base) kind ≡ names_in bytes x base kind
names_are bytes x base kinds.Flag = names_of_pairs (name_from bytes x base) (flag_at bytes) (names_from x) x.flags_from 1 x.flags
names_are bytes x base kinds.Number = names_of_pairs (name_from bytes x base) (number_at (number_size x.width) bytes) (names_from x + 2 * x.flags) (numbers_from x) (number_size x.width) x.numbers
names_are bytes x base kinds.Text = names_of_pairs (name_from bytes x base) (text_at (table_of bytes x) bytes) (names_from x + 2 * (x.flags + x.numbers)) (offsets_from x) 2 x.texts

-- ---- how many there are

-- as many capabilities of each kind as a part says
pub record HasCounts (flags numbers texts : ℕ) (p : Part) : Type 0 where
  pub of_flags : flags ≡ p.flags
  pub of_numbers : numbers ≡ p.numbers
  pub of_texts : texts ≡ p.texts

pub part_counts : (bytes : List ℕ) (p : Part) → let v = part_in bytes p in HasCounts (length v.flags) (length v.numbers) (length v.texts) p
part_counts bytes p = record {
  of_flags = length_places (flag_at bytes) p.flags_from 1 p.flags;
  of_numbers = length_places (number_at (number_size p.width) bytes) (numbers_from p) (number_size p.width) p.numbers;
  of_texts = length_places (text_at (table_of bytes p) bytes) (offsets_from p) 2 p.texts;
}

-- all names, in the order of their offsets
pub all_names_in : (bytes : List ℕ) (x : Part) (base : ℕ) → x.flags + x.numbers + x.texts ≡ x.names → part_names (named_part_in bytes x base) ≡ map (name_from bytes x base) (places (names_from x) 2 x.names)
all_names_in bytes x base named =
    let name = name_from bytes x base in
    let from = names_from x in
    let f = places from 2 x.flags in
    let n = places (from + 2 * x.flags) 2 x.numbers in
    let t = places (from + 2 * (x.flags + x.numbers)) 2 x.texts in
    let one : part_names (named_part_in bytes x base) ≡ (map name f ++ map name n) ++ map name t = simp names_of_pairs in
    one
    ∙ ap (λ l. l ++ map name t) (sym (map-append name f n) ∙ ap (map name) (sym (places_append from 2 x.flags x.numbers)))
    ∙ sym (map-append name (places from 2 (x.flags + x.numbers)) t)
    ∙ ap (map name) (sym (places_append from 2 (x.flags + x.numbers) x.texts))
    ∙ ap (λ k. map name (places from 2 k)) named

-- ---- parts that say the same

-- two joinings whose first parts have one length
cut : {A : Type 0} (a b x y : List A) → length a ≡ length b → a ++ x ≡ b ++ y → (a ≡ b) × (x ≡ y)
cut a b x y n e =
    (sym (take_at a x (length a) refl) ∙ ap (take (length a)) e ∙ take_at b y (length a) (sym n), sym (drop_at a x (length a) refl) ∙ ap (drop (length a)) e ∙ drop_at b y (length a) (sym n))

-- a list by its names and its marks
zip_again : {A : Type 0} (xs : List (List ℕ × A)) → xs ≡ zip (map name_in xs) (map mark_in xs)
zip_again [] = refl
zip_again (x ∷ xs) = ap (λ (t : List _). x ∷ t) (zip_again xs)

-- parts with the same values and the same names
pub same_named : (v w : NamedPart) → without_names v ≡ without_names w → part_names v ≡ part_names w → v ≡ w
same_named v w values all =
    let f : map mark_in v.flags ≡ map mark_in w.flags = ap (λ (p : PartValue). p.flags) values in
    let n : map mark_in v.numbers ≡ map mark_in w.numbers = ap (λ (p : PartValue). p.numbers) values in
    let t : map mark_in v.texts ≡ map mark_in w.texts = ap (λ (p : PartValue). p.texts) values in
    let nf : length (map name_in v.flags) ≡ length (map name_in w.flags) = simp length-map (simp length-map at (ap length f)) in
    let nn : length (map name_in v.numbers) ≡ length (map name_in w.numbers) = simp length-map (simp length-map at (ap length n)) in
    let front : length (map name_in v.flags ++ map name_in v.numbers) ≡ length (map name_in w.flags ++ map name_in w.numbers) = simp length-append (omega arith) in
    let c = cut (map name_in v.flags ++ map name_in v.numbers) (map name_in w.flags ++ map name_in w.numbers) (map name_in v.texts) (map name_in w.texts) front all in
    let d = cut (map name_in v.flags) (map name_in w.flags) (map name_in v.numbers) (map name_in w.numbers) nf c.0 in
    let flags = same_pairs v.flags w.flags d.0 f in
    let numbers = same_pairs v.numbers w.numbers d.1 n in
    let texts = same_pairs v.texts w.texts c.1 t in
    let fields : ◌≡◌ {A = NamedPart} (record { flags = v.flags; numbers = v.numbers; texts = v.texts }) w = rw (flags, numbers, texts) refl in fields
  where
    same_pairs : {A : Type 0} (xs ys : List (List ℕ × A)) → map name_in xs ≡ map name_in ys → map mark_in xs ≡ map mark_in ys → xs ≡ ys
    same_pairs xs ys e f = zip_again xs ∙ ap (λ ns. zip ns (map mark_in xs)) e ∙ ap (zip (map name_in ys)) f ∙ sym (zip_again ys)

-- ---- the base of a part

same_size : (table : List ℕ) (bytes : List ℕ) (p : ℕ) → text_size (text_at table bytes p) ≡ size_at table (word_at 2 bytes p)
same_size table bytes p = of_word (word_at 2 bytes p)
  where
    of_word : (z : ℤ) → text_size (text_of_word table z) ≡ size_at table z
    of_word (pos n) = refl
    of_word (negsuc zero) = refl
    of_word (negsuc (suc n)) = refl

sizes_in : (table bytes : List ℕ) (place count : ℕ) → texts_size (map (text_at table bytes) (places place 2 count)) ≡ sizes_at bytes table (places place 2 count)
sizes_in table bytes place zero = refl
sizes_in table bytes place (suc count) =
    ap (λ n. n + texts_size (map (text_at table bytes) (places (place + 2) 2 count))) (same_size table bytes place)
    ∙ ap (λ n. size_at table (word_at 2 bytes place) + n) (sizes_in table bytes (place + 2) count)

-- the base of a part is the size of its texts
pub sizes_are_base : (bytes : List ℕ) (p : Part) → texts_size (texts_in bytes p) ≡ base_of bytes p
sizes_are_base bytes p = sizes_in (table_of bytes p) bytes (offsets_from p) p.texts

pub base_named : (bytes : List ℕ) (x : Part) → texts_size (without_names (named_part_in bytes x (base_of bytes x))).texts ≡ base_of bytes x
base_named bytes x = ap (λ (p : PartValue). texts_size p.texts) (values_are bytes x (base_of bytes x)) ∙ sizes_are_base bytes x

-- without names there is no text either
pub base_is : (bytes : List ℕ) (x : Part) → x.texts ≤ x.names → names_base bytes x ≡ base_of bytes x
base_is bytes x le = by_count x.names refl
  where
    by_count : (n : ℕ) → n ≡ x.names → cond (eqb n 0) 0 (base_of bytes x) ≡ base_of bytes x
    by_count zero e =
        let none : x.texts ≡ 0 = omega arith in sym (ap (λ n. sizes_at bytes (table_of bytes x) (places (offsets_from x) 2 n)) none)
    by_count (suc n) e = ap (λ b. cond b 0 (base_of bytes x)) (ne_eqb (suc n) 0 (λ f. absurd (omega arith)))
