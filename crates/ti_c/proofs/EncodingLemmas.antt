-- Arrays into which an entry was read hold that entry.
use Rattle.std.proofs.Common.{◌≡◌, ◌≢◌, ◌⊎◌, inl, inr, ℕ, ◌+◌, ◌*◌, ℤ, pos, negsuc, Bool, true, false, if◌then◌else◌, List, [], ◌∷◌, ◌++◌, length, map, take, drop, get_or, Some, None, refl, sym, ap, ◌∙◌, subst, arith}
use Rattle.std.proofs.lemmas.List.{length-append, length-map}
use Rattle.std.specs.List.{zip, AllByRecursion}
use Rattle.ti_words.specs.declared.Flag.{Flag}
use Rattle.ti_words.specs.declared.Flag.TheVariants as flags
use Rattle.ti_words.specs.declared.Number.{Number}
use Rattle.ti_words.specs.declared.Number.TheVariants as numbers
use Rattle.ti_words.specs.declared.Width.{Width}
use Rattle.ti_words.specs.declared.Width.TheVariants.{Legacy, Wide}
use Rattle.ti_words.specs.Marks.{word_of_number}
use Rattle.ti_words.specs.Spelling.{FitsWidth, HasExtendedPart, HasNoExtendedPart, Spells, mark_in, name_in}
use Rattle.ti_words.specs.Texts.{TextValue, AbsentText, CancelledText, TextOf}
use Rattle.ti_words.specs.Value.{EntryValue}
use Rattle.ti_words.specs.Widths.{number_size}
use Rattle.ti_draft.specs.EncodeFaults.{encode_fault}
use Rattle.ti_draft.specs.declared.fault.EncodeFault.TheVariants as faults
use Rattle.ti_entry.proofs.SpellsAtMostOneLemmas.{at_most_one}
use Rattle.ti_c.specs.Laws.{WrittenIsRead}
use Rattle.ti_c.specs.Encoding.{AreItemsOf, entry_given, flag_given, number_given, text_given, text_marked, width_given}
use Rattle.ti_c.specs.Entries.{bytes_held, flag_mark, itself, text_held, text_shown}
use Rattle.ti_c.specs.declared.entry.Arrays.{Arrays}
use Rattle.ti_c.specs.declared.entry.EntryCounts.{EntryCounts}
use Rattle.ti_c.specs.declared.entry.TextItem.{TextItem}

-- ---- faults

no_memory : (a b c d : Bool)
    → (if a then Some faults.BadName else (if b then Some faults.NulInText else (if c then Some faults.NumberOutOfRange else (if d then Some faults.TooManyOrLong else None)))) ≢ Some faults.Memory
no_memory true b c d e = absurd cc
no_memory false true c d e = absurd cc
no_memory false false true d e = absurd cc
no_memory false false false true e = absurd cc
no_memory false false false false e = absurd cc

-- a refusal of memory is no fault of an entry
pub never_memory : (v : EntryValue) → encode_fault v ≢ Some faults.Memory
never_memory v = no_memory _ _ _ _

-- ---- items

flag_back : (f : Flag) → flag_given (flag_mark f) ≡ f
flag_back flags.No = refl
flag_back flags.Yes = refl
flag_back flags.Missing = refl
flag_back flags.Cancelled = refl

pub flags_back : (fs : List Flag) → map flag_given (map flag_mark fs) ≡ fs
flags_back [] = refl
flags_back (f ∷ fs) = rw (flag_back f, flags_back fs) refl

number_back : (w : Width) (n : Number) → FitsWidth w n → number_given (word_of_number n) ≡ n
number_back w numbers.Absent fits = refl
number_back w numbers.Cancelled fits = refl
number_back w (numbers.Value (pos n)) fits = refl
number_back w (numbers.Value (negsuc n)) fits = absurd fits

pub numbers_back : (w : Width) (ns : List Number) → AllByRecursion (FitsWidth w) ns → map number_given (map word_of_number ns) ≡ ns
numbers_back w [] fit = refl
numbers_back w (n ∷ ns) fit = rw (number_back w n fit.0, numbers_back w ns fit.1) refl

text_back : (t : TextValue) → text_marked (text_shown t).0 (text_shown t).1 ≡ t
text_back (TextOf bytes) = refl
text_back AbsentText = refl
text_back CancelledText = refl

text_of_item : (item : TextItem) (t : TextValue) → text_held item ≡ text_shown t → text_given item ≡ t
text_of_item item t e = ap (λ (h : ℤ × List ℕ). text_marked h.0 h.1) e ∙ text_back t

pub texts_back : (items : List TextItem) (ts : List TextValue) → map text_held items ≡ map text_shown ts → map text_given items ≡ ts
texts_back [] [] e = refl
texts_back [] (t ∷ ts) e = absurd cc
texts_back (item ∷ items) [] e = absurd cc
texts_back (item ∷ items) (t ∷ ts) e =
    let first : text_held item ≡ text_shown t = ap (λ l. get_or l 0 (text_shown t)) e in
    let others = texts_back items ts (ap (drop 1) e) in
    rw (text_of_item item t first, others) refl

-- ---- lists

pub itself_map : {A : Type 0} (xs : List A) → map itself xs ≡ xs
itself_map [] = refl
itself_map (x ∷ xs) = ap (λ l. x ∷ l) (itself_map xs)

pub two_parts : {A B : Type 0} (held : A → B) (xs : List A) (front back : List B) → map held (take (length (front ++ back)) xs) ≡ front ++ back
    → (map held (take (length front) xs) ≡ front) × (map held (take (length back) (drop (length front) xs)) ≡ back)
two_parts held xs [] back h = (refl, h)
two_parts held [] (f ∷ fs) back h = absurd cc
two_parts held (x ∷ xs) (f ∷ fs) back h =
    let first : held x ≡ f = ap (λ l. get_or l 0 f) h in
    let others = two_parts held xs fs back (ap (drop 1) h) in
    (rw (first, others.0) refl, others.1)

pub at_count : {A B : Type 0} (held : A → B) (xs : List A) (n : ℕ) (items : List B) → n ≡ length items → map held (take (length items) xs) ≡ items → map held (take n xs) ≡ items
at_count held xs n items e h = rw e h

pub at_place : {A B : Type 0} (held : A → B) (xs : List A) (m n : ℕ) (front items : List B) → m ≡ length front → n ≡ length items
    → map held (take (length items) (drop (length front) xs)) ≡ items → map held (take n (drop m xs)) ≡ items
at_place held xs m n front items d e h = rw (d, e) h

pub zip_back : {B : Type 0} (ps : List (List ℕ × B)) → zip (map name_in ps) (map mark_in ps) ≡ ps
zip_back [] = refl
zip_back (p ∷ ps) = ap (λ l. p ∷ l) (zip_back ps)

-- ---- the entry

extended_fit : (v : EntryValue) (size : ℕ) (rest : List ℕ) → HasNoExtendedPart v rest ⊎ HasExtendedPart v size rest → AllByRecursion (FitsWidth v.width) (map mark_in v.extended.numbers)
extended_fit v size rest (inl none) = rw none.none tt
extended_fit v size rest (inr some) = some.part.numbers_fit

-- the flags, numbers and texts of an array: the standard ones, and after them the extended ones
flags_here : (xs : List ℤ) (n m : ℕ) (standard extended : List Flag) → n ≡ length standard → m ≡ length extended
    → map itself (take (length (map flag_mark standard ++ map flag_mark extended)) xs) ≡ map flag_mark standard ++ map flag_mark extended
    → (map flag_given (take n xs) ≡ standard) × (map flag_given (take m (drop n xs)) ≡ extended)
flags_here xs n m standard extended d e h =
    let parts = two_parts itself xs (map flag_mark standard) (map flag_mark extended) h in
    let first = d ∙ sym (length-map standard flag_mark) in
    let second = e ∙ sym (length-map extended flag_mark) in (
      ap (map flag_given) (sym (itself_map (take n xs)) ∙ at_count itself xs n (map flag_mark standard) first parts.0) ∙ flags_back standard,
      ap (map flag_given) (sym (itself_map (take m (drop n xs))) ∙ at_place itself xs n m (map flag_mark standard) (map flag_mark extended) first second parts.1) ∙ flags_back extended,
    )

numbers_here : (w : Width) (xs : List ℤ) (n m : ℕ) (standard extended : List Number) → AllByRecursion (FitsWidth w) standard → AllByRecursion (FitsWidth w) extended
    → n ≡ length standard → m ≡ length extended
    → map itself (take (length (map word_of_number standard ++ map word_of_number extended)) xs) ≡ map word_of_number standard ++ map word_of_number extended
    → (map number_given (take n xs) ≡ standard) × (map number_given (take m (drop n xs)) ≡ extended)
numbers_here w xs n m standard extended fit also d e h =
    let parts = two_parts itself xs (map word_of_number standard) (map word_of_number extended) h in
    let first = d ∙ sym (length-map standard word_of_number) in
    let second = e ∙ sym (length-map extended word_of_number) in (
      ap (map number_given) (sym (itself_map (take n xs)) ∙ at_count itself xs n (map word_of_number standard) first parts.0) ∙ numbers_back w standard fit,
      ap (map number_given) (sym (itself_map (take m (drop n xs))) ∙ at_place itself xs n m (map word_of_number standard) (map word_of_number extended) first second parts.1) ∙ numbers_back w extended also,
    )

texts_here : (xs : List TextItem) (n m : ℕ) (standard extended : List TextValue) → n ≡ length standard → m ≡ length extended
    → map text_held (take (length (map text_shown standard ++ map text_shown extended)) xs) ≡ map text_shown standard ++ map text_shown extended
    → (map text_given (take n xs) ≡ standard) × (map text_given (take m (drop n xs)) ≡ extended)
texts_here xs n m standard extended d e h =
    let parts = two_parts text_held xs (map text_shown standard) (map text_shown extended) h in
    let first = d ∙ sym (length-map standard text_shown) in
    let second = e ∙ sym (length-map extended text_shown) in (
      texts_back (take n xs) standard (at_count text_held xs n (map text_shown standard) first parts.0),
      texts_back (take m (drop n xs)) extended (at_place text_held xs n m (map text_shown standard) (map text_shown extended) first second parts.1),
    )

marks : {B : Type 0} (ps : List (List ℕ × B)) → length ps ≡ length (map mark_in ps)
marks ps = sym (length-map ps mark_in)

named : {B : Type 0} (ps : List (List ℕ × B)) → length ps ≡ length (map name_in ps)
named ps = sym (length-map ps name_in)

-- arrays into which an entry was read hold it, in the width that is asked for
pub entry_back : (a : Arrays) (c : EntryCounts) (bits : ℕ) (bytes : List ℕ) (v : EntryValue) → Spells bytes v → AreItemsOf a c v → entry_given a c bits ≡ record v { width = width_given bits }
entry_back a c bits bytes v spelled i =
    let n = i.counted in
    let flags = flags_here a.flags.now c.flags c.extended_flags v.standard.flags (map mark_in v.extended.flags) n.flags (n.extended_flags ∙ marks v.extended.flags) i.flags in
    let numbers = numbers_here v.width a.numbers.now c.numbers c.extended_numbers v.standard.numbers (map mark_in v.extended.numbers) spelled.standard.part.numbers_fit (extended_fit v _ _ spelled.extended) n.numbers (n.extended_numbers ∙ marks v.extended.numbers) i.numbers in
    let texts = texts_here a.texts.now c.texts c.extended_texts v.standard.texts (map mark_in v.extended.texts) n.texts (n.extended_texts ∙ marks v.extended.texts) i.texts in
    let flag_names = map name_in v.extended.flags in
    let number_names = map name_in v.extended.numbers in
    let text_names = map name_in v.extended.texts in
    let outer = two_parts bytes_held a.names.now (flag_names ++ number_names) text_names i.names in
    let inner = two_parts bytes_held a.names.now flag_names number_names outer.0 in
    let first = at_count bytes_held a.names.now c.extended_flags flag_names (n.extended_flags ∙ named v.extended.flags) inner.0 in
    let second = at_place bytes_held a.names.now c.extended_flags c.extended_numbers flag_names number_names (n.extended_flags ∙ named v.extended.flags) (n.extended_numbers ∙ named v.extended.numbers) inner.1 in
    let both : c.extended_flags + c.extended_numbers ≡ length (flag_names ++ number_names) = rw length-append (omega (arith, n.extended_flags ∙ named v.extended.flags, n.extended_numbers ∙ named v.extended.numbers)) in
    let third = at_place bytes_held a.names.now (c.extended_flags + c.extended_numbers) c.extended_texts (flag_names ++ number_names) text_names both (n.extended_texts ∙ named v.extended.texts) outer.1 in
    rw (
      n.names,
      flags.0,
      flags.1,
      numbers.0,
      numbers.1,
      texts.0,
      texts.1,
      first,
      second,
      third,
      zip_back v.extended.flags,
      zip_back v.extended.numbers,
      zip_back v.extended.texts,
    ) refl

width_back : (w : Width) (bits : ℕ) → bits ≡ 8 * number_size w → width_given bits ≡ w
width_back Legacy bits e = rw e refl
width_back Wide bits e = rw e refl

pub written_is_read : WrittenIsRead
written_is_read a c bytes written v spelled items encoded w found =
    let width : width_given c.number_bits ≡ v.width = width_back v.width c.number_bits items.counted.number_bits in
    let back : entry_given a c c.number_bits ≡ v = entry_back a c c.number_bits bytes v spelled items ∙ ap (λ (x : Width). record v { width = x }) width in
    let P : EntryValue → Type 0 = λ x. Spells written x in
    let Q : EntryValue → Type 0 = λ x. AreItemsOf a c x in
    subst Q (at_most_one written v w (subst P back encoded.spells) found) items
