-- Canonical bytes of an entry without a fault spell it.
use Rattle.std.proofs.Common.{◌≡◌, ◌≢◌, ℕ, ◌+◌, ◌==◌, pos, Bool, true, false, List, [], ◌∷◌, ◌++◌, length, map, take, None, ◌⊎◌, inl, inr, if◌then◌else◌, refl, sym, ap, subst, ◌∙◌, arith, append_assoc}
use Rattle.std.proofs.lemmas.Grind.{common_steps}
use Rattle.std.proofs.lemmas.Bool.Decides.{nat_tests}
use Rattle.std.proofs.lemmas.Bool.{eqb-false, eqb-true, or_parts}
use Rattle.std.proofs.lemmas.List.{length-append, take_at, drop_at, nil_from_length}
use Rattle.std.specs.List.{AllByRecursion, list_any}
use Rattle.ti_words.specs.declared.Number.{Number}
use Rattle.ti_words.specs.declared.Width.{Width}
use Rattle.ti_words.specs.Texts.{TextValue, AbsentText, CancelledText, TextOf, is_nul}
use Rattle.ti_words.specs.Value.{PartValue, NamedPart, EntryValue, no_named}
use Rattle.ti_words.specs.Spelling.{Spells, SpellsPart, HasNoExtendedPart, HasExtendedPart, HasNoNul, FitsWidth, Has, IsText, IsName, Each, count_word, texts_size, without_names, part_names}
use Rattle.ti_draft.specs.Canonical.{canonical, texts_table, text_words, strings_of, standard_strings, extended_strings, items_of, extended_bytes}
use Rattle.ti_draft.specs.Lengths.{AreFew}
use Rattle.ti_draft.specs.EncodeFaults.{encode_fault, has_nul, text_has_nul, is_out_of_range}
use Rattle.ti_draft.proofs.LengthLemmas.{texts_table_append}
use Rattle.ti_draft.proofs.EncodeFaultLemmas.{fit, few_standard, few_extended}

-- ---- what has no fault

none_of : {X : Type 0} (p : X → Bool) (P : X → Type 0) → ((x : X) → p x ≡ false → P x) → (xs : List X) → list_any p xs ≡ false → AllByRecursion P xs
none_of p P f [] h = tt
none_of p P f (x ∷ xs) h = let s = or_parts (p x) (list_any p xs) h in (f x s.0, none_of p P f xs s.1)

clean : (bytes : List ℕ) → has_nul bytes ≡ false → HasNoNul bytes
clean bytes h = none_of is_nul (λ b. b ≢ 0) (λ b e. eqb-false b 0 e) bytes h

-- a text without a NUL
abbrev IsClean : TextValue → Type 0
IsClean AbsentText = Unit {0}
IsClean CancelledText = Unit {0}
IsClean (TextOf text) = HasNoNul text

clean_text : (t : TextValue) → text_has_nul t ≡ false → IsClean t
clean_text AbsentText h = tt
clean_text CancelledText h = tt
clean_text (TextOf text) h = clean text h

fits_width : (w : Width) (n : Number) → is_out_of_range w n ≡ false → FitsWidth w n
fits_width w n h = grind (arith, nat_tests)

-- ---- tables

has_at : (pre ys post : List ℕ) (place : ℕ) → length pre ≡ place → Has (pre ++ (ys ++ post)) place ys
has_at pre ys post place at = record { found = ap (take (length ys)) (drop_at pre (ys ++ post) place at) ∙ take_at ys post (length ys) refl }

texts_put : (pre : List ℕ) (from : ℕ) (ts : List TextValue) (post : List ℕ) → length pre ≡ from → AllByRecursion IsClean ts
    → Each (IsText (pre ++ (texts_table ts ++ post))) (text_words from ts) ts
texts_put pre from [] post at h = tt
texts_put pre from (AbsentText ∷ ts) post at h = (refl, texts_put pre (from + 0) ts post (omega arith) h.1)
texts_put pre from (CancelledText ∷ ts) post at h = (refl, texts_put pre (from + 0) ts post (omega arith) h.1)
texts_put pre from (TextOf text ∷ ts) post at h =
    let one = text ++ 0 ∷ [] in
    let rest = texts_put (pre ++ one) (from + (length text + 1)) ts post (simp length-append (omega arith)) h.1 in
    let P : List ℕ → Type 0 = λ table. Each (IsText (pre ++ table)) (pos from ∷ text_words (from + (length text + 1)) ts) (TextOf text ∷ ts) in
    let Q : List ℕ → Type 0 = λ table. Each (IsText table) (text_words (from + (length text + 1)) ts) ts in
    subst P (sym (append_assoc one (texts_table ts) post)) ((from, refl, h.0, has_at pre one (texts_table ts ++ post) from at), subst Q (append_assoc pre one (texts_table ts ++ post)) rest)

names_put : (pre : List ℕ) (base from : ℕ) (names : List (List ℕ)) → length pre ≡ base + from → AllByRecursion IsClean (map TextOf names)
    → Each (IsName (pre ++ texts_table (map TextOf names)) base) (text_words from (map TextOf names)) names
names_put pre base from [] at h = tt
names_put pre base from (name ∷ names) at h =
    let one = name ++ 0 ∷ [] in
    let rest = names_put (pre ++ one) base (from + (length name + 1)) names (simp length-append (omega arith)) h.1 in
    let P : List ℕ → Type 0 = λ table. Each (IsName table base) (text_words (from + (length name + 1)) (map TextOf names)) names in
    ((from, refl, h.0, has_at pre one (texts_table (map TextOf names)) (base + from) at), subst P (append_assoc pre one (texts_table (map TextOf names))) rest)

base_is : (ts : List TextValue) → texts_size ts ≡ length (texts_table ts)
base_is [] = refl
base_is (t ∷ ts) = grind (arith, common_steps, base_is ts)

-- ---- both parts

part_put : (w : Width) (p : PartValue) (names : List (List ℕ)) → AreFew p (map TextOf names)
    → list_any text_has_nul p.texts ≡ false → list_any (is_out_of_range w) p.numbers ≡ false → list_any text_has_nul (map TextOf names) ≡ false
    → SpellsPart w (strings_of p (map TextOf names)) p names
part_put w p names few text number named =
    let values = texts_table p.texts in
    let own = texts_table (map TextOf names) in
    let table = texts_table_append p.texts (map TextOf names) in
    record {
      few_flags = few.flags;
      few_numbers = few.numbers;
      few_texts = few.texts;
      small_table = few.table;
      numbers_fit = none_of (is_out_of_range w) (FitsWidth w) (fits_width w) p.numbers number;
      texts_there = rw table (texts_put [] 0 p.texts own refl (none_of text_has_nul IsClean clean_text p.texts text));
      names_there = rw table (names_put values (texts_size p.texts) 0 names (omega (arith, base_is p.texts)) (none_of text_has_nul IsClean clean_text (map TextOf names) named));
    }

none_named : (p : NamedPart) → length (part_names p) ≡ 0 → p ≡ no_named
none_named p h = grind (arith, common_steps, nil_from_length)

pub canonical_spells : (v : EntryValue) → encode_fault v ≡ None → Spells (canonical v) v
canonical_spells v h =
    let good = fit v h in
    let few = few_standard v h in
    let some = eqb-false (length v.names) 0 good.named in
    record {
      fits = good.short;
      strings = standard_strings v;
      rest = if length (part_names v.extended) == 0 then [] else extended_bytes v;
      standard = record {
        joined = refl;
        named = omega (arith, some);
        few_names = omega arith;
        names_fit = clean v.names good.names;
        part = part_put v.width v.standard [] few.part good.texts good.numbers refl;
      };
      extended = by_names (length (part_names v.extended) == 0) refl;
    }
  where
    by_names : (b : Bool) → (length (part_names v.extended) == 0) ≡ b → HasNoExtendedPart v (if b then [] else extended_bytes v) ⊎ HasExtendedPart v (length (standard_strings v).table) (if b then [] else extended_bytes v)
    by_names true e = inl record { ends = refl; none = none_named v.extended (eqb-true (length (part_names v.extended)) 0 e) }
    by_names false e =
        let good = fit v h in
        inr record {
          items = count_word (items_of v.extended);
          strings = extended_strings v;
          joined = refl;
          items_size = refl;
          part = part_put v.width (without_names v.extended) (part_names v.extended) (few_extended v h e) good.extended_texts good.extended_numbers good.extended_names;
        }
