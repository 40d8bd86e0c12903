-- How many bytes the items of an entry take at least, and so how much room is enough for every entry.
use Rattle.std.proofs.Common.{◌≡◌, ℕ, suc, ◌+◌, ◌*◌, ◌≤◌, List, [], ◌∷◌, ◌++◌, length, refl, ap, ◌⊎◌, inl, inr, arith}
use Rattle.std.proofs.lemmas.List.{length-append, length-map}
use Rattle.ti_words.specs.declared.Number.{Number}
use Rattle.ti_words.specs.declared.Width.{Width}
use Rattle.ti_words.specs.Marks.{byte_of_flag}
use Rattle.ti_words.specs.Value.{PartValue, NamedPart, EntryValue}
use Rattle.ti_words.specs.Spelling.{Spells, SpellsPart, Strings, HasStandardPart, HasExtendedPart, HasNoExtendedPart, Each, mark_in, without_names, part_names, count_word, pad, numbers_of, join, counts_spelling, part_spelling}
use Rattle.ti_draft.proofs.LengthLemmas.{length_words, length_numbers}
use Rattle.ti_draft.proofs.LengthLemmas.{length_part_names}
use Rattle.ti_c.specs.Entries.{HasRoom, IsAmple}

each_length : {A B : Type 0} (R : A → B → Type 0) (xs : List A) (ys : List B) → Each R xs ys → length xs ≡ length ys
each_length R [] [] e = refl
each_length R [] (y ∷ ys) e = absurd e
each_length R (x ∷ xs) [] e = absurd e
each_length R (x ∷ xs) (y ∷ ys) e = ap suc (each_length R xs ys e.1)

-- a number takes two bytes or more
numbers_size : (w : Width) (ns : List Number) → 2 * length ns ≤ length (numbers_of w ns)
numbers_size w ns = let e = length_numbers w ns in grind arith

part_size : (w : Width) (n : ℕ) (p : PartValue) (names : List (List ℕ)) (s : Strings) (rest : List ℕ) → SpellsPart w s p names
    → length p.flags + 2 * length p.numbers + 2 * length p.texts + 2 * length names + length rest ≤ length (join (part_spelling w n p s) rest)
part_size w n p names s rest h =
    let flags = length-map p.flags byte_of_flag in
    let numbers = numbers_size w p.numbers in
    let offsets = length_words s.offsets in
    let name_offsets = length_words s.name_offsets in
    let texts = each_length _ s.offsets p.texts h.texts_there in
    let own = each_length _ s.name_offsets names h.names_there in
    simp length-append (omega (arith, flags, numbers, offsets, name_offsets, texts, own))

standard_size : (bytes : List ℕ) (v : EntryValue) (s : Strings) (rest : List ℕ) → HasStandardPart v s rest bytes
    → 14 + length v.standard.flags + 2 * length v.standard.numbers + 2 * length v.standard.texts + length rest ≤ length bytes
standard_size bytes v s rest h =
    let n = length v.names + 1 + length v.standard.flags in
    let part = join (part_spelling v.width n v.standard s) rest in
    omega (
      arith,
      ap length h.joined,
      length-append (v.names ++ 0 ∷ []) part,
      length-append v.names (0 ∷ []),
      h.named,
      part_size v.width n v.standard [] s rest h.part,
    )

extended_size : (bytes : List ℕ) (v : EntryValue) (table_size : ℕ) → HasExtendedPart v table_size bytes
    → 3 * length v.extended.flags + 4 * length v.extended.numbers + 4 * length v.extended.texts ≤ length bytes
extended_size bytes v table_size h =
    let p = without_names v.extended in
    let part = join (part_spelling v.width (length p.flags) p h.strings) [] in
    let after = h.items ++ (count_word (length h.strings.table) ++ part) in
    omega (
      arith,
      ap length h.joined,
      length-append (pad table_size) (join (counts_spelling p) after),
      length-append h.items (count_word (length h.strings.table) ++ part),
      length-map v.extended.flags mark_in,
      length-map v.extended.numbers mark_in,
      length-map v.extended.texts mark_in,
      length_part_names v.extended,
      part_size v.width (length p.flags) p (part_names v.extended) h.strings [] h.part,
    )

-- what an entry takes of its bytes
pub record Takes (bytes : List ℕ) (v : EntryValue) : Type 0 where
  pub flags : length v.standard.flags + length v.extended.flags ≤ length bytes
  pub numbers : 2 * (length v.standard.numbers + length v.extended.numbers) ≤ length bytes
  pub texts : 2 * (length v.standard.texts + length v.extended.texts) ≤ length bytes
  pub names : 3 * (length v.extended.flags + length v.extended.numbers + length v.extended.texts) ≤ length bytes

pub takes : (bytes : List ℕ) (v : EntryValue) → Spells bytes v → Takes bytes v
takes bytes v s = by_rest s.extended
  where
    by_rest : (HasNoExtendedPart v s.rest ⊎ HasExtendedPart v (length s.strings.table) s.rest) → Takes bytes v
    by_rest (inl none) =
        let size = standard_size bytes v s.strings s.rest s.standard in
        let a = ap (λ (p : NamedPart). length p.flags) none.none in
        let b = ap (λ (p : NamedPart). length p.numbers) none.none in
        let c = ap (λ (p : NamedPart). length p.texts) none.none in
        record { flags = omega arith; numbers = omega arith; texts = omega arith; names = omega arith }
    by_rest (inr part) =
        let size = standard_size bytes v s.strings s.rest s.standard in
        let more = extended_size s.rest v (length s.strings.table) part in
        record { flags = omega arith; numbers = omega arith; texts = omega arith; names = omega arith }

-- ample room is enough
pub enough : (bytes : List ℕ) (v : EntryValue) (flags numbers texts names : ℕ) → Spells bytes v → IsAmple flags numbers texts names → HasRoom v flags numbers texts names
enough bytes v flags numbers texts names s ample =
    let t = takes bytes v s in
    let most = s.fits in
    record {
      flags = omega (arith, t.flags, ample.flags);
      numbers = omega (arith, t.numbers, ample.numbers);
      texts = omega (arith, t.texts, ample.texts);
      names = omega (arith, t.names, ample.names);
    }
