-- The whole: bytes that spell an entry pass the checks, and are read as it.
use Rattle.std.proofs.Common.{◌≡◌, ℕ, ◌+◌, ◌%◌, ◌<◌, ◌≤◌, ◌⊎◌, true, false, cond, leb, List, [], ◌∷◌, ◌++◌, length, inl, inr, None, refl, sym, ap, subst, ◌∙◌, arith}
use Rattle.std.proofs.lemmas.List.{length-append, length-map}
use Rattle.std.proofs.lemmas.Bool.{lt-ltb, le-leb, lt-leb}
use Rattle.ti_base.specs.Limits.{most_entry_bytes}
use Rattle.ti_layout.specs.declared.fault.Fault.TheVariants.{BadExtendedHeader}
use Rattle.ti_layout.specs.declared.part.Part.{Part}
use Rattle.ti_words.specs.Value.{EntryValue}
use Rattle.ti_words.specs.Word.{unsigned_at}
use Rattle.ti_layout.specs.Layout.{standard, extended_after, no_capability, flags_end, end_of, extended_from, IsWithin}
use Rattle.ti_words.specs.Spelling.{pad_len, Spells, HasExtendedPart, HasNoExtendedPart, count_word, join, part_spelling, part_names, without_names}
use Rattle.ti_layout.specs.Table.{base_of}
use Rattle.ti_layout.specs.Checks.{Passes, Ends, verdict, pad_checks, end_check, failure_of}
use Rattle.std.specs.List.{AllByRecursion, flat_map}
use Rattle.ti_layout.specs.declared.section.Half.TheVariants.{Extended}
use Rattle.ti_layout.specs.declared.section.Section.TheVariants.{TableEnd, End}
use Rattle.ti_layout.specs.declared.section.SectionItem.TheVariants as item
use Rattle.ti_layout.specs.Refusal.{checks, extended_header_checks, extended_sections, extended_size_check, failure, items, items_checks, room_check, section_checks, standard_sections}
use Rattle.ti_layout.proofs.EndsLemmas.{SectionPasses, passed_sections}
use Rattle.ti_layout.proofs.NamePlaceChecksLemmas.{base_most}
use Rattle.ti_layout.proofs.SectionReadLemmas.{Passed}
use Rattle.ti_layout.specs.Content.{content_with, content, extended, extended_part}
use Rattle.ti_entry.proofs.SpelledItemsLemmas.{HasFrom, after, count_at, passes_one, passes_list}
use Rattle.ti_entry.proofs.KindsSpelledLemmas.{pad_read}
use Rattle.ti_entry.proofs.NamedItemsLemmas.{values_are, all_names_in, base_is, same_named}
use Rattle.ti_entry.proofs.PartLemmas.{end_even, PartPasses, passes_part, text_checks_pass, part_with, part_read, later_sections}
use Rattle.ti_entry.proofs.SpelledLemmas.{PlainRead, plain_read}

-- where the parts of an entry lie
pub record PartsFit (bytes : List ℕ) : Type 0 where
  pub named : 14 ≤ (standard bytes).flags_from
  pub first : IsWithin bytes (standard bytes)
  pub follows : end_of (standard bytes) < length bytes → extended_from (standard bytes) + 10 ≤ length bytes
  pub second : IsWithin bytes (extended bytes)
  pub base : base_of bytes (extended bytes) ≤ most_entry_bytes

pub record IsRead (bytes : List ℕ) (v : EntryValue) : Type 0 where
  pub passes : verdict (length bytes) (checks bytes) ≡ Ends true
  pub same : v ≡ content bytes
  pub parts : PartsFit bytes

-- what a reading makes of an extended part
record ExtendedRead (bytes : List ℕ) (v : EntryValue) (h x : Part) : Type 0 where
  passes : verdict (length bytes) (flat_map (section_checks bytes) later_sections) ≡ Ends true
  whole : length bytes ≡ end_of x
  room : extended_from h + 10 ≤ length bytes
  base : base_of bytes x ≤ end_of x
  same : v.extended ≡ (content_with bytes h x).extended

extended_read : (bytes rest : List ℕ) (v : EntryValue) (h : Part) → h ≡ standard bytes → h.width ≡ v.width → length bytes ≤ most_entry_bytes → HasFrom bytes (end_of h) rest → HasExtendedPart v h.table rest
    → ExtendedRead bytes v h (extended_after h bytes)
extended_read bytes rest v h is width short there s =
    let len = length bytes in
    let w = v.width in
    let p = without_names v.extended in
    let names = part_names v.extended in
    let few = s.part in
    let from = extended_from h in
    let x = part_with w (from + 10) p names s.strings in
    let m = length p.flags in
    let t5 = join (part_spelling w m p s.strings) [] in
    let t4 = count_word (length s.strings.table) ++ t5 in
    let t3 = s.items ++ t4 in
    let t2 = count_word (length p.texts) ++ t3 in
    let t1 = count_word (length p.numbers) ++ t2 in
    let t0 = count_word (length p.flags) ++ t1 in
    let z = pad_read bytes t0 (end_of h) h.table (end_even h) (subst (HasFrom bytes (end_of h)) s.joined there) in
    let c1 = count_at bytes t1 from (length p.flags) few.few_flags z.1 in
    let c2 = count_at bytes t2 (from + 2) (length p.numbers) few.few_numbers c1.next in
    let c3 = count_at bytes t3 (from + 2 + 2) (length p.texts) few.few_texts c2.next in
    let c4 = count_at bytes t5 (from + 8) (length s.strings.table) few.small_table (after bytes s.items t4 (from + 2 + 2 + 2) 2 (from + 8) s.items_size (omega arith) c3.next) in
    let ten : from + 8 + 2 ≡ from + 10 = omega arith in
    let even : flags_end x % 2 ≡ pad_len m = omega (arith, end_even h) in
    let r = part_read bytes [] w (from + 10) m p names s.strings even few (subst (λ k. HasFrom bytes k t5) ten c4.next) in
    let whole : len ≡ end_of x = omega (arith, r.next.room) in
    let named : length p.flags + length p.numbers + length p.texts ≡ length names = simp (length-append, length-map) in
    let h1 = c1.is in
    let h2 = c2.is in
    let h3 : unsigned_at 2 bytes (from + 4) ≡ length p.texts = (let at : from + 4 ≡ from + 2 + 2 = omega arith in ap (unsigned_at 2 bytes) at ∙ c3.is) in
    let h4 = c4.is in
    let header : extended_after h bytes ≡ x = rw (h1, h2, h3, h4, named, width) refl in
    let c = content_with bytes h x in
    let values_same : without_names v.extended ≡ without_names c.extended = sym (values_are bytes x (base_of bytes x) ∙ r.said) in
    let names_same : part_names v.extended ≡ part_names c.extended = sym r.names ∙ sym (all_names_in bytes x (base_of bytes x) named) in
    let base : base_of bytes x ≤ end_of x = omega (arith, sym (base_is bytes x (omega arith)), base_most bytes x (omega arith) (text_checks_pass bytes x r.passes)) in
    -- the checks
    let room = passes_one len (room_check h) (pad_checks bytes (end_of h)) (record { long = omega arith; holds = le-leb _ _ (omega arith) }) z.0 in
    let size : Passed len (extended_size_check (extended_after h bytes)) = subst (λ y. Passed len (extended_size_check y)) (sym header) (record { long = omega arith; holds = le-leb _ _ (omega arith) }) in
    let header_pass : Passes ≡ verdict len (items_checks bytes (items (item.Sign BadExtendedHeader) from 3) ++ extended_header_checks bytes h) =
    passes_list len (items_checks bytes (items (item.Sign BadExtendedHeader) from 3) ++ extended_header_checks bytes h) (c1.passed BadExtendedHeader, (c2.passed BadExtendedHeader, (c3.passed BadExtendedHeader, (c4.passed BadExtendedHeader, (size, tt))))) in
    let known : extended_part bytes ≡ x = ap (λ q. extended_after q bytes) (sym is) ∙ header in
    let last : verdict len (end_check (end_of x) ∷ []) ≡ Ends true = rw (lt-ltb len (end_of x + 1) (omega arith)) refl in
    let room_is = subst (λ q. Passes ≡ verdict len (room_check q ∷ pad_checks bytes (end_of q))) is room in
    let header_is = subst (λ q. Passes ≡ verdict len (items_checks bytes (items (item.Sign BadExtendedHeader) (extended_from q) 3) ++ extended_header_checks bytes q)) is header_pass in
    let all : AllByRecursion (SectionPasses bytes) (TableEnd ∷ extended_sections) = (room_is, (header_is, passes_part bytes Extended (subst (PartPasses bytes) (sym known) r.passes))) in
    subst (ExtendedRead bytes v h) (sym header) (record {
      passes = passed_sections bytes (TableEnd ∷ extended_sections) (End ∷ []) all ∙ ap (λ q. verdict len (end_check (end_of q) ∷ [])) known ∙ last;
      whole = whole;
      room = omega arith;
      base = base;
      same = same_named v.extended c.extended values_same names_same;
    })

pub only : (bytes : List ℕ) (v : EntryValue) → Spells bytes v → IsRead bytes v
only bytes v s = by_rest s.extended
  where
    plain : PlainRead bytes v s.strings.table s.rest
    plain = plain_read bytes v s.strings s.rest s.standard s.fits

    from_table : verdict (length bytes) (checks bytes) ≡ verdict (length bytes) (flat_map (section_checks bytes) later_sections)
    from_table = passed_sections bytes standard_sections later_sections plain.passes

    same_with : (x : Part) → v.extended ≡ (content_with bytes (standard bytes) x).extended → v ≡ content_with bytes (standard bytes) x
    same_with x same =
        let width = sym plain.width in
        let names = sym plain.names in
        let said = sym plain.said in
        let fields : ◌≡◌ {A = EntryValue} (record { width = v.width; names = v.names; standard = v.standard; extended = v.extended }) (content_with bytes (standard bytes) x) = rw (width, names, said, same) refl in fields

    by_rest : HasNoExtendedPart v s.rest ⊎ HasExtendedPart v (length s.strings.table) s.rest → IsRead bytes v
    by_rest (inl none) =
        let len = length bytes in
        let h = standard bytes in
        let short = s.fits in
        let n : len ≡ end_of h = omega (arith, plain.next.room, ap length none.ends) in
        let at_end : leb len (end_of h) ≡ true = le-leb _ _ (omega arith) in
        record {
          passes = from_table ∙ rw (lt-ltb len (end_of h + 1) (omega arith)) refl;
          same = same_with no_capability none.none
              ∙ (let is : content_with bytes h no_capability ≡ content bytes = rw at_end refl in is);
          parts = record {
            named = plain.named;
            first = (omega arith, omega arith);
            follows = λ lt. absurd (omega arith);
            second = rw at_end (omega arith, omega arith);
            base = rw at_end (omega arith);
          };
        }
    by_rest (inr part) =
        let len = length bytes in
        let h = standard bytes in
        let short = s.fits in
        let room = plain.next.room in
        let x = extended_after h bytes in
        let p = extended_read bytes s.rest v h refl plain.width s.fits plain.next (subst (λ n. HasExtendedPart v n s.rest) (sym plain.table_size) part) in
        let above : leb len (end_of h) ≡ false = lt-leb _ _ (omega arith) in
        let is : content_with bytes h x ≡ content bytes = ap (λ b. content_with bytes h (cond b no_capability x)) (sym above) in
        record {
          passes = from_table ∙ p.passes;
          same = same_with x p.same ∙ is;
          parts = record {
            named = plain.named;
            first = (omega arith, omega arith);
            follows = λ lt. p.room;
            second = rw above (omega arith, omega arith);
            base = rw above (omega arith);
          };
        }

-- no check has failed on them
pub spelled_passes : (bytes : List ℕ) (v : EntryValue) → Spells bytes v → failure bytes ≡ None
spelled_passes bytes v s = ap failure_of (only bytes v s).passes
