-- Bytes that have the sections of an entry pass the checks up to the end of the string table, and are read so.
use Rattle.std.proofs.Common.{◌≡◌, ◌≢◌, ℕ, ◌+◌, ◌-◌, ◌*◌, ◌%◌, ◌≤◌, false, not, eqb, List, [], ◌∷◌, ◌++◌, length, get_or, take, drop, Some, refl, sym, ap, subst, ◌∙◌, arith, append_assoc}
use Rattle.std.proofs.lemmas.List.{map-id, take_at}
use Rattle.std.proofs.lemmas.Bool.{le-leb, ne_eqb}
use Rattle.std.proofs.lemmas.Bool.Decides.{nat_tests}
use Rattle.std.specs.Prelude.{slice_range, is_some}
use Rattle.ti_base.specs.Limits.{most_entry_bytes}
use Rattle.ti_words.specs.declared.Width.{Width}
use Rattle.ti_layout.specs.declared.fault.Fault.TheVariants.{BadHeader, BadNames}
use Rattle.ti_layout.specs.declared.part.Part.{Part}
use Rattle.ti_words.specs.Value.{EntryValue}
use Rattle.ti_layout.specs.Layout.{standard, width_of, flags_end, end_of}
use Rattle.ti_words.specs.Spelling.{pad_len, Strings, HasStandardPart, magic, count_word, join, part_spelling}
use Rattle.ti_words.specs.Texts.{is_nul}
use Rattle.ti_layout.specs.Checks.{Passes, verdict, nul_check}
use Rattle.std.specs.List.{AllByRecursion}
use Rattle.ti_layout.specs.declared.section.Half.TheVariants.{Standard}
use Rattle.ti_layout.specs.declared.section.SectionItem.TheVariants as item
use Rattle.ti_layout.specs.Refusal.{item_check, items, items_checks, magic_check, named_check, size_check, size_checks, standard_sections}
use Rattle.ti_layout.proofs.EndsLemmas.{SectionPasses}
use Rattle.ti_layout.proofs.SectionReadLemmas.{Passed}
use Rattle.ti_layout.specs.Content.{part_in}
use Rattle.ti_entry.proofs.KindsSpelledLemmas.{append_pass}
use Rattle.ti_entry.proofs.SpelledItemsLemmas.{HasFrom, after, byte_at, count_at, passes_list, bytes_read}
use Rattle.ti_entry.proofs.PartLemmas.{PartPasses, part_with, passes_part, part_read}

starts : (w : Width) → width_of (magic w) ≡ Some w
starts w = grind (arith, nat_tests)

-- what a reading makes of the sections up to the end of the string table, and what follows them
pub record PlainRead (bytes : List ℕ) (v : EntryValue) (table rest : List ℕ) : Type 0 where
  pub passes : AllByRecursion (SectionPasses bytes) standard_sections
  pub named : 14 ≤ (standard bytes).flags_from
  pub width : (standard bytes).width ≡ v.width
  pub names : slice_range bytes 12 ((standard bytes).flags_from - 1) ≡ v.names
  pub said : part_in bytes (standard bytes) ≡ v.standard
  pub table_size : (standard bytes).table ≡ length table
  pub next : HasFrom bytes (end_of (standard bytes)) rest

pub plain_read : (bytes : List ℕ) (v : EntryValue) (s : Strings) (rest : List ℕ) → HasStandardPart v s rest bytes → length bytes ≤ most_entry_bytes → PlainRead bytes v s.table rest
plain_read bytes v s rest h short =
    let w = v.width in
    let names = v.names in
    let p = v.standard in
    let some = h.named in
    let few = h.part in
    let len = length bytes in
    let from = 12 + (length names + 1) in
    let hv = part_with w from p [] s in
    let m = length names + 1 + length p.flags in
    let t7 = join (part_spelling w m p s) rest in
    let t6 = (names ++ 0 ∷ []) ++ t7 in
    let t5 = count_word (length s.table) ++ t6 in
    let t4 = count_word (length p.texts) ++ t5 in
    let t3 = count_word (length p.numbers) ++ t4 in
    let t2 = count_word (length p.flags) ++ t3 in
    let t1 = count_word (length names + 1) ++ t2 in
    let whole : HasFrom bytes 0 (magic w ++ t1) = record { room = omega (arith, ap length h.joined); is = h.joined } in
    let c1 = count_at bytes t2 2 (length names + 1) h.few_names (after bytes (magic w) t1 0 2 2 refl refl whole) in
    let c2 = count_at bytes t3 4 (length p.flags) few.few_flags c1.next in
    let c3 = count_at bytes t4 6 (length p.numbers) few.few_numbers c2.next in
    let c4 = count_at bytes t5 8 (length p.texts) few.few_texts c3.next in
    let c5 = count_at bytes t6 10 (length s.table) few.small_table c4.next in
    let h0 : width_of bytes ≡ Some w = ap width_of h.joined ∙ starts w in
    let h1 = c1.is in
    let h2 = c2.is in
    let h3 = c3.is in
    let h4 = c4.is in
    let h5 = c5.is in
    let hd : standard bytes ≡ hv = rw (h0, h1, h2, h3, h4, h5) refl in
    -- names
    let front : HasFrom bytes 12 (names ++ (0 ∷ t7)) = subst (HasFrom bytes 12) (append_assoc names (0 ∷ []) t7) c5.next in
    let n = bytes_read bytes (0 ∷ t7) (λ b. b) (λ b. b ≢ 0) (item_check bytes item.Name) (λ q. get_or bytes q 0)
    (λ q b some k. let no : eqb b 0 ≡ false = ne_eqb b 0 some in (record { long = k.room; holds = ap (λ c. not (is_nul c)) k.is ∙ ap not no }, k.is))
    12 names names (map-id names) h.names_fit front in
    let nul = byte_at bytes t7 (12 + 1 * length names) 0 n.next in
    let last : 12 + 1 * length names ≡ from - 1 = omega arith in
    let count : from - 13 ≡ length names = omega arith in
    let names_size : from - 1 - 12 ≡ length names = omega arith in
    let names_same : slice_range bytes 12 (from - 1) ≡ names = ap (λ k. take k (drop 12 bytes)) names_size ∙ ap (take (length names)) front.is ∙ take_at names (0 ∷ t7) (length names) refl in
    -- the part
    let even : flags_end hv % 2 ≡ pad_len m = omega arith in
    let r = part_read bytes rest w from m p [] s even few (after bytes (0 ∷ []) t7 (12 + 1 * length names) 1 from refl (omega arith) n.next) in
    let long : end_of hv ≤ len = omega (arith, r.next.room) in
    -- the checks
    let size : Passed len (size_check hv) = record { long = omega arith; holds = le-leb _ _ (omega arith) } in
    let name : Passed len (named_check hv) = record { long = omega arith; holds = le-leb _ _ (omega arith) } in
    let header : Passes ≡ verdict len (items_checks bytes (items (item.Sign BadHeader) 2 5) ++ size_checks hv) =
    passes_list len (items_checks bytes (items (item.Sign BadHeader) 2 5) ++ size_checks hv) (c1.passed BadHeader, (c2.passed BadHeader, (c3.passed BadHeader, (c4.passed BadHeader, (c5.passed BadHeader, (size, (name, tt))))))) in
    let names_pass : Passes ≡ verdict len (items_checks bytes (items item.Name 12 (from - 13)) ++ nul_check bytes BadNames (from - 1) ∷ []) =
    append_pass len (items_checks bytes (items item.Name 12 (from - 13))) (nul_check bytes BadNames (from - 1) ∷ []) (rw count n.passes)
    (passes_list len (nul_check bytes BadNames (from - 1) ∷ []) (rw (← last) (record { long = nul.room; holds = ap is_nul nul.is }, tt))) in
    let back = sym hd in
    let started = passes_list len (magic_check bytes ∷ []) (record { long = omega arith; holds = ap is_some h0 }, tt) in
    let header_back = subst (λ h. Passes ≡ verdict len (items_checks bytes (items (item.Sign BadHeader) 2 5) ++ size_checks h)) back header in
    let names_back = subst (λ (h : Part). Passes ≡ verdict len (items_checks bytes (items item.Name 12 (h.flags_from - 13)) ++ nul_check bytes BadNames (h.flags_from - 1) ∷ [])) back names_pass in
    record {
      passes = (started, (header_back, (names_back, passes_part bytes Standard (subst (PartPasses bytes) back r.passes))));
      named = subst (λ (h : Part). 14 ≤ h.flags_from) back (omega arith);
      width = ap (λ (h : Part). h.width) hd;
      names = subst (λ (h : Part). slice_range bytes 12 (h.flags_from - 1) ≡ names) back names_same;
      said = subst (λ h. part_in bytes h ≡ v.standard) back r.said;
      table_size = h5;
      next = subst (λ h. HasFrom bytes (end_of h) rest) back r.next;
    }
