-- The sections of a part, of whichever half of an entry: their checks one by one, and their bytes one after the other.
use Rattle.std.proofs.Common.{◌≡◌, ℕ, ◌+◌, ◌*◌, ◌%◌, ◌^◌, ◌<◌, ◌≤◌, ℤ, pos, List, [], ◌∷◌, ◌++◌, map, length, ltb, take, drop, refl, sym, ap, subst, ◌∙◌, arith}
use Rattle.std.proofs.lemmas.List.{drop-drop, take-append-drop, take_at}
use Rattle.std.specs.List.{AllByRecursion, flat_map}
use Rattle.ti_words.specs.Value.{PartValue}
use Rattle.ti_words.specs.declared.Width.{Width}
use Rattle.ti_words.specs.Word.{unsigned_at, word_at}
use Rattle.ti_words.specs.Widths.{number_size}
use Rattle.ti_words.specs.Spelling.{pad_len, IsName, Each, words_of, numbers_of, flags_of, pad, Strings, SpellsPart, join, part_spelling, texts_size}
use Rattle.ti_layout.specs.declared.fault.Fault.TheVariants.{BadExtendedName, Unterminated}
use Rattle.ti_layout.specs.declared.part.Part.{Part}
use Rattle.ti_layout.specs.Layout.{places, flags_end, numbers_from, offsets_from, names_from, table_from, end_of, standard}
use Rattle.ti_layout.specs.Table.{text_from, table_of, base_of, ends_in}
use Rattle.ti_layout.specs.Checks.{Check, Passes, verdict, pad_checks, ending_check, ending_checks, table_check, all_name_place_checks, check, is_offset_below, is_ended}
use Rattle.ti_layout.specs.declared.section.Half.{Half}
use Rattle.ti_layout.specs.declared.section.Section.{Section}
use Rattle.ti_layout.specs.declared.section.Section.TheVariants.{TableEnd, End}
use Rattle.ti_layout.specs.declared.section.SectionItem.TheVariants as item
use Rattle.ti_layout.specs.Refusal.{extended_sections, item_check, items, items_checks, part_of, part_sections, text_checks}
use Rattle.ti_layout.specs.Content.{text_at, name_from, flags_in, numbers_in, texts_in, part_in, extended_part}
use Rattle.ti_layout.proofs.EndsLemmas.{SectionPasses}
use Rattle.ti_layout.proofs.NamePlaceChecksLemmas.{table_length}
use Rattle.ti_layout.proofs.PassesLemmas.{first_passes}
use Rattle.ti_layout.proofs.WordLemmas.{IsBytes}
use Rattle.ti_layout.proofs.SectionReadLemmas.{Passed, both_pass, each_passed, each_item}
use Rattle.ti_entry.proofs.NamedItemsLemmas.{part_counts, sizes_are_base}
use Rattle.ti_layout.proofs.TextLemmas.{ends}
use Rattle.ti_entry.proofs.KindsFoundLemmas.{flags_are, pad_is, numbers_are, words_are, numbers_fit, texts_are, is_place}
use Rattle.ti_entry.proofs.SpelledItemsLemmas.{HasFrom, after, WordAt, CountAt, passes_one, IsGood}
use Rattle.ti_entry.proofs.KindsSpelledLemmas.{append_pass, passes_both, flags_read, pad_read, numbers_read, texts_read, names_read}

-- ---- evenness

size_even : (w : Width) (n : ℕ) → number_size w * n % 2 ≡ 0
size_even w n = grind arith

-- a string table starts at an even place, so a pad follows one of odd size
pub end_even : (p : Part) → end_of p % 2 ≡ pad_len p.table
end_even p = omega (arith, size_even p.width p.numbers)

-- ---- the checks of a part

-- the sections after the string table of the standard part
abbrev pub later_sections : List Section
later_sections = TableEnd ∷ (extended_sections ++ (End ∷ []))

pub record PartPasses (bytes : List ℕ) (p : Part) : Type 0 where
  pub flags : Passes ≡ verdict (length bytes) (items_checks bytes (items item.Flag p.flags_from p.flags))
  pub zero : Passes ≡ verdict (length bytes) (pad_checks bytes (flags_end p))
  pub numbers : Passes ≡ verdict (length bytes) (items_checks bytes (items (item.Number p.width) (numbers_from p) p.numbers))
  pub offsets : Passes ≡ verdict (length bytes) (items_checks bytes (items (item.Offset p.table) (offsets_from p) p.texts))
  pub names : Passes ≡ verdict (length bytes) (items_checks bytes (items (item.Sign BadExtendedName) (names_from p) p.names))
  pub endings : Passes ≡ verdict (length bytes) (ending_checks bytes (table_of bytes p) (end_of p) (offsets_from p) p.texts)
  pub name_places : Passes ≡ verdict (length bytes) (all_name_place_checks bytes (table_of bytes p) (base_of bytes p) (end_of p) (places (names_from p) 2 p.names))

-- the four sections of a part pass
pub part_passes : (bytes : List ℕ) (half : Half) → AllByRecursion (SectionPasses bytes) (part_sections half) → PartPasses bytes (part_of half (standard bytes) (extended_part bytes))
part_passes bytes half h =
    let len = length bytes in
    let p = part_of half (standard bytes) (extended_part bytes) in
    let flags = both_pass len (items_checks bytes (items item.Flag p.flags_from p.flags)) (pad_checks bytes (flags_end p)) h.0 in
    let numbers = both_pass len (items_checks bytes (items (item.Number p.width) (numbers_from p) p.numbers)) [] h.1.0 in
    let offsets = both_pass len (items_checks bytes (items (item.Offset p.table) (offsets_from p) p.texts)) [] h.1.1.0 in
    let names = both_pass len (items_checks bytes (items (item.Sign BadExtendedName) (names_from p) p.names)) (text_checks bytes p) h.1.1.1.0 in
    let t = both_pass len (ending_checks bytes (table_of bytes p) (end_of p) (offsets_from p) p.texts) _ names.1 in
    record { flags = flags.0; zero = flags.1; numbers = numbers.0; offsets = offsets.0; names = names.0; endings = t.0; name_places = t.1 }

pub text_checks_pass : (bytes : List ℕ) (p : Part) → PartPasses bytes p → Passes ≡ verdict (length bytes) (text_checks bytes p)
text_checks_pass bytes p h = append_pass (length bytes) (ending_checks bytes (table_of bytes p) (end_of p) (offsets_from p) p.texts) _ h.endings h.name_places

pub passes_part : (bytes : List ℕ) (half : Half) → PartPasses bytes (part_of half (standard bytes) (extended_part bytes)) → AllByRecursion (SectionPasses bytes) (part_sections half)
passes_part bytes half h =
    let len = length bytes in
    let p = part_of half (standard bytes) (extended_part bytes) in
    let flags = append_pass len (items_checks bytes (items item.Flag p.flags_from p.flags)) (pad_checks bytes (flags_end p)) h.flags h.zero in
    let numbers = append_pass len (items_checks bytes (items (item.Number p.width) (numbers_from p) p.numbers)) [] h.numbers refl in
    let offsets = append_pass len (items_checks bytes (items (item.Offset p.table) (offsets_from p) p.texts)) [] h.offsets refl in
    let names = append_pass len (items_checks bytes (items (item.Sign BadExtendedName) (names_from p) p.names)) (text_checks bytes p) h.names (text_checks_pass bytes p h) in
    (flags, (numbers, (offsets, (names, tt))))

-- ---- the bytes of a part whose checks pass

-- a section and what follows it
pub joins : (bytes s t : List ℕ) (p n q : ℕ) → p + n ≡ q → take n (drop p bytes) ≡ s → drop q bytes ≡ t → drop p bytes ≡ s ++ t
joins bytes s t p n q at is rest =
    sym (take-append-drop n (drop p bytes)) ∙ ap (λ l. l ++ drop n (drop p bytes)) is
    ∙ ap (λ l. s ++ l) (drop-drop n p bytes ∙ ap (λ k. drop k bytes) at ∙ rest)

-- the words of the texts and of the names, and the table
abbrev pub strings_in : List ℕ → Part → Strings
strings_in bytes p = record {
  offsets = map (word_at 2 bytes) (places (offsets_from p) 2 p.texts);
  name_offsets = map (word_at 2 bytes) (places (names_from p) 2 p.names);
  table = table_of bytes p;
}

-- the sections of a part
pub part_joined : (bytes : List ℕ) (m : ℕ) (p : Part) → IsBytes bytes → PartPasses bytes p → end_of p ≤ length bytes → flags_end p % 2 ≡ pad_len m
    → drop p.flags_from bytes ≡ join (part_spelling p.width m (part_in bytes p) (strings_in bytes p)) (drop (end_of p) bytes)
part_joined bytes m p fits h there even =
    let s = strings_in bytes p in
    let t6 = joins bytes s.table (drop (end_of p) bytes) (table_from p) p.table (end_of p) refl refl refl in
    let t5 = joins bytes (words_of s.name_offsets) _ (names_from p) (2 * p.names) (table_from p) refl (words_are bytes (names_from p) p.names fits (omega arith)) t6 in
    let t4 = joins bytes (words_of s.offsets) _ (offsets_from p) (2 * p.texts) (names_from p) refl (words_are bytes (offsets_from p) p.texts fits (omega arith)) t5 in
    let t3 = joins bytes (numbers_of p.width (numbers_in bytes p)) _ (numbers_from p) (number_size p.width * p.numbers) (offsets_from p) refl (numbers_are p.width bytes (numbers_from p) p.numbers fits h.numbers) t4 in
    let t2 = joins bytes (pad m) _ (flags_end p) (pad_len m) (numbers_from p) (omega arith) (pad_is bytes (flags_end p) m even h.zero) t3 in
    joins bytes (flags_of (flags_in bytes p)) _ p.flags_from p.flags (flags_end p) refl (flags_are bytes p.flags_from p.flags h.flags) t2

-- ---- what a part says whose checks pass

-- the second of two checks of each item
second_passes : (f g : ℕ → Check) (len : ℕ) (ps : List ℕ) → Passes ≡ verdict len (flat_map (λ p. f p ∷ g p ∷ []) ps) → Passes ≡ verdict len (map g ps)
second_passes f g len [] h = refl
second_passes f g len (p ∷ ps) h =
    let rest = flat_map (λ p. f p ∷ g p ∷ []) ps in
    let t = first_passes len (f p) (g p ∷ rest) h in
    let u = first_passes len (g p) rest t.rest in
    passes_one len (g p) (map g ps) (record { long = u.long; holds = u.holds }) (second_passes f g len ps u.rest)

-- words can hold the counts of a part
pub record HasFew (p : Part) : Type 0 where
  pub flags : p.flags < 2 ^ 15
  pub numbers : p.numbers < 2 ^ 15
  pub texts : p.texts < 2 ^ 15
  pub table : p.table < 2 ^ 15

pub part_found : (bytes : List ℕ) (p : Part) → IsBytes bytes → PartPasses bytes p → end_of p ≤ length bytes → HasFew p
    → SpellsPart p.width (strings_in bytes p) (part_in bytes p) (map (name_from bytes p (base_of bytes p)) (places (names_from p) 2 p.names))
part_found bytes p fits h there few =
    let len = length bytes in
    let s = strings_in bytes p in
    let base = base_of bytes p in
    let counts = part_counts bytes p in
    let size : length s.table ≡ p.table = table_length bytes p there in
    let signed = each_passed (item_check bytes (item.Sign BadExtendedName)) len (names_from p) 2 p.names h.names in
    let first = λ (q : ℕ). check (end_of p) (ltb (base + unsigned_at 2 bytes q) (length s.table)) BadExtendedName q in
    let second = λ (q : ℕ). check (end_of p) (ends_in s.table (base + unsigned_at 2 bytes q)) Unterminated q in
    let ended = each_passed second len (names_from p) 2 p.names (second_passes first second len (places (names_from p) 2 p.names) h.name_places) in
    let named : Each (IsName s.table base) s.name_offsets (map (name_from bytes p (base_of bytes p)) (places (names_from p) 2 p.names)) =
    each_item (IsName s.table base) (word_at 2 bytes) (name_from bytes p (base_of bytes p)) (names_from p) 2 p.names (λ i lt.
    let q = names_from p + 2 * i in
    let text = ends (drop (base + unsigned_at 2 bytes q) s.table) (ended i lt).holds in
    (unsigned_at 2 bytes q, (is_place bytes q fits (signed i lt).holds).1, text.clean, record { found = text.found })) in
    record {
      few_flags = rw counts.of_flags few.flags;
      few_numbers = rw counts.of_numbers few.numbers;
      few_texts = rw counts.of_texts few.texts;
      small_table = rw size few.table;
      numbers_fit = numbers_fit p.width bytes (numbers_from p) p.numbers fits;
      texts_there = texts_are bytes s.table (end_of p) (offsets_from p) p.texts (h.offsets ∙ ap (λ n. verdict len (items_checks bytes (items (item.Offset n) (offsets_from p) p.texts))) (sym size)) h.endings;
      names_there = subst (λ b. Each (IsName s.table b) s.name_offsets (map (name_from bytes p (base_of bytes p)) (places (names_from p) 2 p.names))) (sym (sizes_are_base bytes p)) named;
    }

-- ---- a part that is spelled

-- the part that has these sections
abbrev pub part_with : Width → ℕ → PartValue → List (List ℕ) → Strings → Part
part_with w from v names s = record {
  width = w;
  flags_from = from;
  flags = length v.flags;
  numbers = length v.numbers;
  texts = length v.texts;
  names = length names;
  table = length s.table;
}

-- what a reading makes of them, and what follows them
pub record PartRead (bytes : List ℕ) (p : Part) (v : PartValue) (its_names : List (List ℕ)) (rest : List ℕ) : Type 0 where
  pub passes : PartPasses bytes p
  pub said : part_in bytes p ≡ v
  pub names : map (name_from bytes p (base_of bytes p)) (places (names_from p) 2 p.names) ≡ its_names
  pub next : HasFrom bytes (end_of p) rest

pub part_read : (bytes rest : List ℕ) (w : Width) (from m : ℕ) (v : PartValue) (its_names : List (List ℕ)) (s : Strings)
    → flags_end (part_with w from v its_names s) % 2 ≡ pad_len m → SpellsPart w s v its_names → HasFrom bytes from (join (part_spelling w m v s) rest)
    → PartRead bytes (part_with w from v its_names s) v its_names rest
part_read bytes rest w from m v its_names s even h there =
    let len = length bytes in
    let p = part_with w from v its_names s in
    let base = texts_size v.texts in
    let table = s.table in
    let q6 = table ++ rest in
    let q5 = words_of s.name_offsets ++ q6 in
    let q4 = words_of s.offsets ++ q5 in
    let q3 = numbers_of w v.numbers ++ q4 in
    let q2 = pad m ++ q3 in
    let f = flags_read bytes q2 from v.flags there in
    let end_flags : from + 1 * length v.flags ≡ flags_end p = omega arith in
    let z = pad_read bytes q3 (flags_end p) m even (subst (λ k. HasFrom bytes k q2) end_flags f.next) in
    let n = numbers_read w bytes q4 (numbers_from p) v.numbers h.numbers_fit z.1 in
    let texts = λ (c : ℕ → Check) (one : (q : ℕ) (z : ℤ) → WordAt 2 bytes q z → IsGood table z → Passed len (c q)).
    texts_read bytes table q5 (offsets_from p) s.offsets v.texts c one h.small_table h.texts_there n.next in
    let t = texts (item_check bytes (item.Offset (length table))) (λ q z k g. record { long = k.room; holds = ap (is_offset_below (length table)) k.is ∙ g.below_size }) in
    let names = λ (c : ℕ → Check) (one : (q n : ℕ) (t : List ℕ) → CountAt bytes q n t → IsGood table (pos (base + n)) → Passed len (c q)).
    names_read bytes table q6 base (names_from p) s.name_offsets its_names c one h.small_table h.names_there t.next in
    let o = names (item_check bytes (item.Sign BadExtendedName)) (λ q n t k g. k.passed BadExtendedName) in
    let end = after bytes table rest (table_from p) (length table) (end_of p) refl refl o.next in
    let long : end_of p ≤ len = omega (arith, end.room) in
    let table_is : table_of bytes p ≡ table = ap (take (length table)) o.next.is ∙ take_at table rest (length table) refl in
    let ended = texts (ending_check bytes table (end_of p)) (λ q z k g. record { long = long; holds = ap (is_ended table) k.is ∙ g.ended }) in
    let first = λ (q : ℕ). check (end_of p) (ltb (base + unsigned_at 2 bytes q) (length table)) BadExtendedName q in
    let second = λ (q : ℕ). check (end_of p) (ends_in table (base + unsigned_at 2 bytes q)) Unterminated q in
    let placed = names first (λ q n t k g. record { long = long; holds = ap (λ m. ltb (base + m) (length table)) k.is ∙ g.below_size }) in
    let closed = names second (λ q n t k g. record { long = long; holds = ap (λ m. ends_in table (base + m)) k.is ∙ g.ended }) in
    let texts_same : texts_in bytes p ≡ v.texts = ap (λ l. map (text_at l bytes) (places (offsets_from p) 2 (length v.texts))) table_is ∙ t.same in
    let base_same : base_of bytes p ≡ base = sym (sizes_are_base bytes p) ∙ ap texts_size texts_same in
    let flags_same : flags_in bytes p ≡ v.flags = f.same in
    let numbers_same : numbers_in bytes p ≡ v.numbers = n.same in
    record {
      passes = record {
        flags = f.passes;
        zero = z.0;
        numbers = n.passes;
        offsets = t.passes;
        names = o.passes;
        endings = passes_one len (table_check (end_of p)) (map (ending_check bytes table (end_of p)) (places (offsets_from p) 2 p.texts)) (record { long = long; holds = refl }) ended.passes
            ∙ ap (λ l. verdict len (ending_checks bytes l (end_of p) (offsets_from p) p.texts)) (sym table_is);
        name_places = passes_both first second len (places (names_from p) 2 p.names) placed.passes closed.passes
            ∙ ap (λ b. verdict len (all_name_place_checks bytes table b (end_of p) (places (names_from p) 2 p.names))) (sym base_same)
            ∙ ap (λ l. verdict len (all_name_place_checks bytes l (base_of bytes p) (end_of p) (places (names_from p) 2 p.names))) (sym table_is);
      };
      said = rw (flags_same, numbers_same, texts_same) refl;
      names = ap (λ b. map (λ q. text_from (table_of bytes p) (b + unsigned_at 2 bytes q)) (places (names_from p) 2 p.names)) base_same
          ∙ ap (λ l. map (λ q. text_from l (base + unsigned_at 2 bytes q)) (places (names_from p) 2 p.names)) table_is ∙ o.same;
      next = end;
    }
