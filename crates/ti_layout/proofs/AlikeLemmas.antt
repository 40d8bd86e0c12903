-- Checks whose prefix is there say the same of every continuation of the input.
use Rattle.std.proofs.Common.{◌≡◌, ℕ, zero, suc, ◌+◌, ◌-◌, ◌*◌, ◌%◌, ◌≤◌, Bool, true, false, not, List, [], ◌∷◌, ◌++◌, length, get_or, take, drop, refl, sym, ap, subst, ◌∙◌, arith}
use Rattle.std.proofs.lemmas.Bool.Decides.{nat_tests}
use Rattle.std.proofs.lemmas.List.{get_or_append_left, length-append, take-append-le, drop-append-le, length-drop}
use Rattle.std.proofs.lemmas.List.Concat.{flat_map-cons}
use Rattle.std.specs.List.{flat_map}
use Rattle.std.specs.Prelude.{is_some, nat_le}
use Rattle.ti_base.specs.Limits.{most_entry_bytes}
use Rattle.ti_words.specs.Marks.{flag_of_byte}
use Rattle.ti_layout.specs.declared.fault.Fault.{Fault}
use Rattle.ti_layout.specs.declared.fault.Fault.TheVariants.{BadPad}
use Rattle.ti_layout.specs.declared.part.Part.{Part}
use Rattle.ti_layout.specs.declared.section.SectionItem.{SectionItem}
use Rattle.ti_layout.specs.declared.section.SectionItem.TheVariants.{Sign, Name, Flag, Number, Offset}
use Rattle.ti_layout.specs.declared.section.SectionItems.{SectionItems}
use Rattle.ti_layout.specs.declared.section.Section.{Section}
use Rattle.ti_layout.specs.declared.section.Section.TheVariants.{Magic, Header, Names, Flags, NameOffsets, TableEnd, ExtendedHeader, End}
use Rattle.ti_words.specs.Word.{unsigned_at, signed}
use Rattle.ti_words.specs.Widths.{number_size}
use Rattle.ti_words.specs.Spelling.{Each}
use Rattle.ti_words.specs.Texts.{is_nul}
use Rattle.ti_layout.specs.Layout.{standard, places, flags_end, offsets_from, names_from, table_from, end_of, extended_from, extended_after}
use Rattle.ti_layout.specs.Table.{table_of, sizes_at, base_of}
use Rattle.ti_layout.specs.Checks.{Check, Verdict, Passes, Ends, verdict, is_number_word, is_not_negative, is_offset_below, nul_check, pad_checks, ending_check, ending_checks, name_place_checks, all_name_place_checks}
use Rattle.ti_layout.specs.Refusal.{item_check, item_size, item_holds, items_checks, part_of, closing_checks, text_checks}
use Rattle.ti_layout.specs.Stages.{is_whole}
use Rattle.ti_layout.proofs.SectionReadLemmas.{each_item}

-- two checks that are one if their front is there, and before which an entry may end only if it may be whole
pub record Alike (len : ℕ) (whole : Bool) (c d : Check) : Type 0 where
  pub same_front : c.prefix ≡ d.prefix
  pub same : c.prefix ≤ len → c ≡ d
  pub inner : whole ≡ false → c.may_end ≡ false

alike_by : {len prefix place : ℕ} {whole a b : Bool} {fault : Fault} → (prefix ≤ len → a ≡ b)
    → Alike len whole (record { prefix = prefix; may_end = false; holds = a; fault = fault; place = place }) (record { prefix = prefix; may_end = false; holds = b; fault = fault; place = place })
alike_by same = record { same_front = refl; same = λ le. rw (same le) refl; inner = λ e. refl }

each_append : {A B : Type 0} (R : A → B → Type 0) (xs : List A) (ys : List B) (xs' : List A) (ys' : List B) → Each R xs ys → Each R xs' ys' → Each R (xs ++ xs') (ys ++ ys')
each_append R [] [] xs' ys' h k = k
each_append R [] (y ∷ ys) xs' ys' h k = absurd h
each_append R (x ∷ xs) [] xs' ys' h k = absurd h
each_append R (x ∷ xs) (y ∷ ys) xs' ys' h k = (h.0, each_append R xs ys xs' ys' h.1 k)

-- not cut off by the end of the input
abbrev pub settled : Verdict → Bool
settled (Ends may_end) = false
settled _ = true

one_stays : (len longer : ℕ) (c d : Check) (cs ds : List Check) → len ≤ longer → c.prefix ≡ d.prefix → (c.prefix ≤ len → c ≡ d) → (settled (verdict len cs) ≡ true → verdict longer ds ≡ verdict len cs)
    → settled (verdict len (c ∷ cs)) ≡ true → verdict longer (d ∷ ds) ≡ verdict len (c ∷ cs)
one_stays len longer c d cs ds le front same rest e = grind (arith, nat_tests)

-- what is settled stays so
pub stays : (len longer : ℕ) (whole : Bool) (cs ds : List Check) → len ≤ longer → Each (Alike len whole) cs ds → settled (verdict len cs) ≡ true → verdict longer ds ≡ verdict len cs
stays len longer whole [] [] le h e = refl
stays len longer whole [] (d ∷ ds) le h e = absurd h
stays len longer whole (c ∷ cs) [] le h e = absurd h
stays len longer whole (c ∷ cs) (d ∷ ds) le h e = one_stays len longer c d cs ds le h.0.same_front h.0.same (stays len longer whole cs ds le h.1) e

-- ---- what is read of bytes that are there

byte_same : (xs ys : List ℕ) (p : ℕ) → p + 1 ≤ length xs → get_or xs p 0 ≡ get_or (xs ++ ys) p 0
byte_same xs ys p le = sym (get_or_append_left xs ys 0 p (omega arith))

number_same : (size : ℕ) (xs ys : List ℕ) (p : ℕ) → p + size ≤ length xs → unsigned_at size xs p ≡ unsigned_at size (xs ++ ys) p
number_same zero xs ys p le = refl
number_same (suc size) xs ys p le = rw (byte_same xs ys p (omega arith), number_same size xs ys (p + 1) (omega arith)) refl

pub standard_same : (xs ys : List ℕ) → 12 ≤ length xs → standard xs ≡ standard (xs ++ ys)
standard_same xs ys le =
    let word : (p : ℕ) → p + 2 ≤ length xs → unsigned_at 2 xs p ≡ unsigned_at 2 (xs ++ ys) p = number_same 2 xs ys in
    rw (word 0 (omega arith), word 2 (omega arith), word 4 (omega arith), word 6 (omega arith), word 8 (omega arith), word 10 le) refl

pub extended_same : (xs ys : List ℕ) (s : Part) → extended_from s + 10 ≤ length xs → extended_after s xs ≡ extended_after s (xs ++ ys)
extended_same xs ys s le =
    let from = extended_from s in
    let word : (p : ℕ) → p + 2 ≤ length xs → unsigned_at 2 xs p ≡ unsigned_at 2 (xs ++ ys) p = number_same 2 xs ys in
    rw (word from (omega arith), word (from + 2) (omega arith), word (from + 4) (omega arith), word (from + 8) (omega arith)) refl

table_same : (xs ys : List ℕ) (h : Part) → end_of h ≤ length xs → table_of xs h ≡ table_of (xs ++ ys) h
table_same xs ys h le =
    let d : drop (table_from h) (xs ++ ys) ≡ drop (table_from h) xs ++ ys = drop-append-le (table_from h) xs ys (omega arith) in
    let n : h.table ≤ length (drop (table_from h) xs) = omega (arith, length-drop (table_from h) xs) in
    sym (ap (take h.table) d ∙ take-append-le h.table (drop (table_from h) xs) ys n)

sizes_same : (xs ys table : List ℕ) (from count : ℕ) → from + 2 * count ≤ length xs → sizes_at xs table (places from 2 count) ≡ sizes_at (xs ++ ys) table (places from 2 count)
sizes_same xs ys table from zero le = refl
sizes_same xs ys table from (suc count) le = rw (number_same 2 xs ys from (omega arith), sizes_same xs ys table (from + 2) count (omega arith)) refl

pub base_same : (xs ys : List ℕ) (p : Part) → end_of p ≤ length xs → base_of xs p ≡ base_of (xs ++ ys) p
base_same xs ys p le =
    sizes_same xs ys (table_of xs p) (offsets_from p) p.texts (omega arith)
    ∙ ap (λ t. sizes_at (xs ++ ys) t (places (offsets_from p) 2 p.texts)) (table_same xs ys p le)

-- ---- the checks of a section

item_same : (item : SectionItem) (xs ys : List ℕ) (p : ℕ) → p + item_size item ≤ length xs → item_holds xs item p ≡ item_holds (xs ++ ys) item p
item_same (Sign fault) xs ys p le = ap (λ k. is_not_negative (signed 2 k)) (number_same 2 xs ys p le)
item_same Name xs ys p le = ap (λ b. not (is_nul b)) (byte_same xs ys p le)
item_same Flag xs ys p le = ap (λ b. is_some (flag_of_byte b)) (byte_same xs ys p le)
item_same (Number width) xs ys p le = ap (λ k. is_number_word (signed (number_size width) k)) (number_same (number_size width) xs ys p le)
item_same (Offset table_size) xs ys p le = ap (λ k. is_offset_below table_size (signed 2 k)) (number_same 2 xs ys p le)

items_alike : (whole : Bool) (it : SectionItems) (xs ys : List ℕ) → Each (Alike (length xs) whole) (items_checks xs it) (items_checks (xs ++ ys) it)
items_alike whole it xs ys =
    each_item (Alike (length xs) whole) (item_check xs it.item) (item_check (xs ++ ys) it.item) it.at (item_size it.item) it.left (λ i lt. alike_by (λ le. item_same it.item xs ys (it.at + item_size it.item * i) le))

pub pads_alike : (whole : Bool) (xs ys : List ℕ) (place : ℕ) → Each (Alike (length xs) whole) (pad_checks xs place) (pad_checks (xs ++ ys) place)
pads_alike whole xs ys place = each_item (Alike (length xs) whole) (nul_check xs BadPad) (nul_check (xs ++ ys) BadPad) place 1 (place % 2) (λ i lt. alike_by (λ le. ap is_nul (byte_same xs ys (place + 1 * i) le)))

-- the two checks of each name
names_alike : (whole : Bool) (xs ys : List ℕ) (x : Part) (from count : ℕ) → from + 2 * count ≤ end_of x
    → Each (Alike (length xs) whole) (all_name_place_checks xs (table_of xs x) (base_of xs x) (end_of x) (places from 2 count)) (all_name_place_checks (xs ++ ys) (table_of (xs ++ ys) x) (base_of (xs ++ ys) x) (end_of x) (places from 2 count))
names_alike whole xs ys x from zero le = tt
names_alike whole xs ys x from (suc count) le =
    let zs = xs ++ ys in
    let f = name_place_checks xs (table_of xs x) (base_of xs x) (end_of x) in
    let g = name_place_checks zs (table_of zs x) (base_of zs x) (end_of x) in
    let ps = places (from + 2) 2 count in
    let pair : Each (Alike (length xs) whole) (f from ++ flat_map f ps) (g from ++ flat_map g ps) = (
      alike_by (λ there. rw (base_same xs ys x there, table_same xs ys x there, number_same 2 xs ys from (omega arith)) refl),
      (alike_by (λ there. rw (base_same xs ys x there, table_same xs ys x there, number_same 2 xs ys from (omega arith)) refl), names_alike whole xs ys x (from + 2) count (omega arith)),
    ) in
    subst (λ cs. Each (Alike (length xs) whole) cs (flat_map g (from ∷ ps))) (sym (flat_map-cons f from ps)) (subst (λ ds. Each (Alike (length xs) whole) (f from ++ flat_map f ps) ds) (sym (flat_map-cons g from ps)) pair)

texts_alike : (whole : Bool) (xs ys : List ℕ) (p : Part) → Each (Alike (length xs) whole) (text_checks xs p) (text_checks (xs ++ ys) p)
texts_alike whole xs ys p =
    let zs = xs ++ ys in
    each_append (Alike (length xs) whole) (ending_checks xs (table_of xs p) (end_of p) (offsets_from p) p.texts) (ending_checks zs (table_of zs p) (end_of p) (offsets_from p) p.texts) _ _ (
      alike_by (λ le. refl),
      each_item (Alike (length xs) whole) (ending_check xs (table_of xs p) (end_of p)) (ending_check zs (table_of zs p) (end_of p)) (offsets_from p) 2 p.texts (λ i lt. alike_by (λ there. rw (table_same xs ys p there, number_same 2 xs ys (offsets_from p + 2 * i) (omega arith)) refl)),
    ) (names_alike whole xs ys p (names_from p) p.names (omega arith))

closing_alike : (section : Section) (xs ys : List ℕ) (s x : Part) → Each (Alike (length xs) (is_whole section)) (closing_checks section s x xs) (closing_checks section s x (xs ++ ys))
closing_alike Magic xs ys s x = (alike_by (λ le. rw (number_same 2 xs ys 0 le) refl), tt)
closing_alike Header xs ys s x = (
  alike_by (λ le. ap (λ (h : Part). nat_le (end_of h) most_entry_bytes) (standard_same xs ys le)),
  (alike_by (λ le. ap (λ (h : Part). nat_le 14 h.flags_from) (standard_same xs ys le)), tt),
)
closing_alike Names xs ys s x = (alike_by (λ le. ap is_nul (byte_same xs ys (s.flags_from - 1) le)), tt)
closing_alike (Flags half) xs ys s x = pads_alike false xs ys (flags_end (part_of half s x))
closing_alike (NameOffsets half) xs ys s x = texts_alike false xs ys (part_of half s x)
closing_alike TableEnd xs ys s x = (record { same_front = refl; same = λ le. refl; inner = λ e. absurd cc }, pads_alike true xs ys (end_of s))
closing_alike ExtendedHeader xs ys s x = (
  alike_by (λ le. ap (λ k. is_not_negative (signed 2 k)) (number_same 2 xs ys (extended_from s + 8) le)),
  (alike_by (λ le. ap (λ (h : Part). nat_le (end_of h) most_entry_bytes) (extended_same xs ys s le)), tt),
)
closing_alike End xs ys s x = (record { same_front = refl; same = λ le. refl; inner = λ e. absurd cc }, tt)
closing_alike _ xs ys s x = tt

pub section_alike : (it : SectionItems) (section : Section) (s x : Part) (xs ys : List ℕ)
    → Each (Alike (length xs) (is_whole section)) (items_checks xs it ++ closing_checks section s x xs) (items_checks (xs ++ ys) it ++ closing_checks section s x (xs ++ ys))
section_alike it section s x xs ys =
    let zs = xs ++ ys in
    each_append (Alike (length xs) (is_whole section)) (items_checks xs it) (items_checks zs it) (closing_checks section s x xs) (closing_checks section s x zs) (items_alike (is_whole section) it xs ys) (closing_alike section xs ys s x)

-- what is settled of a section, or of the items of it that are left, is so on every continuation
within : (xs ys : List ℕ) → length xs ≤ length (xs ++ ys)
within xs ys = omega (arith, length-append xs ys)

pub section_stays : (it : SectionItems) (section : Section) (s x : Part) (xs ys : List ℕ) → settled (verdict (length xs) (items_checks xs it ++ closing_checks section s x xs)) ≡ true
    → verdict (length (xs ++ ys)) (items_checks (xs ++ ys) it ++ closing_checks section s x (xs ++ ys)) ≡ verdict (length xs) (items_checks xs it ++ closing_checks section s x xs)
section_stays it section s x xs ys e = stays (length xs) (length (xs ++ ys)) (is_whole section) _ _ (within xs ys) (section_alike it section s x xs ys) e

pub items_stay : (it : SectionItems) (xs ys : List ℕ) → Passes ≡ verdict (length xs) (items_checks xs it) → verdict (length (xs ++ ys)) (items_checks (xs ++ ys) it) ≡ Passes
items_stay it xs ys p = stays (length xs) (length (xs ++ ys)) true _ _ (within xs ys) (items_alike true it xs ys) (ap settled (sym p)) ∙ sym p

pub closing_stays : (section : Section) (s x : Part) (xs ys : List ℕ) → Passes ≡ verdict (length xs) (closing_checks section s x xs) → verdict (length (xs ++ ys)) (closing_checks section s x (xs ++ ys)) ≡ Passes
closing_stays section s x xs ys p = stays (length xs) (length (xs ++ ys)) (is_whole section) _ _ (within xs ys) (closing_alike section xs ys s x) (ap settled (sym p)) ∙ sym p
