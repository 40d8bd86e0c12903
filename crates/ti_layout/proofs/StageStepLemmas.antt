-- One step of a stage.
use Rattle.std.proofs.Common.{◌≡◌, ℕ, zero, suc, ◌+◌, ◌-◌, ◌*◌, ◌<◌, ◌≤◌, false, cond, eqb, List, [], ◌∷◌, ◌++◌, map, length, refl, sym, ap, subst, ◌∙◌, arith, append_assoc, append-nil, length-append}
use Rattle.std.proofs.lemmas.Bool.Decides.{nat_tests}
use Rattle.std.proofs.lemmas.List.{map-append}
use Rattle.std.proofs.lemmas.Bool.{lt-ltb, le-ltb, leb-true}
use Rattle.std.specs.List.{flat_map}
use Rattle.ti_base.specs.Limits.{most_entry_bytes}
use Rattle.ti_layout.specs.declared.fault.Refused.{Refused}
use Rattle.ti_layout.specs.declared.part.Part.{Part}
use Rattle.ti_layout.specs.declared.section.Half.{Half}
use Rattle.ti_layout.specs.declared.section.Half.TheVariants.{Standard, Extended}
use Rattle.ti_layout.specs.declared.section.SectionItem.{SectionItem}
use Rattle.ti_layout.specs.declared.section.SectionItem.TheVariants.{Flag, Offset}
use Rattle.ti_layout.specs.declared.section.SectionItems.{SectionItems}
use Rattle.ti_layout.specs.declared.section.Section.{Section}
use Rattle.ti_layout.specs.declared.section.Section.TheVariants.{Magic, Header, Flags, Numbers, Offsets, NameOffsets, TableEnd, ExtendedHeader, End}
use Rattle.ti_layout.specs.declared.stage.Stage.{Stage}
use Rattle.ti_layout.specs.Layout.{standard, places, offsets_from, end_of, extended_after}
use Rattle.ti_layout.specs.Table.{names_base}
use Rattle.ti_layout.specs.Checks.{Check, Passes, Ends, Fails, verdict, pad_checks}
use Rattle.ti_layout.specs.LastNul.{HasOffsetsBelow}
use Rattle.ti_layout.specs.Refusal.{item_check, item_size, items, items_checks, part_of, items_of, size_check, named_check, room_check, extended_size_check, closing_checks, section_checks, checks}
use Rattle.ti_layout.specs.Stages.{first_items, items_after, sections_after, next, checks_left, standard_known, extended_known, base_known, Reached, StandsAt, Stands, new_stage, standard_after, extended_known_after, base_after, stage_after, at_front, at_next_section, closing_end, bytes_awaited, is_whole, Waits, steps_left}
use Rattle.ti_layout.proofs.VerdictLemmas.{then, verdict_append}
use Rattle.ti_layout.proofs.PassesLemmas.{first_passes}
use Rattle.ti_layout.proofs.PlacesLemmas.{places_append}
use Rattle.ti_layout.proofs.SectionReadLemmas.{each_passed}
use Rattle.ti_layout.proofs.NamePlaceChecksLemmas.{base_most}
use Rattle.ti_layout.proofs.AlikeLemmas.{standard_same, extended_same, base_same, items_stay, closing_stays}

-- ---- lists one after the other

pub goes : (len : ℕ) (cs rest : List Check) → verdict len cs ≡ Passes → verdict len (cs ++ rest) ≡ verdict len rest
goes len cs rest p = verdict_append len cs rest ∙ ap (λ t. then t (verdict len rest)) p

pub halts : (len : ℕ) (cs rest : List Check) (r : Refused) → Fails r ≡ verdict len cs → verdict len (cs ++ rest) ≡ Fails r
halts len cs rest r p = verdict_append len cs rest ∙ ap (λ t. then t (verdict len rest)) (sym p)

-- ---- the first stage, and a longer input

pub stands_first : Stands [] new_stage
stands_first more = record {
  decides = refl;
  standard = refl;
  extended = refl;
  base = refl;
  left = omega arith;
  within = omega arith;
  fits = omega arith;
  extended_fits = omega arith;
  base_fits = omega arith;
  reached = omega arith;
}

pub stands_on : (xs ys : List ℕ) (s : Stage) → Stands xs s → Stands (xs ++ ys) s
stands_on xs ys s h more = subst (λ zs. StandsAt zs s) (sym (append_assoc xs ys more)) (h (ys ++ more))

pub stands_now : (xs : List ℕ) (s : Stage) → Stands xs s → StandsAt xs s
stands_now xs s h = subst (λ zs. StandsAt zs s) (append-nil xs) (h [])

-- ---- items

split_items : (bytes : List ℕ) (it : SectionItems) (n : ℕ) (rest : List Check) → n ≤ it.left → items_checks bytes it ++ rest ≡ items_checks bytes (first_items n it) ++ (items_checks bytes (items_after n it) ++ rest)
split_items bytes it n rest le =
    let size = item_size it.item in
    let f = item_check bytes it.item in
    let m : it.left ≡ n + (it.left - n) = omega arith in
    let split : map f (places it.at size it.left) ≡ map f (places it.at size n) ++ map f (places (it.at + size * n) size (it.left - n)) =
    ap (λ k. map f (places it.at size k)) m ∙ ap (map f) (places_append it.at size n (it.left - n)) ∙ map-append f (places it.at size n) (places (it.at + size * n) size (it.left - n)) in
    ap (λ (t : List Check). t ++ rest) split ∙ append_assoc (map f (places it.at size n)) (map f (places (it.at + size * n) size (it.left - n))) rest

abbrev pub with_items : Stage → SectionItems → Stage
with_items s it = record { section = s.section; items = it; standard = s.standard; extended = s.extended; base = s.base }

-- what is checked after the items of a stage
abbrev pub rest_of_checks : List ℕ → Stage → List Check
rest_of_checks bytes s = closing_checks s.section s.standard s.extended bytes ++ flat_map (section_checks bytes) (sections_after s.section)

fewer : (at size left n : ℕ) → n ≤ left → at + size * left ≤ most_entry_bytes → (at + size * n) + size * (left - n) ≤ most_entry_bytes
fewer at size left n le within = grind arith

pub items_pass : (xs : List ℕ) (s : Stage) (n : ℕ) → Stands xs s → n ≤ s.items.left → Passes ≡ verdict (length xs) (items_checks xs (first_items n s.items)) → Stands xs (with_items s (items_after n s.items))
items_pass xs s n h le p ys =
    let zs = xs ++ ys in
    let k = h ys in
    let it = s.items in
    let left = k.left in
    record {
      decides = k.decides ∙ ap (verdict (length zs)) (split_items zs it n (rest_of_checks zs s) le)
          ∙ goes (length zs) (items_checks zs (first_items n it)) (items_checks zs (items_after n it) ++ rest_of_checks zs s) (items_stay (first_items n it) xs ys p);
      standard = k.standard;
      extended = k.extended;
      base = k.base;
      left = omega arith;
      within = fewer it.at (item_size it.item) it.left n le k.within;
      fits = k.fits;
      extended_fits = k.extended_fits;
      base_fits = k.base_fits;
      reached = k.reached;
    }

pub items_fail : (xs : List ℕ) (s : Stage) (n : ℕ) (r : Refused) → Stands xs s → n ≤ s.items.left → Fails r ≡ verdict (length xs) (items_checks xs (first_items n s.items)) → verdict (length xs) (checks xs) ≡ Fails r
items_fail xs s n r h le p =
    let k = stands_now xs s h in
    k.decides ∙ ap (verdict (length xs)) (split_items xs s.items n (rest_of_checks xs s) le)
    ∙ halts (length xs) (items_checks xs (first_items n s.items)) (items_checks xs (items_after n s.items) ++ rest_of_checks xs s) r p

-- ---- from a section to the next

none_left : (bytes : List ℕ) (it : SectionItems) (rest : List Check) → it.left ≡ 0 → items_checks bytes it ++ rest ≡ rest
none_left bytes it rest e = rw e refl

pub bare : (bytes : List ℕ) (s : Stage) → StandsAt bytes s → s.items.left ≡ 0 → verdict (length bytes) (checks bytes) ≡ verdict (length bytes) (rest_of_checks bytes s)
bare bytes s k e = k.decides ∙ ap (verdict (length bytes)) (none_left bytes s.items (rest_of_checks bytes s) e)

pub closing_fails : (xs : List ℕ) (s : Stage) (r : Refused) → Stands xs s → s.items.left ≡ 0 → Fails r ≡ verdict (length xs) (closing_checks s.section s.standard s.extended xs) → verdict (length xs) (checks xs) ≡ Fails r
closing_fails xs s r h none p =
    bare xs s (stands_now xs s h) none ∙ halts (length xs) (closing_checks s.section s.standard s.extended xs) (flat_map (section_checks xs) (sections_after s.section)) r p

-- the end is never passed
end_stops : (s x : Part) (xs : List ℕ) → Passes ≡ verdict (length xs) (closing_checks End s x xs) → ⊥
end_stops s x xs p = grind (arith, nat_tests)

pub opened : (section : Section) (s x : Part) (xs : List ℕ) → Passes ≡ verdict (length xs) (closing_checks section s x xs) → sections_after section ≡ next section ∷ sections_after (next section)
opened End s x xs p = absurd (end_stops s x xs p)
opened section s x xs p = grind arith

-- a section is checked by the parts that are known in it
by_known : (section : Section) (zs : List ℕ) → section_checks zs section
    ≡ items_checks zs (items_of section (standard_known section zs) (extended_known section zs)) ++ closing_checks section (standard_known section zs) (extended_known section zs) zs
by_known (Flags Extended) zs = refl
by_known (Numbers Extended) zs = refl
by_known (Offsets Extended) zs = refl
by_known (NameOffsets Extended) zs = refl
by_known _ zs = refl

-- what is known once a section is closed
record Met (xs ys : List ℕ) (section : Section) (s x : Part) (base : ℕ) : Type 0 where
  standard : standard_after section s xs ≡ standard_known (next section) (xs ++ ys)
  extended : extended_known_after section s x xs ≡ extended_known (next section) (xs ++ ys)
  base_is : base_after section s x base xs ≡ base_known (next section) (xs ++ ys)
  fits : end_of (standard_after section s xs) ≤ most_entry_bytes
  extended_fits : end_of (extended_known_after section s x xs) ≤ most_entry_bytes
  base_fits : base_after section s x base xs ≤ most_entry_bytes
  reached : Reached (next section) (length (xs ++ ys)) (standard_after section s xs) (extended_known_after section s x xs)

met : (section : Section) (xs ys : List ℕ) (it : SectionItems) (s x : Part) (base : ℕ) → StandsAt (xs ++ ys) (record { section = section; items = it; standard = s; extended = x; base = base })
    → closing_end section s x ≤ length xs → Passes ≡ verdict (length xs) (closing_checks section s x xs) → Met xs ys section s x base
met Header xs ys it s x base k there p =
    let a = first_passes (length xs) (size_check (standard xs)) (named_check (standard xs) ∷ []) p in
    let b = first_passes (length xs) (named_check (standard xs)) [] a.rest in
    record { standard = standard_same xs ys there; extended = k.extended; base_is = k.base; fits = leb-true _ _ a.holds; extended_fits = k.extended_fits; base_fits = k.base_fits; reached = leb-true _ _ b.holds }
met (NameOffsets Standard) xs ys it s x base k there p =
    let n = length-append xs ys in
    let most = base_most xs s there p in
    let fits = k.fits in
    record { standard = k.standard; extended = k.extended; base_is = ap (names_base xs) k.standard; fits = k.fits; extended_fits = k.extended_fits; base_fits = omega arith; reached = (k.reached, omega arith) }
met TableEnd xs ys it s x base k there p =
    let first = first_passes (length xs) (room_check s) (pad_checks xs (end_of s)) p in
    record { standard = k.standard; extended = k.extended; base_is = k.base; fits = k.fits; extended_fits = k.extended_fits; base_fits = k.base_fits; reached = (k.reached.0, leb-true _ _ first.holds) }
met ExtendedHeader xs ys it s x base k there p =
    let a = first_passes (length xs) _ (extended_size_check (extended_after s xs) ∷ []) p in
    let b = first_passes (length xs) (extended_size_check (extended_after s xs)) [] a.rest in
    record { standard = k.standard; extended = extended_same xs ys s there ∙ ap (λ q. extended_after q (xs ++ ys)) k.standard; base_is = k.base; fits = k.fits; extended_fits = leb-true _ _ b.holds; base_fits = k.base_fits; reached = k.reached.0 }
met (NameOffsets Extended) xs ys it s x base k there p =
    let n = length-append xs ys in
    let most = base_most xs x there p in
    let fits = k.extended_fits in
    record {
      standard = k.standard;
      extended = k.extended;
      base_is = ap (λ b. cond (eqb x.names 0) 0 b) (base_same xs ys x there) ∙ ap (names_base (xs ++ ys)) k.extended;
      fits = k.fits;
      extended_fits = k.extended_fits;
      base_fits = omega arith;
      reached = (k.reached, omega arith);
    }
met End xs ys it s x base k there p = absurd (end_stops s x xs p)
met (Flags Standard) xs ys it s x base k there p = record { standard = k.standard; extended = k.extended; base_is = k.base; fits = k.fits; extended_fits = k.extended_fits; base_fits = k.base_fits; reached = k.reached }
met (Flags Extended) xs ys it s x base k there p = record { standard = k.standard; extended = k.extended; base_is = k.base; fits = k.fits; extended_fits = k.extended_fits; base_fits = k.base_fits; reached = k.reached }
met (Numbers Standard) xs ys it s x base k there p = record { standard = k.standard; extended = k.extended; base_is = k.base; fits = k.fits; extended_fits = k.extended_fits; base_fits = k.base_fits; reached = k.reached }
met (Numbers Extended) xs ys it s x base k there p = record { standard = k.standard; extended = k.extended; base_is = k.base; fits = k.fits; extended_fits = k.extended_fits; base_fits = k.base_fits; reached = k.reached }
met (Offsets Standard) xs ys it s x base k there p = record { standard = k.standard; extended = k.extended; base_is = k.base; fits = k.fits; extended_fits = k.extended_fits; base_fits = k.base_fits; reached = k.reached }
met (Offsets Extended) xs ys it s x base k there p = record { standard = k.standard; extended = k.extended; base_is = k.base; fits = k.fits; extended_fits = k.extended_fits; base_fits = k.base_fits; reached = k.reached }
met _ xs ys it s x base k there p = record { standard = k.standard; extended = k.extended; base_is = k.base; fits = k.fits; extended_fits = k.extended_fits; base_fits = k.base_fits; reached = k.reached }

-- the items of a section lie within the limit
items_fit : (section : Section) (len : ℕ) (s x : Part) → end_of s ≤ most_entry_bytes → end_of x ≤ most_entry_bytes → Reached section len s x
    → (items_of section s x).at + item_size (items_of section s x).item * (items_of section s x).left ≤ most_entry_bytes
items_fit section len s x fits extended_fits r = grind arith

-- ---- what has not come

items_early : (bytes : List ℕ) (it : SectionItems) (n : ℕ) (rest : List Check) → it.left ≡ suc n → length bytes < it.at + item_size it.item → verdict (length bytes) (items_checks bytes it ++ rest) ≡ Ends false
items_early bytes it n rest e lt = rw (e, lt-ltb (length bytes) (it.at + item_size it.item) lt) refl

-- a section with items is not one that may end
pub part_read : (section : Section) (s x : Part) → 0 < (items_of section s x).left → is_whole section ≡ false
part_read section s x lt = grind arith

pub closing_early : (section : Section) (s x : Part) (bytes : List ℕ) (rest : List Check) → length bytes < closing_end section s x → verdict (length bytes) (closing_checks section s x bytes ++ rest) ≡ Ends (is_whole section)
closing_early section s x bytes rest lt = grind (arith, nat_tests)

-- checks that pass have what they read
pub closing_there : (section : Section) (s x : Part) (xs : List ℕ) → Passes ≡ verdict (length xs) (closing_checks section s x xs) → closing_end section s x ≤ length xs
closing_there section s x xs p = grind (arith, nat_tests)

-- what is awaited if no item is left, and if one is
pub closing_next : (s : Stage) → s.items.left ≡ 0 → bytes_awaited s ≡ closing_end s.section s.standard s.extended
closing_next s none = ap (λ b. cond b (s.items.at + item_size s.items.item) (closing_end s.section s.standard s.extended)) (le-ltb 0 s.items.left (omega arith))

pub item_next : (s : Stage) → 0 < s.items.left → bytes_awaited s ≡ s.items.at + item_size s.items.item
item_next s some = ap (λ b. cond b (s.items.at + item_size s.items.item) (closing_end s.section s.standard s.extended)) (lt-ltb 0 s.items.left some)

pub waits : (bytes : List ℕ) (s : Stage) → StandsAt bytes s → length bytes < bytes_awaited s → Waits bytes s
waits bytes s k short = record { decides = k.decides ∙ by_left s.items.left refl; short = short }
  where
    by_left : (n : ℕ) → s.items.left ≡ n → verdict (length bytes) (checks_left bytes s) ≡ Ends (is_whole s.section)
    by_left zero e =
        let lt = subst (λ n. length bytes < n) (closing_next s e) short in
        ap (verdict (length bytes)) (none_left bytes s.items (rest_of_checks bytes s) e) ∙ closing_early s.section s.standard s.extended bytes (flat_map (section_checks bytes) (sections_after s.section)) lt
    by_left (suc n) e =
        let lt = subst (λ n. length bytes < n) (item_next s (omega arith)) short in
        let left = k.left in
        items_early bytes s.items n (rest_of_checks bytes s) e lt ∙ ap Ends (sym (part_read s.section s.standard s.extended (omega arith)))

-- ---- at the next section

pub closing_passes : (xs : List ℕ) (s : Stage) → Stands xs s → s.items.left ≡ 0
    → Passes ≡ verdict (length xs) (closing_checks s.section s.standard s.extended xs) → Stands xs (at_next_section (stage_after s xs))
closing_passes xs s h none p ys =
    let zs = xs ++ ys in
    let len = length zs in
    let k = h ys in
    let m = met s.section xs ys s.items s.standard s.extended s.base k (closing_there s.section s.standard s.extended xs p) p in
    let new = next s.section in
    let S = (stage_after s xs).standard in
    let X = (stage_after s xs).extended in
    let rest = flat_map (section_checks zs) (sections_after new) in
    let same : items_checks zs (items_of new (standard_known new zs) (extended_known new zs)) ++ closing_checks new (standard_known new zs) (extended_known new zs) zs ≡ items_checks zs (items_of new S X) ++ closing_checks new S X zs =
    ap (λ q. items_checks zs (items_of new q (extended_known new zs)) ++ closing_checks new q (extended_known new zs) zs) (sym m.standard)
    ∙ ap (λ q. items_checks zs (items_of new S q) ++ closing_checks new S q zs) (sym m.extended) in
    record {
      decides = bare zs s k none
          ∙ goes len (closing_checks s.section s.standard s.extended zs) (flat_map (section_checks zs) (sections_after s.section)) (closing_stays s.section s.standard s.extended xs ys p)
          ∙ ap (λ l. verdict len (flat_map (section_checks zs) l)) (opened s.section s.standard s.extended xs p)
          ∙ ap (λ l. verdict len (l ++ rest)) (by_known new zs ∙ same)
          ∙ ap (verdict len) (append_assoc (items_checks zs (items_of new S X)) (closing_checks new S X zs) rest);
      standard = m.standard;
      extended = m.extended;
      base = m.base_is;
      left = omega arith;
      within = items_fit new len S X m.fits m.extended_fits m.reached;
      fits = m.fits;
      extended_fits = m.extended_fits;
      base_fits = m.base_fits;
      reached = m.reached;
    }

most_left : (item : SectionItem) (at n : ℕ) → at + item_size item * n ≤ most_entry_bytes → n ≤ most_entry_bytes
most_left item at n le = grind arith

-- the stage there, and that fewer steps are still to come
pub next_stage : (xs : List ℕ) (s new : Stage) → Stands xs s → s.items.left ≡ 0 → Passes ≡ verdict (length xs) (closing_checks s.section s.standard s.extended xs) → new ≡ stage_after s xs
    → Stands xs (at_next_section new) × (steps_left (at_next_section new) < steps_left s)
next_stage xs s new h none p e =
    let there = at_next_section (stage_after s xs) in
    let stands = closing_passes xs s h none p in
    let most = most_left there.items.item there.items.at there.items.left (stands_now xs there stands).within in
    let one : length (sections_after s.section) ≡ length (next s.section ∷ sections_after (next s.section)) = ap (λ (l : List Section). length l) (opened s.section s.standard s.extended xs p) in
    rw e (stands, omega arith)

-- ---- in a straight line

-- at the first section no item is left
pub first_front : (xs : List ℕ) (s : Stage) → s.section ≡ Magic → Stands xs s → Stands xs (at_front s)
first_front xs s e h =
    let none : items_of s.section s.standard s.extended ≡ items Flag 0 0 = rw e refl in
    subst (λ (it : SectionItems). Stands xs (with_items s it)) (sym none) (λ ys.
    let zs = xs ++ ys in
    let k = h ys in
    let left = k.left in
    record {
      decides = bare zs s k (omega (arith, left, ap (λ (it : SectionItems). it.left) none));
      standard = k.standard;
      extended = k.extended;
      base = k.base;
      left = omega arith;
      within = omega arith;
      fits = k.fits;
      extended_fits = k.extended_fits;
      base_fits = k.base_fits;
      reached = k.reached;
    })

-- a section of which all passes comes to the front of the next one
pub section_passes : (xs : List ℕ) (s : Stage) → Stands xs (at_front s) → Passes ≡ verdict (length xs) (items_checks xs (items_of s.section s.standard s.extended))
    → Passes ≡ verdict (length xs) (closing_checks s.section s.standard s.extended xs) → Stands xs (at_front (record (stage_after s xs) { section = next s.section }))
section_passes xs s h items close =
    let front = at_front s in
    let n = front.items.left in
    let gone = items_pass xs front n h (omega arith) items in
    closing_passes xs (with_items front (items_after n front.items)) gone (omega arith) close

-- the section of the offsets has shown of each text that it is not there, or starts in the table
pub offsets_below : (bytes : List ℕ) (half other : Half) (s x s' x' : Part) → NameOffsets half ≡ NameOffsets other → s' ≡ s → x' ≡ x
    → Passes ≡ verdict (length bytes) (items_checks bytes (items_of (Offsets half) s x)) → HasOffsetsBelow bytes (part_of other s' x')
offsets_below bytes half other s x s' x' same s_is x_is passed =
    let p = part_of half s x in
    let below : HasOffsetsBelow bytes p = λ i lt. (each_passed (item_check bytes (Offset p.table)) (length bytes) (offsets_from p) 2 p.texts passed i lt).holds in
    let is : half ≡ other = cc in
    rw (s_is, x_is) (subst (λ (h : Half). HasOffsetsBelow bytes (part_of h s x)) is below)
