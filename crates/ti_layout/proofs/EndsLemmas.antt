-- Where an input ends as an entry may: the sections before that pass.
use Rattle.std.proofs.Common.{◌≡◌, ℕ, ◌+◌, ◌<◌, Bool, true, false, cond, List, [], ◌∷◌, ◌++◌, length, refl, sym, ap, ◌∙◌, arith}
use Rattle.std.proofs.lemmas.Bool.Decides.{nat_tests}
use Rattle.std.proofs.lemmas.Bool.{le-ltb}
use Rattle.std.proofs.lemmas.List.Concat.{flat_map-cons}
use Rattle.std.specs.List.{flat_map, AllByRecursion}
use Rattle.ti_words.specs.Spelling.{Each}
use Rattle.ti_layout.specs.declared.fault.Refused.{Refused}
use Rattle.ti_layout.specs.declared.part.Part.{Part}
use Rattle.ti_layout.specs.declared.section.Section.{Section}
use Rattle.ti_layout.specs.declared.section.Section.TheVariants.{TableEnd}
use Rattle.ti_layout.specs.Layout.{end_of, standard, extended_after}
use Rattle.ti_layout.specs.Checks.{Check, Passes, Ends, Fails, verdict, refusal_at, pad_checks}
use Rattle.ti_layout.specs.Refusal.{items_of, items_checks, room_check, closing_checks, section_checks}
use Rattle.ti_layout.specs.Stages.{is_whole}
use Rattle.ti_layout.proofs.VerdictLemmas.{then, verdict_append}
use Rattle.ti_layout.proofs.AlikeLemmas.{Alike, pads_alike, section_alike}

abbrev pub SectionPasses : List ℕ → Section → Type 0
SectionPasses bytes section = Passes ≡ verdict (length bytes) (section_checks bytes section)

goes_on : (len : ℕ) (c : Check) (cs : List Check) → c.may_end ≡ false → (verdict len cs ≡ Ends true → ⊥) → verdict len (c ∷ cs) ≡ Ends true → ⊥
goes_on len c cs inner rest e = grind (arith, nat_tests)

-- checks before which no entry may end
never_ends : (len : ℕ) (cs ds : List Check) → Each (Alike len false) cs ds → verdict len cs ≡ Ends true → ⊥
never_ends len [] [] h e = cc
never_ends len [] (d ∷ ds) h e = h
never_ends len (c ∷ cs) [] h e = h
never_ends len (c ∷ cs) (d ∷ ds) h e = goes_on len c cs (h.0.inner refl) (never_ends len cs ds h.1) e

section_goes_on : (section : Section) (bytes : List ℕ) → is_whole section ≡ false → verdict (length bytes) (section_checks bytes section) ≡ Ends true → ⊥
section_goes_on section bytes e =
    let s = standard bytes in
    let x = extended_after s bytes in
    let zs = bytes ++ [] in
    let it = items_of section s x in
    never_ends (length bytes) (section_checks bytes section) (items_checks zs it ++ closing_checks section s x zs) (rw e at (section_alike it section s x bytes []))

-- an input that ends later passes what comes before
pub record EndsLater (len : ℕ) (cs rest : List Check) : Type 0 where
  pub passes : Passes ≡ verdict len cs
  pub ends : verdict len rest ≡ Ends true

ends_later : (len : ℕ) (cs rest : List Check) → (verdict len cs ≡ Ends true → ⊥) → verdict len (cs ++ rest) ≡ Ends true → EndsLater len cs rest
ends_later len cs rest never e = record { passes = grind (arith, verdict_append); ends = grind (arith, verdict_append) }

-- the sections before which no entry may end
pub sections_pass : (bytes : List ℕ) (before after : List Section) → AllByRecursion (λ section. is_whole section ≡ false) before → verdict (length bytes) (flat_map (section_checks bytes) (before ++ after)) ≡ Ends true
    → AllByRecursion (SectionPasses bytes) before × (verdict (length bytes) (flat_map (section_checks bytes) after) ≡ Ends true)
sections_pass bytes [] after h e = (tt, e)
sections_pass bytes (section ∷ before) after h e =
    let first = ends_later (length bytes) (section_checks bytes section) (flat_map (section_checks bytes) (before ++ after)) (section_goes_on section bytes h.0) (sym (ap (verdict (length bytes)) (flat_map-cons (section_checks bytes) section (before ++ after))) ∙ e) in
    let rest = sections_pass bytes before after h.1 first.ends in
    ((first.passes, rest.0), rest.1)

-- a byte after the string table starts an extended part
pub room_passes : (bytes : List ℕ) (rest : List Check) → end_of (standard bytes) < length bytes → verdict (length bytes) (section_checks bytes TableEnd ++ rest) ≡ Ends true → EndsLater (length bytes) (section_checks bytes TableEnd) rest
room_passes bytes rest lt e = ends_later (length bytes) (section_checks bytes TableEnd) rest (λ f. by_holds (room_check s).holds (refusal_at (room_check s).fault (room_check s).place) (sym there ∙ f)) e
  where
    s : Part
    s = standard bytes

    there : verdict (length bytes) (room_check s ∷ pad_checks bytes (end_of s)) ≡ cond (room_check s).holds (verdict (length bytes) (pad_checks bytes (end_of s))) (Fails (refusal_at (room_check s).fault (room_check s).place))
    there = rw (le-ltb (length bytes) (end_of s + 1) (omega arith)) refl

    by_holds : (b : Bool) (r : Refused) → cond b (verdict (length bytes) (pad_checks bytes (end_of s))) (Fails r) ≡ Ends true → ⊥
    by_holds true r f = never_ends (length bytes) (pad_checks bytes (end_of s)) (pad_checks (bytes ++ []) (end_of s)) (pads_alike false bytes [] (end_of s)) f
    by_holds false r f = cc

-- sections that pass leave the verdict to those after them
pub passed_sections : (bytes : List ℕ) (before after : List Section) → AllByRecursion (SectionPasses bytes) before
    → verdict (length bytes) (flat_map (section_checks bytes) (before ++ after)) ≡ verdict (length bytes) (flat_map (section_checks bytes) after)
passed_sections bytes [] after h = refl
passed_sections bytes (section ∷ before) after h =
    let rest = flat_map (section_checks bytes) (before ++ after) in
    ap (verdict (length bytes)) (flat_map-cons (section_checks bytes) section (before ++ after))
    ∙ verdict_append (length bytes) (section_checks bytes section) rest ∙ ap (λ v. then v (verdict (length bytes) rest)) (sym h.0) ∙ passed_sections bytes before after h.1
