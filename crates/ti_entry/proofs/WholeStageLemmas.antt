-- Where a stage is that of a whole entry, its parts make the view.
use Rattle.std.proofs.Common.{◌≡◌, ℕ, ◌+◌, ◌<◌, Bool, true, cond, List, [], length, refl, sym, ap, subst, ◌∙◌, arith}
use Rattle.std.proofs.lemmas.Bool.{le-leb, lt-leb}
use Rattle.std.specs.Prelude.{None}
use Rattle.ti_layout.specs.declared.part.Part.{Part}
use Rattle.ti_layout.specs.declared.section.SectionItems.{SectionItems}
use Rattle.ti_layout.specs.declared.section.Section.{Section}
use Rattle.ti_layout.specs.declared.section.Section.TheVariants.{TableEnd, End}
use Rattle.ti_layout.specs.declared.stage.Stage.{Stage}
use Rattle.ti_layout.specs.Layout.{standard, end_of, extended_from, no_capability, IsStandard, IsExtended}
use Rattle.ti_layout.specs.Checks.{Ends, verdict, failure_of}
use Rattle.ti_layout.specs.Refusal.{checks, failure}
use Rattle.ti_layout.specs.Table.{base_of, names_base}
use Rattle.ti_layout.specs.Content.{content, content_from, content_with, extended, extended_part}
use Rattle.ti_entry.specs.Reading.{base_of_names}
use Rattle.ti_entry.proofs.NamedItemsLemmas.{base_is, base_named}
use Rattle.ti_layout.specs.Stages.{Stands, StandsAt, Waits, bytes_awaited, is_whole, new_stage}
use Rattle.ti_layout.proofs.StageStepLemmas.{closing_next, stands_now, stands_first, stands_on}

-- a new stage stands before any bytes
pub stands_new : (xs : List ℕ) → Stands xs new_stage
stands_new xs = stands_on [] xs new_stage stands_first

-- no check has failed on what waits for more
pub waits_none_failed : (xs : List ℕ) (s : Stage) → Waits xs s → failure xs ≡ None
waits_none_failed xs s w = ap failure_of w.decides

pub ends_as : {xs : List ℕ} {s : Stage} {a b : Bool} → Waits xs s → a ≡ is_whole s.section → a ≡ b → verdict (length xs) (checks xs) ≡ Ends b
ends_as w e f = w.decides ∙ ap Ends (sym e ∙ f)

pub record IsView (xs : List ℕ) (s x : Part) (base : ℕ) : Type 0 where
  pub is_standard : IsStandard xs s
  pub is_extended : IsExtended xs x base
  pub shows : content_from xs s x base ≡ content xs
  pub counted : base ≡ base_of_names (content xs)

pub view_of : (xs : List ℕ) (s x : Part) (base : ℕ) → s ≡ standard xs → x ≡ extended xs → base ≡ base_of xs x → content_from xs s x base ≡ content xs
view_of xs s x base e f g = ap (content_from xs s x) g ∙ ap (content_with xs s) f ∙ ap (λ p. content_with xs p (extended xs)) e

counted_of : (xs : List ℕ) (x : Part) (base : ℕ) → x ≡ extended xs → base ≡ base_of xs x → base ≡ base_of_names (content xs)
counted_of xs x base f g = g ∙ ap (base_of xs) f ∙ sym (base_named xs (extended xs))

views : (section : Section) (xs : List ℕ) (it : SectionItems) (s x : Part) (base : ℕ) → StandsAt xs (record { section = section; items = it; standard = s; extended = x; base = base })
    → length xs < bytes_awaited (record { section = section; items = it; standard = s; extended = x; base = base }) → is_whole section ≡ true → IsView xs s x base
views TableEnd xs it s x base k short e =
    let left = k.left in
    let ends = subst (λ n. length xs < n) (closing_next (record { section = TableEnd; items = it; standard = s; extended = x; base = base }) (omega arith)) short in
    let end : end_of (standard xs) ≡ end_of s = ap end_of (sym k.standard) in
    let none : no_capability ≡ extended xs = sym (ap (λ b. cond b no_capability (extended_part xs)) (le-leb (length xs) (end_of (standard xs)) (omega arith))) in
    let counts : base ≡ base_of xs x = rw (k.extended, k.base) refl in
    record {
      is_standard = ((k.fits, k.reached.1), k.reached.0, k.standard);
      is_extended = rw (k.extended, k.base) ((omega arith, omega arith), refl, omega arith);
      shows = view_of xs s x base k.standard (k.extended ∙ none) counts;
      counted = counted_of xs x base (k.extended ∙ none) counts;
    }
views End xs it s x base k short e =
    let there = k.reached.1 in
    let from : x.flags_from ≡ extended_from (standard xs) + 10 = ap (λ (p : Part). p.flags_from) k.extended in
    let names : x.names ≡ x.flags + x.numbers + x.texts = ap (λ (p : Part). p.names) k.extended ∙ sym (ap (λ (p : Part). p.flags + p.numbers + p.texts) k.extended) in
    let end : end_of (standard xs) ≡ end_of s = ap end_of (sym k.standard) in
    let some : extended_part xs ≡ extended xs = sym (ap (λ b. cond b no_capability (extended_part xs)) (lt-leb (length xs) (end_of (standard xs)) (omega arith))) in
    let counts : base ≡ base_of xs x = k.base ∙ ap (names_base xs) (sym k.extended) ∙ base_is xs x (omega arith) in
    record {
      is_standard = ((k.fits, omega arith), k.reached.0, k.standard);
      is_extended = ((k.extended_fits, there), sym names, k.base_fits);
      shows = view_of xs s x base k.standard (k.extended ∙ some) counts;
      counted = counted_of xs x base (k.extended ∙ some) counts;
    }
views _ xs it s x base k short e = absurd (cc)

pub whole_is_view : {xs : List ℕ} {s : Stage} {a : Bool} → Waits xs s → Stands xs s → a ≡ is_whole s.section → a ≡ true → IsView xs s.standard s.extended s.base
whole_is_view {xs} {s} w k e f = views s.section xs s.items s.standard s.extended s.base (stands_now xs s k) w.short (sym e ∙ f)
