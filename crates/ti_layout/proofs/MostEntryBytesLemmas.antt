-- Inputs as long as an entry may be.
use Rattle.std.proofs.Common.{◌≡◌, ℕ, zero, suc, ◌+◌, ◌*◌, ◌<◌, ◌≤◌, List, ◌∷◌, ◌++◌, length, refl, subst, ◌∙◌, arith}
use Rattle.std.proofs.lemmas.Bool.Decides.{nat_tests}
use Rattle.std.proofs.lemmas.List.{length-append}
use Rattle.std.specs.List.{flat_map}
use Rattle.ti_base.specs.Limits.{most_entry_bytes}
use Rattle.ti_layout.specs.declared.part.Part.{Part}
use Rattle.ti_layout.specs.declared.section.SectionItem.{SectionItem}
use Rattle.ti_layout.specs.declared.section.Section.{Section}
use Rattle.ti_layout.specs.declared.stage.Stage.{Stage}
use Rattle.ti_layout.specs.Layout.{end_of}
use Rattle.ti_layout.specs.Checks.{Check, Fails, verdict, refusal_at}
use Rattle.ti_layout.specs.Refusal.{item_size, closing_checks, section_checks, checks}
use Rattle.ti_layout.specs.Stages.{sections_after, Reached, StandsAt, Stands, Waits, closing_end, fault_when_full}
use Rattle.ti_layout.proofs.StageStepLemmas.{bare, stands_now, closing_next, item_next}

one_fits : (item : SectionItem) (at n : ℕ) → at + item_size item * suc n ≤ most_entry_bytes → at + item_size item ≤ most_entry_bytes
one_fits item at n le = omega arith

-- what is awaited after the items lies within the limit, except at the end of a whole entry
full : (section : Section) (s x : Part) (bytes : List ℕ) (rest : List Check) (len : ℕ) → end_of s ≤ most_entry_bytes → end_of x ≤ most_entry_bytes → Reached section len s x
    → len ≡ most_entry_bytes → len < length bytes → len < closing_end section s x → verdict (length bytes) (closing_checks section s x bytes ++ rest) ≡ Fails (refusal_at (fault_when_full section) len)
full section s x bytes rest len fits extended_fits r most more short = grind (arith, nat_tests)

-- if a full input waits, a byte more is refused
pub then_refused : (xs : List ℕ) (s : Stage) (b : ℕ) (more : List ℕ) → Stands xs s → Waits xs s → length xs ≡ most_entry_bytes → verdict (length (xs ++ b ∷ more)) (checks (xs ++ b ∷ more)) ≡ Fails (refusal_at (fault_when_full s.section) (length xs))
then_refused xs s b more h w most = by_left s.items.left refl
  where
    k : StandsAt xs s
    k = stands_now xs s h

    by_left : (n : ℕ) → s.items.left ≡ n → verdict (length (xs ++ b ∷ more)) (checks (xs ++ b ∷ more)) ≡ Fails (refusal_at (fault_when_full s.section) (length xs))
    by_left zero e =
        bare (xs ++ b ∷ more) s (h (b ∷ more)) e
        ∙ full s.section s.standard s.extended (xs ++ b ∷ more) (flat_map (section_checks (xs ++ b ∷ more)) (sections_after s.section)) (length xs) k.fits k.extended_fits k.reached most (omega (arith, length-append xs (b ∷ more))) (subst (λ n. length xs < n) (closing_next s e) w.short)
    by_left (suc n) e =
        let lt : length xs < s.items.at + item_size s.items.item = subst (λ n. length xs < n) (item_next s (omega arith)) w.short in
        let le = one_fits s.items.item s.items.at n (subst (λ n. s.items.at + item_size s.items.item * n ≤ most_entry_bytes) e k.within) in absurd (omega arith)
