-- Whether a word fits a value, and what is due if it does not.
use Rattle.std.proofs.Common.{◌≡◌, ◌≢◌, ◌∙◌, ℕ, zero, suc, ◌-◌, ◌/◌, ◌%◌, ◌^◌, ◌<◌, List, Ok, Err, Some, inl, inr, sym, ap, arith}
use Rattle.std.specs.Prelude.{◌↔◌, IsTrue, Option, Result, MatchResult, nat_eq}
use Rattle.std.specs.Int.{bit_at}
use Rattle.std.proofs.lemmas.Bool.{eq-eqb, eqb-true}
use Rattle.std.proofs.lemmas.Nat.Bits.{bit_at-suc, bit_at-zero, bit_at_lowest}
use Rattle.ti_cap.specs.Sources.{Has, IsTakenAsText}
use Rattle.ti_cap.specs.declared.parameter_set.ParameterSet.{ParameterSet}
use Rattle.ti_line.specs.declared.given.Given.{Given}
use Rattle.ti_tool.specs.Calls.{FailsAsDue, NeedsMemory}
use Rattle.ti_tool.specs.Unfit.{IsDueIfFit, IsUnfit}
use Rattle.ti_tool.specs.declared.fault.ToolFault.{ToolFault}
use Rattle.ti_tool.specs.declared.fault.ToolFault.TheVariants as fault
use Rattle.ti_tool.proofs.IsDueLemmas.{IsNeverOwn}
use Rattle.ti_words.specs.Items.{ItemValue}

-- ---- sets of parameters

-- a number of so many bits of which none is 1 is 0
no_bit : (bits n : ℕ) → n < 2 ^ bits → ((i : ℕ) → bit_at n i ≢ 1) → n ≡ 0
no_bit zero n small none = omega arith
no_bit (suc bits) n small none =
    let low : n % 2 ≢ 1 = λ one. none 0 (bit_at_lowest n ∙ one) in
    let fits : n / 2 < 2 ^ bits = omega arith in
    let half : n / 2 ≡ 0 = no_bit bits (n / 2) fits (λ i one. none (suc i) (bit_at-suc n i ∙ one)) in
    omega (arith, half, low)

-- the set of those that are taken as texts is empty if none is
pub none_taken : (text : List ℕ) (set : ParameterSet) → set.mask < 2 ^ 16 → ((which : ℕ) → Has set which ↔ IsTakenAsText text which) → IsTrue (nat_eq set.mask 0) ↔ ((which : ℕ) → ¬ IsTakenAsText text which)
none_taken text set small h = (empty, all)
  where
    empty : IsTrue (nat_eq set.mask 0) → (which : ℕ) → ¬ IsTakenAsText text which
    empty none which taken =
        let has = (h which).1 taken in
        let zero_is_one : 0 ≡ 1 = sym (bit_at-zero (which - 1)) ∙ ap (λ m. bit_at m (which - 1)) (sym (eqb-true set.mask 0 none)) ∙ has.1 in
        absurd (omega (arith, zero_is_one))

    same : (i : ℕ) → suc i - 1 ≡ i
    same i = omega arith

    all : ((which : ℕ) → ¬ IsTakenAsText text which) → IsTrue (nat_eq set.mask 0)
    all none = eq-eqb set.mask 0 (no_bit 16 set.mask small (λ i one. none (suc i) ((h (suc i)).0 (omega arith, ap (bit_at set.mask) (same i) ∙ one))))

-- ---- what is due

module _ (name : List ℕ) (given : Option Given) (item : Option ItemValue) (due : Result (List ℕ) ToolFault → Type 0) where
  -- what is due for a value that the words fit
  pub fit_of : {V : Type 0} (r : Result V ToolFault) (DueOf : V → Result (List ℕ) ToolFault → Type 0) (bytes_of : V → List ℕ) → ((which : ℕ) → ¬ IsUnfit name given item which)
      → MatchResult r (λ v. DueOf v (Ok (bytes_of v))) (FailsAsDue due)
      → MatchResult r (λ v. IsDueIfFit name given item (DueOf v) (Ok (bytes_of v))) (FailsAsDue (IsDueIfFit name given item due))
  fit_of (Ok v) DueOf bytes_of none d = inr (none, d)
  fit_of (Err e) DueOf bytes_of none (inl (is, needs)) = inl (is, needs_too)
    where
      needs_too : NeedsMemory (IsDueIfFit name given item due)
      needs_too f (inl (which, unfit, same)) = absurd (none which unfit)
      needs_too f (inr (fit, d)) = needs f d
  fit_of (Err e) DueOf bytes_of none (inr d) = inr (inr (none, d))

  -- an output is that of a value that the words fit
  pub fit_output : (out : List ℕ) → IsDueIfFit name given item due (Ok out) → due (Ok out)
  fit_output out (inl (which, unfit, same)) = absurd cc
  fit_output out (inr (fit, d)) = d

  pub fit_never : IsNeverOwn due → IsNeverOwn (IsDueIfFit name given item due)
  fit_never never = record { no_write = writes; no_memory = takes }
    where
      writes : (gone : ℕ) → ¬ IsDueIfFit name given item due (Err (fault.Write gone))
      writes gone (inl (which, unfit, same)) = absurd cc
      writes gone (inr (fit, d)) = never.no_write gone d

      takes : ¬ IsDueIfFit name given item due (Err fault.Memory)
      takes (inl (which, unfit, same)) = absurd cc
      takes (inr (fit, d)) = never.no_memory d

  -- one result is due
  pub fit_once : (also : Result (List ℕ) ToolFault → Type 0) → ((r s : Result (List ℕ) ToolFault) → due r → also s → r ≡ s) → (r s : Result (List ℕ) ToolFault) → IsDueIfFit name given item due r → IsDueIfFit name given item also s
      → r ≡ s
  fit_once also once r s (inl (which, unfit, is)) (inl (other, misfit, same)) =
      let places : Some which ≡ Some other = sym unfit.2 ∙ misfit.2 in
      let one : which ≡ other = cc in
      is ∙ ap (λ n. Err (fault.OnlyNumbers n)) one ∙ sym same
  fit_once also once r s (inl (which, unfit, is)) (inr (fit, h)) = absurd (fit which unfit)
  fit_once also once r s (inr (fit, d)) (inl (which, unfit, is)) = absurd (fit which unfit)
  fit_once also once r s (inr (fit, d)) (inr (fits, h)) = once r s d h
