-- The faults of padding, as C gets them.
use Rattle.std.proofs.Common.{◌≡◌, ◌≤◌, ◌<◌, ◌+◌, ◌↔◌, ℕ, true, true≢false, List, Result, Err, IsOk, inl, inr, length, refl, ap, sym, subst, arith}
use Rattle.std.proofs.Math.Nat.{lt_of_not-le}
use Rattle.ti_base.specs.Limits.{most_padded_bytes}
use Rattle.ti_pad.specs.Into.{IsPadIntoFault}
use Rattle.ti_pad.specs.Padded.{padded_text}
use Rattle.ti_pad.specs.Setting.{Setting}
use Rattle.ti_pad.specs.declared.slice.PadIntoFault.{PadIntoFault}
use Rattle.ti_pad.specs.declared.slice.PadIntoFault.TheVariants.{TooMuch}
use Rattle.ti_c.specs.declared.padding.GivenPadding.{GivenPadding}
use Rattle.ti_c.specs.Padding.{is_within_limits, padded_as_given, padding_number, setting_given, IsPaddingFault}

-- a call that had none of the faults had a text within the limit
pub few_bytes : (text : List ℕ) (room : ℕ) (r : Result ℕ PadIntoFault) → IsOk r → ((fault : PadIntoFault) → (r ≡ Err fault) ↔ IsPadIntoFault text room fault)
    → length text ≤ most_padded_bytes
few_bytes text room r ok faults =
    let none : ¬ (most_padded_bytes < length text) = λ above. true≢false (sym (subst IsOk ((faults (TooMuch (length text))).1 (refl, above)) ok)) in
    let below : length text < most_padded_bytes + 1 = lt_of_not-le (λ above. none (omega (arith, above))) in
    omega (arith, below)

-- within the limits the faults are those of the padded text
module _ (text : List ℕ) (p : GivenPadding) (s : Setting) (room : ℕ) (is : s ≡ setting_given p) (within : is_within_limits p ≡ true) where
  pub told : (fault : PadIntoFault) → IsPadIntoFault (padded_text text s) room fault → IsPaddingFault text p room (padding_number fault)
  told fault h = inr (within, fault, refl, subst (λ (t : Setting). IsPadIntoFault (padded_text text t) room fault) is h)

  pub only : (r : Result ℕ PadIntoFault) (number : ℕ) → ((fault : PadIntoFault) → (r ≡ Err fault) ↔ IsPadIntoFault (padded_text text s) room fault)
      → IsPaddingFault text p room number → (fault : PadIntoFault) × (number ≡ padding_number fault) × (r ≡ Err fault)
  only r number faults (inl f) = absurd (cc (within, f.0))
  only r number faults (inr (w, fault, n, h)) = (fault, n, (faults fault).1 (subst (λ (t : Setting). IsPadIntoFault (padded_text text t) room fault) (sym is) h))

-- what is said of the padded text is said of it as it is given
pub given_length : (text : List ℕ) (p : GivenPadding) (s : Setting) → s ≡ setting_given p → length (padded_text text s) ≡ length (padded_as_given text p)
given_length text p s is = ap (λ (t : Setting). length (padded_text text t)) is
