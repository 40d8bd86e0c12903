-- The time of all marks, from the front.
use Rattle.std.proofs.Common.{◌≡◌, ℕ, ◌+◌, List, [], ◌∷◌, arith, length, refl, subst, sym}
use Rattle.ti_pad.specs.Delays.{delay_at, total_delay}

pub total_first : (bytes : List ℕ) (byte : ℕ) (rest : List ℕ) → bytes ≡ byte ∷ rest → total_delay bytes ≡ delay_at bytes + total_delay rest
unfolding total_delay
total_first bytes byte rest all =
    let P : List ℕ → Type 0 = λ l. total_delay l ≡ delay_at l + total_delay rest in
    subst P (sym all) refl

pub total_none : (bytes : List ℕ) → length bytes ≡ 0 → total_delay bytes ≡ 0
unfolding total_delay
total_none [] none = refl
total_none (byte ∷ rest) none = absurd (omega (arith, none))
