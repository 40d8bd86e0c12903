-- Offsets that are gone over one after another, and the greatest of what they say.
use Rattle.std.proofs.Common.{◌≡◌, ◌∙◌, ◌+◌, ◌-◌, ◌*◌, ◌<◌, ℕ, suc, ◌∷◌, ap, arith, max, nat_cmp}
use Rattle.std.specs.Ordering.{ord_max}
use Rattle.ti_layout.specs.Layout.{places}

-- the places of the offsets that are left are the next one and those after it
pub places_next : (from count i : ℕ) → i < count → places (from + 2 * i) 2 (count - i) ≡ (from + 2 * i) ∷ places (from + 2 * (i + 1)) 2 (count - (i + 1))
places_next from count i lt =
    let k : count - i ≡ suc (count - (i + 1)) = omega arith in
    let next : from + 2 * i + 2 ≡ from + 2 * (i + 1) = omega arith in
    ap (places (from + 2 * i) 2) k ∙ ap (λ p. (from + 2 * i) ∷ places p 2 (count - (i + 1))) next

pub max_assoc : (a b c : ℕ) → max (max a b) c ≡ max a (max b c)
max_assoc a b c = omega arith

pub max_is : (a b : ℕ) → ord_max nat_cmp a b ≡ max a b
max_is a b = grind arith
