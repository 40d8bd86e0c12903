-- Sets of heights by their bits.
use Rattle.std.proofs.Common.{◌≡◌, ◌≢◌, ℕ, zero, suc, ◌+◌, ◌-◌, ◌*◌, ◌/◌, ◌%◌, ◌^◌, ◌<◌, ◌≤◌, min, max, ◌⊎◌, inl, inr, ◌↔◌, bit_and, bit_or, refl, sym, ◌∙◌, ap, subst, arith}
use Rattle.std.specs.Int.{bit_at}
use Rattle.std.proofs.lemmas.Nat.{pow_pos}
use Rattle.std.proofs.lemmas.Nat.Bits.{bit_at-suc, bit_at_and, bit_at_or, bit_at-lt, bit_at_above, bit_at-pow_same, bit_at-pow_other, bit_at_cat_low, bit_at_cat_high}
use Rattle.ti_cap.specs.declared.language.Token.{Token}
use Rattle.ti_cap.specs.declared.language.Token.TheVariants.{Compute}
use Rattle.ti_cap.specs.Height.{pops, pushes, next_height}
use Rattle.ti_lint.specs.declared.heights.Heights.{Heights}
use Rattle.ti_lint.specs.inner.Facts.{lowered, raised, either_height, after_pops, after_pushes, after_heights}

abbrev pub HasHeight : Heights → ℕ → Type 0
HasHeight set h = bit_at set.mask h ≡ 1

pub has_either : (a b : Heights) (h : ℕ) → HasHeight (either_height a b) h ↔ (HasHeight a h ⊎ HasHeight b h)
has_either a b h = (apart, together)
  where
    is : bit_at (bit_or a.mask b.mask) h ≡ max (bit_at a.mask h) (bit_at b.mask h)
    is = bit_at_or a.mask b.mask h

    either : (x y : ℕ) → max x y ≡ 1 → (x ≡ 1) ⊎ (y ≡ 1)
    either x y e = grind arith

    apart : HasHeight (either_height a b) h → HasHeight a h ⊎ HasHeight b h
    apart e = either _ _ (sym is ∙ e)

    together : HasHeight a h ⊎ HasHeight b h → HasHeight (either_height a b) h
    together (inl e) = omega (arith, is, e, bit_at-lt b.mask h)
    together (inr e) = omega (arith, is, e, bit_at-lt a.mask h)

-- the heights that come of those in a set
abbrev pub Comes : (ℕ → ℕ) → Heights → ℕ → Type 0
Comes next set h = (old : ℕ) × HasHeight set old × (h ≡ next old)

one_bit : (h : ℕ) → bit_at 1 h ≡ 1 → h ≡ 0
one_bit zero e = refl
one_bit (suc h) e = let away : suc h ≢ 0 = omega arith in absurd (omega (arith, e, bit_at-pow_other 0 (suc h) away))

pub has_lowered : (set : Heights) (h : ℕ) → HasHeight (lowered set) h ↔ Comes (λ old. old - 1) set h
has_lowered set h = (there, back)
  where
    is : (i : ℕ) → bit_at (lowered set).mask i ≡ max (bit_at set.mask (suc i)) (min (bit_at set.mask i) (bit_at 1 i))
    is i =
        bit_at_or (set.mask / 2 ^ 1) (bit_and set.mask 1) i
        ∙ ap (λ x. max x (bit_at (bit_and set.mask 1) i)) (sym (bit_at-suc set.mask i))
        ∙ ap (λ x. max (bit_at set.mask (suc i)) x) (bit_at_and set.mask 1 i)

    either : (x y z : ℕ) → max x (min y z) ≡ 1 → z < 2 → y < 2 → (x ≡ 1) ⊎ ((y ≡ 1) × (z ≡ 1))
    either x y z e f g = grind arith

    there : HasHeight (lowered set) h → Comes (λ old. old - 1) set h
    there e = elim (either _ _ _ (sym (is h) ∙ e) (bit_at-lt 1 h) (bit_at-lt set.mask h)) [
      | inl a ↦ (suc h, a, omega arith)
      | inr a ↦ (h, a.0, omega (arith, one_bit h a.1))
    ]

    back : Comes (λ old. old - 1) set h → HasHeight (lowered set) h
    back (zero, a, e) =
        let P : ℕ → Type 0 = λ x. HasHeight (lowered set) x in
        let same : 0 ≡ h = omega (arith, e) in
        let bit : HasHeight (lowered set) 0 = omega (arith, is 0, a, bit_at-pow_same 0, bit_at-lt set.mask 1) in
        subst P same bit
    back (suc old, a, e) =
        let P : ℕ → Type 0 = λ x. HasHeight (lowered set) x in
        let same : old ≡ h = omega (arith, e) in
        let bit : HasHeight (lowered set) old = omega (arith, is old, a, bit_at-lt set.mask old, bit_at-lt 1 old) in
        subst P same bit

-- the low bits of a number are those of its remainder
low_bits : (n k i : ℕ) → i < k → bit_at (n % 2 ^ k) i ≡ bit_at n i
low_bits n k i low =
    let p : 0 < 2 ^ k = pow_pos k in
    let e : n / 2 ^ k * 2 ^ k + n % 2 ^ k ≡ n = grind arith in
    sym (bit_at_cat_low (n / 2 ^ k) k (n % 2 ^ k) i low) ∙ ap (λ x. bit_at x i) e

doubled_low : (n : ℕ) → bit_at (n * 2 ^ 1) 0 ≡ 0
doubled_low n = let e : n * 2 ^ 1 + 0 ≡ n * 2 ^ 1 = omega arith in sym (ap (λ x. bit_at x 0) e) ∙ bit_at_cat_low n 1 0 0 (omega arith) ∙ refl

doubled_high : (n i : ℕ) → bit_at (n * 2 ^ 1) (suc i) ≡ bit_at n i
doubled_high n i =
    let e : n * 2 ^ 1 + 0 ≡ n * 2 ^ 1 = omega arith in
    let f : suc i - 1 ≡ i = omega arith in
    sym (ap (λ x. bit_at x (suc i)) e) ∙ bit_at_cat_high n 1 0 (suc i) (omega arith) (omega arith) ∙ ap (λ x. bit_at n x) f

-- there is room above each height of the set
abbrev pub IsLow : Heights → Type 0
IsLow set = (h : ℕ) → HasHeight set h → h < 63

pub has_raised : (set : Heights) (h : ℕ) → IsLow set → HasHeight (raised set) h ↔ Comes (λ old. old + 1) set h
has_raised set h low = (there h, back)
  where
    near : (i : ℕ) → (i < 64) ⊎ (64 ≤ i)
    near i = grind arith

    fits : (n : ℕ) → n % 2 ^ 64 < 2 ^ 64
    fits n = omega arith

    there : (i : ℕ) → HasHeight (raised set) i → Comes (λ old. old + 1) set i
    there i e = elim (near i) [ inl lt ↦ below i lt (sym (low_bits (set.mask * 2 ^ 1) 64 i lt) ∙ e) | inr ge ↦ absurd (omega (arith, e, bit_at_above (set.mask * 2 ^ 1 % 2 ^ 64) 64 i (fits (set.mask * 2 ^ 1)) ge)) ]
      where
        below : (i : ℕ) → i < 64 → bit_at (set.mask * 2 ^ 1) i ≡ 1 → Comes (λ old. old + 1) set i
        below zero lt e = absurd (omega (arith, e, doubled_low set.mask))
        below (suc i) lt e = (i, sym (doubled_high set.mask i) ∙ e, omega arith)

    back : Comes (λ old. old + 1) set h → HasHeight (raised set) h
    back (old, a, e) =
        let P : ℕ → Type 0 = λ x. HasHeight (raised set) x in
        let l : old < 63 = low old a in
        let same : suc old ≡ h = omega (arith, e) in
        subst P same (low_bits (set.mask * 2 ^ 1) 64 (suc old) (omega arith) ∙ doubled_high set.mask old ∙ a)

same_height : (set : Heights) (a b : ℕ) → a ≡ b → HasHeight set a → HasHeight set b
same_height set a b e h = let P : ℕ → Type 0 = λ x. HasHeight set x in subst P e h

has_same : (set : Heights) (h : ℕ) → HasHeight set h ↔ Comes (λ old. old - 0) set h
has_same set h = ((λ a. (h, a, omega arith)), (λ c. same_height set c.0 h (omega (arith, c.2)) c.1))

-- pops of which the first is made now
pops_there : (n : ℕ) (set : Heights) (h : ℕ) → Comes (λ old. old - n) (lowered set) h → Comes (λ old. old - suc n) set h
pops_there n set h c =
    let d : Comes (λ old. old - 1) set c.0 = (has_lowered set c.0).0 c.1 in
    (d.0, d.1, omega (arith, c.2, d.2))

pops_back : (n : ℕ) (set : Heights) (h : ℕ) → Comes (λ old. old - suc n) set h → Comes (λ old. old - n) (lowered set) h
pops_back n set h (old, a, e) = (old - 1, (has_lowered set (old - 1)).1 (old, a, refl), omega arith)

has_pops : (n : ℕ) (set : Heights) (h : ℕ) → HasHeight (after_pops n set) h ↔ Comes (λ old. old - n) set h
has_pops zero set h = has_same set h
has_pops (suc n) set h =
    let rest : HasHeight (after_pops n (lowered set)) h ↔ Comes (λ old. old - n) (lowered set) h = has_pops n (lowered set) h in
    ((λ a. pops_there n set h (rest.0 a)), (λ c. rest.1 (pops_back n set h c)))

low_pops : (n : ℕ) (set : Heights) → IsLow set → IsLow (after_pops n set)
low_pops n set low h a = let c : Comes (λ old. old - n) set h = (has_pops n set h).0 a in omega (arith, c.2, low c.0 c.1)

has_pushes : (n : ℕ) (set : Heights) (h : ℕ) → n ≤ 1 → IsLow set → HasHeight (after_pushes n set) h ↔ Comes (λ old. old + n) set h
has_pushes zero set h few low = ((λ a. (h, a, omega arith)), (λ c. same_height set c.0 h (omega (arith, c.2)) c.1))
has_pushes (suc zero) set h few low = has_raised set h low
has_pushes (suc (suc n)) set h few low = absurd (omega arith)

pub pushes_few : (k : Token) → pushes k ≤ 1
pushes_few (Compute op) = omega arith
pushes_few _ = omega arith

-- the heights after a token
pub has_after : (k : Token) (set : Heights) (h : ℕ) → IsLow set → HasHeight (after_heights k set) h ↔ Comes (λ old. next_height old k) set h
has_after k set h low = (there, back)
  where
    last : HasHeight (after_heights k set) h ↔ Comes (λ old. old + pushes k) (after_pops (pops k) set) h
    last = has_pushes (pushes k) (after_pops (pops k) set) h (pushes_few k) (low_pops (pops k) set low)

    there : HasHeight (after_heights k set) h → Comes (λ old. next_height old k) set h
    there a =
        let c : Comes (λ old. old + pushes k) (after_pops (pops k) set) h = last.0 a in
        let d : Comes (λ old. old - pops k) set c.0 = (has_pops (pops k) set c.0).0 c.1 in
        (d.0, d.1, c.2 ∙ ap (λ x. x + pushes k) d.2)

    back : Comes (λ old. next_height old k) set h → HasHeight (after_heights k set) h
    back (old, a, e) = last.1 (old - pops k, (has_pops (pops k) set (old - pops k)).1 (old, a, refl), e)
