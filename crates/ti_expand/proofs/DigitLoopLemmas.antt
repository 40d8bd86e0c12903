-- The loops over the digits of a number, from the last on.
use Rattle.std.proofs.Common.{◌≡◌, ℕ, ◌+◌, ◌-◌, ◌/◌, ◌%◌, ◌^◌, ◌<◌, ◌≤◌, Bool, List, [], ◌∷◌, ◌++◌, length, take, drop, set, ap, sym, ◌∙◌, arith, append_assoc, length-append, length-set}
use Rattle.std.proofs.Math.Nat.{div-lt_self}
use Rattle.std.proofs.lemmas.List.{drop-set, take-set, take-take}
use Rattle.std.specs.Fmt.{digit_glyph}
use Rattle.ti_expand.specs.Printed.{significant}
use Rattle.ti_expand.proofs.SignificantLemmas.{significant-step}

pub length-significant : (base : ℕ) (upper : Bool) (n : ℕ) → 2 ≤ base → 0 < n → n < 2 ^ 64 → length (significant base upper n) ≡ length (significant base upper (n / base)) + 1
length-significant base upper n large some h =
    ap length (significant-step base upper large n some h) ∙ length-append (significant base upper (n / base)) (digit_glyph upper (n % base) ∷ [])

-- ---- counting

-- so many digits are counted, and those of what is left are not
pub record IsCounting (base number count left : ℕ) : Type 0 where
  pub few : count + left ≤ number
  pub counted : (upper : Bool) → count + length (significant base upper left) ≡ length (significant base upper number)

pub counting_step : (base number count left : ℕ) → 2 ≤ base → 0 < left → left < 2 ^ 64 → IsCounting base number count left → IsCounting base number (count + 1) (left / base)
counting_step base number count left large some h k =
    let less : left / base < left = div-lt_self some (omega arith) in
    record {
      few = omega (arith, k.few);
      counted = λ upper. omega (arith, k.counted upper, length-significant base upper left large some h);
    }

-- ---- writing

-- lists with equal fronts have equal shorter fronts
take_fewer : (m n : ℕ) (xs ys : List ℕ) → m ≤ n → take n xs ≡ take n ys → take m xs ≡ take m ys
take_fewer m n xs ys le e = sym (take-take m n xs le) ∙ ap (take m) e ∙ take-take m n ys le

-- the digits of what is left are still to be written before this place
pub record IsWriting (base : ℕ) (upper : Bool) (number end : ℕ) (old : List ℕ) (at left : ℕ) (out : List ℕ) : Type 0 where
  pub within : at ≤ length out
  pub place : at + length (significant base upper number) ≡ end + length (significant base upper left)
  pub written : significant base upper left ++ drop at out ≡ significant base upper number ++ drop end old
  pub before : take at out ≡ take at old

module _ (base : ℕ) (upper : Bool) (number end : ℕ) (old : List ℕ) (at left : ℕ) (out : List ℕ) where
  pub writing_room : 2 ≤ base → 0 < left → left < 2 ^ 64 → length (significant base upper number) ≤ end → IsWriting base upper number end old at left out → 1 ≤ at
  writing_room large some h room w = omega (arith, w.place, length-significant base upper left large some h)

  pub writing_step : (g : ℕ) → 2 ≤ base → 0 < left → left < 2 ^ 64 → 1 ≤ at → g ≡ digit_glyph upper (left % base) → IsWriting base upper number end old at left out
      → IsWriting base upper number end old (at - 1) (left / base) (set out (at - 1) g)
  writing_step g large some h room e w =
      let here : drop (at - 1) (set out (at - 1) g) ≡ g ∷ drop at out =
      drop-set out (at - 1) g (omega (arith, w.within)) ∙ ap (λ (j : ℕ). g ∷ drop j out) {x = at - 1 + 1} {y = at} (omega arith) in
      let front = significant base upper (left / base) in
      let same : significant base upper left ≡ front ++ g ∷ [] =
      significant-step base upper large left some h ∙ ap (λ (x : ℕ). front ++ x ∷ []) (sym e) in
      record {
        within = omega (arith, w.within, length-set {A = ℕ});
        place = omega (arith, w.place, length-significant base upper left large some h);
        written =
            ap (λ (x : List ℕ). front ++ x) here
            ∙ sym (append_assoc front (g ∷ []) (drop at out))
            ∙ ap (λ (x : List ℕ). x ++ drop at out) (sym same)
            ∙ w.written;
        before = take-set out (at - 1) g ∙ take_fewer (at - 1) at out old (omega arith) w.before;
      }
