-- The values of the nine parameters, put one after another.
use Rattle.std.proofs.Common.{◌≡◌, ℕ, zero, suc, ◌+◌, ◌<◌, List, [], ◌∷◌, length, take, get_or, set, pos, refl, sym, ap, ◌∙◌, arith, add-one, ℤ}
use Rattle.std.proofs.lemmas.List.{map-set}
use Rattle.ti_c.specs.declared.expansion.Parameter.{Parameter}
use Rattle.ti_expand.specs.declared.values.Value.{Value}
use Rattle.ti_expand.specs.declared.values.Value.TheVariants.{Num}
use Rattle.ti_expand.specs.State.{values_of}
use Rattle.ti_c.specs.Given.{value_given, values_given}

-- the values of the first parameters, and 0 for each that is missing
filled : ℕ → List Parameter → List Value
filled zero ps = []
filled (suc n) [] = Num (pos 0) ∷ filled n []
filled (suc n) (p ∷ ps) = value_given p ∷ filled n ps

nine_filled : (ps : List Parameter) → values_given ps ≡ filled 9 ps
unfolding filled
nine_filled [] = refl
nine_filled (a ∷ []) = refl
nine_filled (a ∷ b ∷ []) = refl
nine_filled (a ∷ b ∷ c ∷ []) = refl
nine_filled (a ∷ b ∷ c ∷ d ∷ []) = refl
nine_filled (a ∷ b ∷ c ∷ d ∷ e ∷ []) = refl
nine_filled (a ∷ b ∷ c ∷ d ∷ e ∷ f ∷ []) = refl
nine_filled (a ∷ b ∷ c ∷ d ∷ e ∷ f ∷ g ∷ []) = refl
nine_filled (a ∷ b ∷ c ∷ d ∷ e ∷ f ∷ g ∷ h ∷ []) = refl
nine_filled (a ∷ b ∷ c ∷ d ∷ e ∷ f ∷ g ∷ h ∷ i ∷ ps) = refl

filled_more : (n : ℕ) (ps : List Parameter) (i : ℕ) (d : Parameter) → i < length ps → i < n
    → set (filled n (take i ps)) i (value_given (get_or ps i d)) ≡ filled n (take (suc i) ps)
unfolding filled
filled_more n [] i d more few = absurd (omega arith)
filled_more zero (p ∷ ps) i d more few = absurd (omega arith)
filled_more (suc n) (p ∷ ps) zero d more few = refl
filled_more (suc n) (p ∷ ps) (suc i) d more few = ap (λ l. value_given p ∷ l) (filled_more n ps i d (omega arith) (omega arith))

-- one more value is put
pub values_more : (ps : List Parameter) (i : ℕ) (d : Parameter) → i < length ps → i < 9
    → set (values_given (take i ps)) i (value_given (get_or ps i d)) ≡ values_given (take (i + 1) ps)
values_more ps i d more few =
    ap (λ l. set l i (value_given (get_or ps i d))) (nine_filled (take i ps))
    ∙ filled_more 9 ps i d more few
    ∙ sym (nine_filled (take (suc i) ps))
    ∙ ap (λ k. values_given (take k ps)) (sym (add-one i))

-- one more number is put
pub numbers_more : (ps : List Parameter) (numbers : List ℤ) (i : ℕ) (n : ℤ) (d : Parameter) → i < length ps → i < 9
    → values_of numbers ≡ values_given (take i ps) → value_given (get_or ps i d) ≡ Num n → values_of (set numbers i n) ≡ values_given (take (i + 1) ps)
numbers_more ps numbers i n d more few same is =
    map-set (λ (m : ℤ). Num m) numbers i n
    ∙ ap (λ (l : List Value). set l i (Num n)) same
    ∙ ap (λ (v : Value). set (values_given (take i ps)) i v) (sym is)
    ∙ values_more ps i d more few
