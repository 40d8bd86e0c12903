-- Parameters without a text, put one after another.
use Rattle.std.proofs.Common.{◌≡◌, ℕ, zero, suc, ◌+◌, ◌<◌, List, [], ◌∷◌, length, take, get_or, set, pos, arith, subst}
use Rattle.std.proofs.lemmas.Int.{ints}
use Rattle.std.specs.Prelude.{FitsSigned}
use Rattle.std.specs.Int.{w32}
use Rattle.std.specs.List.{AllByRecursion}
use Rattle.ti_c.specs.declared.expansion.Parameter.{Parameter}
use Rattle.ti_c.specs.Given.{value_given, values_given}
use Rattle.ti_c.proofs.ValuesLemmas.{values_more}
use Rattle.ti_expand.specs.declared.values.Value.{Value}
use Rattle.ti_expand.specs.Sound.{IsSoundValue}
use Rattle.ti_expand.specs.Expands.{AreShort, text_len, longest_text}

-- nine zeros
pub none_given : AreShort (values_given []) 0
none_given =
    let zero_fits : FitsSigned w32 (pos 0) = omega (arith, ints) in
    record {
      longest_is = omega arith;
      short = omega arith;
      sound = (zero_fits, (zero_fits, (zero_fits, (zero_fits, (zero_fits, (zero_fits, (zero_fits, (zero_fits, (zero_fits, tt)))))))));
    }

longest_set : (vs : List Value) (i : ℕ) (v : Value) → 0 ≡ longest_text vs → text_len v ≡ 0 → 0 ≡ longest_text (set vs i v)
longest_set [] i v all none = omega arith
longest_set (x ∷ vs) zero v all none = omega arith
longest_set (x ∷ vs) (suc i) v all none = omega (arith, longest_set vs i v (omega arith) none)

all_set : (P : Value → Type 0) (vs : List Value) (i : ℕ) (v : Value) → AllByRecursion P vs → P v → AllByRecursion P (set vs i v)
all_set P [] i v all p = tt
all_set P (x ∷ vs) zero v all p = (p, all.1)
all_set P (x ∷ vs) (suc i) v all p = (all.0, all_set P vs i v all.1 p)

-- one number more
pub short_given : (ps : List Parameter) (i : ℕ) (d : Parameter) → i < length ps → i < 9 → AreShort (values_given (take i ps)) 0
    → text_len (value_given (get_or ps i d)) ≡ 0 → IsSoundValue 0 (value_given (get_or ps i d)) → AreShort (values_given (take (i + 1) ps)) 0
short_given ps i d more few before none sound =
    let vs = values_given (take i ps) in
    let v = value_given (get_or ps i d) in
    let one : AreShort (set vs i v) 0 = record { longest_is = longest_set vs i v before.longest_is none; short = omega arith; sound = all_set (IsSoundValue 0) vs i v before.sound sound } in
    subst (λ (all : List Value). AreShort all 0) (values_more ps i d more few) one
