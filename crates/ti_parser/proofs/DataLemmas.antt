-- Texts that are data stay so on each path, and what is printed of them is data.
use Rattle.std.proofs.Common.{◌≡◌, ◌≢◌, ℕ, zero, suc, ◌-◌, Bool, true, false, ◌||◌, List, [], ◌∷◌, ◌++◌, length, take, replicate, nat_lt, refl, sym, ◌∙◌, subst, arith, ℤ, if◌then◌else◌}
use Rattle.std.proofs.lemmas.Bool.Decides.{nat_tests}
use Rattle.std.specs.List.{AllByRecursion, list_all}
use Rattle.std.specs.Prelude.{Option, Some, None}
use Rattle.ti_cap.specs.declared.language.Conversion.{Conversion}
use Rattle.ti_cap.specs.declared.language.Conversion.TheVariants.{Text as TextConversion}
use Rattle.ti_cap.specs.declared.language.Format.{Format}
use Rattle.ti_cap.specs.declared.language.Op.{Op}
use Rattle.ti_cap.specs.declared.language.Op.TheVariants.{Not, BitNot}
use Rattle.ti_cap.specs.declared.language.Token.{Token}
use Rattle.ti_cap.specs.declared.language.Token.TheVariants.{Byte, Param, Constant, Store, Load, Length, Compute, Increment, Char, Print, CondOpen, CondThen, CondElse, CondClose}
use Rattle.ti_cap.specs.declared.mode.Mode.{Mode}
use Rattle.ti_cap.specs.Pass.{is_running, next_mode}
use Rattle.ti_expand.specs.Effect.{print_for, after_operation, one_more, with_increments}
use Rattle.ti_expand.specs.Printed.{print_of_text, up_to_precision}
use Rattle.std.proofs.Math.ListN.{length-set}
use Rattle.ti_expand.specs.State.{State, number_on, parameter, text_on, variable_index, with_variable_at, without_top}
use Rattle.ti_expand.specs.Steps.{meet}
use Rattle.ti_expand.specs.declared.values.Value.{Value}
use Rattle.ti_expand.specs.declared.values.Value.TheVariants.{Num, Text}
use Rattle.ti_parser.specs.Covers.{IsOf, is_one_of}
use Rattle.ti_parser.specs.Given.{IsData, is_data, may_be}
use Rattle.ti_parser.specs.Paths.{AreData, met_by, written}
use Rattle.ti_parser.specs.inner.Forms.{characters, count_up, data_bytes}
use Rattle.ti_parser.specs.declared.reading.FirstCharacter.{FirstCharacter}
use Rattle.ti_parser.specs.declared.reading.FirstCharacter.TheVariants.{Any, Printable, Designator}
use Rattle.ti_parser.proofs.DigitLemmas.{front_holds, rest_holds}
use Rattle.ti_parser.proofs.FormLemmas.{in_count, of_both, of_same, one_left, one_right}
use Rattle.ti_parser.proofs.LeadLemmas.{each_one}

-- ---- values

without_top_data : (xs : List Value) → AllByRecursion IsData xs → AllByRecursion IsData (without_top xs)
without_top_data [] h = tt
without_top_data (x ∷ xs) h = h.1

operation_data : (op : Op) (xs : List Value) → AllByRecursion IsData xs → AllByRecursion IsData (after_operation op xs)
operation_data Not xs h = (tt, without_top_data xs h)
operation_data BitNot xs h = (tt, without_top_data xs h)
operation_data op xs h = (tt, without_top_data (without_top xs) (without_top_data xs h))

parameter_data : (ps : List Value) (k : ℕ) → AllByRecursion IsData ps → IsData (parameter ps k)
parameter_data ps zero h = tt
parameter_data [] (suc k) h = tt
parameter_data (p ∷ ps) (suc zero) h = h.0
parameter_data (p ∷ ps) (suc (suc k)) h = parameter_data ps (suc k) h.1

more_data : (v : Value) → IsData v → IsData (one_more v)
more_data (Num n) h = tt
more_data (Text t) h = h

increments_data : (ps : List Value) → AllByRecursion IsData ps → AllByRecursion IsData (with_increments ps)
increments_data [] h = tt
increments_data (p ∷ []) h = (more_data p h.0, tt)
increments_data (p ∷ q ∷ ps) h = (more_data p h.0, (more_data q h.1.0, h.1.1))

stored_many : (variables : List ℤ) (index : Option ℕ) (n : ℤ) → length (with_variable_at variables index n) ≡ length variables
stored_many variables None n = refl
stored_many variables (Some index) n = simp length-set

data_meet : (k : Token) (s : State) → AreData s → AreData (meet k s)
data_meet (Byte b) s h = record { variables = h.variables; stack = h.stack; parameters = h.parameters }
data_meet (Param k) s h = record { variables = h.variables; stack = (parameter_data s.parameters k h.parameters, h.stack); parameters = h.parameters }
data_meet (Constant n) s h = record { variables = h.variables; stack = (tt, h.stack); parameters = h.parameters }
data_meet (Store v) s h = record { variables = stored_many s.variables (variable_index v) (number_on s.stack) ∙ h.variables; stack = without_top_data s.stack h.stack; parameters = h.parameters }
data_meet (Load v) s h = record { variables = h.variables; stack = (tt, h.stack); parameters = h.parameters }
data_meet Length s h = record { variables = h.variables; stack = (tt, without_top_data s.stack h.stack); parameters = h.parameters }
data_meet (Compute op) s h = record { variables = h.variables; stack = operation_data op s.stack h.stack; parameters = h.parameters }
data_meet Increment s h = record { variables = h.variables; stack = h.stack; parameters = increments_data s.parameters h.parameters }
data_meet Char s h = record { variables = h.variables; stack = without_top_data s.stack h.stack; parameters = h.parameters }
data_meet (Print f) s h = record { variables = h.variables; stack = without_top_data s.stack h.stack; parameters = h.parameters }
data_meet CondOpen s h = h
data_meet CondThen s h = record { variables = h.variables; stack = without_top_data s.stack h.stack; parameters = h.parameters }
data_meet CondElse s h = h
data_meet CondClose s h = h

pub data_met : (k : Token) (m : Mode) (fails : Bool) (s : State) → AreData s → AreData (met_by k m fails s)
data_met k m fails s h = by (is_running m || is_running (next_mode m k fails))
  where
    by : (t : Bool) → AreData (if t then meet k s else s)
    by true = data_meet k s h
    by false = h

-- ---- prints

pub low_data : (b : ℕ) → is_data b ≡ true → is_one_of data_bytes b ≡ true
low_data b e = by (nat_lt b 63) refl
  where
    by : (t : Bool) → nat_lt b 63 ≡ t → is_one_of data_bytes b ≡ true
    by true l = one_left (count_up 32 31) (count_up 64 63) b (in_count 32 31 b (grind (arith, nat_tests, e, l)) (grind (arith, nat_tests, e, l)))
    by false l = one_right (count_up 32 31) (count_up 64 63) b (in_count 64 63 b (grind (arith, nat_tests, e, l)) (grind (arith, nat_tests, e, l)))

of_data : (t : List ℕ) → AllByRecursion (λ byte. is_data byte ≡ true) t → IsOf data_bytes t
of_data [] h = tt
of_data (b ∷ t) h = (low_data b h.0, of_data t h.1)

text_data : (xs : List Value) → AllByRecursion IsData xs → IsOf data_bytes (text_on xs)
text_data [] h = tt
text_data (Num n ∷ xs) h = tt
text_data (Text t ∷ xs) h = of_data t.now h.0

take_data : (n : ℕ) (t : List ℕ) → IsOf data_bytes t → IsOf data_bytes (take n t)
take_data zero t h = tt
take_data (suc n) [] h = tt
take_data (suc n) (b ∷ t) h = (h.0, take_data n t h.1)

shown_data : (p : Option ℕ) (t : List ℕ) → IsOf data_bytes t → IsOf data_bytes (up_to_precision p t)
shown_data None t h = h
shown_data (Some n) t h = take_data n t h

pub printed_data : (f : Format) (xs : List Value) → AllByRecursion IsData xs → IsOf data_bytes (print_of_text f (text_on xs))
printed_data f xs h = by f.left
  where
    shown : IsOf data_bytes (up_to_precision f.precision (text_on xs))
    shown = shown_data f.precision (text_on xs) (text_data xs h)

    by : (t : Bool) → IsOf data_bytes (if t
        then up_to_precision f.precision (text_on xs) ++ replicate (f.width - length (up_to_precision f.precision (text_on xs))) 32
        else replicate (f.width - length (up_to_precision f.precision (text_on xs))) 32 ++ up_to_precision f.precision (text_on xs))
    by true = of_both data_bytes (up_to_precision f.precision (text_on xs)) (replicate (f.width - length (up_to_precision f.precision (text_on xs))) 32) shown
        (of_same data_bytes (f.width - length (up_to_precision f.precision (text_on xs))) 32 refl)
    by false = of_both data_bytes (replicate (f.width - length (up_to_precision f.precision (text_on xs))) 32) (up_to_precision f.precision (text_on xs))
        (of_same data_bytes (f.width - length (up_to_precision f.precision (text_on xs))) 32 refl) shown

pub written_data : (k : Token) (f : Format) (s : State) → k ≡ Print f → f.conversion ≡ TextConversion → AreData s → IsOf data_bytes (written k s)
written_data k f s e c h =
    let P : Token → Type 0 = λ x. IsOf data_bytes (written x s) in
    let Q : Conversion → Type 0 = λ x. IsOf data_bytes (print_for x f s.stack) in
    subst P (sym e) (subst Q (sym c) (printed_data f s.stack h.stack))

-- ---- bytes

all_true : (p : ℕ → Bool) (xs : List ℕ) → list_all p xs ≡ true → AllByRecursion (λ x. p x ≡ true) xs
all_true p [] e = tt
all_true p (x ∷ xs) e = (front_holds (p x) (list_all p xs) e, all_true p xs (rest_holds (p x) (list_all p xs) e))

in_data : (b : ℕ) → is_one_of data_bytes b ≡ true → is_data b ≡ true
in_data b e = each_one (λ x. is_data x ≡ true) data_bytes b (all_true is_data data_bytes refl) e

pub all_data : (t : List ℕ) → IsOf data_bytes t → AllByRecursion (λ byte. is_data byte ≡ true) t
all_data [] h = tt
all_data (b ∷ t) h = (in_data b h.0, all_data t h.1)

-- a first parameter is one of its bytes
pub one_character : (character : FirstCharacter) (b : ℕ) → character ≢ Any → may_be character b ≡ true → is_one_of (characters character) b ≡ true
one_character Any b other e = absurd (other refl)
one_character Printable b other e = low_data b e
one_character Designator b other e = in_count 48 79 b (grind (arith, nat_tests, e)) (grind (arith, nat_tests, e))
