-- What is known of values stays so with each token.
use Rattle.std.proofs.Common.{◌≡◌, ◌≢◌, ℕ, ◌+◌, ◌-◌, ◌<◌, ◌≤◌, Bool, true, false, ◌||◌, List, [], ◌∷◌, length, ℤ, ap, refl, sym, subst, ◌∙◌, arith, get_or-set_same, get_or-set_other}
use Rattle.std.proofs.lemmas.Bool.Decides.{nat_tests}
use Rattle.std.specs.Prelude.{Option, Some, None, ◌==◌, if◌then◌else◌}
use Rattle.ti_cap.specs.declared.language.Op.{Op}
use Rattle.ti_cap.specs.declared.language.Op.TheVariants.{Not, BitNot}
use Rattle.ti_cap.specs.declared.language.Token.{Token}
use Rattle.ti_cap.specs.declared.language.Token.TheVariants.{Byte, Param, Constant, Store, Load, Length, Compute, Increment, Char, Print, CondOpen, CondThen, CondElse, CondClose}
use Rattle.ti_expand.specs.Effect.{after_operation, char_byte, combine, complement, flag_number, is_zero}
use Rattle.ti_expand.specs.Meaning.{after_test}
use Rattle.ti_expand.specs.State.{State, number_on, parameter, variable_at, variable_index, with_variable_at, without_top}
use Rattle.ti_expand.specs.Steps.{meet}
use Rattle.ti_expand.specs.declared.values.Value.{Value}
use Rattle.ti_expand.specs.declared.values.Value.TheVariants.{Num, Text}
use Rattle.ti_parser.specs.Characters.{is_between}
use Rattle.ti_parser.specs.Given.{first_byte, may_be}
use Rattle.ti_parser.specs.Paths.{AreData}
use Rattle.ti_parser.specs.declared.names.Names.{Names}
use Rattle.ti_parser.specs.declared.names.Stored.{Stored}
use Rattle.ti_parser.specs.Tops.{AreOnTop, AreStored, AreTops, IsStored, IsTop, combined, computed, is_variable, known, negated, number_at, number_in, number_of, other_than, parameter_top, popped, pushed, stored_as, tops_after, turned, unknown}
use Rattle.ti_parser.specs.declared.reading.FirstCharacter.{FirstCharacter}
use Rattle.ti_parser.specs.declared.tops.Top.{Top}
use Rattle.ti_parser.specs.declared.tops.Top.TheVariants.{Number, Printed}
use Rattle.ti_parser.specs.declared.tops.Tops.{Tops}

pub tops_popped : (t : Tops) (stack : List Value) → AreOnTop t stack → AreOnTop (popped t) (without_top stack)
tops_popped t stack h = record { first = h.second; second = h.third; third = h.fourth; fourth = refl }

tops_pushed : (t : Tops) (stack : List Value) (value : Top) (v : Value) → IsTop value (v ∷ stack) → AreOnTop t stack → AreOnTop (pushed value t) (v ∷ stack)
tops_pushed t stack value v e h = record { first = e; second = h.first; third = h.second; fourth = h.third }

negated_top : (value : Top) (stack : List Value) (v : Value) (rest : List Value) → number_on (v ∷ rest) ≡ flag_number (is_zero (number_on stack)) → IsTop value stack → IsTop (negated value) (v ∷ rest)
negated_top (Printed character) stack v rest e h = refl
negated_top (Number n) stack v rest e h = e ∙ ap (λ x. flag_number (is_zero x)) h

turned_top : (value : Top) (stack : List Value) (v : Value) (rest : List Value) → number_on (v ∷ rest) ≡ complement (number_on stack) → IsTop value stack → IsTop (turned value) (v ∷ rest)
turned_top (Printed character) stack v rest e h = refl
turned_top (Number n) stack v rest e h = e ∙ ap complement h

combined_top : (op : Op) (left right : Top) (stack : List Value) (v : Value) (rest : List Value) → number_on (v ∷ rest) ≡ combine op (number_on (without_top stack)) (number_on stack)
    → IsTop left (without_top stack) → IsTop right stack → IsTop (combined op left right) (v ∷ rest)
combined_top op (Printed character) right stack v rest e h g = refl
combined_top op (Number l) (Printed character) stack v rest e h g = refl
combined_top op (Number l) (Number r) stack v rest e h g = e ∙ ap (λ x. combine op x (number_on stack)) h ∙ ap (combine op l) g

tops_computed : (op : Op) (t : Tops) (stack : List Value) → AreOnTop t stack → AreOnTop (computed op t) (after_operation op stack)
tops_computed Not t stack h = tops_pushed (popped t) (without_top stack) (negated t.first) _ (negated_top t.first stack _ (without_top stack) refl h.first) (tops_popped t stack h)
tops_computed BitNot t stack h = tops_pushed (popped t) (without_top stack) (turned t.first) _ (turned_top t.first stack _ (without_top stack) refl h.first) (tops_popped t stack h)
tops_computed op t stack h =
    tops_pushed (popped (popped t)) (without_top (without_top stack)) (combined op t.second t.first) _
    (combined_top op t.second t.first stack _ (without_top (without_top stack)) refl h.second h.first) (tops_popped (popped t) (without_top stack) (tops_popped t stack h))

-- ---- variables

-- where a variable stands, by the tests of its letter
abbrev index_by : Bool → Bool → ℕ → Option ℕ
index_by small big a = if small then Some (a - 97) else (if big then Some (a - 65 + 26) else None)

-- what the tests say
record Tested (small big : Bool) (a : ℕ) : Type 0 where
  small_is : small ≡ true → (97 ≤ a) × (a ≤ 122)
  big_is : big ≡ true → (65 ≤ a) × (a ≤ 90)

tested : (a : ℕ) → Tested (is_between 97 122 a) (is_between 65 90 a) a
tested a = record { small_is = λ e. (grind (arith, nat_tests, e), grind (arith, nat_tests, e)); big_is = λ e. (grind (arith, nat_tests, e), grind (arith, nat_tests, e)) }

same_by : (variables : List ℤ) (small big : Bool) (a : ℕ) (n : ℤ) → Tested small big a → length variables ≡ 52 → (small || big) ≡ true
    → variable_at (with_variable_at variables (index_by small big a) n) (index_by small big a) ≡ n
same_by variables true big a n h e v = let f = h.small_is refl in let low : a - 97 < length variables = omega (arith, f.0, f.1, e) in rw get_or-set_same
same_by variables false true a n h e v = let f = h.big_is refl in let low : a - 65 + 26 < length variables = omega (arith, f.0, f.1, e) in rw get_or-set_same
same_by variables false false a n h e v = absurd (cc)

same_index : (variables : List ℤ) (a : ℕ) (n : ℤ) → length variables ≡ 52 → is_variable a ≡ true → variable_at (with_variable_at variables (variable_index a) n) (variable_index a) ≡ n
same_index variables a n e v = same_by variables (is_between 97 122 a) (is_between 65 90 a) a n (tested a) e v

-- another letter names another variable
other_by : (variables : List ℤ) (small big less more : Bool) (a b : ℕ) (n : ℤ) → Tested small big a → Tested less more b → (a ≡ b → ⊥)
    → variable_at (with_variable_at variables (index_by less more b) n) (index_by small big a) ≡ variable_at variables (index_by small big a)
other_by variables small big false false a b n h g d = refl
other_by variables false false less more a b n h g d = refl
other_by variables true big true more a b n h g d =
    let f = h.small_is refl in let i = g.small_is refl in let k : a - 97 ≢ b - 97 = (λ e. d (omega (arith, f.0, f.1, i.0, i.1, e))) in rw get_or-set_other
other_by variables true big false true a b n h g d =
    let f = h.small_is refl in let i = g.big_is refl in let k : a - 97 ≢ b - 65 + 26 = (λ e. absurd (omega (arith, f.0, f.1, i.0, i.1, e))) in rw get_or-set_other
other_by variables false true true more a b n h g d =
    let f = h.big_is refl in let i = g.small_is refl in let k : a - 65 + 26 ≢ b - 97 = (λ e. absurd (omega (arith, f.0, f.1, i.0, i.1, e))) in rw get_or-set_other
other_by variables false true false true a b n h g d =
    let f = h.big_is refl in let i = g.big_is refl in let k : a - 65 + 26 ≢ b - 65 + 26 = (λ e. d (omega (arith, f.0, f.1, i.0, i.1, e))) in rw get_or-set_other

other_index : (variables : List ℤ) (a b : ℕ) (n : ℤ) → (a == b) ≡ false → variable_at (with_variable_at variables (variable_index b) n) (variable_index a) ≡ variable_at variables (variable_index a)
other_index variables a b n e = other_by variables (is_between 97 122 a) (is_between 65 90 a) (is_between 97 122 b) (is_between 65 90 b) a b n (tested a) (tested b) (grind (arith, nat_tests, e))

-- what is known of a variable's number
abbrev pub NumberIs : Option ℤ → ℕ → List ℤ → Type 0
NumberIs None letter variables = Unit {0}
NumberIs (Some n) letter variables = variable_at variables (variable_index letter) ≡ n

number_at_is : (known : Option Stored) (letter : ℕ) (otherwise : Option ℤ) (variables : List ℤ) → IsStored known variables → NumberIs otherwise letter variables
    → NumberIs (number_at known letter otherwise) letter variables
number_at_is None letter otherwise variables h g = g
number_at_is (Some s) letter otherwise variables h g = by (s.letter == letter) refl
  where
    by : (t : Bool) → (s.letter == letter) ≡ t → NumberIs (if t then Some s.number else otherwise) letter variables
    by true e = let same : s.letter ≡ letter = grind (arith, nat_tests, e) in ap (λ x. variable_at variables (variable_index x)) (sym same) ∙ h
    by false e = g

pub number_in_is : (names : Names) (letter : ℕ) (variables : List ℤ) → AreStored names variables → NumberIs (number_in names letter) letter variables
number_in_is names letter variables h =
    number_at_is names.first letter _ variables h.first (number_at_is names.second letter _ variables h.second
    (number_at_is names.third letter _ variables h.third (number_at_is names.fourth letter None variables h.fourth tt)))

number_top : (value : Option ℤ) (letter : ℕ) (variables : List ℤ) (stack : List Value) → NumberIs value letter variables → IsTop (known value) (Num (variable_at variables (variable_index letter)) ∷ stack)
number_top None letter variables stack h = refl
number_top (Some n) letter variables stack h = h

others_stay : (known : Option Stored) (letter : ℕ) (n : ℤ) (variables : List ℤ) → IsStored known variables
    → IsStored (other_than letter known) (with_variable_at variables (variable_index letter) n)
others_stay None letter n variables h = tt
others_stay (Some s) letter n variables h = by (s.letter == letter) refl
  where
    by : (t : Bool) → (s.letter == letter) ≡ t → IsStored (if t then None else Some s) (with_variable_at variables (variable_index letter) n)
    by true e = tt
    by false e = other_index variables s.letter letter n e ∙ h

first_stored : (value : Option ℤ) (letter : ℕ) (n : ℤ) (variables : List ℤ) → length variables ≡ 52 → ((m : ℤ) → value ≡ Some m → n ≡ m)
    → IsStored (stored_as letter value) (with_variable_at variables (variable_index letter) n)
first_stored None letter n variables e h = tt
first_stored (Some m) letter n variables e h = by (is_variable letter) refl
  where
    by : (t : Bool) → is_variable letter ≡ t → IsStored (if t then Some (record { letter = letter; number = m }) else None) (with_variable_at variables (variable_index letter) n)
    by true v = same_index variables letter n e v ∙ h m refl
    by false v = tt

abbrev IsNumber : Option ℤ → List Value → Type 0
IsNumber None stack = Unit {0}
IsNumber (Some n) stack = number_on stack ≡ n

top_is : (value : Top) (stack : List Value) → IsTop value stack → (m : ℤ) → number_of value ≡ Some m → number_on stack ≡ m
top_is (Number n) stack h m e = let P : Option ℤ → Type 0 = λ x. IsNumber x stack in subst P e h
top_is (Printed character) stack h m e = absurd (cc)

names_computed : (op : Op) (t : Tops) (variables : List ℤ) → AreStored t.names variables → AreStored (computed op t).names variables
names_computed Not t variables h = h
names_computed BitNot t variables h = h
names_computed op t variables h = h

parameter_computed : (op : Op) (t : Tops) (byte : ℕ) → may_be t.parameter byte ≡ true → may_be (computed op t).parameter byte ≡ true
parameter_computed Not t byte h = h
parameter_computed BitNot t byte h = h
parameter_computed op t byte h = h

-- ---- the first parameter

number_alone : (v : Value) (below other : List Value) → number_on (v ∷ below) ≡ number_on (v ∷ other)
number_alone (Num n) below other = refl
number_alone (Text t) below other = refl

parameter_known : (which : ℕ) (character : FirstCharacter) (ps stack : List Value) → may_be character (first_byte ps) ≡ true
    → IsTop (parameter_top which character) (parameter ps which ∷ stack)
parameter_known which character ps stack h = by (which == 1) refl
  where
    by : (t : Bool) → (which == 1) ≡ t → IsTop (if t then Printed character else unknown) (parameter ps which ∷ stack)
    by true e =
        let same : which ≡ 1 = grind (arith, nat_tests, e) in
        let P : ℕ → Type 0 = λ x. may_be character (char_byte (number_on (parameter ps x ∷ stack))) ≡ true in
        subst P (sym same) (ap (λ n. may_be character (char_byte n)) (number_alone (parameter ps 1) stack []) ∙ h)
    by false e = refl

-- ---- a token

pub tops_tested : (t : Tops) (s : State) → AreTops t s → AreTops (popped t) (after_test s)
tops_tested t s h = record { stack = tops_popped t s.stack h.stack; variables = h.variables; parameter = h.parameter }

pub tops_meet : (k : Token) (s : State) (t : Tops) → AreData s → AreTops t s → AreTops (tops_after k t) (meet k s)
tops_meet (Byte b) s t d h = record { stack = h.stack; variables = h.variables; parameter = h.parameter }
tops_meet (Param p) s t d h = record { stack = tops_pushed t s.stack (parameter_top p t.parameter) _ (parameter_known p t.parameter s.parameters s.stack h.parameter) h.stack; variables = h.variables; parameter = h.parameter }
tops_meet (Constant n) s t d h = record { stack = tops_pushed t s.stack (Number n) _ refl h.stack; variables = h.variables; parameter = h.parameter }
tops_meet (Store v) s t d h = record {
  stack = let o : AreOnTop (popped t) (without_top s.stack) = tops_popped t s.stack h.stack in record { first = o.first; second = o.second; third = o.third; fourth = o.fourth };
  variables = record {
    first = first_stored (number_of t.first) v (number_on s.stack) s.variables d.variables (top_is t.first s.stack h.stack.first);
    second = others_stay t.names.first v (number_on s.stack) s.variables h.variables.first;
    third = others_stay t.names.second v (number_on s.stack) s.variables h.variables.second;
    fourth = others_stay t.names.third v (number_on s.stack) s.variables h.variables.third;
  };
  parameter = h.parameter;
}
tops_meet (Load v) s t d h = record {
  stack = tops_pushed t s.stack (known (number_in t.names v)) _ (number_top (number_in t.names v) v s.variables s.stack (number_in_is t.names v s.variables h.variables)) h.stack;
  variables = h.variables;
  parameter = h.parameter;
}
tops_meet Length s t d h = record { stack = tops_pushed (popped t) _ unknown _ refl (tops_popped t s.stack h.stack); variables = h.variables; parameter = h.parameter }
tops_meet (Compute op) s t d h = record { stack = tops_computed op t s.stack h.stack; variables = names_computed op t s.variables h.variables; parameter = parameter_computed op t _ h.parameter }
tops_meet Increment s t d h = record { stack = record { first = h.stack.first; second = h.stack.second; third = h.stack.third; fourth = h.stack.fourth }; variables = record { first = h.variables.first; second = h.variables.second; third = h.variables.third; fourth = h.variables.fourth }; parameter = refl }
tops_meet Char s t d h = record { stack = tops_popped t s.stack h.stack; variables = h.variables; parameter = h.parameter }
tops_meet (Print f) s t d h = record { stack = tops_popped t s.stack h.stack; variables = h.variables; parameter = h.parameter }
tops_meet CondOpen s t d h = h
tops_meet CondThen s t d h = tops_tested t s h
tops_meet CondElse s t d h = h
tops_meet CondClose s t d h = h
