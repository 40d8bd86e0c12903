-- What the digits of a number do.
use Rattle.std.proofs.Common.{◌≡◌, ℕ, List, [], ◌∷◌, Bool, true, false, ◌&&◌, refl, ◌∙◌, ap, arith}
use Rattle.std.proofs.lemmas.Bool.Decides.{nat_tests}
use Rattle.std.specs.Prelude.{◌-◌}
use Rattle.std.specs.List.{list_all}
use Rattle.ti_parser.specs.Characters.{decoded}
use Rattle.ti_parser.specs.Classes.{class_of}
use Rattle.ti_parser.specs.Laws.{after_digits, blurred_configuration, is_digit, takes_digits}
use Rattle.std.specs.Prelude.{nat_lt, if◌then◌else◌, ◌-◌}
use Rattle.ti_parser.specs.Functions.{control}
use Rattle.ti_parser.specs.States.{is_string}
use Rattle.ti_parser.specs.Machine.{Run, Step, act, gives, is_ignored, is_swallowed, moved, plain, quiet, run, step, taken, then_run}
use Rattle.ti_parser.specs.Numbers.{with_digit}
use Rattle.ti_parser.specs.Transitions.{transition_of}
use Rattle.ti_parser.specs.declared.character.Begun.{Begun}
use Rattle.ti_parser.specs.declared.character.Begun.TheVariants.{Nothing}
use Rattle.ti_parser.specs.declared.character.Decoded.{Decoded}
use Rattle.ti_parser.specs.declared.character.Symbol.TheVariants.{Plain}
use Rattle.ti_parser.specs.declared.class.ByteClass.{ByteClass}
use Rattle.ti_parser.specs.declared.class.ByteClass.TheVariants.{Digit}
use Rattle.ti_parser.specs.declared.configuration.Configuration.{Configuration}
use Rattle.ti_parser.specs.declared.function.Function.{Function}
use Rattle.ti_parser.specs.declared.number.FunctionNumber.{FunctionNumber}
use Rattle.ti_parser.specs.declared.number.FunctionNumber.TheVariants.{Large}
use Rattle.ti_parser.specs.declared.reading.Coding.{Coding}
use Rattle.ti_parser.specs.declared.reading.Reading.{Reading}
use Rattle.ti_parser.specs.declared.reading.Within.{Within}
use Rattle.ti_parser.specs.declared.reading.Within.TheVariants.{StartsAnew, GoesOn}
use Rattle.ti_parser.specs.declared.state.State.{State}
use Rattle.ti_parser.specs.declared.state.State.TheVariants.{SequenceEntry, SequenceParameters, DeviceEntry, DeviceParameters, SystemNumber}
use Rattle.ti_parser.proofs.BlurLemmas.{blurred-digit}

class-digit : (byte : ℕ) → is_digit byte ≡ true → class_of byte ≡ Digit
unfolding class_of
class-digit byte h = grind (arith, nat_tests)

decoded-digit : (coding : Coding) (begun : Begun) (within : Bool) (byte : ℕ) → is_digit byte ≡ true
    → decoded coding begun within byte ≡ record { symbol = Plain byte; begun = Nothing }
unfolding decoded
decoded-digit coding begun within byte h = grind (arith, nat_tests)

low-digit : (byte : ℕ) → is_digit byte ≡ true → nat_lt byte 0x20 ≡ false
low-digit byte h = grind (arith, nat_tests)

pub none_of : (a b : Bool) → a && (false && b) ≡ false
none_of true b = refl
none_of false b = refl

-- a string ignores no digit
digit-swallowed : (within : Within) (byte : ℕ) (state : State) → is_digit byte ≡ true → is_swallowed within byte state ≡ false
digit-swallowed StartsAnew byte state h = refl
digit-swallowed GoesOn byte state h =
    let ignored : Bool = is_ignored (transition_of state (class_of byte)).action in
    let by_test : Bool → Bool = λ b. is_string state && (b && ignored) in
    ap by_test (low-digit byte h) ∙ none_of (is_string state) ignored

digit_moved : (state : State) (byte : ℕ) (c : Configuration) → takes_digits state ≡ true
    → moved (transition_of state Digit) byte c ≡ quiet (record c { state = after_digits state; number = with_digit c.number (byte - 48) })
unfolding transition_of act
digit_moved SequenceEntry byte c h = refl
digit_moved SequenceParameters byte c h = refl
digit_moved DeviceEntry byte c h = refl
digit_moved DeviceParameters byte c h = refl
digit_moved SystemNumber byte c h = refl
digit_moved state byte c h = absurd (cc)

after_digit : Configuration → ℕ → Configuration
after_digit c byte = record c { state = after_digits c.state; begun = Nothing; number = with_digit c.number (byte - 48) }

digit_step : (reading : Reading) (c : Configuration) (byte : ℕ) → takes_digits c.state ≡ true → is_digit byte ≡ true
    → step reading c byte ≡ quiet (after_digit c byte)
unfolding step taken plain after_digit
digit_step reading c byte h is =
    let with_begun : Configuration = record c { begun = Nothing } in
    let by_symbol : Decoded → Step = λ d. taken reading.within d.symbol (record c { begun = d.begun }) in
    let by_class : ByteClass → Step = λ k. moved (transition_of c.state k) byte with_begun in
    let by_test : Bool → Step = λ b. if b then gives with_begun (control byte) else plain byte with_begun in
    ap by_symbol (decoded-digit reading.coding c.begun _ byte is) ∙ ap by_test (digit-swallowed reading.within byte c.state is) ∙ ap by_class (class-digit byte is) ∙ digit_moved c.state byte with_begun h

takes_after : (state : State) → takes_digits state ≡ true → takes_digits (after_digits state) ≡ true
takes_after SequenceEntry h = refl
takes_after SequenceParameters h = refl
takes_after DeviceEntry h = refl
takes_after DeviceParameters h = refl
takes_after SystemNumber h = refl
takes_after state h = absurd (cc)

after_twice : (state : State) → after_digits (after_digits state) ≡ after_digits state
after_twice SequenceEntry = refl
after_twice DeviceEntry = refl
after_twice state = refl

pub front_holds : (a b : Bool) → a && b ≡ true → a ≡ true
front_holds true b h = refl
front_holds false b h = absurd (cc)

pub rest_holds : (a b : Bool) → a && b ≡ true → b ≡ true
rest_holds true b h = h
rest_holds false b h = absurd (cc)

-- a run that handed out nothing and stands within a number
pub record NumberRead (c : Configuration) (r : Run) : Type 0 where
  pub functions : r.functions ≡ []
  pub configuration : blurred_configuration r.configuration
      ≡ record (blurred_configuration c) { state = after_digits c.state; begun = Nothing; number = Large }

-- the run after a digit
from_step : (reading : Reading) (c : Configuration) (byte : ℕ) (bytes : List ℕ) → takes_digits c.state ≡ true → is_digit byte ≡ true
    → run reading c (byte ∷ bytes) ≡ then_run (quiet (after_digit c byte)) (run reading (after_digit c byte) bytes)
unfolding run
from_step reading c byte bytes h is =
    let by_step : Step → Run = λ t. then_run t (run reading t.configuration bytes) in ap by_step (digit_step reading c byte h is)

pub digits_run : (reading : Reading) (digits : List ℕ) (digit : ℕ) (c : Configuration) → takes_digits c.state ≡ true
    → list_all is_digit (digit ∷ digits) ≡ true → NumberRead c (run reading c (digit ∷ digits))
unfolding run after_digit
digits_run reading [] digit c h all =
    let e = from_step reading c digit [] h (front_holds (is_digit digit) true all) in
    let number : FunctionNumber → Configuration = λ n. record (blurred_configuration c) { state = after_digits c.state; begun = Nothing; number = n } in
    let functions : Run → List Function = λ r. r.functions in
    let ends : Run → Configuration = λ r. blurred_configuration r.configuration in
    record { functions = ap functions e; configuration = ap ends e ∙ ap number (blurred-digit c.number (digit - 48)) }
digits_run reading (next ∷ digits) digit c h all =
    let e = from_step reading c digit (next ∷ digits) h (front_holds (is_digit digit) (list_all is_digit (next ∷ digits)) all) in
    let rest = digits_run reading digits next (after_digit c digit) (takes_after c.state h) (rest_holds (is_digit digit) (list_all is_digit (next ∷ digits)) all) in
    let in_state : State → Configuration = λ s. record (blurred_configuration c) { state = s; begun = Nothing; number = Large } in
    let functions : Run → List Function = λ r. r.functions in
    let ends : Run → Configuration = λ r. blurred_configuration r.configuration in
    record { functions = ap functions e ∙ rest.functions; configuration = ap ends e ∙ rest.configuration ∙ ap in_state (after_twice c.state) }
