-- What printable text does in the ground state.
use Rattle.std.proofs.Common.{◌≡◌, ℕ, List, [], ◌∷◌, Bool, true, false, refl, ◌∙◌, ap, arith}
use Rattle.std.proofs.lemmas.Bool.Decides.{nat_tests}
use Rattle.std.specs.List.{list_all}
use Rattle.ti_parser.specs.Characters.{decoded}
use Rattle.ti_parser.specs.Classes.{class_of}
use Rattle.ti_parser.specs.Laws.{is_printable}
use Rattle.std.specs.Prelude.{if◌then◌else◌}
use Rattle.ti_parser.specs.Functions.{control}
use Rattle.ti_parser.specs.Machine.{Run, Step, act, gives, ground, is_swallowed, moved, plain, quiet, run, step, taken, then_run}
use Rattle.ti_parser.specs.Transitions.{transition_of}
use Rattle.ti_parser.specs.declared.character.Begun.{Begun}
use Rattle.ti_parser.specs.declared.character.Begun.TheVariants.{Nothing}
use Rattle.ti_parser.specs.declared.character.Decoded.{Decoded}
use Rattle.ti_parser.specs.declared.character.Symbol.TheVariants.{Plain}
use Rattle.ti_parser.specs.declared.class.ByteClass.{ByteClass}
use Rattle.ti_parser.specs.declared.class.ByteClass.TheVariants.{Intermediate, Digit, Separator, Marker, Final}
use Rattle.ti_parser.specs.declared.reading.Coding.{Coding}
use Rattle.ti_parser.specs.declared.reading.Reading.{Reading}
use Rattle.ti_parser.specs.declared.reading.Within.{Within}
use Rattle.ti_parser.specs.declared.reading.Within.TheVariants.{StartsAnew, GoesOn}
use Rattle.ti_parser.specs.declared.state.State.TheVariants.{Ground}
use Rattle.ti_parser.proofs.DigitLemmas.{front_holds, rest_holds}

-- a class of printable bytes
unfoldable pub is_graphic : ByteClass → Bool
is_graphic Intermediate = true
is_graphic Digit = true
is_graphic Separator = true
is_graphic Marker = true
is_graphic Final = true
is_graphic class = false

pub class-printable : (byte : ℕ) → is_printable byte ≡ true → is_graphic (class_of byte) ≡ true
unfolding class_of is_graphic
class-printable byte h = grind (arith, nat_tests)

pub decoded-printable : (coding : Coding) (begun : Begun) (within : Bool) (byte : ℕ) → is_printable byte ≡ true
    → decoded coding begun within byte ≡ record { symbol = Plain byte; begun = Nothing }
unfolding decoded
decoded-printable coding begun within byte h = grind (arith, nat_tests)

graphic_moved : (class : ByteClass) (byte : ℕ) → is_graphic class ≡ true → moved (transition_of Ground class) byte ground ≡ quiet ground
unfolding transition_of act is_graphic
graphic_moved Intermediate byte h = refl
graphic_moved Digit byte h = refl
graphic_moved Separator byte h = refl
graphic_moved Marker byte h = refl
graphic_moved Final byte h = refl
graphic_moved class byte h = absurd (cc)

-- no string is underway
text-swallowed : (within : Within) (byte : ℕ) → is_swallowed within byte Ground ≡ false
text-swallowed StartsAnew byte = refl
text-swallowed GoesOn byte = refl

text_step : (reading : Reading) (byte : ℕ) → is_printable byte ≡ true → step reading ground byte ≡ quiet ground
unfolding step taken plain
text_step reading byte h =
    let by_symbol : Decoded → Step = λ d. taken reading.within d.symbol (record ground { begun = d.begun }) in
    let by_test : Bool → Step = λ b. if b then gives ground (control byte) else plain byte ground in
    ap by_symbol (decoded-printable reading.coding Nothing false byte h) ∙ ap by_test (text-swallowed reading.within byte) ∙ graphic_moved (class_of byte) byte (class-printable byte h)

pub text_run : (reading : Reading) (text : List ℕ) → list_all is_printable text ≡ true
    → run reading ground text ≡ record { configuration = ground; functions = [] }
unfolding run
text_run reading [] h = refl
text_run reading (byte ∷ text) h =
    let by_step : Step → Run = λ t. then_run t (run reading t.configuration text) in
    let first = text_step reading byte (front_holds (is_printable byte) (list_all is_printable text) h) in
    ap by_step first ∙ text_run reading text (rest_holds (is_printable byte) (list_all is_printable text) h)
