-- What holds of the parser on every string of bytes.
use Rattle.std.specs.Prelude.{◌≡◌, ℕ, ◌++◌, Bool, true, false, List, [], ◌∷◌, map}
use Rattle.std.specs.List.{list_all}
use Rattle.ti_parser.specs.Characters.{is_between}
use Rattle.ti_parser.specs.Machine.{Run, ground, run, step}
use Rattle.ti_parser.specs.declared.character.Begun.TheVariants.{Nothing}
use Rattle.ti_parser.specs.declared.configuration.Configuration.{Configuration}
use Rattle.ti_parser.specs.declared.function.Function.{Function}
use Rattle.ti_parser.specs.declared.number.FunctionNumber.{FunctionNumber}
use Rattle.ti_parser.specs.declared.number.FunctionNumber.TheVariants.{Absent, Known, Large, Any}
use Rattle.ti_parser.specs.declared.reading.Reading.{Reading}
use Rattle.ti_parser.specs.declared.state.State.{State}
use Rattle.ti_parser.specs.declared.state.State.TheVariants.{Ground, AfterEscape, AfterCut, SequenceEntry, SequenceParameters, DeviceEntry, DeviceParameters, SystemNumber}

-- all but whether the escape that came last cut a string off
abbrev pub uncut_state : State → State
uncut_state AfterCut = AfterEscape
uncut_state state = state

abbrev pub uncut : Configuration → Configuration
uncut c = record c { state = uncut_state c.state }

abbrev pub escaped : Reading → Configuration → Configuration
escaped reading c = (step reading c 0x1b).configuration

-- after an escape neither what is handed out nor where it ends depends on what came before, but for whether a string was cut
abbrev pub Restarts : Type 0
Restarts = (reading : Reading) (c d : Configuration) (bytes : List ℕ)
    → ((run reading (escaped reading c) bytes).functions ≡ (run reading (escaped reading d) bytes).functions)
    × (uncut (run reading (escaped reading c) bytes).configuration ≡ uncut (run reading (escaped reading d) bytes).configuration)

-- one run after another
abbrev pub followed_by : Run → Run → Run
followed_by a b = record { configuration = b.configuration; functions = a.functions ++ b.functions }

-- joined bytes are read as the first, and then the second
abbrev pub Composes : Type 0
Composes = (reading : Reading) (c : Configuration) (a b : List ℕ)
    → run reading c (a ++ b) ≡ followed_by (run reading c a) (run reading (run reading c a).configuration b)

-- bytes that end in the ground state, with no character begun, leave the parser as it was before any byte
abbrev pub EndsClean : Type 0
EndsClean = (reading : Reading) (bytes : List ℕ) → (run reading ground bytes).configuration.state ≡ Ground
    → (run reading ground bytes).configuration.begun ≡ Nothing → (run reading ground bytes).configuration ≡ ground

-- ---- the values of numbers

-- whether a number came, without its value
abbrev pub blurred : FunctionNumber → FunctionNumber
blurred Absent = Absent
blurred (Known value) = Large
blurred Large = Large
blurred Any = Large

abbrev pub blurred_function : Function → Function
blurred_function function = record function { numbers = map blurred function.numbers }

abbrev pub blurred_configuration : Configuration → Configuration
blurred_configuration c = record c { underway = blurred_function c.underway; number = blurred c.number }

-- parsers that differ in the values of their numbers hand out functions that differ in such values, and end so
abbrev pub ValuesPlayNoPart : Type 0
ValuesPlayNoPart = (reading : Reading) (c d : Configuration) (bytes : List ℕ) → blurred_configuration c ≡ blurred_configuration d
    → (map blurred_function (run reading c bytes).functions ≡ map blurred_function (run reading d bytes).functions)
    × (blurred_configuration (run reading c bytes).configuration ≡ blurred_configuration (run reading d bytes).configuration)

-- ---- digits

abbrev pub is_digit : ℕ → Bool
is_digit byte = is_between 0x30 0x39 byte

-- the states in which a number may stand
abbrev pub takes_digits : State → Bool
takes_digits SequenceEntry = true
takes_digits SequenceParameters = true
takes_digits DeviceEntry = true
takes_digits DeviceParameters = true
takes_digits SystemNumber = true
takes_digits state = false

abbrev pub after_digits : State → State
after_digits SequenceEntry = SequenceParameters
after_digits DeviceEntry = DeviceParameters
after_digits state = state

-- the digits of a number hand out nothing, and all numbers lead to one configuration, but for their values
abbrev pub DigitsAreANumber : Type 0
DigitsAreANumber = (reading : Reading) (c : Configuration) (digit : ℕ) (digits : List ℕ) → takes_digits c.state ≡ true
    → list_all is_digit (digit ∷ digits) ≡ true
    → ((run reading c (digit ∷ digits)).functions ≡ [])
    × (blurred_configuration (run reading c (digit ∷ digits)).configuration
    ≡ record (blurred_configuration c) { state = after_digits c.state; begun = Nothing; number = Large })

-- ---- text

-- from the space to `~`
abbrev pub is_printable : ℕ → Bool
is_printable byte = is_between 0x20 0x7e byte

-- printable text in the ground state hands out nothing, and leaves the parser as it was
abbrev pub TextPasses : Type 0
TextPasses = (reading : Reading) (text : List ℕ) → list_all is_printable text ≡ true
    → run reading ground text ≡ record { configuration = ground; functions = [] }
