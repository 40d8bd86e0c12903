-- A color of the Linux console with digits that are not known.
use Rattle.std.specs.Prelude.{◌≡◌, ℕ, ◌==◌, ◌++◌, ◌⊎◌, true, List, length, if◌then◌else◌}
use Rattle.ti_parser.specs.Machine.{Step, complete, entered, gives, quiet}
use Rattle.ti_parser.specs.Numbers.{is_hex}
use Rattle.ti_parser.specs.declared.character.Begun.TheVariants.{Nothing}
use Rattle.ti_parser.specs.declared.configuration.Configuration.{Configuration}
use Rattle.ti_parser.specs.declared.function.Function.{Function}
use Rattle.ti_parser.specs.declared.number.FunctionNumber.{FunctionNumber}
use Rattle.ti_parser.specs.declared.number.FunctionNumber.TheVariants.{Any}
use Rattle.ti_parser.specs.declared.padding.Front.TheVariants.{Text}
use Rattle.ti_parser.specs.declared.reading.Reception.{Reception}
use Rattle.ti_parser.specs.declared.receiver.Ahead.TheVariants.{Unknown}
use Rattle.ti_parser.specs.declared.receiver.Receiver.{Receiver}
use Rattle.ti_parser.specs.declared.state.State.{State}
use Rattle.ti_parser.specs.declared.state.State.TheVariants.{Ground, Palette}
use Rattle.ti_parser.specs.inner.Receivers.{Hearing, IsAmong, IsHeard, at, hear}
use Rattle.std.specs.List.{AllByRecursion}

-- with one digit more
abbrev pub colored : FunctionNumber → Configuration → Configuration
colored digit c = record c { underway = complete c; number = digit }

-- seven digits are a color
abbrev pub with_color : State → FunctionNumber → Configuration → Step
with_color next digit c =
    if length (colored digit c).underway.numbers == 6 then gives (entered Ground (colored digit c)) (complete (colored digit c))
    else quiet (entered next (colored digit c))

-- a digit of which no more is known
abbrev pub with_any_digit : Configuration → Step
with_any_digit c = with_color Palette Any (record c { begun = Nothing })

-- outside of marks, in a color
pub record IsColor (known : Receiver) : Type 0 where
  pub front : known.front ≡ Text
  pub ahead : known.ahead ≡ Unknown
  pub state : known.parser.state ≡ Palette

-- bytes that are all digits of a color
abbrev pub AreHex : List ℕ → Type 0
AreHex bytes = AllByRecursion (λ byte. is_hex byte ≡ true) bytes

-- all that the first receivers cover is covered by others, or the bytes lead it to the last, and hand out none but these functions
abbrev pub LeadBut : Reception → List ℕ → List Receiver → List Receiver → List Function → List Receiver → Type 0
LeadBut r bytes before others sent after = (rest : List ℕ) (x : Hearing) → IsAmong before (at r (bytes ++ rest) x)
    → IsAmong others (at r (bytes ++ rest) x) ⊎ IsHeard r rest after sent (hear r rest x bytes)
