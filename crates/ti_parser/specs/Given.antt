-- What the parameters of a capability are taken to be.
use Rattle.std.specs.Prelude.{◌≡◌, ◌==◌, ◌&&◌, ℕ, Bool, true, not, List, [], ◌∷◌, codes}
use Rattle.std.specs.List.{AllByRecursion}
use Rattle.ti_base.specs.Letters.{letter}
use Rattle.ti_expand.specs.Effect.{char_byte}
use Rattle.ti_expand.specs.State.{number_on, parameter}
use Rattle.ti_expand.specs.declared.values.Value.{Value}
use Rattle.ti_expand.specs.declared.values.Value.TheVariants.{Num, Text}
use Rattle.ti_parser.specs.Characters.{is_between}
use Rattle.ti_parser.specs.Laws.{is_printable}
use Rattle.ti_parser.specs.declared.reading.FirstCharacter.{FirstCharacter}
use Rattle.ti_parser.specs.declared.reading.FirstCharacter.TheVariants.{Any, Printable, Designator}

-- from the space to `~`, but no `?`, which makes a string a request
abbrev pub is_data : ℕ → Bool
is_data byte = is_printable byte && not (byte == letter (codes "?"))

-- a number, or a text of data alone
abbrev pub IsData : Value → Type 0
IsData (Num n) = Unit {0}
IsData (Text text) = AllByRecursion (λ byte. is_data byte ≡ true) text.now

-- a byte that the first parameter may be
abbrev pub may_be : FirstCharacter → ℕ → Bool
may_be Any byte = true
may_be Printable byte = is_data byte
may_be Designator byte = is_between (letter (codes "0")) (letter (codes "~")) byte

-- what `%c` prints of the first parameter
abbrev pub first_byte : List Value → ℕ
first_byte parameters = char_byte (number_on (parameter parameters 1 ∷ []))

-- parameters whose texts are data, the first of which is such a character
pub record AreGiven (first : FirstCharacter) (parameters : List Value) : Type 0 where
  pub texts : AllByRecursion IsData parameters
  pub character : may_be first (first_byte parameters) ≡ true
