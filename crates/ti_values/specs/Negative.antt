-- Numbers below 0 that a text prints.
use Rattle.std.specs.Prelude.{ℕ, ◌<◌, Bool, true, false, ◌&&◌, ◌||◌, List, [], ◌∷◌, ℤ, pos, negsuc, get_or, length, IsTrue}
use Rattle.ti_cap.specs.declared.language.Conversion.{Conversion}
use Rattle.ti_cap.specs.declared.language.Conversion.TheVariants.{Signed}
use Rattle.ti_cap.specs.declared.language.Token.{Token}
use Rattle.ti_cap.specs.declared.language.Token.TheVariants.{Print}
use Rattle.ti_cap.specs.declared.mode.Mode.TheVariants.{Run}
use Rattle.ti_cap.specs.Spelling.{Writes}
use Rattle.ti_cap.specs.Tree.{Sequence, tokens}
use Rattle.ti_expand.specs.declared.values.Value.{Value}
use Rattle.ti_expand.specs.State.{State, number_on, start}
use Rattle.ti_expand.specs.Steps.{Step, steps}
use Rattle.ti_values.specs.Ranges.{parameters_of}
use Rattle.ti_values.specs.Sent.{fresh}
use Rattle.ti_values.specs.declared.tried.Tried.{Tried}
use Rattle.ti_values.specs.declared.tried.Tried.TheVariants.{Number}

abbrev pub is_negative : ℤ → Bool
is_negative (pos n) = false
is_negative (negsuc n) = true

-- a token prints a number in decimal, as `%d` and `%03d` do
abbrev pub is_signed : Conversion → Bool
is_signed Signed = true
is_signed _ = false

abbrev pub prints_signed : Token → Bool
prints_signed (Print format) = is_signed format.conversion
prints_signed _ = false

-- of the steps after a state, one that ran printed a number below 0
abbrev pub some_negative : State → List Step → Bool
some_negative before [] = false
some_negative before (step ∷ later) =
    (step.ran && (prints_signed step.token && is_negative (number_on before.stack))) || some_negative step.state later

-- the text prints a number below 0 for these parameters, over fresh variables
abbrev pub PrintsNegative : List ℕ → List Value → Type 0
PrintsNegative text parameters =
    (tree : Sequence) × Writes tree text
    × IsTrue (some_negative (start fresh parameters) (steps Run (start fresh parameters) (tokens tree)))

-- it does so for the value at a place
abbrev pub IsNegativeAt : List ℕ → List Tried → ℕ → Type 0
IsNegativeAt text values k = (k < length values) × PrintsNegative text (parameters_of (get_or values k (Number 0)))
