-- What a string sends, held against the table.
use Rattle.std.specs.Prelude.{◌≡◌, ℕ, true, false, List, [], ◌∷◌, ℤ, codes, if◌then◌else◌}
use Rattle.std.specs.Str.{bytes_eq}
use Rattle.std.specs.List.{AllByRecursion}
use Rattle.ti_allow.specs.Rows.{is_allowed}
use Rattle.ti_allow.specs.declared.beyond.Found.{Found}
use Rattle.ti_allow.specs.declared.beyond.Found.TheVariants as finds
use Rattle.ti_allow.specs.declared.row.Row.{Row}
use Rattle.ti_cap.specs.Spelling.{Writes}
use Rattle.ti_cap.specs.Tree.{Sequence}
use Rattle.ti_expand.specs.Meaning.{meaning}
use Rattle.ti_expand.specs.Sound.{AreVariables}
use Rattle.ti_expand.specs.State.{start}
use Rattle.ti_expand.specs.declared.values.Value.{Value}
use Rattle.ti_parser.specs.Machine.{Run, ground, run}
use Rattle.ti_parser.specs.Padding.{without_marks}
use Rattle.ti_parser.specs.Given.{AreGiven}
use Rattle.ti_parser.specs.declared.character.Begun.TheVariants.{Nothing}
use Rattle.ti_parser.specs.declared.configuration.Configuration.{Configuration}
use Rattle.ti_parser.specs.declared.function.Function.{Function}
use Rattle.ti_parser.specs.declared.padding.Marks.TheVariants.{Tputs, TiPad}
use Rattle.ti_parser.specs.declared.reading.Coding.{Coding}
use Rattle.ti_parser.specs.declared.reading.Coding.TheVariants.{Utf8, Utf8WithC1, Bytes}
use Rattle.ti_parser.specs.declared.reading.FirstCharacter.{FirstCharacter}
use Rattle.ti_parser.specs.declared.reading.FirstCharacter.TheVariants.{Any as FirstAny, Printable, Designator}
use Rattle.ti_parser.specs.declared.reading.Reading.{Reading}
use Rattle.ti_parser.specs.declared.reading.Reception.{Reception}
use Rattle.ti_parser.specs.declared.reading.Within.TheVariants.{StartsAnew, GoesOn}
use Rattle.ti_parser.specs.declared.state.State.TheVariants.{Ground}

-- each function is one that the string with the name may send
abbrev pub AreAllowed : List Row → List ℕ → List Function → Type 0
AreAllowed rows name functions = AllByRecursion (λ function. is_allowed rows name function ≡ true) functions

-- outside of functions, with no character of UTF-8 begun
pub record IsClean (c : Configuration) : Type 0 where
  pub state : c.state ≡ Ground
  pub begun : c.begun ≡ Nothing

-- a terminal takes no other function, and is as it was in the end
pub record IsHarmless (rows : List Row) (name : List ℕ) (r : Run) : Type 0 where
  pub functions : AreAllowed rows name r.functions
  pub end : IsClean r.configuration

-- what the first parameter of a string is, by its name: `rep` repeats a character (terminfo(5)), and `S0` designates a set of
-- characters (screen(1))
abbrev pub first_character : List ℕ → FirstCharacter
first_character name =
    if bytes_eq (codes "rep") name then Printable else if bytes_eq (codes "S0") name then Designator else FirstAny

-- so it is of what a capability sends, for all variables and all parameters that may be given
unfoldable pub OnlyTable : List Row → List ℕ → Reception → List ℕ → Type 0
OnlyTable rows name r bytes = (tree : Sequence) → Writes tree bytes → (variables : List ℤ) (parameters : List Value)
    → AreVariables variables → AreGiven r.first_character parameters
    → IsHarmless rows name (run r.reading ground (without_marks r.marks (meaning tree (start variables parameters)).output))

-- nothing is reported
abbrev pub IsSilent : {X : Type 0} → List X → Type 0
IsSilent [] = Unit {0}
IsSilent (found ∷ rest) = ⊥

-- a function that is reported is not in the table
abbrev pub IsBeyond : List Row → List ℕ → Found → Type 0
IsBeyond rows name (finds.Function function place) = is_allowed rows name function ≡ false
IsBeyond rows name found = Unit {0}

abbrev pub AreBeyond : List Row → List ℕ → List Found → Type 0
AreBeyond rows name found = AllByRecursion (IsBeyond rows name) found

-- what the parser takes as ncurses' `tputs` sends it, and as `ti_pad` does, in one reading
unfoldable pub OnlyTableIn : List Row → List ℕ → Reading → List ℕ → Type 0
OnlyTableIn rows name reading bytes =
    OnlyTable rows name (record { reading = reading; marks = Tputs; first_character = first_character name }) bytes
    × OnlyTable rows name (record { reading = reading; marks = TiPad; first_character = first_character name }) bytes

-- in each reading of a coding
unfoldable pub OnlyTableOf : List Row → List ℕ → Coding → List ℕ → Type 0
OnlyTableOf rows name coding bytes =
    OnlyTableIn rows name (record { coding = coding; within = StartsAnew }) bytes
    × OnlyTableIn rows name (record { coding = coding; within = GoesOn }) bytes

-- in each reading of each coding
unfoldable pub OnlyTableAlways : List Row → List ℕ → List ℕ → Type 0
OnlyTableAlways rows name bytes =
    OnlyTableOf rows name Utf8 bytes × OnlyTableOf rows name Utf8WithC1 bytes × OnlyTableOf rows name Bytes bytes

-- ---- a string that is sent as it stands

-- so it is of a text, in each reading
unfoldable pub PlainOnlyTable : List Row → List ℕ → List ℕ → Type 0
PlainOnlyTable rows name text = (reading : Reading) → IsHarmless rows name (run reading ground (without_marks Tputs text))
    × IsHarmless rows name (run reading ground (without_marks TiPad text))
