-- Parsers with numbers that are not known, and the parsers that they stand for.
use Rattle.std.specs.Prelude.{◌≡◌, ℕ, Bool, true, List, [], ◌∷◌, ◌⊎◌, nat_eq}
use Rattle.std.specs.List.{AllByRecursion, list_any}
use Rattle.ti_parser.specs.Machine.{Run}
use Rattle.ti_parser.specs.declared.configuration.Configuration.{Configuration}
use Rattle.ti_parser.specs.declared.function.Function.{Function}
use Rattle.ti_parser.specs.declared.number.FunctionNumber.{FunctionNumber}
use Rattle.ti_parser.specs.declared.number.FunctionNumber.TheVariants.{Absent, Any}

-- a number that is not known stands for each that came
abbrev pub CoversNumber : FunctionNumber → FunctionNumber → Type 0
CoversNumber Any Absent = ⊥
CoversNumber Any number = Unit {0}
CoversNumber known number = known ≡ number

abbrev pub CoverNumbers : List FunctionNumber → List FunctionNumber → Type 0
CoverNumbers [] [] = Unit {0}
CoverNumbers (known ∷ more) (number ∷ numbers) = CoversNumber known number × CoverNumbers more numbers
CoverNumbers more numbers = ⊥

-- all but the numbers is the same
pub record CoversFunction (known function : Function) : Type 0 where
  pub same : known ≡ record function { numbers = known.numbers }
  pub numbers : CoverNumbers known.numbers function.numbers

pub record CoversConfiguration (known c : Configuration) : Type 0 where
  pub same : known ≡ record c { underway = record c.underway { numbers = known.underway.numbers }; number = known.number }
  pub numbers : CoverNumbers known.underway.numbers c.underway.numbers
  pub number : CoversNumber known.number c.number

-- one of the parsers covers it
abbrev pub IsCovered : List Configuration → Configuration → Type 0
IsCovered [] c = ⊥
IsCovered (known ∷ rest) c = CoversConfiguration known c ⊎ IsCovered rest c

-- one of the functions covers it
abbrev pub IsSent : List Function → Function → Type 0
IsSent [] function = ⊥
IsSent (known ∷ rest) function = CoversFunction known function ⊎ IsSent rest function

abbrev pub AreSent : List Function → List Function → Type 0
AreSent sent [] = Unit {0}
AreSent sent (function ∷ rest) = IsSent sent function × AreSent sent rest

-- a run ends in one of the parsers, and hands out none but these functions
pub record IsRunCovered (parsers : List Configuration) (sent : List Function) (r : Run) : Type 0 where
  pub ends : IsCovered parsers r.configuration
  pub sends : AreSent sent r.functions

-- what is among the first is among the second
abbrev pub SendMore : List Function → List Function → Type 0
SendMore few many = (function : Function) → IsSent few function → IsSent many function

abbrev pub is_one_of : List ℕ → ℕ → Bool
is_one_of bytes byte = list_any (nat_eq byte) bytes

-- a text of these bytes alone
abbrev pub IsOf : List ℕ → List ℕ → Type 0
IsOf bytes text = AllByRecursion (λ byte. is_one_of bytes byte ≡ true) text
