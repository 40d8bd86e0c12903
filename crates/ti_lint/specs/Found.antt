-- What is wrong with a capability, and where.
use Rattle.std.specs.Prelude.{◌≡◌, ℕ, ◌<◌, ◌⊎◌, List, length}
use Rattle.ti_cap.specs.declared.language.Token.{Token}
use Rattle.ti_cap.specs.Capability.{Spot, whole}
use Rattle.ti_lint.specs.declared.expected.Expected.{Expected}
use Rattle.ti_lint.specs.declared.token_finding.TokenFinding.{TokenFinding}
use Rattle.ti_lint.specs.declared.token_finding.TokenFinding.TheVariants.{StackUnderflow, TermcapParameter, ParameterRange, RepeatedIncrement, UnsetVariable, OperandType, StackResidue, UnusedIncrement, LateIncrement, DeadStore, NoEffect, ConstantCondition, RepeatedCondition}
use Rattle.ti_lint.specs.declared.placed_finding.PlacedFinding.{PlacedFinding}
use Rattle.ti_lint.specs.OnSomePath.{Stands}
use Rattle.ti_lint.specs.Findings.{IsFoundBefore, IsFoundAfter, IsFoundWithin}

-- The bytes have a token after so many of them, and the finding holds of that token.
pub record IsFoundAt (bytes : List ℕ) (expected : Expected) (found : PlacedFinding) : Type 0 where
  pub spot : Spot
  pub token : Token
  pub all : whole spot ≡ bytes
  pub place : length spot.taken ≡ found.place
  pub stands : Stands bytes spot.taken token
  pub holds : IsFoundBefore (record { spot = spot; expected = expected }) token found.finding
      ⊎ IsFoundAfter (record { spot = spot; expected = expected }) token found.finding
      ⊎ IsFoundWithin (record { spot = spot; expected = expected }) token found.finding

-- where a finding stands in the table of findings: those by what comes before the token, by what comes after it, and by its
-- conditional
abbrev pub rank : TokenFinding → ℕ
rank StackUnderflow = 0
rank TermcapParameter = 1
rank ParameterRange = 2
rank RepeatedIncrement = 3
rank UnsetVariable = 4
rank OperandType = 5
rank StackResidue = 6
rank UnusedIncrement = 7
rank LateIncrement = 8
rank DeadStore = 9
rank NoEffect = 10
rank ConstantCondition = 11
rank RepeatedCondition = 12

-- the earlier place comes first; of two findings at one place the one that stands earlier in the table
abbrev pub Precedes : PlacedFinding → PlacedFinding → Type 0
Precedes one other =
    (one.place < other.place) ⊎ ((one.place ≡ other.place) × (rank one.finding < rank other.finding))
