-- What may be wrong with a token of a capability, by the paths that come to it and those that go on from it, and by the conditional
-- that it is a part of.
use Rattle.std.specs.Prelude.{◌≡◌, ℕ, ◌<◌, ◌≤◌, ◌⊎◌, nat_eq, Bool, false, if◌then◌else◌, List, [], ◌∷◌, get_or, length, Option, Some, None, Contains, codes}
use Rattle.ti_base.specs.Letters.{letter}
use Rattle.ti_cap.specs.declared.language.Token.{Token}
use Rattle.ti_cap.specs.declared.language.Token.TheVariants.{Param, Store, Load, Increment}
use Rattle.ti_cap.specs.Height.{pops, pushes, next_height, end_height}
use Rattle.ti_cap.specs.Sources.{Names, IsNamed, sources, takes_text}
use Rattle.ti_cap.specs.Spelling.{Written}
use Rattle.ti_cap.specs.Capability.{Spot, whole}
use Rattle.ti_lint.specs.declared.expected.Expected.{Expected}
use Rattle.ti_lint.specs.declared.expected.TextParameters.{TextParameters}
use Rattle.ti_lint.specs.declared.token_finding.TokenFinding.{TokenFinding}
use Rattle.ti_lint.specs.declared.token_finding.TokenFinding.TheVariants.{StackUnderflow, TermcapParameter, ParameterRange, RepeatedIncrement, UnsetVariable, OperandType, StackResidue, UnusedIncrement, LateIncrement, DeadStore}
use Rattle.ti_lint.specs.Variables.{HasVariable}
use Rattle.ti_lint.specs.OnSomePath.{OnSomePath}
use Rattle.ti_lint.specs.Conditionals.{IsFoundAmong}

-- where the findings of a capability stand, and what they go by
pub record Underway : Type 0 where
  pub spot : Spot
  pub expected : Expected

-- on some path that meets the token at the spot, what comes before it is so
abbrev pub IsMetAfter : Spot → Token → (List Token → Type 0) → Type 0
IsMetAfter spot token is_so = OnSomePath (whole spot) spot.taken token (λ before after. is_so before)

-- on some path that meets the token at the spot, what comes after it is so
abbrev pub IsMetBefore : Spot → Token → (List Token → Type 0) → Type 0
IsMetBefore spot token is_so = OnSomePath (whole spot) spot.taken token (λ before after. is_so after)

-- ---- by what comes before

-- the token pops more values than there are
abbrev pub Underflows : Spot → Token → Type 0
Underflows spot token = IsMetAfter spot token (λ before. end_height 0 before < pops token)

-- no path pushes a parameter
abbrev pub NamesNone : List ℕ → Type 0
NamesNone bytes = (which : ℕ) → ¬ IsNamed bytes which

-- the capability has no such parameter
abbrev pub IsOutOfRange : Expected → Token → Type 0
IsOutOfRange expected token = (which : ℕ) × (token ≡ Param which) × (expected.parameters < which)

-- another `%i` comes before this one
abbrev pub IsRepeated : Spot → Token → Type 0
IsRepeated spot token = (token ≡ Increment) × IsMetAfter spot token (λ before. Contains before Increment)

-- A variable from A to Z keeps its value from one capability to the next. One from a to z does not.
abbrev pub IsStoredElsewhere : Expected → ℕ → Type 0
IsStoredElsewhere expected which = (which ≤ letter (codes "Z")) × HasVariable expected.stored which

-- nothing was stored into the variable that the token pushes
abbrev pub IsUnset : Expected → Spot → Token → Type 0
IsUnset expected spot token =
    (which : ℕ) × (token ≡ Load which) × (¬ IsStoredElsewhere expected which)
    × IsMetAfter spot token (λ before. ¬ Contains before (Store which))

-- whether a value is a text: that of a parameter that is one. All others are numbers
abbrev pub is_text_value : TextParameters → Option ℕ → Bool
is_text_value texts None = false
is_text_value texts (Some which) =
    if nat_eq which 1 then texts.first else (if nat_eq which 2 then texts.second else (if nat_eq which 3 then texts.third else false))

-- at the place, counted from the top of the stack, is a value of the kind
abbrev pub HasKindAt : TextParameters → Bool → ℕ → List Token → Type 0
HasKindAt texts wanted place before = (place < length (sources before)) × (is_text_value texts (get_or (sources before) place None) ≡ wanted)

-- of the values that the token pops, one is on no path of the kind that it takes
abbrev pub TakesOtherKind : Expected → Spot → Token → Type 0
TakesOtherKind expected spot token =
    (place : ℕ) × (place < pops token) × ¬ IsMetAfter spot token (HasKindAt expected.texts (takes_text token) place)

-- the finding holds of the token that stands next, by what comes before it
abbrev pub IsFoundBefore : Underway → Token → TokenFinding → Type 0
IsFoundBefore at token StackUnderflow = Underflows at.spot token × ¬ NamesNone (whole at.spot)
IsFoundBefore at token TermcapParameter = Underflows at.spot token × NamesNone (whole at.spot)
IsFoundBefore at token ParameterRange = IsOutOfRange at.expected token
IsFoundBefore at token RepeatedIncrement = IsRepeated at.spot token
IsFoundBefore at token UnsetVariable = IsUnset at.expected at.spot token
IsFoundBefore at token OperandType = (¬ Underflows at.spot token) × TakesOtherKind at.expected at.spot token
IsFoundBefore at token finding = ⊥

-- ---- by what comes after

-- of so many values on the stack, no token pops the lowest
abbrev pub Keeps : ℕ → List Token → Type 0
Keeps height [] = Unit {0}
Keeps height (token ∷ path) = (pops token < height) × Keeps (next_height height token) path

-- the value that the token pushes is never popped
abbrev pub LeavesValue : Spot → Token → Type 0
LeavesValue spot token = (0 < pushes token) × IsMetBefore spot token (λ after. Keeps 1 after)

-- `%i` adds 1 to these two
abbrev pub NamesFirstTwo : List Token → Type 0
NamesFirstTwo path = Names path 1 ⊎ Names path 2

-- no path has after the `%i` what it adds 1 to
abbrev pub IsUnused : Spot → Token → Type 0
IsUnused spot token = (token ≡ Increment) × ¬ IsMetBefore spot token NamesFirstTwo

-- one of the two is pushed before the `%i`, as it is, and one after it, with 1 added
abbrev pub IsLate : Spot → Token → Type 0
IsLate spot token =
    (token ≡ Increment) × OnSomePath (whole spot) spot.taken token (λ before after. NamesFirstTwo before × NamesFirstTwo after)

-- no path pushes the variable after the token has stored into it; one from a to z is gone at the end
abbrev pub IsDead : Spot → Token → Type 0
IsDead spot token =
    (which : ℕ) × (token ≡ Store which) × (letter (codes "a") ≤ which)
    × ¬ IsMetBefore spot token (λ after. Contains after (Load which))

-- the finding holds of the token that stands next, by what comes after it
abbrev pub IsFoundAfter : Underway → Token → TokenFinding → Type 0
IsFoundAfter at token StackResidue = LeavesValue at.spot token
IsFoundAfter at token UnusedIncrement = IsUnused at.spot token
IsFoundAfter at token LateIncrement = IsLate at.spot token
IsFoundAfter at token DeadStore = IsDead at.spot token
IsFoundAfter at token finding = ⊥

-- ---- by the conditional that it is a part of

-- the finding holds of the token that stands next, by the tokens before it and after it
pub record IsFoundWithin (at : Underway) (token : Token) (finding : TokenFinding) : Type 0 where
  pub before : List Token
  pub after : List Token
  pub taken : Written before at.spot.taken
  pub left : Written (token ∷ after) at.spot.left
  pub found : IsFoundAmong before token after finding
