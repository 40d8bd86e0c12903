-- How the tests of a conditional are gone over, token by token.
use Rattle.std.specs.Prelude.{◌≡◌, ℕ, ◌+◌, ◌≤◌, nat_eq, nat_lt, Bool, true, false, if◌then◌else◌, List, [], ◌∷◌, ◌++◌, length, drop, Option, Some, None}
use Rattle.ti_base.specs.Limits.{most_capability_bytes}
use Rattle.ti_cap.specs.Spelling.{Written}
use Rattle.ti_cap.specs.Capability.{Spot}
use Rattle.ti_cap.specs.declared.language.Token.{Token}
use Rattle.ti_cap.specs.declared.language.Token.TheVariants.{CondThen, CondElse, CondClose}
use Rattle.ti_lint.specs.declared.conditional.Idle.{Idle}
use Rattle.ti_lint.specs.declared.conditional.Idle.TheVariants.{Test, Body, Turn}
use Rattle.ti_lint.specs.Conditionals.{LeavesMore, are_constant, computed, is_constant}

abbrev pub is_then : Token → Bool
is_then CondThen = true
is_then token = false

-- how many tokens come before the `%t`, with so many before these
abbrev pub test_length : Option ℕ → ℕ → List Token → Option ℕ
test_length None count after = None
test_length (Some height) count [] = None
test_length (Some height) count (token ∷ rest) =
    if is_then token then (if nat_lt 0 height then Some count else None)
    else test_length (computed height token) (count + 1) rest

-- ---- a conditional that changes nothing

abbrev pub in_test : Option ℕ → Option Idle
in_test None = None
in_test (Some height) = Some (Test height)

abbrev pub may_end : Idle → Bool
may_end (Test height) = false
may_end Body = true
may_end Turn = true

abbrev pub ends_at : Idle → Token → Bool
ends_at part CondClose = may_end part
ends_at part token = false

abbrev pub idle_after : Idle → Token → Option Idle
idle_after (Test height) CondThen = if nat_eq height 1 then Some Body else None
idle_after (Test height) token = in_test (computed height token)
idle_after Body CondElse = Some Turn
idle_after Body token = None
idle_after Turn token = in_test (computed 0 token)

abbrev pub stays_idle : Option Idle → List Token → Bool
stays_idle None after = false
stays_idle (Some part) [] = may_end part
stays_idle (Some part) (token ∷ rest) = if ends_at part token then true else stays_idle (idle_after part token) rest

-- how many values are in the test
abbrev pub height_of : Idle → ℕ
height_of (Test height) = height
height_of part = 0

-- ---- tests that were met

-- there is a value for the `%t`
abbrev pub LeavesValue : List Token → Type 0
LeavesValue test = (spare : ℕ) × LeavesMore spare test

-- the tokens from the place on are constants, and the one before it is none
pub record ConstantsFrom (before : List Token) (start : ℕ) : Type 0 where
  pub within : start ≤ length before
  pub constant : are_constant (drop start before) ≡ true
  pub bound : (head : List Token) (last : Token) (rest : List Token) → before ≡ head ++ last ∷ rest → length head + 1 ≡ start → is_constant last ≡ false

-- ---- the list of all tokens

-- the list has the tokens that were taken, so many, and those that are left
pub record HasTokens (spot : Spot) (tokens : List Token) (count : ℕ) : Type 0 where
  pub before : List Token
  pub after : List Token
  pub taken : Written before spot.taken
  pub left : Written after spot.left
  pub all : tokens ≡ before ++ after
  pub counts : length before ≡ count
  pub few : length tokens ≤ most_capability_bytes
