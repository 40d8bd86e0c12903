-- What may be wrong with a conditional, by the tokens of its parts.
use Rattle.std.specs.Prelude.{◌≡◌, ℕ, zero, suc, nat_eq, nat_le, Bool, true, false, ◌&&◌, if◌then◌else◌, IsTrue, List, [], ◌∷◌, ◌++◌, Option, Some, None}
use Rattle.ti_cap.specs.declared.language.Token.{Token}
use Rattle.ti_cap.specs.declared.language.Token.TheVariants.{Param, Constant, Load, Length, Compute, CondOpen, CondThen, CondElse, CondClose}
use Rattle.ti_cap.specs.Height.{pops, next_height}
use Rattle.ti_cap.specs.Tree.{Empty, Arms, Lone, Else, ElseIf, tokens, arm_tokens, closing}
use Rattle.ti_lint.specs.declared.token_finding.TokenFinding.{TokenFinding}
use Rattle.ti_lint.specs.declared.token_finding.TokenFinding.TheVariants.{NoEffect, ConstantCondition, RepeatedCondition}

-- ---- tests

-- a token that only pushes a value, or makes one of those that it pops
abbrev pub only_computes : Token → Bool
only_computes (Param which) = true
only_computes (Constant n) = true
only_computes (Load which) = true
only_computes Length = true
only_computes (Compute op) = true
only_computes token = false

-- the height after such a token; none after another one, or after one that pops more values than there are
abbrev pub computed : ℕ → Token → Option ℕ
computed height token = if only_computes token && nat_le (pops token) height then Some (next_height height token) else None

-- the same after such tokens
abbrev pub values_left : Option ℕ → List Token → Option ℕ
values_left None test = None
values_left (Some height) [] = Some height
values_left (Some height) (token ∷ rest) = values_left (computed height token) rest

-- a test only pushes values and works on those: the one that its `%t` pops, and so many more
abbrev pub LeavesMore : ℕ → List Token → Type 0
LeavesMore spare test = values_left (Some 0) test ≡ Some (suc spare)

-- a test follows the token
abbrev pub starts_test : Token → Bool
starts_test CondOpen = true
starts_test CondElse = true
starts_test token = false

-- ---- a `%t` whose test is made of constants

abbrev pub is_constant : Token → Bool
is_constant (Constant n) = true
is_constant (Compute op) = true
is_constant token = false

abbrev pub are_constant : List Token → Bool
are_constant [] = true
are_constant (token ∷ rest) = is_constant token && are_constant rest

-- before the `%t` stands a test of constants and operations alone
pub record IsConstantTest (before : List Token) : Type 0 where
  pub head : List Token
  pub first : Token
  pub test : List Token
  pub spare : ℕ
  pub spans : before ≡ head ++ first ∷ test
  pub starts : IsTrue (starts_test first)
  pub constant : IsTrue (are_constant test)
  pub leaves : LeavesMore spare test

-- ---- a `%e` whose test is that of an earlier arm

-- of so many open conditionals the tokens close all, and of those that they open, and no other one
abbrev pub closes_just : ℕ → List Token → Bool
closes_just opened [] = nat_eq opened 0
closes_just opened (CondOpen ∷ rest) = closes_just (suc opened) rest
closes_just (suc opened) (CondClose ∷ rest) = closes_just opened rest
closes_just zero (CondClose ∷ rest) = false
closes_just opened (token ∷ rest) = closes_just opened rest

-- the tokens end with a test
pub record EndsWithTest (tokens test : List Token) : Type 0 where
  pub head : List Token
  pub first : Token
  pub spans : tokens ≡ head ++ first ∷ test
  pub starts : IsTrue (starts_test first)

-- an arm of the conditional that is open after the tokens has the test
pub record HasEarlier (before test : List Token) : Type 0 where
  pub earlier : List Token
  pub between : List Token
  pub ends : EndsWithTest earlier test
  pub spans : before ≡ earlier ++ CondThen ∷ between
  pub same : IsTrue (closes_just 0 between)

-- the test after the `%e` is that of an earlier arm
pub record IsRepeatedTest (before after : List Token) : Type 0 where
  pub test : List Token
  pub rest : List Token
  pub spare : ℕ
  pub next : after ≡ test ++ CondThen ∷ rest
  pub leaves : LeavesMore spare test
  pub earlier : HasEarlier before test

-- ---- a `%?` of a conditional that changes nothing

-- each test leaves the one value that its `%t` pops, and all bodies and the otherwise part are empty
abbrev pub AreIdle : Arms → Type 0
AreIdle (Lone test body) = LeavesMore 0 (tokens test) × (body ≡ Empty)
AreIdle (Else test body otherwise) = LeavesMore 0 (tokens test) × (body ≡ Empty) × (otherwise ≡ Empty)
AreIdle (ElseIf test body arms) = LeavesMore 0 (tokens test) × (body ≡ Empty) × AreIdle arms

-- after the `%?` stand such arms, and the `%;` or the end
pub record HasNoEffect (after : List Token) : Type 0 where
  pub arms : Arms
  pub closed : Bool
  pub rest : List Token
  pub idle : AreIdle arms
  pub spans : after ≡ arm_tokens arms ++ (closing closed ++ rest)
  pub ends : closed ≡ false → rest ≡ []

-- the finding holds of a token between others
abbrev pub IsFoundAmong : List Token → Token → List Token → TokenFinding → Type 0
IsFoundAmong before token after NoEffect = (token ≡ CondOpen) × HasNoEffect after
IsFoundAmong before token after ConstantCondition = (token ≡ CondThen) × IsConstantTest before
IsFoundAmong before token after RepeatedCondition = (token ≡ CondElse) × IsRepeatedTest before after
IsFoundAmong before token after finding = ⊥
