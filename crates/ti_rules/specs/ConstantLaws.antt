-- The number that the `%t` of a test of constants pops.
use Rattle.std.specs.Prelude.{◌≡◌, ℕ, List, [], ◌∷◌, ◌++◌, ℤ}
use Rattle.ti_cap.specs.declared.language.Token.{Token}
use Rattle.ti_cap.specs.declared.language.Token.TheVariants.{CondThen}
use Rattle.ti_cap.specs.Path.{Walk, IsWalk, path_of}
use Rattle.ti_cap.specs.Spelling.{Written}
use Rattle.ti_expand.specs.Constants.{value_of}
use Rattle.ti_expand.specs.StackHeight.{state_after}
use Rattle.ti_expand.specs.State.{State, number_on}
use Rattle.ti_lint.specs.Conditionals.{IsConstantTest}
use Rattle.ti_lint.specs.OnSomePath.{Stands}

-- On each walk of the text that meets the `%t` after the bytes taken, the number on top of the stack is this one when it is met,
-- whatever the stack, the variables and the parameters were at the start.
abbrev pub PopsAlways : List ℕ → List ℕ → ℤ → Type 0
PopsAlways bytes taken value =
    (stands : Stands bytes taken CondThen) (walk : Walk) → IsWalk stands.tree walk
    → path_of walk (stands.before ++ CondThen ∷ []) ≡ path_of walk stands.before ++ CondThen ∷ []
    → (s : State) → number_on (state_after (path_of walk stands.before) s).stack ≡ value

-- after a test of constants that is the value of the test
abbrev pub ConstantTestsPopTheirValue : Type 0
ConstantTestsPopTheirValue =
    (bytes taken : List ℕ) (before : List Token) → Written before taken
    → (found : IsConstantTest before) → PopsAlways bytes taken (value_of found.test)
