-- The parameters that a path names, and those whose values it takes as texts.
use Rattle.std.specs.Prelude.{◌≡◌, ℕ, ◌-◌, ◌≤◌, List, [], ◌∷◌, ◌++◌, drop, replicate, get_or, Option, Some, None, Bool, true, false, IsTrue, Contains}
use Rattle.std.specs.Int.{bit_at}
use Rattle.ti_cap.specs.declared.language.Token.{Token}
use Rattle.ti_cap.specs.declared.language.Token.TheVariants.{Param, Length, Print}
use Rattle.ti_cap.specs.declared.language.Conversion.{Conversion}
use Rattle.ti_cap.specs.declared.language.Conversion.TheVariants.{Text}
use Rattle.ti_cap.specs.declared.parameter_set.ParameterSet.{ParameterSet}
use Rattle.ti_cap.specs.Tree.{Sequence}
use Rattle.ti_cap.specs.Path.{IsPath}
use Rattle.ti_cap.specs.Height.{pops, pushes}
use Rattle.ti_cap.specs.Spelling.{Writes}

-- the parameter whose value a token pushes, if it is one
abbrev pub source : Token → Option ℕ
source (Param which) = Some which
source _ = None

-- for each value on the stack, the top first, the parameter that it is the value of; here after one token more
abbrev pub next_sources : List (Option ℕ) → Token → List (Option ℕ)
next_sources stack token = replicate (pushes token) (source token) ++ drop (pops token) stack

abbrev pub sources_from : List (Option ℕ) → List Token → List (Option ℕ)
sources_from stack [] = stack
sources_from stack (token ∷ path) = sources_from (next_sources stack token) path

-- the same after a path, which starts with an empty stack
abbrev pub sources : List Token → List (Option ℕ)
sources path = sources_from [] path

abbrev pub is_text : Conversion → Bool
is_text Text = true
is_text _ = false

-- whether a token takes the value on top of the stack as a text: `%l`, and a print by `s`
abbrev pub takes_text : Token → Bool
takes_text Length = true
takes_text (Print format) = is_text format.conversion
takes_text _ = false

abbrev pub Names : List Token → ℕ → Type 0
Names path which = Contains path (Param which)

-- somewhere on the path a token takes the top of the stack as a text, and that is the value of the parameter
abbrev pub TakesAsText : List Token → ℕ → Type 0
TakesAsText path which =
    (before : List Token) × (token : Token) × (after : List Token) × (path ≡ before ++ token ∷ after)
    × IsTrue (takes_text token) × (get_or (sources before) 0 None ≡ Some which)

-- a tree writes the bytes, and one of its paths names the parameter
abbrev pub IsNamed : List ℕ → ℕ → Type 0
IsNamed bytes which =
    (tree : Sequence) × (path : List Token) × Writes tree bytes × IsPath tree path × Names path which

-- a tree writes the bytes, and one of its paths takes the parameter as a text
abbrev pub IsTakenAsText : List ℕ → ℕ → Type 0
IsTakenAsText bytes which =
    (tree : Sequence) × (path : List Token) × Writes tree bytes × IsPath tree path × TakesAsText path which

-- bit N - 1 of the mask is for parameter N
abbrev pub Has : ParameterSet → ℕ → Type 0
Has set which = (1 ≤ which) × (bit_at set.mask (which - 1) ≡ 1)
