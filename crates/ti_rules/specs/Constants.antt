-- What is told of tests of constants: each with the value that its `%t` pops.
use Rattle.std.specs.Prelude.{◌≡◌, ◌⊎◌, ℕ, List, [], ◌∷◌, ◌++◌, length}
use Rattle.ti_cap.specs.declared.language.Token.{Token}
use Rattle.ti_cap.specs.declared.language.Token.TheVariants.{CondThen}
use Rattle.ti_cap.specs.Capability.{Spot, Takes}
use Rattle.ti_expand.specs.Constants.{value_of}
use Rattle.ti_lint.specs.Conditionals.{IsConstantTest}
use Rattle.ti_lint.specs.declared.token_finding.TokenFinding.TheVariants.{ConstantCondition}
use Rattle.ti_rules.specs.declared.finding.Finding.TheVariants as findings
use Rattle.ti_rules.specs.Remarks.{TextRemark, Value, placed}

-- one remark on a `%t` if the test before it has constants alone, and none on any other token
abbrev pub IsTestReport : List Token → Token → ℕ → List TextRemark → Type 0
IsTestReport before token place remarks =
    ((found : IsConstantTest before) × (token ≡ CondThen)
    × (remarks ≡ placed (place ∷ []) (findings.Token ConstantCondition) (Value (value_of found.test))))
    ⊎ ((¬ ((token ≡ CondThen) × IsConstantTest before)) × (remarks ≡ []))

-- the tokens write the bytes that are left after those before them, and the remarks are on these tokens
abbrev pub AreTestReports : Spot → List Token → List Token → List TextRemark → Type 0
AreTestReports spot before [] remarks = (spot.left ≡ []) × (remarks ≡ [])
AreTestReports spot before (token ∷ rest) remarks =
    (next : Spot) × (one : List TextRemark) × (more : List TextRemark) × Takes token spot next
    × IsTestReport before token (length spot.taken) one
    × AreTestReports next (before ++ token ∷ []) rest more × (remarks ≡ one ++ more)

-- the remarks on all tokens of a text
abbrev pub IsTestsReport : List ℕ → List TextRemark → Type 0
IsTestsReport text remarks =
    (all : List Token) × AreTestReports (record { taken = []; left = text }) [] all remarks
