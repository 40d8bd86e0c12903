-- Remarks on tests of constants, token after token.
use Rattle.std.proofs.Common.{◌≡◌, ◌∙◌, ◌≤◌, ℕ, List, [], ◌∷◌, ◌++◌, ap, arith, append_assoc, length, length-append, refl, subst, sym}
use Rattle.std.proofs.lemmas.List.{append-nil}
use Rattle.std.specs.Borrow.{Bor}
use Rattle.std.specs.Prelude.{Option, Some, None, IfSome}
use Rattle.ti_base.specs.Limits.{most_capability_bytes}
use Rattle.ti_cap.specs.declared.language.Token.{Token}
use Rattle.ti_cap.specs.declared.language.Token.TheVariants.{CondThen}
use Rattle.ti_cap.specs.Capability.{IsWellFormed, Spot, Takes, whole}
use Rattle.ti_cap.specs.Spelling.{Written}
use Rattle.ti_lint.specs.Conditionals.{IsConstantTest}
use Rattle.ti_lint.proofs.AheadLemmas.{written_long}
use Rattle.ti_rules.specs.Constants.{AreTestReports, IsTestReport, IsTestsReport}
use Rattle.ti_rules.specs.Remarks.{TextRemark}

-- such a test, if the token is a `%t`
pub at_then : (before : List Token) (token : Token) (test : Option (Bor (List Token))) → token ≡ CondThen
    → IfSome test (λ t. (found : IsConstantTest before) × (found.test ≡ t.now)) → IfSome test (λ t. (found : IsConstantTest before) × (token ≡ CondThen) × (found.test ≡ t.now))
at_then before token None is found = tt
at_then before token (Some t) is (found, same) = (found, is, same)

-- whatever is told of the tokens that are left, it comes after what was told so far
pub record Telling (text : List ℕ) (initial : List TextRemark) (spot : Spot) (before : List Token) (out : List TextRemark) : Type 0 where
  pub goes : (rest : List Token) (more : List TextRemark) → AreTestReports spot before rest more → (all : List TextRemark) × IsTestsReport text all × (out ++ more ≡ initial ++ all)

pub telling_start : (text : List ℕ) (initial : List TextRemark) (spot : Spot) → spot ≡ record { taken = []; left = text } → Telling text initial spot [] initial
telling_start text initial spot start = record {
  goes = λ rest more h. let P : Spot → Type 0 = λ s. AreTestReports s [] rest more in (more, (rest, subst P start h), refl);
}

pub telling_next : (text : List ℕ) (initial : List TextRemark) (spot next : Spot) (token : Token) (before : List Token) (out new : List TextRemark) → Takes token spot next
    → (one : List TextRemark) × IsTestReport before token (length spot.taken) one × (new ≡ out ++ one) → Telling text initial spot before out
    → Telling text initial next (before ++ token ∷ []) new
telling_next text initial spot next token before out new takes (one, is, told) t = record {
  goes = λ rest more h.
      let (all, are, e) = t.goes (token ∷ rest) (one ++ more) (next, one, more, takes, is, h, refl) in
      (all, are, ap (λ l. l ++ more) told ∙ append_assoc out one more ∙ e);
}

pub telling_end : (text : List ℕ) (initial : List TextRemark) (spot : Spot) (before : List Token) (out : List TextRemark) → spot.left ≡ [] → Telling text initial spot before out
    → (all : List TextRemark) × IsTestsReport text all × (out ≡ initial ++ all)
telling_end text initial spot before out end t =
    let (all, are, e) = t.goes [] [] (end, refl) in
    (all, are, sym (append-nil out) ∙ e)

-- no more tokens were taken than a capability has bytes
pub few_taken : (bytes : List ℕ) (spot : Spot) (before : List Token) → IsWellFormed bytes → whole spot ≡ bytes → Written before spot.taken → length before ≤ most_capability_bytes
few_taken bytes spot before formed all written =
    omega (arith, formed.short, written_long before spot.taken written, ap length all, length-append spot.taken spot.left)
