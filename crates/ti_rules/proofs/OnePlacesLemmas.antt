-- The places at which something is so are one list, and the remarks on tests of constants are.
use Rattle.std.proofs.Common.{◌≡◌, ℕ, ◌+◌, ◌<◌, ◌⊎◌, inl, inr, List, [], ◌∷◌, ◌++◌, length, refl, sym, ◌∙◌, ap, subst, arith, length-append}
use Rattle.ti_cap.specs.declared.language.Token.{Token}
use Rattle.ti_cap.specs.Capability.{Spot, Takes}
use Rattle.ti_cap.proofs.WrittenLemmas.{Same, one_form, spelled_long}
use Rattle.ti_expand.specs.Constants.{value_of}
use Rattle.ti_lint.specs.declared.token_finding.TokenFinding.{TokenFinding}
use Rattle.ti_lint.specs.declared.placed_finding.PlacedFinding.{PlacedFinding}
use Rattle.ti_lint.proofs.OneTestLemmas.{one_test}
use Rattle.ti_lint.specs.declared.token_finding.TokenFinding.TheVariants.{ConstantCondition}
use Rattle.ti_rules.specs.declared.finding.Finding.TheVariants as findings
use Rattle.ti_rules.specs.Constants.{AreTestReports, IsTestReport, IsTestsReport}
use Rattle.ti_rules.specs.Remarks.{TextRemark, Value, placed}
use Rattle.ti_rules.specs.Marks.{AreMarked, AreMarkedFrom, ArePlacesFrom, ArePlacesOf, IsToldIf}

-- ---- one token

-- the token that is taken next is one, and so is where it leads
pub record TakesOne (token other : Token) (next end : Spot) : Type 0 where
  pub token_is : token ≡ other
  pub next_is : next ≡ end

pub one_taken : (token other : Token) (spot next end : Spot) → Takes token spot next → Takes other spot end → TakesOne token other next end
one_taken token other spot next end (s, spelled, left, taken) (u, spells, rest, gone) =
    let same : Same token other s u next.left end.left = one_form token other s u next.left end.left spelled spells (sym left ∙ rest) in
    let fronts : next.taken ≡ end.taken = taken ∙ ap (λ x. spot.taken ++ x) same.spelling ∙ sym gone in
    record {
      token_is = same.token;
      next_is = ap (λ x. record { taken = x; left = next.left }) fronts ∙ ap (λ x. record { taken = end.taken; left = x }) same.rest;
    }

-- no token is taken at the end
pub none_taken : (token : Token) (spot next : Spot) → spot.left ≡ [] → Takes token spot next → ⊥
none_taken token spot next end (s, spelled, left, taken) = omega (arith, spelled_long token s spelled, ap length end, ap length left, length-append s next.left)

-- ---- of tokens

told_once : (Holds : Type 0) (place : ℕ) (more places others : List ℕ) → IsToldIf Holds place places more → IsToldIf Holds place others more → places ≡ others
told_once Holds place more places others (inl (so, is)) (inl (again, same)) = is ∙ sym same
told_once Holds place more places others (inl (so, is)) (inr (never, same)) = absurd (never so)
told_once Holds place more places others (inr (never, is)) (inl (so, same)) = absurd (never so)
told_once Holds place more places others (inr (never, is)) (inr (none, same)) = is ∙ sym same

one_marked_from : (Holds : Spot → Token → Type 0) (spot : Spot) (all alike : List Token) (places others : List ℕ) → AreMarkedFrom Holds spot all places → AreMarkedFrom Holds spot alike others
    → places ≡ others
one_marked_from Holds spot [] [] places others p q = p.1 ∙ sym q.1
one_marked_from Holds spot [] (token ∷ alike) places others p (next, more, takes, are, told) = absurd (none_taken token spot next p.0 takes)
one_marked_from Holds spot (token ∷ all) [] places others (next, more, takes, are, told) q = absurd (none_taken token spot next q.0 takes)
one_marked_from Holds spot (token ∷ all) (other ∷ alike) places others (next, more, takes, are, told) (end, rest, goes, so, same) =
    let one : TakesOne token other next end = one_taken token other spot next end takes goes in
    let P : Spot → Type 0 = λ x. AreMarkedFrom Holds x alike rest in
    let later : more ≡ rest = one_marked_from Holds next all alike more rest are (subst P (sym one.next_is) so) in
    let Q : Token → Type 0 = λ x. IsToldIf (Holds spot x) (length spot.taken) others rest in
    let R : List ℕ → Type 0 = λ x. IsToldIf (Holds spot token) (length spot.taken) others x in
    told_once (Holds spot token) (length spot.taken) more places others told (subst R (sym later) (subst Q (sym one.token_is) same))

pub one_marked : (Holds : Spot → Token → Type 0) (text places others : List ℕ) → AreMarked Holds text places → AreMarked Holds text others → places ≡ others
one_marked Holds text places others (all, p) (alike, q) = one_marked_from Holds (record { taken = []; left = text }) all alike places others p q

-- ---- of findings

pub one_places_of : (finding : TokenFinding) (founds : List PlacedFinding) (places others : List ℕ) → ArePlacesOf finding founds places → ArePlacesOf finding founds others → places ≡ others
one_places_of finding [] places others p q = p ∙ sym q
one_places_of finding (one ∷ founds) places others (more, are, told) (rest, so, same) =
    let later : more ≡ rest = one_places_of finding founds more rest are so in
    let P : List ℕ → Type 0 = λ x. IsToldIf (one.finding ≡ finding) one.place others x in
    told_once (one.finding ≡ finding) one.place more places others told (subst P (sym later) same)

-- ---- of bytes

in_order : (k l : ℕ) → (k < l) ⊎ ((l < k) ⊎ (k ≡ l))
in_order k l = grind arith

pub one_places_from : (Holds : ℕ → Type 0) (from : ℕ) (places others : List ℕ) → ArePlacesFrom Holds from places → ArePlacesFrom Holds from others → places ≡ others
one_places_from Holds from [] [] p q = refl
one_places_from Holds from [] (place ∷ others) p q = absurd (p place q.0 q.1)
one_places_from Holds from (place ∷ places) [] p q = absurd (q place p.0 p.1)
one_places_from Holds from (place ∷ places) (other ∷ others) p q = ap (λ x. x ∷ places) first ∙ ap (λ x. other ∷ x) (one_places_from Holds (place + 1) places others p.3 rest)
  where
    by_order : (place < other) ⊎ ((other < place) ⊎ (place ≡ other)) → place ≡ other
    by_order (inl less) = absurd (q.2 place p.0 less p.1)
    by_order (inr (inl less)) = absurd (p.2 other q.0 less q.1)
    by_order (inr (inr e)) = e

    first : place ≡ other
    first = by_order (in_order place other)

    rest : ArePlacesFrom Holds (place + 1) others
    rest = let P : ℕ → Type 0 = λ x. ArePlacesFrom Holds (x + 1) others in subst P (sym first) q.3

-- ---- of tests of constants

one_test_report : (before : List Token) (token : Token) (place : ℕ) (remarks others : List TextRemark) → IsTestReport before token place remarks
    → IsTestReport before token place others → remarks ≡ others
one_test_report before token place remarks others (inl (found, is, told)) (inl (other, same, again)) =
    told ∙ ap (λ test. placed (place ∷ []) (findings.Token ConstantCondition) (Value (value_of test))) (one_test before found other) ∙ sym again
one_test_report before token place remarks others (inl (found, is, told)) (inr (never, none)) = absurd (never (is, found))
one_test_report before token place remarks others (inr (never, none)) (inl (found, is, told)) = absurd (never (is, found))
one_test_report before token place remarks others (inr (never, none)) (inr (not, nothing)) = none ∙ sym nothing

one_test_reports : (spot : Spot) (before all alike : List Token) (remarks others : List TextRemark) → AreTestReports spot before all remarks
    → AreTestReports spot before alike others → remarks ≡ others
one_test_reports spot before [] [] remarks others p q = p.1 ∙ sym q.1
one_test_reports spot before [] (token ∷ alike) remarks others p (next, one, more, takes, is, are, told) = absurd (none_taken token spot next p.0 takes)
one_test_reports spot before (token ∷ all) [] remarks others (next, one, more, takes, is, are, told) q = absurd (none_taken token spot next q.0 takes)
one_test_reports spot before (token ∷ all) (other ∷ alike) remarks others (next, one, more, takes, is, are, told) (end, first, rest, goes, so, same, again) =
    let alone : TakesOne token other next end = one_taken token other spot next end takes goes in
    let P : Token → Type 0 = λ x. IsTestReport before x (length spot.taken) first in
    let here : one ≡ first = one_test_report before token (length spot.taken) one first is (subst P (sym alone.token_is) so) in
    let Q : Token → Type 0 = λ x. AreTestReports next (before ++ x ∷ []) alike rest in
    let R : Spot → Type 0 = λ x. AreTestReports x (before ++ other ∷ []) alike rest in
    let later : more ≡ rest = one_test_reports next (before ++ token ∷ []) all alike more rest are (subst Q (sym alone.token_is) (subst R (sym alone.next_is) same)) in
    told ∙ ap (λ x. x ++ more) here ∙ ap (λ x. first ++ x) later ∙ sym again

pub one_tests : (text : List ℕ) (remarks others : List TextRemark) → IsTestsReport text remarks → IsTestsReport text others → remarks ≡ others
one_tests text remarks others (all, p) (alike, q) = one_test_reports (record { taken = []; left = text }) [] all alike remarks others p q
