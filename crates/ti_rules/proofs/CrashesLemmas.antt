-- Remarks on divisions, token after token, and that they are one.
use Rattle.std.proofs.Common.{◌≡◌, ◌∙◌, ℕ, List, [], ◌∷◌, ◌++◌, ap, append_assoc, length, map, refl, subst, sym}
use Rattle.std.proofs.lemmas.List.{append-nil}
use Rattle.std.specs.Prelude.{Option}
use Rattle.ti_cap.specs.Capability.{Spot, Takes}
use Rattle.ti_cap.specs.declared.language.Token.{Token}
use Rattle.ti_rules.specs.Crashes.{AreCrashes, AreCrashesFrom, AreCrashesOf, Before, after, knows_nothing, on_token}
use Rattle.ti_rules.specs.Remarks.{Remark, TextRemark, with_name}
use Rattle.ti_rules.proofs.OnePlacesLemmas.{TakesOne, none_taken, one_taken}
use Rattle.ti_values.specs.declared.range.Range.{Range}

-- whatever is found at the tokens that are left, it comes after what was found so far
pub record Going (range : Option Range) (text : List ℕ) (initial : List TextRemark) (spot : Spot) (before : Before) (out : List TextRemark) : Type 0 where
  pub goes : (rest : List Token) (more : List TextRemark) → AreCrashesFrom range spot before rest more → (all : List TextRemark) × AreCrashes range text all × (out ++ more ≡ initial ++ all)

pub going_start : (range : Option Range) (text : List ℕ) (initial : List TextRemark) (spot : Spot) (before : Before) → spot ≡ record { taken = []; left = text } → before ≡ knows_nothing
    → Going range text initial spot before initial
going_start range text initial spot before start nothing = record {
  goes = λ rest more h.
      let S : Spot → Type 0 = λ s. AreCrashesFrom range s knows_nothing rest more in
      let B : Before → Type 0 = λ b. AreCrashesFrom range spot b rest more in
      (more, (rest, subst S start (subst B nothing h)), refl);
}

pub going_next : (range : Option Range) (text : List ℕ) (initial : List TextRemark) (spot next : Spot) (token : Token) (before then : Before) (place : ℕ) (out new : List TextRemark)
    → Takes token spot next → place ≡ length spot.taken → then ≡ after before token → new ≡ out ++ on_token range before token place
    → Going range text initial spot before out → Going range text initial next then new
going_next range text initial spot next token before then place out new takes at is told g = record {
  goes = λ rest more h.
      let B : Before → Type 0 = λ b. AreCrashesFrom range next b rest more in
      let (all, are, e) = g.goes (token ∷ rest) (on_token range before token (length spot.taken) ++ more) (next, more, takes, subst B is h, refl) in
      (all, are, ap (λ l. l ++ more) (told ∙ ap (λ n. out ++ on_token range before token n) at) ∙ append_assoc out (on_token range before token (length spot.taken)) more ∙ e);
}

pub going_end : (range : Option Range) (text : List ℕ) (initial : List TextRemark) (spot : Spot) (before : Before) (out : List TextRemark) → spot.left ≡ []
    → Going range text initial spot before out → (all : List TextRemark) × AreCrashes range text all × (out ≡ initial ++ all)
going_end range text initial spot before out end g =
    let (all, are, e) = g.goes [] [] (end, refl) in
    (all, are, sym (append-nil out) ∙ e)

-- ---- they are one

one_from : (range : Option Range) (spot : Spot) (before : Before) (all alike : List Token) (remarks others : List TextRemark) → AreCrashesFrom range spot before all remarks
    → AreCrashesFrom range spot before alike others → remarks ≡ others
one_from range spot before [] [] remarks others p q = p.1 ∙ sym q.1
one_from range spot before [] (token ∷ alike) remarks others p (next, more, takes, are, told) = absurd (none_taken token spot next p.0 takes)
one_from range spot before (token ∷ all) [] remarks others (next, more, takes, are, told) q = absurd (none_taken token spot next q.0 takes)
one_from range spot before (token ∷ all) (other ∷ alike) remarks others (next, more, takes, are, told) (end, rest, goes, same, again) =
    let alone : TakesOne token other next end = one_taken token other spot next end takes goes in
    let Q : Token → Type 0 = λ x. AreCrashesFrom range next (after before x) alike rest in
    let R : Spot → Type 0 = λ x. AreCrashesFrom range x (after before other) alike rest in
    let later : more ≡ rest = one_from range next (after before token) all alike more rest are (subst Q (sym alone.token_is) (subst R (sym alone.next_is) same)) in
    told ∙ ap (λ x. on_token range before x (length spot.taken) ++ more) alone.token_is ∙ ap (λ x. on_token range before other (length spot.taken) ++ x) later ∙ sym again

pub one_crashes : (range : Option Range) (name text : List ℕ) (remarks others : List Remark) → AreCrashesOf range name text remarks → AreCrashesOf range name text others → remarks ≡ others
one_crashes range name text remarks others (found, (all, is), e) (other, (alike, also), f) =
    e ∙ ap (map (with_name name text)) (one_from range (record { taken = []; left = text }) knows_nothing all alike found other is also) ∙ sym f
