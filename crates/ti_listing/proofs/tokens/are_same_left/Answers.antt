use Rattle.std.proofs.Common.{◌≡◌, ◌∙◌, arith, subst, sym}
use Rattle.std.proofs.lemmas.Grind.{common_steps}
use Rattle.ti_cap.specs.declared.language.Token.{Token}
use Rattle.ti_cap.specs.Capability.{IsFirst, Takes}
use Rattle.ti_cap.proofs.SameTokenLemmas.{same_token}
use Rattle.ti_listing.proofs.TokensLemmas.{same_taken}
use Rattle.ti_listing.proofs.tokens.are_same_left.Goals as goal

pub tokens-preserved : goal.tokens-preserved
tokens-preserved c =
    let same : c.in-Some-token.of_other ≡ c.in-Some.token = sym ((same_token c.in-Some-token.of_other c.in-Some.token).0 (sym c.eq.ensures ∙ c.if-eq.true)) in
    let P : Token → Type 0 = λ k. Takes k c.tokens.other c.token-in-Some.new.self in
    let Q : Token → Type 0 = λ k. IsFirst k c.tokens.other c.token-in-Some.new.self in
    let taken = same_taken c.tokens.one c.token.new.self c.tokens.other c.token-in-Some.new.self c.in-Some.token c.in-Some.ensures.some c.in-Some.ensures.order
    (subst P same c.in-Some-token.ensures.some) (subst Q same c.in-Some-token.ensures.order) in
    (λ x. taken.0 (c.tokens.invariant.0 x), λ y. c.tokens.invariant.1 (taken.1 y))

pub tokens-smaller : goal.tokens-smaller
tokens-smaller c = grind (arith, common_steps)
