-- A list of all tokens, between those that were taken and those that are left.
use Rattle.std.proofs.Common.{◌≡◌, ℕ, ◌+◌, ◌<◌, ◌≤◌, ◌↔◌, List, [], ◌∷◌, ◌++◌, length, refl, sym, ◌∙◌, ap, subst, arith, append_assoc, length-append}
use Rattle.ti_base.specs.Limits.{most_capability_bytes}
use Rattle.ti_cap.specs.declared.language.Token.{Token}
use Rattle.ti_cap.specs.Spelling.{Written}
use Rattle.ti_cap.specs.Capability.{Spot, Takes, IsFirst}
use Rattle.ti_cap.proofs.WrittenLemmas.{one_cutting, written-append, written_one}
use Rattle.ti_lint.specs.declared.expected.Expected.{Expected}
use Rattle.ti_lint.specs.declared.token_finding.TokenFinding.{TokenFinding}
use Rattle.ti_lint.specs.Conditionals.{IsFoundAmong}
use Rattle.ti_lint.specs.Findings.{IsFoundWithin}
use Rattle.ti_lint.specs.inner.Conditionals.{HasTokens}
use Rattle.ti_lint.proofs.AheadLemmas.{written_long}

pub tokens_start : (bytes : List ℕ) (tokens : List Token) → Written tokens bytes → length bytes ≤ most_capability_bytes → HasTokens (record { taken = []; left = bytes }) tokens 0
tokens_start bytes tokens w few = record { before = []; after = tokens; taken = refl; left = w; all = refl; counts = refl; few = omega (arith, written_long tokens bytes w) }

-- the next token, among all
pub record Among (spot new : Spot) (tokens : List Token) (count : ℕ) (k : Token) : Type 0 where
  pub before : List Token
  pub after : List Token
  pub taken : Written before spot.taken
  pub left : Written (k ∷ after) spot.left
  pub spans : tokens ≡ before ++ k ∷ after
  pub counts : length before ≡ count
  pub within : count < length tokens
  pub few : length tokens ≤ most_capability_bytes
  pub next : HasTokens new tokens (count + 1)

pub among : (spot new : Spot) (tokens : List Token) (count : ℕ) (k : Token) → HasTokens spot tokens count → Takes k spot new → IsFirst k spot new → Among spot new tokens count k
among spot new tokens count k h takes first =
    let n : (rest : List Token) × (h.after ≡ k ∷ rest) × Written rest new.left = first h.after h.left in
    let spans : tokens ≡ h.before ++ k ∷ n.0 = h.all ∙ ap (λ x. h.before ++ x) n.1 in
    let P : List Token → Type 0 = λ x. Written x spot.left in
    let Q : List ℕ → Type 0 = λ x. Written (h.before ++ k ∷ []) x in
    record {
      before = h.before;
      after = n.0;
      taken = h.taken;
      left = subst P n.1 h.left;
      spans = spans;
      counts = h.counts;
      within = omega (arith, h.counts, ap length spans, length-append h.before (k ∷ n.0));
      few = h.few;
      next = record {
        before = h.before ++ k ∷ [];
        after = n.0;
        taken = subst Q (sym takes.3) (written-append h.before (k ∷ []) spot.taken takes.0 h.taken (written_one k takes.0 takes.1));
        left = n.2;
        all = spans ∙ sym (append_assoc h.before (k ∷ []) n.0);
        counts = omega (arith, h.counts, length-append h.before (k ∷ []));
        few = h.few;
      };
    }

pub within_exact : (spot new : Spot) (expected : Expected) (tokens : List Token) (count : ℕ) (k : Token) (g : TokenFinding) → (a : Among spot new tokens count k)
    → IsFoundAmong a.before k a.after g ↔ IsFoundWithin (record { spot = spot; expected = expected }) k g
within_exact spot new expected tokens count k g a = (
  (λ f. record { before = a.before; after = a.after; taken = a.taken; left = a.left; found = f }),
  (λ f.
      let P : List Token → Type 0 = λ x. IsFoundAmong x k f.after g in
      let Q : List Token → Type 0 = λ x. IsFoundAmong a.before k x g in
      subst Q (same f.after a.after (one_cutting (k ∷ f.after) (k ∷ a.after) spot.left f.left a.left)) (subst P (one_cutting f.before a.before spot.taken f.taken a.taken) f.found)),
)
  where
    same : (x y : List Token) → k ∷ x ≡ k ∷ y → x ≡ y
    same x y e = cc
