-- What a text sends is one, and so is the first value of which something holds.
use Rattle.std.proofs.Common.{◌≡◌, ℕ, ◌<◌, ◌⊎◌, inl, inr, List, [], ◌∷◌, refl, sym, ◌∙◌, ap, subst, arith}
use Rattle.std.specs.Prelude.{Option, Some, None}
use Rattle.ti_expand.specs.declared.values.Value.{Value}
use Rattle.ti_values.specs.declared.same.Same.{Same}
use Rattle.ti_values.specs.declared.tried.Tried.{Tried}
use Rattle.ti_values.specs.Findings.{IsFirstOf, IsFirstSame, IsSameAt}
use Rattle.ti_values.specs.Ranges.{parameters_of}
use Rattle.ti_values.specs.Sent.{AreSent, Sends}

-- ---- what is sent

pub one_sends : (text : List ℕ) (parameters : List Value) (one other : List ℕ) → Sends text parameters one → Sends text parameters other → one ≡ other
one_sends text parameters one other p q = p.meant p.tree.tree p.tree.writes ∙ sym (q.meant p.tree.tree p.tree.writes)

pub one_sent : (text : List ℕ) (values : List Tried) (all others : List (List ℕ)) → AreSent text values all → AreSent text values others → all ≡ others
one_sent text [] all others p q = p ∙ sym q
one_sent text (value ∷ values) [] others p q = absurd p
one_sent text (value ∷ values) (one ∷ all) [] p q = absurd q
one_sent text (value ∷ values) (one ∷ all) (other ∷ others) p q =
    ap (λ x. x ∷ all) (one_sends text (parameters_of value) one other p.0 q.0) ∙ ap (λ xs. other ∷ xs) (one_sent text values all others p.1 q.1)

-- ---- the first of some places

in_order : (k l : ℕ) → (k < l) ⊎ ((l < k) ⊎ (k ≡ l))
in_order k l = grind arith

pub one_first_of : (Holds : ℕ → Type 0) (one other : Option ℕ) → IsFirstOf Holds one → IsFirstOf Holds other → one ≡ other
one_first_of Holds None None p q = refl
one_first_of Holds None (Some l) p q = absurd (p l q.0)
one_first_of Holds (Some k) None p q = absurd (q k p.0)
one_first_of Holds (Some k) (Some l) p q = ap (λ x. Some x) (by_order (in_order k l))
  where
    by_order : (k < l) ⊎ ((l < k) ⊎ (k ≡ l)) → k ≡ l
    by_order (inl less) = absurd (q.1 k less p.0)
    by_order (inr (inl less)) = absurd (p.1 l less q.0)
    by_order (inr (inr e)) = e

-- of two values before one for which the same is sent neither is the first
never_two : (all : List (List ℕ)) (k l other : ℕ) → ((one later : ℕ) → later < other → ¬ IsSameAt all one later) → IsSameAt all k other → IsSameAt all l other → k < l → ⊥
never_two all k l other first p q less = first k l q.0 (less, omega (arith, q.0, q.1), p.2 ∙ sym q.2)

pub one_first_same : (all : List (List ℕ)) (one other : Option Same) → IsFirstSame all one → IsFirstSame all other → one ≡ other
one_first_same all None None p q = refl
one_first_same all None (Some b) p q = absurd (p b.one b.other q.0)
one_first_same all (Some a) None p q = absurd (q a.one a.other p.0)
one_first_same all (Some a) (Some b) p q = ap (λ x. Some x) (ap (λ x. record { one = x; other = a.other }) ones ∙ ap (λ x. record { one = b.one; other = x }) others)
  where
    last : (a.other < b.other) ⊎ ((b.other < a.other) ⊎ (a.other ≡ b.other)) → a.other ≡ b.other
    last (inl less) = absurd (q.1 a.one a.other less p.0)
    last (inr (inl less)) = absurd (p.1 b.one b.other less q.0)
    last (inr (inr e)) = e

    others : a.other ≡ b.other
    others = last (in_order a.other b.other)

    same : IsSameAt all b.one a.other
    same = let P : ℕ → Type 0 = λ x. IsSameAt all b.one x in subst P (sym others) q.0

    first : (a.one < b.one) ⊎ ((b.one < a.one) ⊎ (a.one ≡ b.one)) → a.one ≡ b.one
    first (inl less) = absurd (never_two all a.one b.one a.other p.1 p.0 same less)
    first (inr (inl less)) = absurd (never_two all b.one a.one a.other p.1 same p.0 less)
    first (inr (inr e)) = e

    ones : a.one ≡ b.one
    ones = first (in_order a.one b.one)
