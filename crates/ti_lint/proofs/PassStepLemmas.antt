-- One token more, for each token of a conditional and for the others.
use Rattle.std.proofs.Common.{◌≡◌, ◌≢◌, ℕ, inl, inr, zero, suc, ◌+◌, ◌-◌, ◌<◌, ◌≤◌, List, [], ◌∷◌, ◌++◌, length, get_or, set, refl, sym, ◌∙◌, ap, subst, arith}
use Rattle.std.proofs.lemmas.List.{get_or-set_same, get_or-set_other, length-set}
use Rattle.ti_base.specs.Limits.{most_open}
use Rattle.ti_cap.specs.declared.language.Token.{Token}
use Rattle.ti_cap.specs.declared.language.Token.TheVariants.{CondOpen, CondThen, CondElse, CondClose}
use Rattle.ti_cap.specs.declared.scan.ConditionalPart.{ConditionalPart}
use Rattle.ti_cap.specs.Tree.{IsSimple}
use Rattle.ti_cap.specs.declared.mode.Mode.TheVariants.{Run, ToElse, ToEnd}
use Rattle.ti_cap.proofs.NestLemmas.{below, level_after, allowed_level}
use Rattle.ti_cap.proofs.ReachesLemmas.{Moved, reaches_next, simple_running, simple_waiting}
use Rattle.ti_cap.proofs.IsAliveLemmas.{alive_step}
use Rattle.ti_lint.specs.declared.facts.Facts.{Facts}
use Rattle.ti_lint.specs.declared.pass.OpenFacts.{OpenFacts}
use Rattle.ti_lint.specs.declared.pass.Pass.{Pass}
use Rattle.ti_lint.specs.inner.Facts.{no_facts, joined, after_token}
use Rattle.ti_lint.specs.inner.Pass.{fresh, innermost, passed}
use Rattle.ti_lint.proofs.FactsLemmas.{IsFirstTwo}
use Rattle.ti_lint.proofs.HoldsLemmas.{Path, snoc, Holds, IsStill, holds_same, holds_nothing, holds_joined, holds_token, holds_still}
use Rattle.ti_lint.proofs.ReachedLemmas.{Paths}
use Rattle.ti_lint.proofs.PassLemmas.{Knows, Goes, leads_on, runs, after_step, swapped, regrouped, chain}

-- a token that all walks here meet
holds_met : (before : List Token) (k : Token) (parts onto : List ConditionalPart) (p : Pass) → Goes before k parts onto p → Holds (after_token k p.here) (Moved snoc (Paths before Run) k)
holds_met before k parts onto p w =
    let r : (x : Path) × Paths before Run x = runs before parts p w.old in
    holds_token k p.here (Paths before Run) r.0 w.lettered r.1 w.low w.old.running

simple_step : (before : List Token) (k : Token) (parts onto : List ConditionalPart) (p : Pass) → IsSimple k → level_after (length parts) k ≡ length parts → Goes before k parts onto p
    → Knows (before ++ k ∷ []) onto (record p { here = after_token k p.here })
simple_step before k parts onto p simple level w = record {
  leads = leads_on before k parts onto p w;
  count = sym (allowed_level k parts onto w.stands) ∙ level ∙ w.old.count;
  alive = alive_step before k parts onto w.stands w.old.alive;
  room = w.old.room;
  running = holds_same (after_token k p.here) _ (Paths (before ++ k ∷ []) Run) (simple_running snoc [] before k simple) (holds_met before k parts onto p w);
  failed = λ j n e. holds_same _ (Paths before (ToElse n)) _ (simple_waiting snoc [] before k (ToElse n) refl simple) (w.old.failed j n e);
  done = λ j n e. holds_same _ (Paths before (ToEnd n)) _ (simple_waiting snoc [] before k (ToEnd n) refl simple) (w.old.done j n e);
}

-- the open conditionals, of which one is written
at_same : (opens : List OpenFacts) (i j : ℕ) (o : OpenFacts) → j ≡ i → i < length opens → get_or (set opens i o) j fresh ≡ o
at_same opens i j o e low = ap (λ x. get_or (set opens i o) x fresh) e ∙ get_or-set_same opens i o fresh low

at_other : (opens : List OpenFacts) (i j : ℕ) (o : OpenFacts) → j ≢ i → get_or (set opens i o) j fresh ≡ get_or opens j fresh
at_other opens i j o e = get_or-set_other opens i j o fresh e

holds_along : (o p : Facts) (within : Path → Type 0) → o ≡ p → Holds p within → Holds o within
holds_along o p within e h = let P : Facts → Type 0 = λ x. Holds x within in subst P (sym e) h

-- tokens of a conditional that change no fact
still_open : IsStill CondOpen
still_open = ((λ h. omega arith), (λ e. absurd (cc)), (λ which e. absurd (cc)), not_first, (λ stack. refl))
  where
    not_first : IsFirstTwo CondOpen → ⊥
    not_first (inl e) = absurd (cc)
    not_first (inr e) = absurd (cc)

still_else : IsStill CondElse
still_else = ((λ h. omega arith), (λ e. absurd (cc)), (λ which e. absurd (cc)), not_first, (λ stack. refl))
  where
    not_first : IsFirstTwo CondElse → ⊥
    not_first (inl e) = absurd (cc)
    not_first (inr e) = absurd (cc)

still_close : IsStill CondClose
still_close = ((λ h. omega arith), (λ e. absurd (cc)), (λ which e. absurd (cc)), not_first, (λ stack. refl))
  where
    not_first : IsFirstTwo CondClose → ⊥
    not_first (inl e) = absurd (cc)
    not_first (inr e) = absurd (cc)

open_step : (before : List Token) (parts onto : List ConditionalPart) (p : Pass) → Goes before CondOpen parts onto p → p.nesting < most_open → Knows (before ++ CondOpen ∷ []) onto (passed p CondOpen)
open_step before parts onto p w room = record {
  leads = leads_on before CondOpen parts onto p w;
  count = omega (arith, allowed_level CondOpen parts onto w.stands, w.old.count);
  alive = alive_step before CondOpen parts onto w.stands w.old.alive;
  room = length-set p.opens p.nesting fresh ∙ w.old.room;
  running = holds_same p.here _ (Paths (before ++ CondOpen ∷ []) Run) (after_step before CondOpen Run) (holds_still CondOpen p.here (Paths before Run) still_open w.old.running);
  failed = failed;
  done = done;
}
  where
    within : p.nesting < length p.opens
    within = omega (arith, w.old.room, room)

    failed : (j n : ℕ) → suc (j + n) ≡ p.nesting + 1 → Holds (get_or (set p.opens p.nesting fresh) j fresh).failed (Paths (before ++ CondOpen ∷ []) (ToElse n))
    failed j zero e = holds_along _ no_facts _ (ap (λ o. o.failed) (at_same p.opens p.nesting j fresh (omega arith) within))
        (holds_nothing _ (λ x r. reaches_next snoc [] before CondOpen (ToElse zero) x r))
    failed j (suc n) e = holds_along _ _ _ (ap (λ o. o.failed) (at_other p.opens p.nesting j fresh (λ i. omega arith)))
        (holds_same _ (Paths before (ToElse n)) _ (after_step before CondOpen (ToElse (suc n))) (w.old.failed j n (omega arith)))

    done : (j n : ℕ) → suc (j + n) ≡ p.nesting + 1 → Holds (get_or (set p.opens p.nesting fresh) j fresh).done (Paths (before ++ CondOpen ∷ []) (ToEnd n))
    done j zero e = holds_along _ no_facts _ (ap (λ o. o.done) (at_same p.opens p.nesting j fresh (omega arith) within))
        (holds_nothing _ (λ x r. reaches_next snoc [] before CondOpen (ToEnd zero) x r))
    done j (suc n) e = holds_along _ _ _ (ap (λ o. o.done) (at_other p.opens p.nesting j fresh (λ i. omega arith)))
        (holds_same _ (Paths before (ToEnd n)) _ (after_step before CondOpen (ToEnd (suc n))) (w.old.done j n (omega arith)))

-- the innermost conditional is that of the last place
innermost_failed : (before : List Token) (parts : List ConditionalPart) (p : Pass) → Knows before parts p → 0 < p.nesting → Holds (innermost p).failed (Paths before (ToElse zero))
innermost_failed before parts p w some = w.failed (p.nesting - 1) zero (omega arith)

innermost_done : (before : List Token) (parts : List ConditionalPart) (p : Pass) → Knows before parts p → 0 < p.nesting → Holds (innermost p).done (Paths before (ToEnd zero))
innermost_done before parts p w some = w.done (p.nesting - 1) zero (omega arith)

-- there is room for what is open
few_open : (before : List Token) (parts : List ConditionalPart) (p : Pass) → Knows before parts p → length parts ≤ most_open → p.nesting ≤ length p.opens
few_open before parts p w few = omega (arith, w.count, w.room)

then_step : (before : List Token) (parts onto : List ConditionalPart) (p : Pass) → Goes before CondThen parts onto p → 0 < p.nesting → length parts ≤ most_open → Knows (before ++ CondThen ∷ []) onto (passed p CondThen)
then_step before parts onto p w some few = record {
  leads = leads_on before CondThen parts onto p w;
  count = sym (allowed_level CondThen parts onto w.stands) ∙ w.old.count;
  alive = alive_step before CondThen parts onto w.stands w.old.alive;
  room = length-set p.opens (p.nesting - 1) written ∙ w.old.room;
  running = holds_same (after_token CondThen p.here) _ (Paths (before ++ CondThen ∷ []) Run) (after_step before CondThen Run) met;
  failed = failed;
  done = done;
}
  where
    written : OpenFacts
    written = record (innermost p) { failed = joined (innermost p).failed (after_token CondThen p.here) }

    within : p.nesting - 1 < length p.opens
    within = omega (arith, few_open before parts p w.old few, some)

    met : Holds (after_token CondThen p.here) (Moved snoc (Paths before Run) CondThen)
    met = holds_met before CondThen parts onto p w

    failed : (j n : ℕ) → suc (j + n) ≡ p.nesting → Holds (get_or (set p.opens (p.nesting - 1) written) j fresh).failed (Paths (before ++ CondThen ∷ []) (ToElse n))
    failed j zero e = holds_along _ (joined (innermost p).failed (after_token CondThen p.here)) _ (ap (λ o. o.failed) (at_same p.opens (p.nesting - 1) j written (omega arith) within))
        (holds_same _ _ _ (λ x. chain (swapped (Paths before (ToElse zero)) (Moved snoc (Paths before Run) CondThen) x) (after_step before CondThen (ToElse zero) x))
        (holds_joined (innermost p).failed (after_token CondThen p.here) _ _ (innermost_failed before parts p w.old some) met))
    failed j (suc n) e = holds_along _ _ _ (ap (λ o. o.failed) (at_other p.opens (p.nesting - 1) j written (λ i. omega arith)))
        (holds_same _ (Paths before (ToElse (suc n))) _ (after_step before CondThen (ToElse (suc n))) (w.old.failed j (suc n) e))

    done : (j n : ℕ) → suc (j + n) ≡ p.nesting → Holds (get_or (set p.opens (p.nesting - 1) written) j fresh).done (Paths (before ++ CondThen ∷ []) (ToEnd n))
    done j zero e = holds_along _ (innermost p).done _ (ap (λ o. o.done) (at_same p.opens (p.nesting - 1) j written (omega arith) within))
        (holds_same _ (Paths before (ToEnd zero)) _ (after_step before CondThen (ToEnd zero)) (innermost_done before parts p w.old some))
    done j (suc n) e = holds_along _ _ _ (ap (λ o. o.done) (at_other p.opens (p.nesting - 1) j written (λ i. omega arith)))
        (holds_same _ (Paths before (ToEnd (suc n))) _ (after_step before CondThen (ToEnd (suc n))) (w.old.done j (suc n) e))

else_step : (before : List Token) (parts onto : List ConditionalPart) (p : Pass) → Goes before CondElse parts onto p → 0 < p.nesting → length parts ≤ most_open → Knows (before ++ CondElse ∷ []) onto (passed p CondElse)
else_step before parts onto p w some few = record {
  leads = leads_on before CondElse parts onto p w;
  count = sym (allowed_level CondElse parts onto w.stands) ∙ w.old.count;
  alive = alive_step before CondElse parts onto w.stands w.old.alive;
  room = length-set p.opens (p.nesting - 1) written ∙ w.old.room;
  running = holds_same (innermost p).failed _ (Paths (before ++ CondElse ∷ []) Run) (after_step before CondElse Run)
      (holds_still CondElse (innermost p).failed (Paths before (ToElse zero)) still_else (innermost_failed before parts p w.old some));
  failed = failed;
  done = done;
}
  where
    written : OpenFacts
    written = record { failed = no_facts; done = joined (innermost p).done p.here }

    within : p.nesting - 1 < length p.opens
    within = omega (arith, few_open before parts p w.old few, some)

    failed : (j n : ℕ) → suc (j + n) ≡ p.nesting → Holds (get_or (set p.opens (p.nesting - 1) written) j fresh).failed (Paths (before ++ CondElse ∷ []) (ToElse n))
    failed j zero e = holds_along _ no_facts _ (ap (λ o. o.failed) (at_same p.opens (p.nesting - 1) j written (omega arith) within))
        (holds_nothing _ (λ x r. reaches_next snoc [] before CondElse (ToElse zero) x r))
    failed j (suc n) e = holds_along _ _ _ (ap (λ o. o.failed) (at_other p.opens (p.nesting - 1) j written (λ i. omega arith)))
        (holds_same _ (Paths before (ToElse (suc n))) _ (after_step before CondElse (ToElse (suc n))) (w.old.failed j (suc n) e))

    done : (j n : ℕ) → suc (j + n) ≡ p.nesting → Holds (get_or (set p.opens (p.nesting - 1) written) j fresh).done (Paths (before ++ CondElse ∷ []) (ToEnd n))
    done j zero e = holds_along _ (joined (innermost p).done p.here) _ (ap (λ o. o.done) (at_same p.opens (p.nesting - 1) j written (omega arith) within))
        (holds_same _ _ _ (λ x. chain (swapped (Paths before (ToEnd zero)) (Moved snoc (Paths before Run) CondElse) x) (after_step before CondElse (ToEnd zero) x))
        (holds_joined (innermost p).done p.here _ _ (innermost_done before parts p w.old some) (holds_still CondElse p.here (Paths before Run) still_else w.old.running)))
    done j (suc n) e = holds_along _ _ _ (ap (λ o. o.done) (at_other p.opens (p.nesting - 1) j written (λ i. omega arith)))
        (holds_same _ (Paths before (ToEnd (suc n))) _ (after_step before CondElse (ToEnd (suc n))) (w.old.done j (suc n) e))

close_step : (before : List Token) (parts onto : List ConditionalPart) (p : Pass) → Goes before CondClose parts onto p → 0 < p.nesting → Knows (before ++ CondClose ∷ []) onto (passed p CondClose)
close_step before parts onto p w some = record {
  leads = leads_on before CondClose parts onto p w;
  count = omega (arith, allowed_level CondClose parts onto w.stands, less (length parts), w.old.count);
  alive = alive_step before CondClose parts onto w.stands w.old.alive;
  room = w.old.room;
  running = holds_same _ _ (Paths (before ++ CondClose ∷ []) Run)
      (λ x. chain (regrouped (Moved snoc (Paths before Run) CondClose) (Moved snoc (Paths before (ToElse zero)) CondClose) (Moved snoc (Paths before (ToEnd zero)) CondClose) x) (after_step before CondClose Run x))
      (holds_joined (joined p.here (innermost p).failed) (innermost p).done _ _
      (holds_joined p.here (innermost p).failed _ _ (holds_still CondClose p.here (Paths before Run) still_close w.old.running)
      (holds_still CondClose (innermost p).failed (Paths before (ToElse zero)) still_close (innermost_failed before parts p w.old some)))
      (holds_still CondClose (innermost p).done (Paths before (ToEnd zero)) still_close (innermost_done before parts p w.old some)));
  failed = λ j n e. holds_same _ (Paths before (ToElse (suc n))) _ (after_step before CondClose (ToElse n)) (w.old.failed j (suc n) (omega arith));
  done = λ j n e. holds_same _ (Paths before (ToEnd (suc n))) _ (after_step before CondClose (ToEnd n)) (w.old.done j (suc n) (omega arith));
}
  where
    less : (n : ℕ) → below n ≡ n - 1
    less zero = refl
    less (suc n) = omega arith

-- the token moves the number of open conditionals, for which there is room
abbrev pub HasRoom : Token → ℕ → Type 0
HasRoom CondOpen nesting = nesting < most_open
HasRoom CondThen nesting = 0 < nesting
HasRoom CondElse nesting = 0 < nesting
HasRoom CondClose nesting = 0 < nesting
HasRoom token nesting = Unit {0}

-- one token more
pub knows_step : (before : List Token) (k : Token) (parts onto : List ConditionalPart) (p : Pass) → Goes before k parts onto p → HasRoom k p.nesting → length parts ≤ most_open
    → Knows (before ++ k ∷ []) onto (passed p k)
knows_step before CondOpen parts onto p w room few = open_step before parts onto p w room
knows_step before CondThen parts onto p w room few = then_step before parts onto p w room few
knows_step before CondElse parts onto p w room few = else_step before parts onto p w room few
knows_step before CondClose parts onto p w room few = close_step before parts onto p w room
knows_step before k parts onto p w room few = simple_step before k parts onto p tt refl w
