-- What a pass has gathered goes on with each token as the walks do.
use Rattle.std.proofs.Common.{◌≡◌, ◌≢◌, ℕ, zero, suc, ◌+◌, ◌-◌, ◌<◌, ◌≤◌, ◌⊎◌, inl, inr, ◌↔◌, List, [], ◌∷◌, ◌++◌, length, get_or, set, refl, sym, ◌∙◌, ap, subst, arith, IsTrue}
use Rattle.std.specs.Prelude.{Some}
use Rattle.std.proofs.lemmas.List.{get_or-set_same, get_or-set_other, length-set}
use Rattle.ti_base.specs.Limits.{most_open, most_values}
use Rattle.ti_cap.specs.declared.language.Token.{Token}
use Rattle.ti_cap.specs.declared.language.Token.TheVariants.{Param, CondOpen, CondThen, CondElse, CondClose}
use Rattle.ti_cap.specs.declared.origins.Origins.{Origins}
use Rattle.ti_cap.specs.declared.gathering.Gathering.{Gathering}
use Rattle.ti_cap.specs.declared.gathering.OpenOrigins.{OpenOrigins}
use Rattle.ti_cap.specs.declared.scan.ConditionalPart.{ConditionalPart}
use Rattle.ti_cap.specs.Tree.{IsSimple}
use Rattle.ti_cap.specs.Path.{path_of}
use Rattle.ti_cap.specs.declared.mode.Mode.TheVariants.{Run, ToElse, ToEnd}
use Rattle.ti_cap.specs.Sources.{next_sources, takes_text, Has, Names, TakesAsText}
use Rattle.ti_cap.specs.inner.Gathering.{no_parameter, no_origins, popped, joined, after_token, found_by, fresh, innermost, gathered, IsTakeable}
use Rattle.ti_cap.proofs.PartsLemmas.{allowed, Leads, leads-append}
use Rattle.ti_cap.proofs.NestLemmas.{below, level_after, allowed_level}
use Rattle.ti_cap.proofs.ReachesLemmas.{state_of, Moved, reaches_next, simple_running, simple_waiting}
use Rattle.ti_cap.proofs.HoldsLemmas.{Stack, Holds, IsFit, holds_same, holds_nothing, holds_joined, holds_token}
use Rattle.ti_cap.proofs.IsAliveLemmas.{alive_step}
use Rattle.ti_cap.proofs.SeenLemmas.{Seen, Runs, TakesTop, names_step, texts_step}
use Rattle.ti_cap.proofs.GathersLemmas.{Stacks, Gathers, after_step, holds_unmoved, swapped, regrouped, frame_named, frame_texts, chain, has_with_named, has_texts}

-- where it may stand, and what is known of the stacks after it
pub record Goes (before : List Token) (k : Token) (parts onto : List ConditionalPart) (g : Gathering) : Type 0 where
  pub old : Gathers before parts g
  pub stands : allowed k parts ≡ Some onto
  pub low : (x : Stack) → Stacks (before ++ k ∷ []) Run x → length x ≤ most_values
  pub takeable : IsTakeable k g.nesting
  pub fit : IsFit k

leads_on : (before : List Token) (k : Token) (parts onto : List ConditionalPart) (g : Gathering) → Goes before k parts onto g → Leads [] (before ++ k ∷ []) onto
leads_on before k parts onto g w = leads-append [] parts onto before (k ∷ []) w.old.leads (onto, w.stands, refl)

-- some stack runs here
runs : (before : List Token) (parts : List ConditionalPart) (g : Gathering) → Gathers before parts g → (x : Stack) × Stacks before Run x
runs before parts g w = (state_of next_sources [] (path_of w.alive.runs.0 before), record { walk = w.alive.runs.0; passes = w.alive.runs.1; value = refl })

-- a token that all walks here meet
holds_met : (before : List Token) (k : Token) (parts onto : List ConditionalPart) (g : Gathering) → Goes before k parts onto g
    → ((x : Stack) → Moved next_sources (Stacks before Run) k x → Stacks (before ++ k ∷ []) Run x) → Holds (after_token k g.here) (Moved next_sources (Stacks before Run) k)
holds_met before k parts onto g w on =
    let r : (x : Stack) × Stacks before Run x = runs before parts g w.old in
    holds_token k g.here (Stacks before Run) r.0 w.fit r.1 (λ x s. w.low (next_sources x k) (on (next_sources x k) (x, s, refl))) w.old.running

simple_step : (before : List Token) (k : Token) (parts onto : List ConditionalPart) (g : Gathering) → IsSimple k → level_after (length parts) k ≡ length parts → Goes before k parts onto g
    → Gathers (before ++ k ∷ []) onto (record g { here = after_token k g.here; found = found_by k g })
simple_step before k parts onto g simple level w = record {
  leads = leads_on before k parts onto g w;
  count = sym (allowed_level k parts onto w.stands) ∙ level ∙ w.old.count;
  alive = alive_step before k parts onto w.stands w.old.alive;
  room = w.old.room;
  running = holds_same (after_token k g.here) _ (Stacks (before ++ k ∷ []) Run) (simple_running next_sources [] before k simple)
      (holds_met before k parts onto g w (λ x. (simple_running next_sources [] before k simple x).0));
  failed = λ j n e. holds_same _ (Stacks before (ToElse n)) _ (simple_waiting next_sources [] before k (ToElse n) refl simple) (w.old.failed j n e);
  done = λ j n e. holds_same _ (Stacks before (ToEnd n)) _ (simple_waiting next_sources [] before k (ToEnd n) refl simple) (w.old.done j n e);
  named = λ which. chain (has_with_named k g.found.named which w.fit) (chain (names_now which) (turn (names_step before k which)));
  texts = λ which. chain (has_texts g.found.texts (get_or g.here.sets 0 no_parameter) which (takes_text k)) (chain (texts_now which) (turn (texts_step before k which)));
}
  where
    turn : {A B : Type 0} → A ↔ B → B ↔ A
    turn p = (p.1, p.0)

    names_now : (which : ℕ) → (Has g.found.named which ⊎ (k ≡ Param which)) ↔ (Seen (λ path. Names path which) before ⊎ Runs before (λ stack. k ≡ Param which))
    names_now which = (there, back)
      where
        there : Has g.found.named which ⊎ (k ≡ Param which) → Seen (λ path. Names path which) before ⊎ Runs before (λ stack. k ≡ Param which)
        there (inl h) = inl ((w.old.named which).0 h)
        there (inr e) = let r : (x : Stack) × Stacks before Run x = runs before parts g w.old in inr (r.0, r.1, e)

        back : Seen (λ path. Names path which) before ⊎ Runs before (λ stack. k ≡ Param which) → Has g.found.named which ⊎ (k ≡ Param which)
        back (inl s) = inl ((w.old.named which).1 s)
        back (inr r) = inr r.2

    texts_now : (which : ℕ) → (Has g.found.texts which ⊎ (IsTrue (takes_text k) × Has (get_or g.here.sets 0 no_parameter) which)) ↔ (Seen (λ path. TakesAsText path which) before ⊎ Runs before (TakesTop k which))
    texts_now which = (there, back)
      where
        there : Has g.found.texts which ⊎ (IsTrue (takes_text k) × Has (get_or g.here.sets 0 no_parameter) which) → Seen (λ path. TakesAsText path which) before ⊎ Runs before (TakesTop k which)
        there (inl h) = inl ((w.old.texts which).0 h)
        there (inr (t, h)) = let l = (w.old.running 0 which).0 h in inr (l.0, l.1, (t, l.2))

        back : Seen (λ path. TakesAsText path which) before ⊎ Runs before (TakesTop k which) → Has g.found.texts which ⊎ (IsTrue (takes_text k) × Has (get_or g.here.sets 0 no_parameter) which)
        back (inl s) = inl ((w.old.texts which).1 s)
        back (inr (x, r, t)) = inr (t.0, (w.old.running 0 which).1 (x, r, t.1))

-- the open conditionals, of which one is written
at_same : (opens : List OpenOrigins) (i j : ℕ) (o : OpenOrigins) → j ≡ i → i < length opens → get_or (set opens i o) j fresh ≡ o
at_same opens i j o e low = ap (λ x. get_or (set opens i o) x fresh) e ∙ get_or-set_same opens i o fresh low

at_other : (opens : List OpenOrigins) (i j : ℕ) (o : OpenOrigins) → j ≢ i → get_or (set opens i o) j fresh ≡ get_or opens j fresh
at_other opens i j o e = get_or-set_other opens i j o fresh e

holds_along : (o p : Origins) (within : Stack → Type 0) → o ≡ p → Holds p within → Holds o within
holds_along o p within e h = let P : Origins → Type 0 = λ x. Holds x within in subst P (sym e) h

open_step : (before : List Token) (parts onto : List ConditionalPart) (g : Gathering) → Goes before CondOpen parts onto g → Gathers (before ++ CondOpen ∷ []) onto (gathered g CondOpen)
open_step before parts onto g w = record {
  leads = leads_on before CondOpen parts onto g w;
  count = omega (arith, allowed_level CondOpen parts onto w.stands, w.old.count);
  alive = alive_step before CondOpen parts onto w.stands w.old.alive;
  room = length-set g.opens g.nesting fresh ∙ w.old.room;
  running = holds_same g.here _ (Stacks (before ++ CondOpen ∷ []) Run) (after_step before CondOpen Run)
      (holds_unmoved g.here (Stacks before Run) CondOpen (λ x. refl) w.old.running);
  failed = failed;
  done = done;
  named = λ which. chain (w.old.named which) (frame_named before CondOpen which (λ e. absurd (cc)));
  texts = λ which. chain (w.old.texts which) (frame_texts before CondOpen which (λ e. absurd (cc)));
}
  where
    within : g.nesting < length g.opens
    within = omega (arith, w.old.room, w.takeable)

    failed : (j n : ℕ) → suc (j + n) ≡ g.nesting + 1 → Holds (get_or (set g.opens g.nesting fresh) j fresh).failed (Stacks (before ++ CondOpen ∷ []) (ToElse n))
    failed j zero e = holds_along _ no_origins _ (ap (λ o. o.failed) (at_same g.opens g.nesting j fresh (omega arith) within))
        (holds_nothing _ (λ x r. reaches_next next_sources [] before CondOpen (ToElse zero) x r))
    failed j (suc n) e = holds_along _ _ _ (ap (λ o. o.failed) (at_other g.opens g.nesting j fresh (λ i. omega arith)))
        (holds_same _ (Stacks before (ToElse n)) _ (after_step before CondOpen (ToElse (suc n))) (w.old.failed j n (omega arith)))

    done : (j n : ℕ) → suc (j + n) ≡ g.nesting + 1 → Holds (get_or (set g.opens g.nesting fresh) j fresh).done (Stacks (before ++ CondOpen ∷ []) (ToEnd n))
    done j zero e = holds_along _ no_origins _ (ap (λ o. o.done) (at_same g.opens g.nesting j fresh (omega arith) within))
        (holds_nothing _ (λ x r. reaches_next next_sources [] before CondOpen (ToEnd zero) x r))
    done j (suc n) e = holds_along _ _ _ (ap (λ o. o.done) (at_other g.opens g.nesting j fresh (λ i. omega arith)))
        (holds_same _ (Stacks before (ToEnd n)) _ (after_step before CondOpen (ToEnd (suc n))) (w.old.done j n (omega arith)))

-- the innermost conditional is that of the last place
holds_innermost_failed : (before : List Token) (parts : List ConditionalPart) (g : Gathering) → Gathers before parts g → 0 < g.nesting → Holds (innermost g).failed (Stacks before (ToElse zero))
holds_innermost_failed before parts g w some = w.failed (g.nesting - 1) zero (omega arith)

holds_innermost_done : (before : List Token) (parts : List ConditionalPart) (g : Gathering) → Gathers before parts g → 0 < g.nesting → Holds (innermost g).done (Stacks before (ToEnd zero))
holds_innermost_done before parts g w some = w.done (g.nesting - 1) zero (omega arith)

-- there is room for what is open
few_open : (before : List Token) (parts : List ConditionalPart) (g : Gathering) → Gathers before parts g → length parts ≤ most_open → g.nesting ≤ length g.opens
few_open before parts g w few = omega (arith, w.count, w.room)

then_step : (before : List Token) (parts onto : List ConditionalPart) (g : Gathering) → Goes before CondThen parts onto g → length parts ≤ most_open → Gathers (before ++ CondThen ∷ []) onto (gathered g CondThen)
then_step before parts onto g w few = record {
  leads = leads_on before CondThen parts onto g w;
  count = sym (allowed_level CondThen parts onto w.stands) ∙ w.old.count;
  alive = alive_step before CondThen parts onto w.stands w.old.alive;
  room = length-set g.opens (g.nesting - 1) written ∙ w.old.room;
  running = holds_same (popped g.here) _ (Stacks (before ++ CondThen ∷ []) Run) (after_step before CondThen Run) met;
  failed = failed;
  done = done;
  named = λ which. chain (w.old.named which) (frame_named before CondThen which (λ e. absurd (cc)));
  texts = λ which. chain (w.old.texts which) (frame_texts before CondThen which (λ e. absurd (cc)));
}
  where
    written : OpenOrigins
    written = record (innermost g) { failed = joined (innermost g).failed (popped g.here) }

    within : g.nesting - 1 < length g.opens
    within = omega (arith, few_open before parts g w.old few, w.takeable)

    met : Holds (popped g.here) (Moved next_sources (Stacks before Run) CondThen)
    met = holds_met before CondThen parts onto g w (λ x. (after_step before CondThen Run x).0)

    failed : (j n : ℕ) → suc (j + n) ≡ g.nesting → Holds (get_or (set g.opens (g.nesting - 1) written) j fresh).failed (Stacks (before ++ CondThen ∷ []) (ToElse n))
    failed j zero e = holds_along _ (joined (innermost g).failed (popped g.here)) _ (ap (λ o. o.failed) (at_same g.opens (g.nesting - 1) j written (omega arith) within))
        (holds_same _ _ _ (λ x. chain (swapped (Stacks before (ToElse zero)) (Moved next_sources (Stacks before Run) CondThen) x) (after_step before CondThen (ToElse zero) x))
        (holds_joined (innermost g).failed (popped g.here) _ _ (holds_innermost_failed before parts g w.old w.takeable) met))
    failed j (suc n) e = holds_along _ _ _ (ap (λ o. o.failed) (at_other g.opens (g.nesting - 1) j written (λ i. omega arith)))
        (holds_same _ (Stacks before (ToElse (suc n))) _ (after_step before CondThen (ToElse (suc n))) (w.old.failed j (suc n) e))

    done : (j n : ℕ) → suc (j + n) ≡ g.nesting → Holds (get_or (set g.opens (g.nesting - 1) written) j fresh).done (Stacks (before ++ CondThen ∷ []) (ToEnd n))
    done j zero e = holds_along _ (innermost g).done _ (ap (λ o. o.done) (at_same g.opens (g.nesting - 1) j written (omega arith) within))
        (holds_same _ (Stacks before (ToEnd zero)) _ (after_step before CondThen (ToEnd zero)) (holds_innermost_done before parts g w.old w.takeable))
    done j (suc n) e = holds_along _ _ _ (ap (λ o. o.done) (at_other g.opens (g.nesting - 1) j written (λ i. omega arith)))
        (holds_same _ (Stacks before (ToEnd (suc n))) _ (after_step before CondThen (ToEnd (suc n))) (w.old.done j (suc n) e))

else_step : (before : List Token) (parts onto : List ConditionalPart) (g : Gathering) → Goes before CondElse parts onto g → length parts ≤ most_open → Gathers (before ++ CondElse ∷ []) onto (gathered g CondElse)
else_step before parts onto g w few = record {
  leads = leads_on before CondElse parts onto g w;
  count = sym (allowed_level CondElse parts onto w.stands) ∙ w.old.count;
  alive = alive_step before CondElse parts onto w.stands w.old.alive;
  room = length-set g.opens (g.nesting - 1) written ∙ w.old.room;
  running = holds_same (innermost g).failed _ (Stacks (before ++ CondElse ∷ []) Run) (after_step before CondElse Run)
      (holds_unmoved (innermost g).failed (Stacks before (ToElse zero)) CondElse (λ x. refl) (holds_innermost_failed before parts g w.old w.takeable));
  failed = failed;
  done = done;
  named = λ which. chain (w.old.named which) (frame_named before CondElse which (λ e. absurd (cc)));
  texts = λ which. chain (w.old.texts which) (frame_texts before CondElse which (λ e. absurd (cc)));
}
  where
    written : OpenOrigins
    written = record { failed = no_origins; done = joined (innermost g).done g.here }

    within : g.nesting - 1 < length g.opens
    within = omega (arith, few_open before parts g w.old few, w.takeable)

    failed : (j n : ℕ) → suc (j + n) ≡ g.nesting → Holds (get_or (set g.opens (g.nesting - 1) written) j fresh).failed (Stacks (before ++ CondElse ∷ []) (ToElse n))
    failed j zero e = holds_along _ no_origins _ (ap (λ o. o.failed) (at_same g.opens (g.nesting - 1) j written (omega arith) within))
        (holds_nothing _ (λ x r. reaches_next next_sources [] before CondElse (ToElse zero) x r))
    failed j (suc n) e = holds_along _ _ _ (ap (λ o. o.failed) (at_other g.opens (g.nesting - 1) j written (λ i. omega arith)))
        (holds_same _ (Stacks before (ToElse (suc n))) _ (after_step before CondElse (ToElse (suc n))) (w.old.failed j (suc n) e))

    done : (j n : ℕ) → suc (j + n) ≡ g.nesting → Holds (get_or (set g.opens (g.nesting - 1) written) j fresh).done (Stacks (before ++ CondElse ∷ []) (ToEnd n))
    done j zero e = holds_along _ (joined (innermost g).done g.here) _ (ap (λ o. o.done) (at_same g.opens (g.nesting - 1) j written (omega arith) within))
        (holds_same _ _ _ (λ x. chain (swapped (Stacks before (ToEnd zero)) (Moved next_sources (Stacks before Run) CondElse) x) (after_step before CondElse (ToEnd zero) x))
        (holds_joined (innermost g).done g.here _ _ (holds_innermost_done before parts g w.old w.takeable) (holds_unmoved g.here (Stacks before Run) CondElse (λ x. refl) w.old.running)))
    done j (suc n) e = holds_along _ _ _ (ap (λ o. o.done) (at_other g.opens (g.nesting - 1) j written (λ i. omega arith)))
        (holds_same _ (Stacks before (ToEnd (suc n))) _ (after_step before CondElse (ToEnd (suc n))) (w.old.done j (suc n) e))

close_step : (before : List Token) (parts onto : List ConditionalPart) (g : Gathering) → Goes before CondClose parts onto g → Gathers (before ++ CondClose ∷ []) onto (gathered g CondClose)
close_step before parts onto g w = record {
  leads = leads_on before CondClose parts onto g w;
  count = omega (arith, allowed_level CondClose parts onto w.stands, less (length parts), w.old.count);
  alive = alive_step before CondClose parts onto w.stands w.old.alive;
  room = w.old.room;
  running = holds_same _ _ (Stacks (before ++ CondClose ∷ []) Run)
      (λ x. chain (regrouped (Moved next_sources (Stacks before Run) CondClose) (Moved next_sources (Stacks before (ToElse zero)) CondClose) (Moved next_sources (Stacks before (ToEnd zero)) CondClose) x) (after_step before CondClose Run x))
      (holds_joined (joined g.here (innermost g).failed) (innermost g).done _ _
      (holds_joined g.here (innermost g).failed _ _ (holds_unmoved g.here (Stacks before Run) CondClose (λ x. refl) w.old.running)
      (holds_unmoved (innermost g).failed (Stacks before (ToElse zero)) CondClose (λ x. refl) (holds_innermost_failed before parts g w.old w.takeable)))
      (holds_unmoved (innermost g).done (Stacks before (ToEnd zero)) CondClose (λ x. refl) (holds_innermost_done before parts g w.old w.takeable)));
  failed = λ j n e. holds_same _ (Stacks before (ToElse (suc n))) _ (after_step before CondClose (ToElse n)) (w.old.failed j (suc n) (omega arith));
  done = λ j n e. holds_same _ (Stacks before (ToEnd (suc n))) _ (after_step before CondClose (ToEnd n)) (w.old.done j (suc n) (omega arith));
  named = λ which. chain (w.old.named which) (frame_named before CondClose which (λ e. absurd (cc)));
  texts = λ which. chain (w.old.texts which) (frame_texts before CondClose which (λ e. absurd (cc)));
}
  where
    less : (n : ℕ) → below n ≡ n - 1
    less zero = refl
    less (suc n) = omega arith

-- one token more
pub gathers_step : (before : List Token) (k : Token) (parts onto : List ConditionalPart) (g : Gathering) → Goes before k parts onto g → length parts ≤ most_open → Gathers (before ++ k ∷ []) onto (gathered g k)
gathers_step before CondOpen parts onto g w few = open_step before parts onto g w
gathers_step before CondThen parts onto g w few = then_step before parts onto g w few
gathers_step before CondElse parts onto g w few = else_step before parts onto g w few
gathers_step before CondClose parts onto g w few = close_step before parts onto g w
gathers_step before k parts onto g w few = simple_step before k parts onto g tt refl w
