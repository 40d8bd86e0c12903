-- What a pass over the tokens gathers, against the walks over them.
use Rattle.std.proofs.Common.{◌≡◌, ℕ, suc, ◌+◌, ◌⊎◌, inl, inr, ◌↔◌, List, [], ◌∷◌, ◌++◌, length, get_or, refl, sym, ◌∙◌, ap, subst, arith, Bool, true, false, cond, IsTrue}
use Rattle.ti_base.specs.Limits.{most_open}
use Rattle.ti_cap.specs.declared.language.Token.{Token}
use Rattle.ti_cap.specs.declared.language.Token.TheVariants.{Param}
use Rattle.ti_cap.specs.declared.parameter_set.ParameterSet.{ParameterSet}
use Rattle.ti_cap.specs.declared.origins.Origins.{Origins}
use Rattle.ti_cap.specs.declared.gathering.Gathering.{Gathering}
use Rattle.ti_cap.specs.declared.scan.ConditionalPart.{ConditionalPart}
use Rattle.ti_cap.specs.declared.mode.Mode.{Mode}
use Rattle.ti_cap.specs.declared.mode.Mode.TheVariants.{Run, ToElse, ToEnd}
use Rattle.ti_cap.specs.Sources.{next_sources, takes_text, Has, Names, TakesAsText}
use Rattle.ti_cap.specs.inner.Gathering.{united, only, with_named, fresh, no_gathering}
use Rattle.ti_cap.proofs.PassesLemmas.{no_path}
use Rattle.ti_cap.proofs.HasLemmas.{has_none, has_united, has_only}
use Rattle.ti_cap.proofs.PartsLemmas.{Leads}
use Rattle.ti_cap.proofs.ReachesLemmas.{state_of, Reaches, Moved, Next, reaches_next, next_reaches}
use Rattle.ti_cap.proofs.HoldsLemmas.{Stack, Holds, IsFit, holds_same, holds_empty}
use Rattle.ti_cap.proofs.IsAliveLemmas.{IsAlive, alive_start}
use Rattle.ti_cap.proofs.SeenLemmas.{Seen, names_step, texts_step}

-- the stacks that come to a mode
abbrev pub Stacks : List Token → Mode → Stack → Type 0
Stacks before m stack = Reaches next_sources [] before m stack

-- what a pass has gathered over some tokens, with some parts open
pub record Gathers (before : List Token) (parts : List ConditionalPart) (g : Gathering) : Type 0 where
  pub leads : Leads [] before parts
  pub count : length parts ≡ g.nesting
  pub alive : IsAlive parts before
  pub room : length g.opens ≡ most_open
  pub running : Holds g.here (Stacks before Run)
  pub failed : (j n : ℕ) → suc (j + n) ≡ g.nesting → Holds (get_or g.opens j fresh).failed (Stacks before (ToElse n))
  pub done : (j n : ℕ) → suc (j + n) ≡ g.nesting → Holds (get_or g.opens j fresh).done (Stacks before (ToEnd n))
  pub named : (which : ℕ) → Has g.found.named which ↔ Seen (λ path. Names path which) before
  pub texts : (which : ℕ) → Has g.found.texts which ↔ Seen (λ path. TakesAsText path which) before

pub gathers_start : Gathers [] [] no_gathering
gathers_start = record {
  leads = refl;
  count = refl;
  alive = alive_start;
  room = refl;
  running = holds_empty (Stacks [] Run) (λ x r. sym r.value ∙ ap (λ p. state p) (no_path r.walk));
  failed = λ j n e. absurd (omega arith);
  done = λ j n e. absurd (omega arith);
  named = λ which. ((λ h. absurd (has_none which h)), (λ s. absurd (unnamed which s)));
  texts = λ which. ((λ h. absurd (has_none which h)), (λ s. absurd (untaken which s)));
}
  where
    state : List Token → Stack
    state p = state_of next_sources [] p

    unnamed : (which : ℕ) → ¬ Seen (λ path. Names path which) []
    unnamed which (m, w, p, h) = let P : List Token → Type 0 = λ x. Names x which in omega (arith, (subst P (no_path w) h).1)

    untaken : (which : ℕ) → ¬ Seen (λ path. TakesAsText path which) []
    untaken which (m, w, p, (front, token, after, spans, text, top)) = nothing front (sym (no_path w) ∙ spans)
      where
        nothing : (front : List Token) → [] ≡ front ++ token ∷ after → ⊥
        nothing [] e = absurd (cc)
        nothing (x ∷ front) e = absurd (cc)

-- ---- the stacks after a token

pub both : {A B : Stack → Type 0} → ((x : Stack) → A x → B x) → ((x : Stack) → B x → A x) → (x : Stack) → A x ↔ B x
both f g x = (f x, g x)

-- sets of stacks that are one step apart
pub after_step : (before : List Token) (k : Token) (m : Mode) (x : Stack)
    → Next next_sources (Stacks before) k m x ↔ Stacks (before ++ k ∷ []) m x
after_step before k m x = (next_reaches next_sources [] before k m x, reaches_next next_sources [] before k m x)

-- a token that moves no value
unmoved : (within : Stack → Type 0) (k : Token) → ((x : Stack) → next_sources x k ≡ x) → (x : Stack) → within x ↔ Moved next_sources within k x
unmoved within k still x = ((λ w. (x, w, sym (still x))), (λ m. subst within (sym (m.2 ∙ still m.0)) m.1))

pub holds_unmoved : (o : Origins) (within : Stack → Type 0) (k : Token) → ((x : Stack) → next_sources x k ≡ x) → Holds o within → Holds o (Moved next_sources within k)
holds_unmoved o within k still h = holds_same o within (Moved next_sources within k) (unmoved within k still) h

pub swapped : (A B : Stack → Type 0) (x : Stack) → (A x ⊎ B x) ↔ (B x ⊎ A x)
swapped A B x = (turn, back)
  where
    turn : A x ⊎ B x → B x ⊎ A x
    turn (inl a) = inr a
    turn (inr b) = inl b

    back : B x ⊎ A x → A x ⊎ B x
    back (inl b) = inr b
    back (inr a) = inl a

pub regrouped : (A B C : Stack → Type 0) (x : Stack) → ((A x ⊎ B x) ⊎ C x) ↔ (A x ⊎ (B x ⊎ C x))
regrouped A B C x = (turn, back)
  where
    turn : (A x ⊎ B x) ⊎ C x → A x ⊎ (B x ⊎ C x)
    turn (inl (inl a)) = inl a
    turn (inl (inr b)) = inr (inl b)
    turn (inr c) = inr (inr c)

    back : A x ⊎ (B x ⊎ C x) → (A x ⊎ B x) ⊎ C x
    back (inl a) = inl (inl a)
    back (inr (inl b)) = inl (inr b)
    back (inr (inr c)) = inr c

-- ---- what is found after a token

-- a token of a conditional names nothing, and takes no text
pub frame_named : (before : List Token) (k : Token) (which : ℕ) → ¬ (k ≡ Param which) → Seen (λ path. Names path which) before ↔ Seen (λ path. Names path which) (before ++ k ∷ [])
frame_named before k which none = ((λ s. (names_step before k which).1 (inl s)), old)
  where
    old : Seen (λ path. Names path which) (before ++ k ∷ []) → Seen (λ path. Names path which) before
    old s = elim ((names_step before k which).0 s) [ inl o ↦ o | inr n ↦ absurd (none n.2) ]

pub frame_texts : (before : List Token) (k : Token) (which : ℕ) → ¬ IsTrue (takes_text k) → Seen (λ path. TakesAsText path which) before ↔ Seen (λ path. TakesAsText path which) (before ++ k ∷ [])
frame_texts before k which none = ((λ s. (texts_step before k which).1 (inl s)), old)
  where
    old : Seen (λ path. TakesAsText path which) (before ++ k ∷ []) → Seen (λ path. TakesAsText path which) before
    old s = elim ((texts_step before k which).0 s) [ inl o ↦ o | inr n ↦ absurd (none n.2.0) ]

pub chain : {A B C : Type 0} → A ↔ B → B ↔ C → A ↔ C
chain p q = ((λ a. q.0 (p.0 a)), (λ c. p.1 (q.1 c)))

pub unless : {A E : Type 0} → ¬ E → A ⊎ E → A
unless none (inl a) = a
unless none (inr e) = absurd (none e)

pub has_with_named : (k : Token) (old : ParameterSet) (which : ℕ) → IsFit k → Has (with_named k old) which ↔ (Has old which ⊎ (k ≡ Param which))
has_with_named (Param one) old which fit = (apart, together)
  where
    apart : Has (united old (only one)) which → Has old which ⊎ (Param one ≡ Param which)
    apart h = elim ((has_united old (only one) which).0 h) [ inl o ↦ inl o | inr n ↦ inr (ap (λ x. Param x) ((has_only one which fit.0).0 n)) ]

    together : Has old which ⊎ (Param one ≡ Param which) → Has (united old (only one)) which
    together (inl o) = (has_united old (only one) which).1 (inl o)
    together (inr e) = (has_united old (only one) which).1 (inr ((has_only one which fit.0).1 (cc)))
has_with_named _ old which fit = ((λ h. inl h), unless (λ e. absurd (cc)))

pub has_texts : (texts top : ParameterSet) (which : ℕ) (b : Bool) → Has (cond b (united texts top) texts) which ↔ (Has texts which ⊎ (IsTrue b × Has top which))
has_texts texts top which true = (apart, together)
  where
    apart : Has (united texts top) which → Has texts which ⊎ (IsTrue true × Has top which)
    apart h = elim ((has_united texts top which).0 h) [ inl o ↦ inl o | inr n ↦ inr (refl, n) ]

    together : Has texts which ⊎ (IsTrue true × Has top which) → Has (united texts top) which
    together (inl o) = (has_united texts top which).1 (inl o)
    together (inr n) = (has_united texts top which).1 (inr n.1)
has_texts texts top which false = ((λ h. inl h), unless (λ n. absurd (cc (n.0))))
