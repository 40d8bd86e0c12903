-- What a pass knows goes on with each token as the walks do.
use Rattle.std.proofs.Common.{◌≡◌, ℕ, suc, ◌+◌, ◌⊎◌, inl, inr, ◌↔◌, List, [], ◌∷◌, ◌++◌, length, get_or, refl, sym, ◌∙◌, ap, arith}
use Rattle.std.specs.Prelude.{Some}
use Rattle.ti_base.specs.Limits.{most_open}
use Rattle.ti_cap.specs.declared.language.Token.{Token}
use Rattle.ti_cap.specs.declared.scan.ConditionalPart.{ConditionalPart}
use Rattle.ti_cap.specs.Path.{path_of}
use Rattle.ti_cap.specs.declared.mode.Mode.{Mode}
use Rattle.ti_cap.specs.declared.mode.Mode.TheVariants.{Run, ToElse, ToEnd}
use Rattle.ti_cap.proofs.PartsLemmas.{allowed, Leads, leads-append}
use Rattle.ti_cap.proofs.ReachesLemmas.{Next, reaches_next, next_reaches}
use Rattle.ti_cap.proofs.IsAliveLemmas.{IsAlive, alive_start}
use Rattle.ti_lint.specs.declared.pass.Pass.{Pass}
use Rattle.ti_lint.specs.inner.Facts.{IsLettered}
use Rattle.ti_lint.specs.inner.Pass.{fresh, first_pass}
use Rattle.ti_lint.proofs.HoldsLemmas.{Path, snoc, Holds, AreLow, holds_first}
use Rattle.ti_lint.proofs.ReachedLemmas.{Paths, path-is, reaches_by}

-- what a pass knows over some tokens, with some parts open
pub record Knows (before : List Token) (parts : List ConditionalPart) (p : Pass) : Type 0 where
  pub leads : Leads [] before parts
  pub count : length parts ≡ p.nesting
  pub alive : IsAlive parts before
  pub room : length p.opens ≡ most_open
  pub running : Holds p.here (Paths before Run)
  pub failed : (j n : ℕ) → suc (j + n) ≡ p.nesting → Holds (get_or p.opens j fresh).failed (Paths before (ToElse n))
  pub done : (j n : ℕ) → suc (j + n) ≡ p.nesting → Holds (get_or p.opens j fresh).done (Paths before (ToEnd n))

pub knows_start : Knows [] [] first_pass
knows_start = record {
  leads = refl;
  count = refl;
  alive = alive_start;
  room = refl;
  running = holds_first (Paths [] Run) (reaches_by [] Run [] (refl, refl)) empty;
  failed = λ j n e. absurd (omega arith);
  done = λ j n e. absurd (omega arith);
}
  where
    empty : (x : Path) → Paths [] Run x → x ≡ []
    empty x r = sym (path-is [] Run x r) ∙ ap (λ w. path_of w []) r.passes.0

-- where a token may stand, and what is known of the paths before it
pub record Goes (before : List Token) (k : Token) (parts onto : List ConditionalPart) (p : Pass) : Type 0 where
  pub old : Knows before parts p
  pub stands : allowed k parts ≡ Some onto
  pub low : AreLow (Paths before Run)
  pub lettered : IsLettered k

pub leads_on : (before : List Token) (k : Token) (parts onto : List ConditionalPart) (p : Pass) → Goes before k parts onto p → Leads [] (before ++ k ∷ []) onto
leads_on before k parts onto p w = leads-append [] parts onto before (k ∷ []) w.old.leads (onto, w.stands, refl)

-- some path runs here
pub runs : (before : List Token) (parts : List ConditionalPart) (p : Pass) → Knows before parts p → (x : Path) × Paths before Run x
runs before parts p w = (path_of w.alive.runs.0 before, reaches_by before Run w.alive.runs.0 w.alive.runs.1)

-- sets of paths that are one step apart
pub after_step : (before : List Token) (k : Token) (m : Mode) (x : Path) → Next snoc (Paths before) k m x ↔ Paths (before ++ k ∷ []) m x
after_step before k m x = (next_reaches snoc [] before k m x, reaches_next snoc [] before k m x)

pub swapped : (A B : Path → Type 0) (x : Path) → (A x ⊎ B x) ↔ (B x ⊎ A x)
swapped A B x = (turn, back)
  where
    turn : A x ⊎ B x → B x ⊎ A x
    turn (inl a) = inr a
    turn (inr b) = inl b

    back : B x ⊎ A x → A x ⊎ B x
    back (inl b) = inr b
    back (inr a) = inl a

pub regrouped : (A B C : Path → Type 0) (x : Path) → ((A x ⊎ B x) ⊎ C x) ↔ (A x ⊎ (B x ⊎ C x))
regrouped A B C x = (turn, back)
  where
    turn : (A x ⊎ B x) ⊎ C x → A x ⊎ (B x ⊎ C x)
    turn (inl (inl a)) = inl a
    turn (inl (inr b)) = inr (inl b)
    turn (inr c) = inr (inr c)

    back : A x ⊎ (B x ⊎ C x) → (A x ⊎ B x) ⊎ C x
    back (inl a) = inl (inl a)
    back (inr (inl b)) = inl (inr b)
    back (inr (inr c)) = inr c

pub chain : {A B C : Type 0} → A ↔ B → B ↔ C → A ↔ C
chain p q = ((λ a. q.0 (p.0 a)), (λ c. p.1 (q.1 c)))
