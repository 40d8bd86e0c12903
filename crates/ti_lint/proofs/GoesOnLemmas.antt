-- The paths on which walks go on to the end, and what a token before them makes of them.
use Rattle.std.proofs.Common.{◌≡◌, ◌⊎◌, inl, inr, ◌↔◌, List, ◌∷◌, refl, sym, ◌∙◌, ap, subst, Bool, true, false, ◌||◌, cond}
use Rattle.ti_cap.specs.declared.language.Token.{Token}
use Rattle.ti_cap.specs.declared.language.Token.TheVariants.{CondOpen, CondThen, CondElse, CondClose}
use Rattle.ti_cap.specs.Tree.{IsSimple}
use Rattle.ti_cap.specs.Path.{Walk, path_of}
use Rattle.ti_cap.specs.declared.mode.Mode.{Mode}
use Rattle.ti_cap.specs.declared.mode.Mode.TheVariants.{Run, ToElse, ToEnd}
use Rattle.ti_cap.specs.Pass.{next_mode, is_running, Passes}
use Rattle.ti_cap.proofs.ClimbsLemmas.{passes_on}
use Rattle.ti_cap.proofs.ReachesLemmas.{is_met}
use Rattle.ti_lint.proofs.HoldsLemmas.{Path}

-- some walk goes on from the mode to the end of the tokens and meets this path
abbrev pub GoesOn : List Token → Mode → Path → Type 0
GoesOn rest m path = (w : Walk) × (to : Mode) × Passes m rest w to × (path_of w rest ≡ path)

pub some_goes_on : (rest : List Token) (m : Mode) → (path : Path) × GoesOn rest m path
some_goes_on rest m = let p = passes_on m rest in (path_of p.0 rest, (p.0, p.1, p.2, refl))

-- the paths of a set, with a token before each if it is met
abbrev pub Marked : Bool → Token → (Path → Type 0) → Path → Type 0
Marked met k within path = (x : Path) × within x × (path ≡ cond met (k ∷ x) x)

marked : (met : Bool) (w : Walk) (k : Token) (rest : List Token) → path_of (met ∷ w) (k ∷ rest) ≡ cond met (k ∷ path_of w rest) (path_of w rest)
marked true w k rest = refl
marked false w k rest = refl

goes_back : (k : Token) (rest : List Token) (m : Mode) (path : Path) → GoesOn (k ∷ rest) m path
    → (fails : Bool) × Marked (is_met m k fails) k (GoesOn rest (next_mode m k fails)) path
goes_back k rest m path (w, to, (fails, more, e, p), is) =
    (fails, (path_of more rest, (more, to, p, refl), sym is ∙ ap (λ x. path_of x (k ∷ rest)) e ∙ marked (is_met m k fails) more k rest))

goes_with : (k : Token) (rest : List Token) (m : Mode) (fails : Bool) (path : Path) → Marked (is_met m k fails) k (GoesOn rest (next_mode m k fails)) path
    → GoesOn (k ∷ rest) m path
goes_with k rest m fails path (x, (more, to, p, is), e) =
    (is_met m k fails ∷ more, to, (fails, more, refl, p), marked (is_met m k fails) more k rest ∙ ap (λ y. cond (is_met m k fails) (k ∷ y) y) is ∙ sym e)

-- a token that leads to one mode, whichever way a test goes
pub goes_one_way : (k : Token) (rest : List Token) (m n : Mode) → ((fails : Bool) → next_mode m k fails ≡ n) → (path : Path)
    → Marked (is_running m || is_running n) k (GoesOn rest n) path ↔ GoesOn (k ∷ rest) m path
goes_one_way k rest m n leads path = (there, back)
  where
    there : Marked (is_running m || is_running n) k (GoesOn rest n) path → GoesOn (k ∷ rest) m path
    there h =
        let P : Mode → Type 0 = λ o. Marked (is_running m || is_running o) k (GoesOn rest o) path in
        goes_with k rest m false path (subst P (sym (leads false)) h)

    back : GoesOn (k ∷ rest) m path → Marked (is_running m || is_running n) k (GoesOn rest n) path
    back g =
        let P : Mode → Type 0 = λ o. Marked (is_running m || is_running o) k (GoesOn rest o) path in
        let b = goes_back k rest m path g in
        subst P (leads b.0) b.1

-- a test goes either way
pub goes_either_way : (rest : List Token) (path : Path)
    → Marked true CondThen (λ x. GoesOn rest Run x ⊎ GoesOn rest (ToElse 0) x) path ↔ GoesOn (CondThen ∷ rest) Run path
goes_either_way rest path = (there, back)
  where
    there : Marked true CondThen (λ x. GoesOn rest Run x ⊎ GoesOn rest (ToElse 0) x) path → GoesOn (CondThen ∷ rest) Run path
    there (x, inl g, e) = goes_with CondThen rest Run false path (x, g, e)
    there (x, inr g, e) = goes_with CondThen rest Run true path (x, g, e)

    by : (fails : Bool) → Marked (is_met Run CondThen fails) CondThen (GoesOn rest (next_mode Run CondThen fails)) path
        → Marked true CondThen (λ x. GoesOn rest Run x ⊎ GoesOn rest (ToElse 0) x) path
    by true (x, g, e) = (x, inr g, e)
    by false (x, g, e) = (x, inl g, e)

    back : GoesOn (CondThen ∷ rest) Run path → Marked true CondThen (λ x. GoesOn rest Run x ⊎ GoesOn rest (ToElse 0) x) path
    back g = let b = goes_back CondThen rest Run path g in by b.0 b.1

-- a simple token changes no mode
pub simple_stays : (k : Token) (m : Mode) (fails : Bool) → IsSimple k → next_mode m k fails ≡ m
simple_stays CondOpen m fails h = absurd h
simple_stays CondThen m fails h = absurd h
simple_stays CondElse m fails h = absurd h
simple_stays CondClose m fails h = absurd h
simple_stays _ Run fails h = refl
simple_stays _ (ToElse n) fails h = refl
simple_stays _ (ToEnd n) fails h = refl
