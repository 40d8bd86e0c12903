-- A pass from the end shows the paths that go on from each mode.
use Rattle.std.proofs.Common.{◌≡◌, ℕ, zero, suc, ◌+◌, ◌-◌, ◌*◌, ◌≤◌, max, ◌^◌, ◌<◌, inl, List, [], ◌∷◌, ◌++◌, length, get_or, drop, refl, sym, ◌∙◌, ap, ap₂, subst, arith, Bool, true, false, ◌||◌, cond, All, length-append}
use Rattle.std.proofs.lemmas.List.Elements.{All-nil, All-cons, All-head, All-tail}
use Rattle.ti_base.specs.Limits.{most_capability_bytes}
use Rattle.ti_cap.specs.declared.language.Token.{Token}
use Rattle.ti_cap.specs.declared.language.Token.TheVariants.{CondOpen, CondThen, CondElse, CondClose}
use Rattle.ti_cap.specs.Tree.{IsSimple}
use Rattle.ti_cap.specs.Path.{path_of}
use Rattle.ti_cap.specs.declared.mode.Mode.{Mode}
use Rattle.ti_cap.specs.declared.mode.Mode.TheVariants.{Run, ToElse, ToEnd}
use Rattle.ti_cap.specs.Pass.{next_mode, is_running}
use Rattle.ti_cap.specs.Spelling.{Written}
use Rattle.ti_cap.specs.Capability.{Spot, IsFirst}
use Rattle.ti_cap.proofs.WrittenLemmas.{one_cutting, spelled_long}
use Rattle.ti_cap.proofs.ClimbsLemmas.{passes_on}
use Rattle.ti_lint.specs.declared.outlook.Outlook.{Outlook}
use Rattle.ti_lint.specs.declared.backward.OpenOutlooks.{OpenOutlooks}
use Rattle.ti_lint.specs.inner.Facts.{IsLettered}
use Rattle.ti_lint.specs.inner.Outlook.{Ahead, end_outlook, end_open, at_end, outlook_before, outer_opens, ahead_of, ahead_of_all, outlooks, IsAhead}
use Rattle.ti_lint.proofs.HoldsLemmas.{Path}
use Rattle.ti_lint.proofs.AtLemmas.{lettered_of}
use Rattle.ti_lint.proofs.GoesOnLemmas.{GoesOn, some_goes_on, goes_one_way, goes_either_way, simple_stays}
use Rattle.ti_lint.proofs.OutlookLemmas.{Shows, shows_same, shows_end, shows_either, shows_marked, needs_few}

-- the paths that go on from a mode: those that wait are in the open conditional so many levels up
abbrev pub outlook_at : Ahead → Mode → Outlook
outlook_at a Run = a.here
outlook_at a (ToElse n) = (get_or a.opens n end_open).failed
outlook_at a (ToEnd n) = (get_or a.opens n end_open).done

abbrev pub Sees : List Token → Ahead → Type 0
Sees rest a = (m : Mode) → Shows (outlook_at a m) (GoesOn rest m)

sees_end : Sees [] at_end
sees_end m = let P : Outlook → Type 0 = λ o. Shows o (GoesOn [] m) in
    subst P (sym (all_end m)) (shows_end (GoesOn [] m) ([], m, (refl, refl), refl) (λ x g. sym g.3 ∙ ap (λ w. path_of w []) g.2.0))
  where
    all_end : (m : Mode) → outlook_at at_end m ≡ end_outlook
    all_end Run = refl
    all_end (ToElse n) = refl
    all_end (ToEnd n) = refl

-- a token that leads to one mode
along : (k : Token) (rest : List Token) (m n : Mode) (o : Outlook) → ((fails : Bool) → next_mode m k fails ≡ n) → IsLettered k → Shows o (GoesOn rest n)
    → Shows (cond (is_running m || is_running n) (outlook_before k o) o) (GoesOn (k ∷ rest) m)
along k rest m n o leads lettered h =
    shows_same _ _ (GoesOn (k ∷ rest) m) (goes_one_way k rest m n leads) (shows_marked (is_running m || is_running n) k o (GoesOn rest n) lettered (some_goes_on rest n) h)

-- a token of a conditional changes no outlook but by what a `%t` pops
unchanged : (o : Outlook) → record { needs = max 0 (o.needs + 0 - 0); names_first_two = o.names_first_two || false; loads = o.loads } ≡ o
unchanged o = ap₂ (λ n b. record { needs = n; names_first_two = b; loads = o.loads }) (omega arith) (either o.names_first_two)
  where
    either : (b : Bool) → b || false ≡ b
    either b = grind arith

into : (o p : Outlook) (within : Path → Type 0) → o ≡ p → Shows o within → Shows p within
into o p within e h = let P : Outlook → Type 0 = λ x. Shows x within in subst P e h

outer : (opens : List OpenOutlooks) (n : ℕ) → get_or opens (suc n) end_open ≡ get_or (drop 1 opens) n end_open
outer [] n = refl
outer (o ∷ opens) n = refl

-- those that wait further out
sees_outer : (part : OpenOutlooks → Outlook) (a : Ahead) (n : ℕ) (within : Path → Type 0) → Shows (part (get_or a.opens (suc n) end_open)) within
    → Shows (part (get_or (outer_opens a) n end_open)) within
sees_outer part a n within h = into _ _ within (ap (λ o. part o) (outer a.opens n)) h

sees_open : (rest : List Token) (a : Ahead) → Sees rest a → Sees (CondOpen ∷ rest) (ahead_of CondOpen a)
sees_open rest a s Run = into _ _ _ (unchanged a.here) (along CondOpen rest Run Run a.here (λ f. refl) tt (s Run))
sees_open rest a s (ToElse n) = sees_outer (λ o. o.failed) a n _ (along CondOpen rest (ToElse n) (ToElse (suc n)) _ (λ f. refl) tt (s (ToElse (suc n))))
sees_open rest a s (ToEnd n) = sees_outer (λ o. o.done) a n _ (along CondOpen rest (ToEnd n) (ToEnd (suc n)) _ (λ f. refl) tt (s (ToEnd (suc n))))

sees_then : (rest : List Token) (a : Ahead) → Sees rest a → Sees (CondThen ∷ rest) (ahead_of CondThen a)
sees_then rest a s Run =
    let waits : Mode = ToElse zero in
    let some = some_goes_on rest Run in
    shows_same _ _ (GoesOn (CondThen ∷ rest) Run) (goes_either_way rest)
    (shows_marked true CondThen _ _ tt (some.0, inl some.1) (shows_either a.here (outlook_at a waits) (GoesOn rest Run) (GoesOn rest waits) (s Run) (s waits)))
sees_then rest a s (ToElse zero) = along CondThen rest (ToElse zero) (ToElse zero) _ (λ f. refl) tt (s (ToElse zero))
sees_then rest a s (ToEnd zero) = along CondThen rest (ToEnd zero) (ToEnd zero) _ (λ f. refl) tt (s (ToEnd zero))
sees_then rest a s (ToElse (suc n)) = sees_outer (λ o. o.failed) a n _ (along CondThen rest (ToElse (suc n)) (ToElse (suc n)) _ (λ f. refl) tt (s (ToElse (suc n))))
sees_then rest a s (ToEnd (suc n)) = sees_outer (λ o. o.done) a n _ (along CondThen rest (ToEnd (suc n)) (ToEnd (suc n)) _ (λ f. refl) tt (s (ToEnd (suc n))))

sees_else : (rest : List Token) (a : Ahead) → Sees rest a → Sees (CondElse ∷ rest) (ahead_of CondElse a)
sees_else rest a s Run = into _ _ _ (unchanged _) (along CondElse rest Run (ToEnd zero) _ (λ f. refl) tt (s (ToEnd zero)))
sees_else rest a s (ToElse zero) = into _ _ _ (unchanged a.here) (along CondElse rest (ToElse zero) Run a.here (λ f. refl) tt (s Run))
sees_else rest a s (ToEnd zero) = along CondElse rest (ToEnd zero) (ToEnd zero) _ (λ f. refl) tt (s (ToEnd zero))
sees_else rest a s (ToElse (suc n)) = sees_outer (λ o. o.failed) a n _ (along CondElse rest (ToElse (suc n)) (ToElse (suc n)) _ (λ f. refl) tt (s (ToElse (suc n))))
sees_else rest a s (ToEnd (suc n)) = sees_outer (λ o. o.done) a n _ (along CondElse rest (ToEnd (suc n)) (ToEnd (suc n)) _ (λ f. refl) tt (s (ToEnd (suc n))))

sees_close : (rest : List Token) (a : Ahead) → Sees rest a → Sees (CondClose ∷ rest) (ahead_of CondClose a)
sees_close rest a s Run = into _ _ _ (unchanged a.here) (along CondClose rest Run Run a.here (λ f. refl) tt (s Run))
sees_close rest a s (ToElse zero) = into _ _ _ (unchanged a.here) (along CondClose rest (ToElse zero) Run a.here (λ f. refl) tt (s Run))
sees_close rest a s (ToEnd zero) = into _ _ _ (unchanged a.here) (along CondClose rest (ToEnd zero) Run a.here (λ f. refl) tt (s Run))
sees_close rest a s (ToElse (suc n)) = along CondClose rest (ToElse (suc n)) (ToElse n) _ (λ f. refl) tt (s (ToElse n))
sees_close rest a s (ToEnd (suc n)) = along CondClose rest (ToEnd (suc n)) (ToEnd n) _ (λ f. refl) tt (s (ToEnd n))

sees_simple : (k : Token) (rest : List Token) (a : Ahead) → IsSimple k → IsLettered k → Sees rest a
    → Sees (k ∷ rest) (record { here = outlook_before k a.here; opens = a.opens })
sees_simple k rest a simple lettered s Run = along k rest Run Run a.here (λ f. simple_stays k Run f simple) lettered (s Run)
sees_simple k rest a simple lettered s (ToElse n) =
    along k rest (ToElse n) (ToElse n) _ (λ f. simple_stays k (ToElse n) f simple) lettered (s (ToElse n))
sees_simple k rest a simple lettered s (ToEnd n) =
    along k rest (ToEnd n) (ToEnd n) _ (λ f. simple_stays k (ToEnd n) f simple) lettered (s (ToEnd n))

sees_step : (k : Token) (rest : List Token) (a : Ahead) → IsLettered k → Sees rest a → Sees (k ∷ rest) (ahead_of k a)
sees_step CondOpen rest a lettered s = sees_open rest a s
sees_step CondThen rest a lettered s = sees_then rest a s
sees_step CondElse rest a lettered s = sees_else rest a s
sees_step CondClose rest a lettered s = sees_close rest a s
sees_step k rest a lettered s = sees_simple k rest a tt lettered s

pub sees : (rest : List Token) → All IsLettered rest → Sees rest (ahead_of_all rest)
sees [] lettered = sees_end
sees (k ∷ rest) lettered =
    sees_step k rest (ahead_of_all rest) (All-head IsLettered k rest lettered) (sees rest (All-tail IsLettered k rest lettered))

-- what is here needs few values
needs_here : (rest : List Token) → All IsLettered rest → (ahead_of_all rest).here.needs ≤ 2 * length rest
needs_here rest lettered =
    let p = passes_on Run rest in
    needs_few rest p.0 (ahead_of_all rest).here (GoesOn rest Run) (sees rest lettered Run) (p.0, p.1, p.2, refl)

all_right : (xs ys : List Token) → All IsLettered (xs ++ ys) → All IsLettered ys
all_right [] ys h = h
all_right (x ∷ xs) ys h = all_right xs ys (All-tail IsLettered x (xs ++ ys) h)

pub few_needed : (tokens front rest : List Token) → All IsLettered tokens → length tokens ≤ most_capability_bytes → tokens ≡ front ++ rest
    → (ahead_of_all rest).here.needs < 2 ^ 32
few_needed tokens front rest lettered few e =
    let all : All IsLettered (front ++ rest) = let P : List Token → Type 0 = λ x. All IsLettered x in subst P e lettered in
    omega (arith, needs_here rest (all_right front rest all), ap length e, length-append front rest)

-- ---- the list of what comes after each token

pub lettered_all : (ks : List Token) (bytes : List ℕ) → Written ks bytes → All IsLettered ks
lettered_all [] bytes w = All-nil IsLettered
lettered_all (k ∷ ks) bytes (s, more, spelled, w, e) = All-cons IsLettered k ks (lettered_of k s spelled) (lettered_all ks more w)

pub written_long : (ks : List Token) (bytes : List ℕ) → Written ks bytes → length ks ≤ length bytes
written_long [] bytes w = omega arith
written_long (k ∷ ks) bytes (s, more, spelled, w, e) = omega (arith, written_long ks more w, spelled_long k s spelled, ap length e, length-append s more)

same_snoc : (xs ys : List Outlook) (a b : Outlook) → xs ++ a ∷ [] ≡ ys ++ b ∷ [] → (xs ≡ ys) × (a ≡ b)
same_snoc [] [] a b e = (refl, cc)
same_snoc [] (y ∷ ys) a b e = absurd (omega (arith, ap length e, length-append ys (b ∷ [])))
same_snoc (x ∷ xs) [] a b e = absurd (omega (arith, ap length e, length-append xs (a ∷ [])))
same_snoc (x ∷ xs) (y ∷ ys) a b e =
    let head : x ≡ y = cc in
    let rest : xs ++ a ∷ [] ≡ ys ++ b ∷ [] = cc in
    let s = same_snoc xs ys a b rest in
    (ap₂ (λ z zs. z ∷ zs) head s.0, s.1)

-- the last of the list is what comes after the next token
pub record Popped (new : Spot) (rest : List Token) (list : List Outlook) (o : Outlook) : Type 0 where
  pub left : Written rest new.left
  pub list_is : list ≡ outlooks rest
  pub shows : Shows o (GoesOn rest Run)

pub popped : (spot new : Spot) (k : Token) (old list : List Outlook) (o : Outlook) (rest : List Token) → IsAhead spot old → IsFirst k spot new → Written rest new.left
    → old ≡ list ++ o ∷ [] → Popped new rest list o
popped spot new k old list o rest a first w e =
    let n : (r : List Token) × (a.rest ≡ k ∷ r) × Written r new.left = first a.rest a.left in
    let same : n.0 ≡ rest = one_cutting n.0 rest new.left n.2 w in
    let is : list ++ o ∷ [] ≡ outlooks rest ++ (ahead_of_all rest).here ∷ [] = sym e ∙ a.list_is ∙ ap outlooks n.1 ∙ ap (λ x. outlooks (k ∷ x)) same in
    let s = same_snoc list (outlooks rest) o (ahead_of_all rest).here is in
    let P : Outlook → Type 0 = λ x. Shows x (GoesOn rest Run) in
    record { left = w; list_is = s.0; shows = subst P (sym s.1) (sees rest (lettered_all rest new.left w) Run) }
