-- The greatest value with which a pass can come to each mode, kept for the modes of the open conditionals.
use Rattle.std.proofs.Common.{◌≡◌, ℕ, zero, suc, ◌≤◌, ◌⊎◌, inl, inr, max, List, [], ◌∷◌, ◌++◌, get_or, refl, sym, ◌∙◌, ap, subst, arith, Bool, true, false, ◌||◌, cond}
use Rattle.ti_cap.specs.declared.language.Token.{Token}
use Rattle.ti_cap.specs.declared.language.Token.TheVariants.{CondOpen, CondThen, CondElse, CondClose}
use Rattle.ti_cap.specs.Tree.{IsSimple}
use Rattle.ti_cap.specs.declared.mode.Mode.{Mode}
use Rattle.ti_cap.specs.declared.mode.Mode.TheVariants.{Run, ToElse, ToEnd}
use Rattle.ti_cap.specs.Pass.{next_mode, is_running}
use Rattle.ti_cap.specs.declared.scan.ConditionalPart.{ConditionalPart}
use Rattle.ti_cap.specs.declared.scan.ConditionalPart.TheVariants.{FirstTest, Body, Otherwise}
use Rattle.ti_cap.specs.inner.Analysis.{Frame, Progress}
use Rattle.ti_cap.proofs.NextModeLemmas.{simple_stays, opened_from, tested_from, turned_from, closed_from}
use Rattle.ti_cap.proofs.PassesLemmas.{no_path}
use Rattle.ti_cap.proofs.ReachesLemmas.{is_met, state_of, passed_by, Reaches, reaches_on, Came, came_from}

-- how a token that is met changes a value
abbrev pub Act : Type 0
Act = ℕ → Token → ℕ

-- some pass over the tokens comes to the mode with the value
abbrev pub Comes : Act → List Token → Mode → ℕ → Type 0
Comes act before m x = Reaches act 0 before m x

-- whether some pass comes to a mode
pub data Comings : Type 0 where
  Certain : Comings
  Possible : Comings
  Never : Comings

-- the greatest value that comes, or 0 if none does
abbrev pub IsBest : Act → List Token → Mode → Comings → ℕ → Type 0
IsBest act before m Certain v = ((x : ℕ) → Comes act before m x → x ≤ v) × Comes act before m v
IsBest act before m Possible v = ((x : ℕ) → Comes act before m x → x ≤ v) × (Comes act before m v ⊎ (v ≡ 0))
IsBest act before m Never v = ((x : ℕ) → ¬ Comes act before m x) × (v ≡ 0)

-- what waits in a conditional, counted from the innermost, and in one that is not open
abbrev pub frame_at : List Frame → ℕ → Frame
frame_at frames n = get_or frames n (record { part = FirstTest; failed = 0; done = 0 })

-- a test has failed if a body is being passed through
abbrev pub failing : ConditionalPart → Comings
failing Body = Certain
failing _ = Never

abbrev pub best : Progress → Mode → ℕ
best s Run = s.running
best s (ToElse n) = (frame_at s.frames n).failed
best s (ToEnd n) = (frame_at s.frames n).done

abbrev pub coming : Progress → Mode → Comings
coming s Run = Certain
coming s (ToElse n) = failing (frame_at s.frames n).part
coming s (ToEnd n) = Possible

-- the state is the greatest value of each mode
abbrev pub Sums : Act → List Token → Progress → Type 0
Sums act before s = (m : Mode) → IsBest act before m (coming s m) (best s m)

-- an action that keeps the order
abbrev pub IsRising : Act → Type 0
IsRising act = (k : Token) (x y : ℕ) → x ≤ y → act x k ≤ act y k

-- a mode that is reached from one mode alone, whose tokens are passed over
keep : (act : Act) (before : List Token) (k : Token) (m n : Mode) (fails : Bool) → next_mode m k fails ≡ n → is_running m ≡ false → is_running n ≡ false
    → ((source : Mode) (f : Bool) → next_mode source k f ≡ n → source ≡ m)
    → (c : Comings) (v : ℕ) → IsBest act before m c v → IsBest act (before ++ k ∷ []) n c v
keep act before k m n fails leads past past' only c v h = all c v h
  where
    unmet : (f : Bool) → next_mode m k f ≡ n → (x : ℕ) → passed_by act m k f x ≡ x
    unmet f e x = ap (λ b. cond (b || is_running (next_mode m k f)) (act x k) x) past ∙ ap (λ b. cond b (act x k) x) (ap is_running e ∙ past')

    back : (x : ℕ) → Comes act (before ++ k ∷ []) n x → Comes act before m x
    back x c =
        let r : Came act (Comes act before) k n x = came_from act 0 before k n x c in
        let is : r.source ≡ m = only r.source r.fails r.leads in
        let P : Mode → Type 0 = λ y. Comes act before y r.old in
        let Q : ℕ → Type 0 = λ y. Comes act before m y in
        let L : Mode → Type 0 = λ y. next_mode y k r.fails ≡ n in
        subst Q (sym (r.gives ∙ ap (λ y. passed_by act y k r.fails r.old) is ∙ unmet r.fails (subst L is r.leads) r.old)) (subst P is r.comes)

    on : (x : ℕ) → Comes act before m x → Comes act (before ++ k ∷ []) n x
    on x c =
        let P : Mode → Type 0 = λ y. Comes act (before ++ k ∷ []) y x in
        let Q : ℕ → Type 0 = λ y. Comes act (before ++ k ∷ []) (next_mode m k fails) y in
        subst P leads (subst Q (unmet fails leads x) (reaches_on act 0 before k m fails x c))

    all : (c : Comings) (v : ℕ) → IsBest act before m c v → IsBest act (before ++ k ∷ []) n c v
    all Never v h = ((λ x c. h.0 x (back x c)), h.1)
    all Possible v h = ((λ x c. h.0 x (back x c)), elim h.1 [ inl c ↦ inl (on v c) | inr z ↦ inr z ])
    all Certain v h = ((λ x c. h.0 x (back x c)), on v h.1)

-- a mode that is not reached
dead : (act : Act) (before : List Token) (k : Token) (n : Mode) → ((source : Mode) (f : Bool) → next_mode source k f ≡ n → ⊥)
    → IsBest act (before ++ k ∷ []) n Never 0
dead act before k n never = ((λ x c. let r : Came act (Comes act before) k n x = came_from act 0 before k n x c in never r.source r.fails r.leads), refl)

possible : (act : Act) (before : List Token) (m : Mode) (v : ℕ) → IsBest act before m Never v → IsBest act before m Possible v
possible act before m v h = ((λ x c. absurd (h.0 x c)), inr h.1)

-- a mode that is reached from one mode alone, by a token that is met
move : (act : Act) (before : List Token) (k : Token) (m n : Mode) (fails : Bool) (v : ℕ) → IsRising act → next_mode m k fails ≡ n
    → ((f : Bool) → next_mode m k f ≡ n → is_met m k f ≡ true)
    → ((source : Mode) (f : Bool) (x : ℕ) → Comes act before source x → next_mode source k f ≡ n → source ≡ m)
    → IsBest act before m Certain v → IsBest act (before ++ k ∷ []) n Certain (act v k)
move act before k m n fails v rising leads meets only h = (upper, reach)
  where
    acts : (f : Bool) → next_mode m k f ≡ n → (x : ℕ) → passed_by act m k f x ≡ act x k
    acts f e x = ap (λ b. cond b (act x k) x) (meets f e)

    upper : (x : ℕ) → Comes act (before ++ k ∷ []) n x → x ≤ act v k
    upper x c =
        let r : Came act (Comes act before) k n x = came_from act 0 before k n x c in
        let is : r.source ≡ m = only r.source r.fails r.old r.comes r.leads in
        let P : Mode → Type 0 = λ y. Comes act before y r.old in
        let L : Mode → Type 0 = λ y. next_mode y k r.fails ≡ n in
        let low : act r.old k ≤ act v k = rising k r.old v (h.0 r.old (subst P is r.comes)) in
        let e : x ≡ act r.old k = r.gives ∙ ap (λ y. passed_by act y k r.fails r.old) is ∙ acts r.fails (subst L is r.leads) r.old in
        omega arith

    reach : Comes act (before ++ k ∷ []) n (act v k)
    reach =
        let P : Mode → Type 0 = λ y. Comes act (before ++ k ∷ []) y (act v k) in
        let Q : ℕ → Type 0 = λ y. Comes act (before ++ k ∷ []) (next_mode m k fails) y in
        subst P leads (subst Q (acts fails leads v) (reaches_on act 0 before k m fails v h.1))

-- a mode in which the token is passed over, and changes nothing
still : (act : Act) (before : List Token) (k : Token) (m : Mode) (s : Progress) → is_running m ≡ false → next_mode m k false ≡ m
    → ((source : Mode) (f : Bool) → next_mode source k f ≡ m → source ≡ m) → Sums act before s → IsBest act (before ++ k ∷ []) m (coming s m) (best s m)
still act before k m s past stays only sums = keep act before k m m false stays past past only (coming s m) (best s m) (sums m)

pub sums_simple : (act : Act) (before : List Token) (s : Progress) (k : Token) → IsRising act → IsSimple k → Sums act before s
    → Sums act (before ++ k ∷ []) (record { running = act s.running k; frames = s.frames })
sums_simple act before s k rising h sums Run =
    move act before k Run Run false s.running rising (simple_stays Run k false h) (λ f e. refl)
    (λ source f x c e. sym (simple_stays source k f h) ∙ e) (sums Run)
sums_simple act before s k rising h sums (ToElse n) =
    still act before k (ToElse n) s refl (simple_stays (ToElse n) k false h) (λ source f e. sym (simple_stays source k f h) ∙ e) sums
sums_simple act before s k rising h sums (ToEnd n) =
    still act before k (ToEnd n) s refl (simple_stays (ToEnd n) k false h) (λ source f e. sym (simple_stays source k f h) ∙ e) sums

pub sums_open : (act : Act) (before : List Token) (s : Progress) → IsRising act → Sums act before s
    → Sums act (before ++ CondOpen ∷ []) (record { running = act s.running CondOpen; frames = record { part = FirstTest; failed = 0; done = 0 } ∷ s.frames })
sums_open act before s rising sums Run =
    move act before CondOpen Run Run false s.running rising refl (λ f e. refl) (λ source f x c e. opened_from source Run f e) (sums Run)
sums_open act before s rising sums (ToElse (suc n)) =
    keep act before CondOpen (ToElse n) (ToElse (suc n)) false refl refl refl (λ source f e. opened_from source (ToElse n) f e) (coming s (ToElse n)) (best s (ToElse n)) (sums (ToElse n))
sums_open act before s rising sums (ToEnd (suc n)) =
    keep act before CondOpen (ToEnd n) (ToEnd (suc n)) false refl refl refl (λ source f e. opened_from source (ToEnd n) f e) Possible (best s (ToEnd n)) (sums (ToEnd n))
sums_open act before s rising sums (ToElse zero) = dead act before CondOpen (ToElse zero) never
  where
    never : (source : Mode) (f : Bool) → next_mode source CondOpen f ≡ ToElse zero → ⊥
    never Run f e = absurd (cc)
    never (ToElse i) f e = absurd (cc)
    never (ToEnd i) f e = absurd (cc)
sums_open act before s rising sums (ToEnd zero) = possible act (before ++ CondOpen ∷ []) (ToEnd zero) 0 (dead act before CondOpen (ToEnd zero) never)
  where
    never : (source : Mode) (f : Bool) → next_mode source CondOpen f ≡ ToEnd zero → ⊥
    never Run f e = absurd (cc)
    never (ToElse i) f e = absurd (cc)
    never (ToEnd i) f e = absurd (cc)

-- a `%t` if no test has failed at this level
pub sums_then : (act : Act) (before : List Token) (now : ℕ) (f : Frame) (fs : List Frame) → IsRising act → failing f.part ≡ Never
    → Sums act before (record { running = now; frames = f ∷ fs })
    → Sums act (before ++ CondThen ∷ []) (record { running = act now CondThen; frames = record { part = Body; failed = act now CondThen; done = f.done } ∷ fs })
sums_then act before now f fs rising none sums Run =
    move act before CondThen Run Run false now rising refl (λ g e. refl) (λ source g x c e. tested_from source Run g (λ i. absurd (cc)) e) (sums Run)
sums_then act before now f fs rising none sums (ToElse (suc n)) =
    still act before CondThen (ToElse (suc n)) (record { running = now; frames = f ∷ fs }) refl refl (λ source g e. tested_from source (ToElse (suc n)) g (λ i. absurd (cc)) e) sums
sums_then act before now f fs rising none sums (ToEnd (suc n)) =
    still act before CondThen (ToEnd (suc n)) (record { running = now; frames = f ∷ fs }) refl refl (λ source g e. tested_from source (ToEnd (suc n)) g (λ i. absurd (cc)) e) sums
sums_then act before now f fs rising none sums (ToEnd zero) =
    still act before CondThen (ToEnd zero) (record { running = now; frames = f ∷ fs }) refl refl (λ source g e. tested_from source (ToEnd zero) g (λ i. absurd (cc)) e) sums
sums_then act before now f fs rising none sums (ToElse zero) =
    move act before CondThen Run (ToElse zero) true now rising refl (λ g e. refl) only (sums Run)
  where
    absent : IsBest act before (ToElse zero) Never f.failed
    absent = let P : Comings → Type 0 = λ y. IsBest act before (ToElse zero) y f.failed in subst P none (sums (ToElse zero))

    only : (source : Mode) (g : Bool) (x : ℕ) → Comes act before source x → next_mode source CondThen g ≡ ToElse zero → source ≡ Run
    only Run g x c e = refl
    only (ToElse i) g x c e = let P : Mode → Type 0 = λ y. Comes act before y x in absurd (absent.0 x (subst P e c))
    only (ToEnd i) g x c e = absurd (cc)

pub max_is : (a b : ℕ) → (max a b ≡ b) ⊎ (max a b ≡ a)
max_is a b = grind arith

-- what comes is at most the best
pub best_above : (act : Act) (before : List Token) (m : Mode) (c : Comings) (v x : ℕ) → IsBest act before m c v → Comes act before m x → x ≤ v
best_above act before m Never v x h c = absurd (h.0 x c)
best_above act before m Possible v x h c = h.0 x c
best_above act before m Certain v x h c = h.0 x c

-- the best comes, or is 0
pub best_comes : (act : Act) (before : List Token) (m : Mode) (c : Comings) (v : ℕ) → IsBest act before m c v → Comes act before m v ⊎ (v ≡ 0)
best_comes act before m Never v h = inr h.1
best_comes act before m Possible v h = h.1
best_comes act before m Certain v h = inl h.1

arrive : (act : Act) (before : List Token) (k : Token) (m n : Mode) (fails : Bool) (x y : ℕ) → next_mode m k fails ≡ n → passed_by act m k fails x ≡ y
    → Comes act before m x → Comes act (before ++ k ∷ []) n y
arrive act before k m n fails x y leads gives c =
    let P : Mode → Type 0 = λ z. Comes act (before ++ k ∷ []) z y in
    let Q : ℕ → Type 0 = λ z. Comes act (before ++ k ∷ []) (next_mode m k fails) z in
    subst P leads (subst Q gives (reaches_on act 0 before k m fails x c))

-- a `%e` after a body: the test that failed goes on, and the body waits for the end
pub sums_else : (act : Act) (before : List Token) (now : ℕ) (f : Frame) (fs : List Frame) → IsRising act → f.part ≡ Body
    → Sums act before (record { running = now; frames = f ∷ fs })
    → Sums act (before ++ CondElse ∷ []) (record { running = act f.failed CondElse; frames = record { part = Otherwise; failed = 0; done = max f.done (act now CondElse) } ∷ fs })
sums_else act before now f fs rising some sums Run =
    move act before CondElse (ToElse zero) Run false f.failed rising refl (λ g e. refl) (λ source g y c e. only source g e)
    (let P : ConditionalPart → Type 0 = λ y. IsBest act before (ToElse zero) (failing y) f.failed in subst P some (sums (ToElse zero)))
  where
    only : (source : Mode) (g : Bool) → next_mode source CondElse g ≡ Run → source ≡ ToElse zero
    only Run g e = absurd (cc)
    only (ToElse zero) g e = refl
    only (ToElse (suc n)) g e = absurd (cc)
    only (ToEnd n) g e = absurd (cc)
sums_else act before now f fs rising some sums (ToElse (suc n)) =
    still act before CondElse (ToElse (suc n)) (record { running = now; frames = f ∷ fs }) refl refl (λ source g e. turned_from source (ToElse (suc n)) g (λ i. absurd (cc)) (λ i. absurd (cc)) e) sums
sums_else act before now f fs rising some sums (ToEnd (suc n)) =
    still act before CondElse (ToEnd (suc n)) (record { running = now; frames = f ∷ fs }) refl refl (λ source g e. turned_from source (ToEnd (suc n)) g (λ i. absurd (cc)) (λ i. absurd (cc)) e) sums
sums_else act before now f fs rising some sums (ToElse zero) = dead act before CondElse (ToElse zero) never
  where
    never : (source : Mode) (g : Bool) → next_mode source CondElse g ≡ ToElse zero → ⊥
    never Run g e = absurd (cc)
    never (ToElse zero) g e = absurd (cc)
    never (ToElse (suc i)) g e = absurd (cc)
    never (ToEnd i) g e = absurd (cc)
sums_else act before now f fs rising some sums (ToEnd zero) = (upper, reach)
  where
    bounded : (source : Mode) (g : Bool) (old y : ℕ) → Comes act before source old → next_mode source CondElse g ≡ ToEnd zero → y ≡ passed_by act source CondElse g old → y ≤ max f.done (act now CondElse)
    bounded Run g old y c e gives =
        let h : IsBest act before Run Certain now = sums Run in
        let low : act old CondElse ≤ act now CondElse = rising CondElse old now (h.0 old c) in
        omega arith
    bounded (ToElse zero) g old y c e gives = absurd (cc)
    bounded (ToElse (suc i)) g old y c e gives = absurd (cc)
    bounded (ToEnd (suc i)) g old y c e gives = absurd (cc)
    bounded (ToEnd zero) g old y c e gives =
        let h : IsBest act before (ToEnd zero) Possible f.done = sums (ToEnd zero) in
        omega (arith, h.0 old c)

    upper : (y : ℕ) → Comes act (before ++ CondElse ∷ []) (ToEnd zero) y → y ≤ max f.done (act now CondElse)
    upper y c =
        let r : Came act (Comes act before) CondElse (ToEnd zero) y = came_from act 0 before CondElse (ToEnd zero) y c in
        bounded r.source r.fails r.old y r.comes r.leads r.gives

    reach : Comes act (before ++ CondElse ∷ []) (ToEnd zero) (max f.done (act now CondElse)) ⊎ (max f.done (act now CondElse) ≡ 0)
    reach =
        let done : IsBest act before (ToEnd zero) Possible f.done = sums (ToEnd zero) in
        let run : IsBest act before Run Certain now = sums Run in
        elim (max_is f.done (act now CondElse)) [
          | inl e ↦ inl (arrive act before CondElse Run (ToEnd zero) false now _ refl (sym e) run.1)
          | inr e ↦ elim done.1 [
            | inl c ↦ inl (arrive act before CondElse (ToEnd zero) (ToEnd zero) false f.done _ refl (sym e) c)
            | inr z ↦ inr (e ∙ z)
          ]
        ]

-- a `%;`: what ran, what failed last and what waits go on together
pub sums_close : (act : Act) (before : List Token) (now : ℕ) (f : Frame) (fs : List Frame) → IsRising act
    → Sums act before (record { running = now; frames = f ∷ fs })
    → Sums act (before ++ CondClose ∷ []) (record { running = act (max f.done (max f.failed now)) CondClose; frames = fs })
sums_close act before now f fs rising sums (ToElse n) =
    keep act before CondClose (ToElse (suc n)) (ToElse n) false refl refl refl (λ source g e. closed_from source (ToElse n) g refl e)
    (coming (record { running = now; frames = fs }) (ToElse n)) (best (record { running = now; frames = fs }) (ToElse n)) (sums (ToElse (suc n)))
sums_close act before now f fs rising sums (ToEnd n) =
    keep act before CondClose (ToEnd (suc n)) (ToEnd n) false refl refl refl (λ source g e. closed_from source (ToEnd n) g refl e)
    Possible (best (record { running = now; frames = fs }) (ToEnd n)) (sums (ToEnd (suc n)))
sums_close act before now f fs rising sums Run = (upper, reach)
  where
    all : ℕ
    all = max f.done (max f.failed now)

    bounded : (source : Mode) (g : Bool) (old y : ℕ) → Comes act before source old → next_mode source CondClose g ≡ Run → y ≡ passed_by act source CondClose g old → y ≤ act (max f.done (max f.failed now)) CondClose
    bounded Run g old y c e gives =
        let h : IsBest act before Run Certain now = sums Run in
        let low : act old CondClose ≤ act (max f.done (max f.failed now)) CondClose = rising CondClose old _ (omega (arith, h.0 old c)) in
        omega arith
    bounded (ToElse (suc i)) g old y c e gives = absurd (cc)
    bounded (ToEnd (suc i)) g old y c e gives = absurd (cc)
    bounded (ToElse zero) g old y c e gives =
        let under : old ≤ f.failed = best_above act before (ToElse zero) (failing f.part) f.failed old (sums (ToElse zero)) c in
        let low : act old CondClose ≤ act (max f.done (max f.failed now)) CondClose = rising CondClose old _ (omega arith) in
        omega arith
    bounded (ToEnd zero) g old y c e gives =
        let under : old ≤ f.done = best_above act before (ToEnd zero) Possible f.done old (sums (ToEnd zero)) c in
        let low : act old CondClose ≤ act (max f.done (max f.failed now)) CondClose = rising CondClose old _ (omega arith) in
        omega arith

    upper : (y : ℕ) → Comes act (before ++ CondClose ∷ []) Run y → y ≤ act (max f.done (max f.failed now)) CondClose
    upper y c =
        let r : Came act (Comes act before) CondClose Run y = came_from act 0 before CondClose Run y c in
        bounded r.source r.fails r.old y r.comes r.leads r.gives

    -- from a mode with the greatest value, which comes or is 0
    from : (m : Mode) (x : ℕ) → next_mode m CondClose false ≡ Run → is_met m CondClose false ≡ true → x ≡ max f.done (max f.failed now) → Comes act before m x
        → Comes act (before ++ CondClose ∷ []) Run (act (max f.done (max f.failed now)) CondClose)
    from m x leads met is c =
        arrive act before CondClose m Run false x _ leads (ap (λ b. cond b (act x CondClose) x) met ∙ ap (λ z. act z CondClose) is) c

    reach : Comes act (before ++ CondClose ∷ []) Run (act (max f.done (max f.failed now)) CondClose)
    reach =
        let run : IsBest act before Run Certain now = sums Run in
        elim (max_is f.done (max f.failed now)) [
          | inr e ↦ elim (best_comes act before (ToEnd zero) Possible f.done (sums (ToEnd zero))) [
            | inl c ↦ from (ToEnd zero) f.done refl refl (sym e) c
            | inr z ↦ from Run now refl refl (omega arith) run.1
          ]
          | inl d ↦ elim (max_is f.failed now) [
            | inr e ↦ elim (best_comes act before (ToElse zero) (failing f.part) f.failed (sums (ToElse zero))) [
              | inl c ↦ from (ToElse zero) f.failed refl refl (sym (d ∙ e)) c
              | inr z ↦ from Run now refl refl (omega arith) run.1
            ]
            | inl e ↦ from Run now refl refl (sym (d ∙ e)) run.1
          ]
        ]

pub sums_start : (act : Act) → Sums act [] (record { running = 0; frames = [] })
sums_start act Run = ((λ x c. omega (arith, sym c.value, ap (λ p. state_of act 0 p) (no_path c.walk))), record { walk = []; passes = (refl, refl); value = refl })
sums_start act (ToElse n) = ((λ x c. let e : ToElse n ≡ Run = c.passes.1 in absurd (cc)), refl)
sums_start act (ToEnd n) = ((λ x c. let e : ToEnd n ≡ Run = c.passes.1 in absurd (cc)), inr refl)
