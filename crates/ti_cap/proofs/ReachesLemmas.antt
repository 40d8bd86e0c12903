-- Which states the walks come to, for any step along a path: one pass over the tokens, with a set of states for each mode.
use Rattle.std.proofs.Common.{◌≡◌, zero, suc, ◌⊎◌, inl, inr, ◌↔◌, List, [], ◌∷◌, ◌++◌, refl, sym, ◌∙◌, ap, subst, Bool, true, false, ◌||◌, cond}
use Rattle.ti_cap.specs.declared.language.Token.{Token}
use Rattle.ti_cap.specs.declared.language.Token.TheVariants.{CondOpen, CondThen, CondElse, CondClose}
use Rattle.ti_cap.specs.Tree.{IsSimple}
use Rattle.ti_cap.specs.Path.{Walk, path_of}
use Rattle.ti_cap.specs.declared.mode.Mode.{Mode}
use Rattle.ti_cap.specs.declared.mode.Mode.TheVariants.{Run, ToElse, ToEnd}
use Rattle.ti_cap.specs.Pass.{next_mode, is_running, Passes}
use Rattle.ti_cap.proofs.NextModeLemmas.{deeper}
use Rattle.ti_cap.proofs.PassesLemmas.{Split, passes_split, passes-append, path_of-append}

-- whether a token is met, if tests go so
abbrev pub is_met : Mode → Token → Bool → Bool
is_met m k fails = is_running m || is_running (next_mode m k fails)

-- the state after the tokens of a path
abbrev pub state_of : {S : Type 0} → (S → Token → S) → S → List Token → S
state_of act x [] = x
state_of act x (k ∷ ks) = state_of act (act x k) ks

-- the state after a token that is met or passed over
abbrev pub passed_by : {S : Type 0} → (S → Token → S) → Mode → Token → Bool → S → S
passed_by act m k fails x = cond (is_met m k fails) (act x k) x

-- some walk over the tokens comes to the mode with the state
pub record Reaches {S : Type 0} (act : S → Token → S) (start : S) (before : List Token) (m : Mode) (x : S) : Type 0 where
  pub walk : Walk
  pub passes : Passes Run before walk m
  pub value : state_of act start (path_of walk before) ≡ x

-- what a walk and one mark more meet of the tokens and one more
pub path_of-snoc : (ks : List Token) (m o : Mode) (w : Walk) (k : Token) (mark : Bool) → Passes m ks w o
    → path_of (w ++ mark ∷ []) (ks ++ k ∷ []) ≡ path_of w ks ++ cond mark (k ∷ []) []
path_of-snoc ks m o w k mark p = path_of-append ks (k ∷ []) m o w (mark ∷ []) p ∙ ap (λ x. path_of w ks ++ x) (one mark)
  where
    one : (mark : Bool) → path_of (mark ∷ []) (k ∷ []) ≡ cond mark (k ∷ []) []
    one true = refl
    one false = refl

pub state_of-append : {S : Type 0} (act : S → Token → S) (x : S) (a b : List Token) → state_of act x (a ++ b) ≡ state_of act (state_of act x a) b
state_of-append act x [] b = refl
state_of-append act x (k ∷ a) b = state_of-append act (act x k) a b

state-mark : {S : Type 0} (act : S → Token → S) (x : S) (k : Token) (mark : Bool) → state_of act x (cond mark (k ∷ []) []) ≡ cond mark (act x k) x
state-mark act x k true = refl
state-mark act x k false = refl

-- one token more, from a mode
pub reaches_on : {S : Type 0} (act : S → Token → S) (start : S) (before : List Token) (k : Token) (m : Mode) (fails : Bool) (x : S) → Reaches act start before m x
    → Reaches act start (before ++ k ∷ []) (next_mode m k fails) (passed_by act m k fails x)
reaches_on act start before k m fails x c = record {
  walk = c.walk ++ is_met m k fails ∷ [];
  passes = passes-append before (k ∷ []) Run m (next_mode m k fails) c.walk (is_met m k fails ∷ []) c.passes (fails, [], refl, (refl, refl));
  value = ap (λ y. state_of act start y) (path_of-snoc before Run m c.walk k (is_met m k fails) c.passes)
      ∙ state_of-append act start (path_of c.walk before) (cond (is_met m k fails) (k ∷ []) [])
      ∙ state-mark act (state_of act start (path_of c.walk before)) k (is_met m k fails)
      ∙ ap (λ y. cond (is_met m k fails) (act y k) y) c.value;
}

-- where a state comes from: a set of states for each mode, and the mode and state before a token
pub record Came {S : Type 0} (act : S → Token → S) (set : Mode → S → Type 0) (k : Token) (m : Mode) (y : S) : Type 0 where
  pub source : Mode
  pub fails : Bool
  pub old : S
  pub comes : set source old
  pub leads : next_mode source k fails ≡ m
  pub gives : y ≡ passed_by act source k fails old

pub came_from : {S : Type 0} (act : S → Token → S) (start : S) (before : List Token) (k : Token) (m : Mode) (y : S) → Reaches act start (before ++ k ∷ []) m y
    → Came act (Reaches act start before) k m y
came_from act start before k m y c =
    let s : Split before (k ∷ []) Run m c.walk = passes_split before (k ∷ []) Run m c.walk c.passes in
    let fails : Bool = s.second.0 in
    let back : s.back ≡ is_met s.between k fails ∷ [] = s.second.2 ∙ ap (λ w. is_met s.between k fails ∷ w) s.second.3.0 in
    record {
      source = s.between;
      fails = fails;
      old = state_of act start (path_of s.front before);
      comes = record { walk = s.front; passes = s.first; value = refl };
      leads = sym s.second.3.1;
      gives = sym c.value
          ∙ ap (λ w. state_of act start (path_of w (before ++ k ∷ []))) (s.joined ∙ ap (λ w. s.front ++ w) back)
          ∙ ap (λ w. state_of act start w) (path_of-snoc before Run s.between s.front k (is_met s.between k fails) s.first)
          ∙ state_of-append act start (path_of s.front before) (cond (is_met s.between k fails) (k ∷ []) [])
          ∙ state-mark act (state_of act start (path_of s.front before)) k (is_met s.between k fails);
    }

came_reaches : {S : Type 0} (act : S → Token → S) (start : S) (before : List Token) (k : Token) (m : Mode) (y : S) → Came act (Reaches act start before) k m y
    → Reaches act start (before ++ k ∷ []) m y
came_reaches {S = S} act start before k m y c =
    let P : Mode → Type 0 = λ n. Reaches act start (before ++ k ∷ []) n y in
    let Q : S → Type 0 = λ x. Reaches act start (before ++ k ∷ []) (next_mode c.source k c.fails) x in
    subst P c.leads (subst Q (sym c.gives) (reaches_on act start before k c.source c.fails c.old c.comes))

-- ---- the pass over sets

-- the states that a token makes of those in a set
abbrev pub Moved : {S : Type 0} → (S → Token → S) → (S → Type 0) → Token → S → Type 0
Moved {S = S} act from k y = (x : S) × from x × (y ≡ act x k)

-- the set of each mode after a token, by the sets before it: a `%?` moves all that waits down by one conditional and a `%;`
-- up, a `%t` lets some wait for the next `%e` or `%;`, a `%e` goes on with these and lets the others wait for the `%;`
abbrev pub Next : {S : Type 0} → (S → Token → S) → (Mode → S → Type 0) → Token → Mode → S → Type 0
Next act set CondOpen Run y = Moved act (set Run) CondOpen y
Next act set CondOpen (ToElse (suc n)) y = set (ToElse n) y
Next act set CondOpen (ToEnd (suc n)) y = set (ToEnd n) y
Next act set CondOpen m y = ⊥
Next act set CondThen Run y = Moved act (set Run) CondThen y
Next act set CondThen (ToElse zero) y = Moved act (set Run) CondThen y ⊎ set (ToElse zero) y
Next act set CondThen m y = set m y
Next act set CondElse Run y = Moved act (set (ToElse zero)) CondElse y
Next act set CondElse (ToElse zero) y = ⊥
Next act set CondElse (ToEnd zero) y = Moved act (set Run) CondElse y ⊎ set (ToEnd zero) y
Next act set CondElse m y = set m y
Next act set CondClose Run y =
    Moved act (set Run) CondClose y ⊎ (Moved act (set (ToElse zero)) CondClose y ⊎ Moved act (set (ToEnd zero)) CondClose y)
Next act set CondClose m y = set (deeper m) y
Next act set k Run y = Moved act (set Run) k y
Next act set k m y = set m y

onward : {S : Type 0} (act : S → Token → S) (set : Mode → S → Type 0) (k : Token) (m : Mode) (f : Bool) (x : S) → set m x
    → Next act set k (next_mode m k f) (passed_by act m k f x)
onward act set CondOpen Run f x h = (x, h, refl)
onward act set CondOpen m f x h = h
onward act set CondThen Run true x h = inl (x, h, refl)
onward act set CondThen Run false x h = (x, h, refl)
onward act set CondThen (ToElse zero) f x h = inr h
onward act set CondThen m f x h = h
onward act set CondElse Run f x h = inl (x, h, refl)
onward act set CondElse (ToElse zero) f x h = (x, h, refl)
onward act set CondElse (ToEnd zero) f x h = inr h
onward act set CondElse m f x h = h
onward act set CondClose Run f x h = inl (x, h, refl)
onward act set CondClose (ToElse zero) f x h = inr (inl (x, h, refl))
onward act set CondClose (ToEnd zero) f x h = inr (inr (x, h, refl))
onward act set CondClose m f x h = h
onward act set k Run f x h = (x, h, refl)
onward act set k m f x h = h

came : {S : Type 0} (act : S → Token → S) (set : Mode → S → Type 0) (k : Token) (source m : Mode) (fails : Bool) (old y : S) → set source old
    → next_mode source k fails ≡ m → y ≡ passed_by act source k fails old → Came act set k m y
came act set k source m fails old y h e g = record { source = source; fails = fails; old = old; comes = h; leads = e; gives = g }

backward : {S : Type 0} (act : S → Token → S) (set : Mode → S → Type 0) (k : Token) (m : Mode) (y : S) → Next act set k m y → Came act set k m y
backward act set CondOpen Run y (x, h, e) = came act set CondOpen Run Run false x y h refl e
backward act set CondOpen (ToElse (suc n)) y h = came act set CondOpen (ToElse n) (ToElse (suc n)) false y y h refl refl
backward act set CondOpen (ToEnd (suc n)) y h = came act set CondOpen (ToEnd n) (ToEnd (suc n)) false y y h refl refl
backward act set CondOpen m y h = absurd h
backward act set CondThen Run y (x, h, e) = came act set CondThen Run Run false x y h refl e
backward act set CondThen (ToElse zero) y (inl (x, h, e)) = came act set CondThen Run (ToElse zero) true x y h refl e
backward act set CondThen (ToElse zero) y (inr h) = came act set CondThen (ToElse zero) (ToElse zero) false y y h refl refl
backward act set CondThen m y h = came act set CondThen m m false y y h refl refl
backward act set CondElse Run y (x, h, e) = came act set CondElse (ToElse zero) Run false x y h refl e
backward act set CondElse (ToElse zero) y h = absurd h
backward act set CondElse (ToEnd zero) y (inl (x, h, e)) = came act set CondElse Run (ToEnd zero) false x y h refl e
backward act set CondElse (ToEnd zero) y (inr h) = came act set CondElse (ToEnd zero) (ToEnd zero) false y y h refl refl
backward act set CondElse m y h = came act set CondElse m m false y y h refl refl
backward act set CondClose Run y (inl (x, h, e)) = came act set CondClose Run Run false x y h refl e
backward act set CondClose Run y (inr (inl (x, h, e))) = came act set CondClose (ToElse zero) Run false x y h refl e
backward act set CondClose Run y (inr (inr (x, h, e))) = came act set CondClose (ToEnd zero) Run false x y h refl e
backward act set CondClose m y h = came act set CondClose (deeper m) m false y y h refl refl
backward act set k Run y h = came act set k Run Run false h.0 y h.1 refl h.2
backward act set k m y h = came act set k m m false y y h refl refl

-- the states that walks come to with one token more are those of one step of the pass, and no others
pub reaches_next : {S : Type 0} (act : S → Token → S) (start : S) (before : List Token) (k : Token) (m : Mode) (y : S)
    → Reaches act start (before ++ k ∷ []) m y → Next act (Reaches act start before) k m y
reaches_next {S = S} act start before k m y r =
    let c : Came act (Reaches act start before) k m y = came_from act start before k m y r in
    let P : Mode → Type 0 = λ n. Next act (Reaches act start before) k n y in
    let Q : S → Type 0 = λ x. Next act (Reaches act start before) k (next_mode c.source k c.fails) x in
    subst P c.leads (subst Q (sym c.gives) (onward act (Reaches act start before) k c.source c.fails c.old c.comes))

pub next_reaches : {S : Type 0} (act : S → Token → S) (start : S) (before : List Token) (k : Token) (m : Mode) (y : S)
    → Next act (Reaches act start before) k m y → Reaches act start (before ++ k ∷ []) m y
next_reaches act start before k m y h = came_reaches act start before k m y (backward act (Reaches act start before) k m y h)

-- ---- a simple token

pub simple_running : {S : Type 0} (act : S → Token → S) (start : S) (before : List Token) (k : Token) → IsSimple k → (x : S)
    → Moved act (Reaches act start before Run) k x ↔ Reaches act start (before ++ k ∷ []) Run x
simple_running act start before CondOpen h x = absurd h
simple_running act start before CondThen h x = absurd h
simple_running act start before CondElse h x = absurd h
simple_running act start before CondClose h x = absurd h
simple_running act start before k h x = (next_reaches act start before k Run x, reaches_next act start before k Run x)

pub simple_waiting : {S : Type 0} (act : S → Token → S) (start : S) (before : List Token) (k : Token) (m : Mode) → is_running m ≡ false → IsSimple k → (x : S)
    → Reaches act start before m x ↔ Reaches act start (before ++ k ∷ []) m x
simple_waiting act start before CondOpen m past h x = absurd h
simple_waiting act start before CondThen m past h x = absurd h
simple_waiting act start before CondElse m past h x = absurd h
simple_waiting act start before CondClose m past h x = absurd h
simple_waiting act start before k Run past h x = absurd (cc)
simple_waiting act start before k m past h x = (next_reaches act start before k m x, reaches_next act start before k m x)
