-- The greatest measure over the paths of a tree is the one that is kept in one pass over its tokens.
use Rattle.std.proofs.Common.{◌≡◌, ℕ, zero, suc, ◌<◌, ◌≤◌, ◌⊎◌, inl, inr, max, List, [], ◌∷◌, ◌++◌, refl, sym, ◌∙◌, ap, subst, arith, Bool, true, false, cond}
use Rattle.std.proofs.lemmas.List.{append-nil}
use Rattle.ti_cap.specs.declared.language.Token.{Token}
use Rattle.ti_cap.specs.declared.language.Token.TheVariants.{CondThen, CondElse}
use Rattle.ti_cap.specs.Tree.{Sequence, tokens, IsTree}
use Rattle.ti_cap.specs.Path.{Walk, path_of}
use Rattle.ti_cap.specs.declared.mode.Mode.{Mode}
use Rattle.ti_cap.specs.declared.mode.Mode.TheVariants.{Run, ToElse, ToEnd}
use Rattle.ti_cap.specs.Pass.{next_mode, Passes}
use Rattle.ti_cap.specs.Height.{IsGreatest, IsDepth, height, height_from, next_height}
use Rattle.ti_cap.specs.inner.Analysis.{Frame, Progress, greatest_of}
use Rattle.ti_cap.proofs.NextModeLemmas.{running}
use Rattle.ti_cap.proofs.PassesLemmas.{no_path, Over, walk_passes, Split, passes_split, passes-append}
use Rattle.ti_cap.proofs.IsWalkLemmas.{Walked, walk_of}
use Rattle.ti_cap.proofs.ReachesLemmas.{state_of, is_met, passed_by, path_of-snoc, reaches_on}
use Rattle.ti_cap.proofs.ProgressLemmas.{Act, Comes, Certain, IsBest, Sums, frame_at, best, coming, max_is, best_above, best_comes}

top-above : (fs : List Frame) (y : ℕ) → y ≤ greatest_of fs y
top-above [] y = omega arith
top-above (f ∷ fs) y = omega (arith, top-above fs (max f.done (max f.failed y)))

-- no mode has more than the top
top_failed : (fs : List Frame) (n y : ℕ) → (frame_at fs n).failed ≤ greatest_of fs y
top_failed [] n y = omega arith
top_failed (f ∷ fs) (suc n) y = top_failed fs n (max f.done (max f.failed y))
top_failed (f ∷ fs) zero y = omega (arith, top-above fs (max f.done (max f.failed y)))

top_done : (fs : List Frame) (n y : ℕ) → (frame_at fs n).done ≤ greatest_of fs y
top_done [] n y = omega arith
top_done (f ∷ fs) (suc n) y = top_done fs n (max f.done (max f.failed y))
top_done (f ∷ fs) zero y = omega (arith, top-above fs (max f.done (max f.failed y)))

top_best : (s : Progress) (m : Mode) → best s m ≤ greatest_of s.frames s.running
top_best s Run = top-above s.frames s.running
top_best s (ToElse n) = top_failed s.frames n s.running
top_best s (ToEnd n) = top_done s.frames n s.running

-- the top is what some mode has
top_is : (fs : List Frame) (y : ℕ) → (m : Mode) × (best (record { running = y; frames = fs }) m ≡ greatest_of fs y)
top_is [] y = (Run, refl)
top_is (f ∷ fs) y = let t = top_is fs (max f.done (max f.failed y)) in from t.0 t.1
  where
    from : (m : Mode) → best (record { running = max f.done (max f.failed y); frames = fs }) m ≡ greatest_of fs (max f.done (max f.failed y))
        → (m : Mode) × (best (record { running = y; frames = f ∷ fs }) m ≡ greatest_of (f ∷ fs) y)
    from (ToElse n) e = (ToElse (suc n), e)
    from (ToEnd n) e = (ToEnd (suc n), e)
    from Run e = elim (max_is f.done (max f.failed y)) [
      | inr d ↦ (ToEnd 0, sym d ∙ e)
      | inl d ↦ elim (max_is f.failed y) [ inr g ↦ (ToElse 0, sym g ∙ sym d ∙ e) | inl g ↦ (Run, sym g ∙ sym d ∙ e) ]
    ]

pub top_above : (act : Act) (before : List Token) (s : Progress) → Sums act before s → (m : Mode) (x : ℕ) → Comes act before m x → x ≤ greatest_of s.frames s.running
top_above act before s sums m x c =
    let under : x ≤ best s m = best_above act before m (coming s m) (best s m) x (sums m) c in
    omega (arith, under, top_best s m)

pub top_comes : (act : Act) (before : List Token) (s : Progress) → Sums act before s → (m : Mode) × Comes act before m (greatest_of s.frames s.running)
top_comes act before s sums =
    let t = top_is s.frames s.running in
    let P : Mode → ℕ → Type 0 = λ m x. Comes act before m x in
    elim (best_comes act before t.0 (coming s t.0) (best s t.0) (sums t.0)) [
      | inl c ↦ (t.0, subst (P t.0) t.1 c)
      | inr z ↦
          let h : IsBest act before Run Certain s.running = sums Run in
          let e : s.running ≡ greatest_of s.frames s.running = omega (arith, z, t.1, top-above s.frames s.running) in
          (Run, subst (P Run) e h.1)
    ]

-- the greatest final value over the paths
pub greatest_value : (act : Act) (tree : Sequence) (s : Progress) (measure : List Token → ℕ) → IsTree tree → ((path : List Token) → state_of act 0 path ≡ measure path)
    → Sums act (tokens tree) s → IsGreatest tree measure (greatest_of s.frames s.running)
greatest_value act tree s measure formed is sums = record {
  above_all = λ path p.
      let o : Over true Run (tokens tree) p.0 = walk_passes true tree p.0 formed p.1 in
      let low : state_of act 0 (path_of p.0 (tokens tree)) ≤ greatest_of s.frames s.running = top_above act (tokens tree) s sums o.to _ (record { walk = p.0; passes = o.passes; value = refl }) in
      let e : measure path ≡ state_of act 0 (path_of p.0 (tokens tree)) = ap measure p.2 ∙ sym (is _) in
      omega arith;
  reached =
      let c : (m : Mode) × Comes act (tokens tree) m (greatest_of s.frames s.running) = top_comes act (tokens tree) s sums in
      let w : Walked true tree c.1.walk c.0 = walk_of true tree c.1.walk c.0 formed c.1.passes in
      (path_of c.1.walk (tokens tree), (c.1.walk, w.walk, refl), sym (is _) ∙ c.1.value);
}

-- the greatest value on the way
abbrev pub peak : Act → ℕ → List Token → ℕ
peak act x [] = x
peak act x (k ∷ ks) = max x (peak act (act x k) ks)

peak-snoc : (act : Act) (x : ℕ) (a : List Token) (k : Token) → peak act x (a ++ k ∷ []) ≡ max (peak act x a) (act (state_of act x a) k)
peak-snoc act x [] k = refl
peak-snoc act x (l ∷ a) k = ap (λ y. max x y) (peak-snoc act (act x l) a k) ∙ omega arith

pub value-le : (act : Act) (x : ℕ) (a : List Token) → state_of act x a ≤ peak act x a
value-le act x [] = omega arith
value-le act x (k ∷ a) = omega (arith, value-le act (act x k) a)

-- no pass climbs above the height, and one climbs to it
pub record Peaks (act : Act) (before : List Token) (d : ℕ) : Type 0 where
  pub above_all : (m : Mode) (w : Walk) → Passes Run before w m → peak act 0 (path_of w before) ≤ d
  pub mode : Mode
  pub walk : Walk
  pub passes : Passes Run before walk mode
  pub is : peak act 0 (path_of walk before) ≡ d

-- a token of a conditional raises no value
abbrev pub IsFlat : Act → Type 0
IsFlat act = ((x : ℕ) → act x CondThen ≤ x) × ((x : ℕ) → act x CondElse ≤ x)

falls : (act : Act) (k : Token) (f : Bool) (x : ℕ) → IsFlat act → (next_mode Run k f ≡ Run) ⊎ (act x k ≤ x)
falls act CondThen true x flat = inr (flat.0 x)
falls act CondElse f x flat = inr (flat.1 x)
falls act CondThen false x flat = inl refl
falls act _ f x flat = inl refl

peak-mark : (act : Act) (a : List Token) (k : Token) (b : Bool) → peak act 0 (a ++ cond b (k ∷ []) []) ≡ cond b (max (peak act 0 a) (act (state_of act 0 a) k)) (peak act 0 a)
peak-mark act a k true = peak-snoc act 0 a k
peak-mark act a k false = ap (λ x. peak act 0 x) (append-nil a)

pub peaks_start : (act : Act) → Peaks act [] 0
peaks_start act = record {
  above_all = λ m w p. omega (arith, ap (λ x. peak act 0 x) (no_path w));
  mode = Run;
  walk = [];
  passes = (refl, refl);
  is = refl;
}

pub peaks_step : (act : Act) (before : List Token) (k : Token) (d : ℕ) (s : Progress) → IsFlat act → Peaks act before d → Sums act (before ++ k ∷ []) s
    → Peaks act (before ++ k ∷ []) (max d s.running)
peaks_step act before k d s flat p sums = record {
  above_all = above;
  mode = (best_walk (low_or_high d s.running)).0;
  walk = (best_walk (low_or_high d s.running)).1;
  passes = (best_walk (low_or_high d s.running)).2;
  is = (best_walk (low_or_high d s.running)).3;
}
  where
    low_or_high : (a b : ℕ) → (b ≤ a) ⊎ (a < b)
    low_or_high a b = grind arith

    closes : (old new d now : ℕ) → now ≤ d → old ≡ d → {c : ℕ} → old ≤ c → new ≡ c → new ≤ max d now → new ≡ max d now
    closes old new d now h e {c} low is high = omega arith

    here : IsBest act (before ++ k ∷ []) Run Certain s.running
    here = sums Run

    to_run : (source : Mode) (f : Bool) (v : ℕ) → Comes act before source v → is_met source k f ≡ true → next_mode source k f ≡ Run → act v k ≤ s.running
    to_run source f v c b e =
        let P : Mode → Type 0 = λ y. Comes act (before ++ k ∷ []) y (passed_by act source k f v) in
        let up : passed_by act source k f v ≤ s.running = here.0 _ (subst P e (reaches_on act 0 before k source f v c)) in
        let is : passed_by act source k f v ≡ act v k = ap (λ y. cond y (act v k) v) b in
        omega arith

    met_low : (source : Mode) (f : Bool) (v : ℕ) → Comes act before source v → v ≤ d → is_met source k f ≡ true → act v k ≤ max d s.running
    met_low Run f v c h b = elim (falls act k f v flat) [ inl e ↦ omega (arith, to_run Run f v c b e) | inr le ↦ omega arith ]
    met_low m f v c h b = omega (arith, to_run m f v c b (running (next_mode m k f) b))

    cond-le : (b : Bool) (x y z : ℕ) → x ≤ z → (b ≡ true → y ≤ z) → cond b (max x y) x ≤ z
    cond-le true x y z h g = let q : y ≤ z = g refl in omega arith
    cond-le false x y z h g = h

    cond-ge : (b : Bool) (x y : ℕ) → x ≤ cond b (max x y) x
    cond-ge true x y = omega arith
    cond-ge false x y = omega arith

    above : (m : Mode) (w : Walk) → Passes Run (before ++ k ∷ []) w m → peak act 0 (path_of w (before ++ k ∷ [])) ≤ max d s.running
    above m w q =
        let c : Split before (k ∷ []) Run m w = passes_split before (k ∷ []) Run m w q in
        let f : Bool = c.second.0 in
        let back : c.back ≡ is_met c.between k f ∷ [] = c.second.2 ∙ ap (λ y. is_met c.between k f ∷ y) c.second.3.0 in
        let e : path_of w (before ++ k ∷ []) ≡ path_of c.front before ++ cond (is_met c.between k f) (k ∷ []) [] =
        ap (λ y. path_of y (before ++ k ∷ [])) (c.joined ∙ ap (λ y. c.front ++ y) back) ∙ path_of-snoc before Run c.between c.front k (is_met c.between k f) c.first in
        let old : peak act 0 (path_of c.front before) ≤ d = p.above_all c.between c.front c.first in
        let low : state_of act 0 (path_of c.front before) ≤ d = omega (arith, value-le act 0 (path_of c.front before), old) in
        let all : cond (is_met c.between k f) (max (peak act 0 (path_of c.front before)) (act (state_of act 0 (path_of c.front before)) k)) (peak act 0 (path_of c.front before)) ≤ max d s.running =
        cond-le (is_met c.between k f) _ _ _ (omega arith)
        (λ b. met_low c.between f (state_of act 0 (path_of c.front before)) (record { walk = c.front; passes = c.first; value = refl }) low b) in
        rw e (rw (peak-mark act (path_of c.front before) k (is_met c.between k f)) all)

    best_walk : (s.running ≤ d) ⊎ (d < s.running) → (m : Mode) × (w : Walk) × Passes Run (before ++ k ∷ []) w m × (peak act 0 (path_of w (before ++ k ∷ [])) ≡ max d s.running)
    best_walk (inl h) =
        let w : Walk = p.walk ++ is_met p.mode k false ∷ [] in
        let q : Passes Run (before ++ k ∷ []) w (next_mode p.mode k false) =
        passes-append before (k ∷ []) Run p.mode (next_mode p.mode k false) p.walk (is_met p.mode k false ∷ []) p.passes (false, [], refl, (refl, refl)) in
        let e : peak act 0 (path_of w (before ++ k ∷ [])) ≡ cond (is_met p.mode k false) (max (peak act 0 (path_of p.walk before)) (act (state_of act 0 (path_of p.walk before)) k)) (peak act 0 (path_of p.walk before)) =
        ap (λ y. peak act 0 y) (path_of-snoc before Run p.mode p.walk k (is_met p.mode k false) p.passes) ∙ peak-mark act (path_of p.walk before) k (is_met p.mode k false) in
        let low : peak act 0 (path_of p.walk before) ≤ cond (is_met p.mode k false) (max (peak act 0 (path_of p.walk before)) (act (state_of act 0 (path_of p.walk before)) k)) (peak act 0 (path_of p.walk before)) =
        cond-ge (is_met p.mode k false) _ _ in
        let high : peak act 0 (path_of w (before ++ k ∷ [])) ≤ max d s.running = above _ w q in
        (next_mode p.mode k false, w, q, closes _ _ d s.running h p.is low e high)
    best_walk (inr h) =
        let c : Comes act (before ++ k ∷ []) Run s.running = here.1 in
        let high : peak act 0 (path_of c.walk (before ++ k ∷ [])) ≤ max d s.running = above Run c.walk c.passes in
        let low : state_of act 0 (path_of c.walk (before ++ k ∷ [])) ≤ peak act 0 (path_of c.walk (before ++ k ∷ [])) = value-le act 0 _ in
        (Run, c.walk, c.passes, tops _ _ d s.running h c.value low high)
      where
        tops : (v u d now : ℕ) → d < now → v ≡ now → v ≤ u → u ≤ max d now → u ≡ max d now
        tops v u d now h e low high = omega arith

height-peak : (x : ℕ) (path : List Token) → peak next_height x path ≡ height_from x path
height-peak x [] = refl
height-peak x (k ∷ path) = ap (λ y. max x y) (height-peak (next_height x k) path)

-- the depth of a tree
pub depth_is : (tree : Sequence) (d : ℕ) → IsTree tree → Peaks next_height (tokens tree) d → IsDepth tree d
depth_is tree d formed p = record {
  above_all = λ path q.
      let o : Over true Run (tokens tree) q.0 = walk_passes true tree q.0 formed q.1 in
      let low : peak next_height 0 (path_of q.0 (tokens tree)) ≤ d = p.above_all o.to q.0 o.passes in
      let e : height path ≡ peak next_height 0 (path_of q.0 (tokens tree)) = ap height q.2 ∙ sym (height-peak 0 (path_of q.0 (tokens tree))) in
      omega arith;
  reached =
      let w : Walked true tree p.walk p.mode = walk_of true tree p.walk p.mode formed p.passes in
      (path_of p.walk (tokens tree), (p.walk, w.walk, refl), sym (height-peak 0 (path_of p.walk (tokens tree))) ∙ p.is);
}

pub height_rising : (k : Token) (x y : ℕ) → x ≤ y → next_height x k ≤ next_height y k
height_rising k x y h = omega arith

pub height_flat : IsFlat next_height
height_flat = ((λ x. omega arith), (λ x. omega arith))
