-- A token climbs to a height where the kept maximum does.
use Rattle.std.proofs.Common.{◌≡◌, ℕ, ◌≤◌, List, [], ◌∷◌, ◌++◌, refl, sym, ◌∙◌, ap, subst, arith, Bool, true, false, ◌||◌, append_assoc}
use Rattle.std.specs.Prelude.{Some, None}
use Rattle.ti_cap.specs.declared.language.Token.{Token}
use Rattle.ti_cap.specs.Tree.{tokens}
use Rattle.ti_cap.specs.Path.{Walk, path_of}
use Rattle.ti_cap.specs.declared.mode.Mode.{Mode}
use Rattle.ti_cap.specs.declared.mode.Mode.TheVariants.{Run}
use Rattle.ti_cap.specs.Pass.{next_mode, is_running, Passes}
use Rattle.ti_cap.specs.Height.{next_height, end_height}
use Rattle.ti_cap.specs.declared.scan.ConditionalPart.{ConditionalPart}
use Rattle.ti_cap.specs.Refusal.{Begins, Climbs}
use Rattle.ti_cap.proofs.PassesLemmas.{Over, walk_passes, Split, passes_split, passes-append, met_front}
use Rattle.ti_cap.proofs.IsWalkLemmas.{Walked, walk_of}
use Rattle.ti_cap.proofs.PartsLemmas.{allowed, Leads, leads_front, begins_leads}
use Rattle.ti_cap.proofs.ReachesLemmas.{state_of, is_met, path_of-snoc}
use Rattle.ti_cap.proofs.ProgressLemmas.{Comes}
use Rattle.ti_cap.proofs.IsGreatestLemmas.{Peaks, peak, value-le}

-- a pass can always go on
pub passes_on : (m : Mode) (ks : List Token) → (w : Walk) × (o : Mode) × Passes m ks w o
passes_on m [] = ([], m, (refl, refl))
passes_on m (k ∷ ks) =
    let r : (w : Walk) × (o : Mode) × Passes (next_mode m k false) ks w o = passes_on (next_mode m k false) ks in
    (is_met m k false ∷ r.0, r.1, (false, r.0, refl, r.2))

end-value : (x : ℕ) (path : List Token) → state_of next_height x path ≡ end_height x path
end-value x [] = refl
end-value x (k ∷ path) = end-value (next_height x k) path

-- a token that some walk climbs with is no higher than the greatest height
pub climbs_low : (before : List Token) (k : Token) (h d : ℕ) → Peaks next_height (before ++ k ∷ []) d → Climbs before k h → h ≤ d
climbs_low before k h d p c =
    let o : Over true Run (tokens c.tree) c.walk = walk_passes true c.tree c.walk c.formed c.walked in
    let P : List Token → Type 0 = λ x. Passes Run x c.walk o.to in
    let s : Split (before ++ k ∷ []) c.after Run o.to c.walk =
    passes_split (before ++ k ∷ []) c.after Run o.to c.walk (subst P (c.spans ∙ sym (append_assoc before (k ∷ []) c.after)) o.passes) in
    let e : path_of c.walk (before ++ k ∷ []) ≡ path_of s.front (before ++ k ∷ []) =
    ap (λ x. path_of x (before ++ k ∷ [])) s.joined ∙ met_front (before ++ k ∷ []) Run s.between s.front s.back s.first in
    let top : peak next_height 0 (path_of s.front (before ++ k ∷ [])) ≤ d = p.above_all s.between s.front s.first in
    let low : state_of next_height 0 (path_of s.front (before ++ k ∷ [])) ≤ peak next_height 0 (path_of s.front (before ++ k ∷ [])) = value-le next_height 0 (path_of s.front (before ++ k ∷ [])) in
    let v : state_of next_height 0 (path_of s.front (before ++ k ∷ [])) ≡ h = end-value 0 (path_of s.front (before ++ k ∷ [])) ∙ ap (λ x. end_height 0 x) (sym e) ∙ c.height_is in
    omega arith

-- where a token may stand, some walk climbs with it to the greatest height that now runs
pub climbs_now : (before : List Token) (k : Token) (h : ℕ) → Begins (before ++ k ∷ []) → Comes next_height (before ++ k ∷ []) Run h → Climbs before k h
climbs_now before k h (tree, after, formed, spans) c =
    let s : Split before (k ∷ []) Run Run c.walk = passes_split before (k ∷ []) Run Run c.walk c.passes in
    let f : Bool = s.second.0 in
    let mark : is_met s.between k f ≡ true = ap (λ x. is_running s.between || is_running x) (sym s.second.3.1) ∙ or_true (is_running s.between) in
    let back : s.back ≡ true ∷ [] = s.second.2 ∙ ap (λ y. is_met s.between k f ∷ y) s.second.3.0 ∙ ap (λ b. b ∷ []) mark in
    let more : (w : Walk) × (o : Mode) × Passes Run after w o = passes_on Run after in
    let walk : Walk = c.walk ++ more.0 in
    let pass : Passes Run ((before ++ k ∷ []) ++ after) walk more.1 = passes-append (before ++ k ∷ []) after Run Run more.1 c.walk more.0 c.passes more.2 in
    let P : List Token → Type 0 = λ x. Passes Run x walk more.1 in
    let w : Walked true tree walk more.1 = walk_of true tree walk more.1 formed (subst P (sym spans) pass) in
    let whole : path_of walk (before ++ k ∷ []) ≡ path_of c.walk (before ++ k ∷ []) = met_front (before ++ k ∷ []) Run Run c.walk more.0 c.passes in
    let split : path_of c.walk (before ++ k ∷ []) ≡ path_of s.front before ++ k ∷ [] =
    ap (λ x. path_of x (before ++ k ∷ [])) (s.joined ∙ ap (λ y. s.front ++ y) back) ∙ path_of-snoc before Run s.between s.front k true s.first in
    let front : path_of walk before ≡ path_of s.front before =
    ap (λ x. path_of x before) (ap (λ x. x ++ more.0) s.joined ∙ append_assoc s.front s.back more.0) ∙ met_front before Run s.between s.front (s.back ++ more.0) s.first in
    record {
      tree = tree;
      after = after;
      walk = walk;
      formed = formed;
      spans = spans ∙ append_assoc before (k ∷ []) after;
      walked = w.walk;
      on_path = whole ∙ split ∙ ap (λ x. x ++ k ∷ []) (sym front);
      height_is = ap (λ x. end_height 0 x) whole ∙ sym (end-value 0 (path_of c.walk (before ++ k ∷ []))) ∙ c.value;
    }
  where
    or_true : (b : Bool) → b || true ≡ true
    or_true true = refl
    or_true false = refl

pub leads_one : (ps qs rs : List ConditionalPart) (ks : List Token) → Leads ps ks qs → Leads ps ks rs → qs ≡ rs
leads_one ps qs rs [] p q = p ∙ sym q
leads_one ps qs rs (k ∷ ks) (ms, e, p) (ns, f, q) =
    let same : ns ≡ ms = cc in
    let P : List ConditionalPart → Type 0 = λ x. Leads x ks rs in leads_one ms qs rs ks p (subst P same q)

-- no tree goes on with a token that may not stand there
pub stray : (before : List Token) (ps : List ConditionalPart) (k : Token) → Leads [] before ps → allowed k ps ≡ None → ¬ Begins (before ++ k ∷ [])
stray before ps k l none b =
    let r : (ms : List ConditionalPart) × Leads [] (before ++ k ∷ []) ms = begins_leads (before ++ k ∷ []) b in
    let s : (ns : List ConditionalPart) × Leads [] before ns × Leads ns (k ∷ []) r.0 = leads_front [] r.0 before (k ∷ []) r.1 in
    let same : s.0 ≡ ps = leads_one [] s.0 ps before s.1 l in
    let e : allowed k ps ≡ Some s.2.0 = ap (λ x. allowed k x) (sym same) ∙ s.2.1 in
    absurd (cc)
