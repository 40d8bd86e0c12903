-- The walks of the tree that meet a token, against the paths that come to it and those that go on from it.
use Rattle.std.proofs.Common.{◌≡◌, ◌≢◌, ◌⊎◌, inl, inr, ◌↔◌, List, [], ◌∷◌, ◌++◌, length, refl, sym, ◌∙◌, ap, subst, arith, Bool, true, false, cond, append_assoc, length-append}
use Rattle.std.proofs.lemmas.List.{append-nil, append_cancel_left}
use Rattle.ti_cap.specs.declared.language.Token.{Token}
use Rattle.ti_cap.specs.declared.language.Token.TheVariants.{CondElse, CondClose}
use Rattle.ti_cap.specs.Tree.{tokens, IsSimple}
use Rattle.ti_cap.specs.Path.{Walk, path_of}
use Rattle.ti_cap.specs.declared.mode.Mode.{Mode}
use Rattle.ti_cap.specs.declared.mode.Mode.TheVariants.{Run}
use Rattle.ti_cap.specs.Pass.{next_mode, is_running, Passes}
use Rattle.ti_cap.specs.Capability.{Spot, whole}
use Rattle.ti_cap.proofs.WrittenLemmas.{one_cutting}
use Rattle.ti_cap.proofs.PassesLemmas.{Over, walk_passes, Split, passes_split, passes-append, met_front, path_of-append}
use Rattle.ti_cap.proofs.IsWalkLemmas.{Walked, walk_of}
use Rattle.ti_cap.proofs.ReachesLemmas.{is_met, path_of-snoc}
use Rattle.ti_lint.specs.declared.pass.Pass.{Pass}
use Rattle.ti_lint.specs.OnSomePath.{OnSomePath}
use Rattle.ti_lint.specs.Findings.{IsMetAfter, IsMetBefore}
use Rattle.ti_lint.specs.inner.Facts.{IsLettered}
use Rattle.ti_lint.proofs.HoldsLemmas.{Path}
use Rattle.ti_lint.proofs.ReachedLemmas.{Paths, path-is, reaches_by}
use Rattle.ti_lint.proofs.PassLemmas.{runs}
use Rattle.ti_lint.proofs.AtLemmas.{Stands}
use Rattle.ti_lint.proofs.GoesOnLemmas.{GoesOn, some_goes_on, simple_stays}

-- a token stands next where a pass is
pub record Before (spot : Spot) (k : Token) (p : Pass) : Type 0 where
  pub stands : Stands spot p
  pub rest : List Token
  pub is : stands.after ≡ k ∷ rest
  pub lettered : IsLettered k

-- a path that comes to the token and one that goes on from it are so
abbrev pub Meets : List Token → Token → List Token → (Path → Path → Type 0) → Type 0
Meets before k rest is_so =
    (old : Path) × Paths before Run old × (fails : Bool) × (new : Path) × GoesOn rest (next_mode Run k fails) new × is_so old new

-- a token of a conditional after which a walk may go on that passed it over
abbrev pub IsPart : Token → Type 0
IsPart k = (k ≡ CondElse) ⊎ (k ≡ CondClose)

-- a token that walks meet which pass over what stands before it
past_met : (k : Token) (m : Mode) (f : Bool) → is_running m ≡ false → is_met m k f ≡ true → IsPart k
past_met CondElse m f past e = inl refl
past_met CondClose m f past e = inr refl
past_met _ Run f past e = absurd (cc)
past_met _ m f past e = absurd (cc)

met_running : (k : Token) (m : Mode) (f : Bool) → ¬ IsPart k → is_met m k f ≡ true → m ≡ Run
met_running k Run f no_part e = refl
met_running k m f no_part e = absurd (no_part (past_met k m f refl e))

simple_part : (k : Token) → IsSimple k → ¬ IsPart k
simple_part k simple (inl e) = subst IsSimple e simple
simple_part k simple (inr e) = subst IsSimple e simple

longer : (path : Path) (k : Token) → path ≢ path ++ k ∷ []
longer path k e = absurd (omega (arith, ap length e, length-append path (k ∷ [])))

pub meets_of : (spot : Spot) (p : Pass) (k : Token) (is_so : Path → Path → Type 0) (s : Before spot k p) → ¬ IsPart k
    → OnSomePath (whole spot) spot.taken k is_so → Meets s.stands.before k s.rest is_so
meets_of spot p k is_so n no_part o =
    let s : Stands spot p = n.stands in
    let t = o.stands in
    let over : Over true Run (tokens t.tree) o.walk = walk_passes true t.tree o.walk t.writes.formed o.walked in
    let P : List Token → Type 0 = λ x. Passes Run x o.walk over.to in
    let passes : Passes Run (t.before ++ k ∷ t.after) o.walk over.to = subst P t.spans over.passes in
    let a : Split t.before (k ∷ t.after) Run over.to o.walk = passes_split t.before (k ∷ t.after) Run over.to o.walk passes in
    let f : Bool = a.second.0 in
    let same : t.before ≡ s.before = one_cutting t.before s.before spot.taken t.written s.taken in
    let front : path_of o.walk t.before ≡ path_of a.front t.before = ap (λ x. path_of x t.before) a.joined ∙ met_front t.before Run a.between a.front a.back a.first in
    let marked : path_of o.walk (t.before ++ k ∷ []) ≡ path_of a.front t.before ++ cond (is_met a.between k f) (k ∷ []) [] =
    ap (λ x. path_of x (t.before ++ k ∷ [])) (a.joined ∙ ap (λ x. a.front ++ x) a.second.2 ∙ sym (append_assoc a.front (is_met a.between k f ∷ []) a.second.1))
    ∙ met_front (t.before ++ k ∷ []) Run (next_mode a.between k f) (a.front ++ is_met a.between k f ∷ []) a.second.1
    (passes-append t.before (k ∷ []) Run a.between (next_mode a.between k f) a.front (is_met a.between k f ∷ []) a.first (f, [], refl, (refl, refl)))
    ∙ path_of-snoc t.before Run a.between a.front k (is_met a.between k f) a.first in
    let met : is_met a.between k f ≡ true = by (is_met a.between k f) (path_of a.front t.before) (sym marked ∙ o.met ∙ ap (λ x. x ++ k ∷ []) front) in
    let runs_on : a.between ≡ Run = met_running k a.between f no_part met in
    let whole_path : path_of o.walk (tokens t.tree) ≡ path_of a.front t.before ++ k ∷ path_of a.second.1 t.after =
    ap (λ x. path_of o.walk x) t.spans ∙ ap (λ x. path_of x (t.before ++ k ∷ t.after)) a.joined
    ∙ path_of-append t.before (k ∷ t.after) Run a.between a.front a.back a.first
    ∙ ap (λ x. path_of a.front t.before ++ path_of x (k ∷ t.after)) (a.second.2 ∙ ap (λ x. x ∷ a.second.1) met) in
    let ahead : path_of a.second.1 t.after ≡ o.ahead =
    ap tail (append_cancel_left (path_of a.front t.before) (k ∷ path_of a.second.1 t.after) (k ∷ o.ahead)
    (sym whole_path ∙ o.follows ∙ ap (λ x. x ++ o.ahead) (o.met ∙ ap (λ x. x ++ k ∷ []) front) ∙ append_assoc (path_of a.front t.before) (k ∷ []) o.ahead)) in
    let rest : t.after ≡ n.rest = ap tail (append_cancel_left t.before (k ∷ t.after) (k ∷ n.rest) (spans t.before same (one_tree t.spans))) in
    let Q : Mode → Type 0 = λ x. Passes Run t.before a.front x in
    let R : List Token → Type 0 = λ x. Paths x Run (path_of a.front t.before) in
    let S : Mode → Type 0 = λ x. Passes (next_mode x k f) t.after a.second.1 over.to in
    let T : List Token → Type 0 = λ x. GoesOn x (next_mode Run k f) o.ahead in
    let U : Path → Type 0 = λ x. is_so x o.ahead in (
      path_of a.front t.before,
      subst R same (reaches_by t.before Run a.front (subst Q runs_on a.first)),
      f,
      o.ahead,
      subst T rest (a.second.1, over.to, subst S runs_on a.second.3, ahead),
      subst U front o.so,
    )
  where
    by : (mark : Bool) (path : Path) → path ++ cond mark (k ∷ []) [] ≡ path ++ k ∷ [] → mark ≡ true
    by true path e = refl
    by false path e = absurd (longer path k (sym (append-nil path) ∙ e))

    tail : List Token → List Token
    tail [] = []
    tail (x ∷ xs) = xs

    one_tree : tokens o.stands.tree ≡ o.stands.before ++ k ∷ o.stands.after → o.stands.before ++ k ∷ o.stands.after ≡ n.stands.before ++ n.stands.after
    one_tree e = sym e ∙ one_cutting (tokens o.stands.tree) (tokens n.stands.formed.tree) (whole spot) o.stands.writes.written n.stands.formed.writes.written ∙ n.stands.spans

    spans : (before : List Token) → before ≡ n.stands.before → before ++ k ∷ o.stands.after ≡ n.stands.before ++ n.stands.after
        → before ++ k ∷ o.stands.after ≡ before ++ k ∷ n.rest
    spans before same e = e ∙ ap (λ x. n.stands.before ++ x) n.is ∙ ap (λ x. x ++ k ∷ n.rest) (sym same)

pub on_some_path : (spot : Spot) (p : Pass) (k : Token) (is_so : Path → Path → Type 0) (n : Before spot k p)
    → Meets n.stands.before k n.rest is_so → OnSomePath (whole spot) spot.taken k is_so
on_some_path spot p k is_so n (path, r, f, new, (v, to, on, e), so) =
    let s : Stands spot p = n.stands in
    let spans : tokens s.formed.tree ≡ s.before ++ k ∷ n.rest = s.spans ∙ ap (λ x. s.before ++ x) n.is in
    let m : Mode = next_mode Run k f in
    let w : Walk = r.walk ++ true ∷ [] in
    let all : Walk = r.walk ++ true ∷ v in
    let joined : w ++ v ≡ all = append_assoc r.walk (true ∷ []) v in
    let first : Passes Run (s.before ++ k ∷ []) w m = passes-append s.before (k ∷ []) Run Run m r.walk (true ∷ []) r.passes (f, [], refl, (refl, refl)) in
    let P : List Token → Type 0 = λ x. Passes Run x all to in
    let over : Walked true s.formed.tree all to =
    walk_of true s.formed.tree all to s.formed.writes.formed (subst P (sym spans) (passes-append s.before (k ∷ n.rest) Run Run to r.walk (true ∷ v) r.passes (f, v, refl, on))) in
    let front : path_of all s.before ≡ path_of r.walk s.before = met_front s.before Run Run r.walk (true ∷ v) r.passes in
    let here : path_of all (s.before ++ k ∷ []) ≡ path_of r.walk s.before ++ k ∷ [] =
    ap (λ x. path_of x (s.before ++ k ∷ [])) (sym joined) ∙ met_front (s.before ++ k ∷ []) Run m w v first ∙ path_of-snoc s.before Run Run r.walk k true r.passes in
    let follows : path_of all (tokens s.formed.tree) ≡ path_of all (s.before ++ k ∷ []) ++ new =
    ap (λ x. path_of all x) spans ∙ path_of-append s.before (k ∷ n.rest) Run Run r.walk (true ∷ v) r.passes
    ∙ ap (λ x. path_of r.walk s.before ++ k ∷ x) e ∙ sym (append_assoc (path_of r.walk s.before) (k ∷ []) new) ∙ ap (λ x. x ++ new) (sym here) in
    let Q : Path → Type 0 = λ x. is_so x new in
    record {
      stands = record { tree = s.formed.tree; writes = s.formed.writes; before = s.before; after = n.rest; spans = spans; written = s.taken };
      walk = all;
      walked = over.walk;
      met = here ∙ ap (λ x. x ++ k ∷ []) (sym front);
      ahead = new;
      follows = follows;
      so = subst Q (sym (front ∙ path-is s.before Run path r)) so;
    }

-- a path that comes to the token is so
abbrev pub Comes : List Token → (Path → Type 0) → Type 0
Comes before is_so = (path : Path) × Paths before Run path × is_so path

pub some_before : (spot : Spot) (p : Pass) (k : Token) (is_so : Path → Type 0) (n : Before spot k p) → ¬ IsPart k → Comes n.stands.before is_so ↔ IsMetAfter spot k is_so
some_before spot p k is_so n no_part = (there, back)
  where
    there : Comes n.stands.before is_so → IsMetAfter spot k is_so
    there (path, r, so) =
        let on = some_goes_on n.rest (next_mode Run k false) in
        on_some_path spot p k (λ before after. is_so before) n (path, r, false, on.0, on.1, so)

    back : IsMetAfter spot k is_so → Comes n.stands.before is_so
    back o = let m = meets_of spot p k (λ before after. is_so before) n no_part o in (m.0, m.1, m.5)

-- a path that comes to a simple token and one that goes on from it are so
pub some_through : (spot : Spot) (p : Pass) (k : Token) (one two : Path → Type 0) (n : Before spot k p) → IsSimple k
    → (Comes n.stands.before one × ((path : Path) × GoesOn n.rest Run path × two path)) ↔ OnSomePath (whole spot) spot.taken k (λ before after. one before × two after)
some_through spot p k one two n simple = (there, back)
  where
    there : Comes n.stands.before one × ((path : Path) × GoesOn n.rest Run path × two path) → OnSomePath (whole spot) spot.taken k (λ before after. one before × two after)
    there ((path, r, so), (new, g, also)) =
        let P : Mode → Type 0 = λ m. GoesOn n.rest m new in
        on_some_path spot p k (λ before after. one before × two after) n (path, r, false, new, subst P (sym (simple_stays k Run false simple)) g, (so, also))

    back : OnSomePath (whole spot) spot.taken k (λ before after. one before × two after) → Comes n.stands.before one × ((path : Path) × GoesOn n.rest Run path × two path)
    back o =
        let m = meets_of spot p k (λ before after. one before × two after) n (simple_part k simple) o in
        let P : Mode → Type 0 = λ x. GoesOn n.rest x m.3 in
        ((m.0, m.1, m.5.0), (m.3, subst P (simple_stays k Run m.2 simple) m.4, m.5.1))

pub some_after : (spot : Spot) (p : Pass) (k : Token) (is_so : Path → Type 0) (n : Before spot k p) → IsSimple k
    → ((path : Path) × GoesOn n.rest Run path × is_so path) ↔ IsMetBefore spot k is_so
some_after spot p k is_so n simple = (there, back)
  where
    there : (path : Path) × GoesOn n.rest Run path × is_so path → IsMetBefore spot k is_so
    there (new, g, so) =
        let r = runs n.stands.before n.stands.parts p n.stands.knows in
        let P : Mode → Type 0 = λ m. GoesOn n.rest m new in
        on_some_path spot p k (λ before after. is_so after) n (r.0, r.1, false, new, subst P (sym (simple_stays k Run false simple)) g, so)

    back : IsMetBefore spot k is_so → (path : Path) × GoesOn n.rest Run path × is_so path
    back o =
        let m = meets_of spot p k (λ before after. is_so after) n (simple_part k simple) o in
        let P : Mode → Type 0 = λ x. GoesOn n.rest x m.3 in
        (m.3, subst P (simple_stays k Run m.2 simple) m.4, m.5)
