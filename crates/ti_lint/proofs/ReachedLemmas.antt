-- The paths that walks come to a place with, and the walks of the whole tree that go on from them.
use Rattle.std.proofs.Common.{◌≡◌, ℕ, ◌≤◌, List, [], ◌∷◌, ◌++◌, refl, sym, ◌∙◌, ap, subst, arith, true, append_assoc}
use Rattle.std.proofs.lemmas.List.{append-nil}
use Rattle.ti_cap.specs.declared.language.Token.{Token}
use Rattle.ti_cap.specs.Tree.{Sequence, tokens, IsTree}
use Rattle.ti_cap.specs.Path.{Walk, IsPath, path_of}
use Rattle.ti_cap.specs.declared.mode.Mode.{Mode}
use Rattle.ti_cap.specs.declared.mode.Mode.TheVariants.{Run}
use Rattle.ti_cap.specs.Pass.{Passes}
use Rattle.ti_cap.specs.Height.{next_height, end_height, height_from, height}
use Rattle.ti_cap.proofs.PassesLemmas.{passes-append, path_of-append}
use Rattle.ti_cap.proofs.IsWalkLemmas.{Walked, walk_of}
use Rattle.ti_cap.proofs.ClimbsLemmas.{passes_on}
use Rattle.ti_cap.proofs.ReachesLemmas.{state_of, Reaches}
use Rattle.ti_lint.proofs.HoldsLemmas.{Path, snoc}

-- the paths that come to a mode
abbrev pub Paths : List Token → Mode → Path → Type 0
Paths before m path = Reaches snoc [] before m path

state-is : (x path : Path) → state_of snoc x path ≡ x ++ path
state-is x [] = sym (append-nil x)
state-is x (k ∷ path) = state-is (snoc x k) path ∙ append_assoc x (k ∷ []) path

-- such a path is what its walk meets
pub path-is : (before : List Token) (m : Mode) (path : Path) (r : Paths before m path) → path_of r.walk before ≡ path
path-is before m path r = sym (state-is [] (path_of r.walk before)) ∙ r.value

pub reaches_by : (before : List Token) (m : Mode) (w : Walk) → Passes Run before w m → Paths before m (path_of w before)
reaches_by before m w p = record { walk = w; passes = p; value = state-is [] (path_of w before) }

-- the walk goes on to the end of the tree
pub record Onward (tree : Sequence) (before after : List Token) (w : Walk) : Type 0 where
  pub more : Walk
  pub path : path_of (w ++ more) (tokens tree) ≡ path_of w before ++ path_of more after
  pub is_path : IsPath tree (path_of (w ++ more) (tokens tree))

pub goes_on : (tree : Sequence) (before after : List Token) (m : Mode) (w : Walk) → IsTree tree → tokens tree ≡ before ++ after → Passes Run before w m → Onward tree before after w
goes_on tree before after m w formed spans p =
    let more : (v : Walk) × (o : Mode) × Passes m after v o = passes_on m after in
    let P : List Token → Type 0 = λ x. Passes Run x (w ++ more.0) more.1 in
    let whole : Walked true tree (w ++ more.0) more.1 = walk_of true tree (w ++ more.0) more.1 formed (subst P (sym spans) (passes-append before after Run m more.1 w more.0 p more.2)) in
    record {
      more = more.0;
      path = ap (λ x. path_of (w ++ more.0) x) spans ∙ path_of-append before after Run m w more.0 p;
      is_path = (w ++ more.0, whole.walk, refl);
    }

end-front : (h : ℕ) (a b : List Token) → end_height h a ≤ height_from h (a ++ b)
end-front h [] [] = omega arith
end-front h [] (k ∷ b) = omega arith
end-front h (k ∷ a) b = omega (arith, end-front (next_height h k) a b)

-- no path over the front of a tree is higher than its paths
pub path_low : (tree : Sequence) (before after : List Token) (most : ℕ) (m : Mode) (path : Path) → IsTree tree → tokens tree ≡ before ++ after
    → ((whole : List Token) → IsPath tree whole → height whole ≤ most) → Paths before m path → end_height 0 path ≤ most
path_low tree before after most m path formed spans low r =
    let o : Onward tree before after r.walk = goes_on tree before after m r.walk formed spans r.passes in
    omega (
      arith,
      low _ o.is_path,
      ap height o.path,
      end-front 0 (path_of r.walk before) (path_of o.more after),
      ap (λ x. end_height 0 x) (path-is before m path r),
    )
