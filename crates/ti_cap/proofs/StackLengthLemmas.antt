-- No walk over the front of a tree has more values on the stack than the tree's height allows.
use Rattle.std.proofs.Common.{◌≡◌, ℕ, ◌≤◌, List, [], ◌∷◌, ◌++◌, length, drop, replicate, refl, sym, ◌∙◌, ap, subst, arith, true, length-append, length-drop}
use Rattle.std.specs.Prelude.{Option}
use Rattle.std.proofs.lemmas.List.{length-replicate}
use Rattle.ti_cap.specs.declared.language.Token.{Token}
use Rattle.ti_cap.specs.Tree.{Sequence, tokens, IsTree}
use Rattle.ti_cap.specs.Path.{Walk, IsPath, path_of}
use Rattle.ti_cap.specs.declared.mode.Mode.{Mode}
use Rattle.ti_cap.specs.declared.mode.Mode.TheVariants.{Run}
use Rattle.ti_cap.specs.Pass.{Passes}
use Rattle.ti_cap.specs.Height.{pops, pushes, next_height, end_height, height_from, height}
use Rattle.ti_cap.specs.Sources.{source, next_sources}
use Rattle.ti_cap.proofs.PassesLemmas.{passes-append, path_of-append}
use Rattle.ti_cap.proofs.IsWalkLemmas.{Walked, walk_of}
use Rattle.ti_cap.proofs.ClimbsLemmas.{passes_on}
use Rattle.ti_cap.proofs.ReachesLemmas.{state_of, Reaches}

length-next : (stack : List (Option ℕ)) (k : Token) → length (next_sources stack k) ≡ next_height (length stack) k
length-next stack k =
    length-append (replicate (pushes k) (source k)) (drop (pops k) stack)
    ∙ omega (arith, length-replicate (pushes k) (source k), length-drop (pops k) stack)

length-state : (stack : List (Option ℕ)) (path : List Token) → length (state_of next_sources stack path) ≡ end_height (length stack) path
length-state stack [] = refl
length-state stack (k ∷ path) = length-state (next_sources stack k) path ∙ ap (λ h. end_height h path) (length-next stack k)

end-front : (h : ℕ) (a b : List Token) → end_height h a ≤ height_from h (a ++ b)
end-front h [] [] = omega arith
end-front h [] (k ∷ b) = omega arith
end-front h (k ∷ a) b = omega (arith, end-front (next_height h k) a b)

pub stack_low : (tree : Sequence) (before after : List Token) (most : ℕ) (m : Mode) (stack : List (Option ℕ)) → IsTree tree → tokens tree ≡ before ++ after
    → ((path : List Token) → IsPath tree path → height path ≤ most) → Reaches next_sources [] before m stack → length stack ≤ most
stack_low tree before after most m stack formed spans low r =
    let more : (w : Walk) × (o : Mode) × Passes m after w o = passes_on m after in
    let P : List Token → Type 0 = λ x. Passes Run x (r.walk ++ more.0) more.1 in
    let w : Walked true tree (r.walk ++ more.0) more.1 = walk_of true tree (r.walk ++ more.0) more.1 formed (subst P (sym spans) (passes-append before after Run m more.1 r.walk more.0 r.passes more.2)) in
    let top : height (path_of (r.walk ++ more.0) (tokens tree)) ≤ most = low _ (r.walk ++ more.0, w.walk, refl) in
    let e : path_of (r.walk ++ more.0) (tokens tree) ≡ path_of r.walk before ++ path_of more.0 after =
    ap (λ x. path_of (r.walk ++ more.0) x) spans ∙ path_of-append before after Run m r.walk more.0 r.passes in
    omega (arith, top, ap height e, end-front 0 (path_of r.walk before) (path_of more.0 after), length-state [] (path_of r.walk before), ap length r.value)
