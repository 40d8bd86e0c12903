-- How many conditionals are open along the tokens, and that a tree's nesting is the greatest such number.
use Rattle.std.proofs.Common.{◌≡◌, ℕ, zero, suc, ◌+◌, ◌≤◌, max, List, [], ◌∷◌, ◌++◌, length, refl, sym, ◌∙◌, ap, arith, true, false, append_assoc}
use Rattle.std.specs.Prelude.{Some}
use Rattle.std.proofs.lemmas.List.{append-nil}
use Rattle.ti_cap.specs.declared.language.Token.{Token}
use Rattle.ti_cap.specs.declared.language.Token.TheVariants.{CondOpen, CondThen, CondElse, CondClose}
use Rattle.ti_cap.specs.Tree.{Sequence, Empty, Simple, Conditional, Arms, Lone, Else, ElseIf, tokens, arm_tokens, IsSimple, IsFormed, AreFormed, nest, arm_nest}
use Rattle.ti_cap.specs.declared.scan.ConditionalPart.{ConditionalPart}
use Rattle.ti_cap.specs.declared.scan.ConditionalPart.TheVariants.{FirstTest, Body, Otherwise}
use Rattle.ti_cap.proofs.PartsLemmas.{allowed, at_then, at_else, at_close, Leads}

abbrev pub below : ℕ → ℕ
below zero = zero
below (suc l) = l

abbrev pub level_after : ℕ → Token → ℕ
level_after l CondOpen = suc l
level_after l CondClose = below l
level_after l token = l

-- the greatest number of open conditionals on the way
abbrev pub levels : ℕ → List Token → ℕ
levels l [] = l
levels l (k ∷ ks) = max l (levels (level_after l k) ks)

abbrev pub end_level : ℕ → List Token → ℕ
end_level l [] = l
end_level l (k ∷ ks) = end_level (level_after l k) ks

pub levels-ge : (l : ℕ) (ks : List Token) → l ≤ levels l ks
levels-ge l [] = omega arith
levels-ge l (k ∷ ks) = omega arith

pub below-le : (l : ℕ) → below l ≤ l
below-le zero = omega arith
below-le (suc l) = omega arith

pub end-level-le : (l : ℕ) (ks : List Token) → end_level l ks ≤ levels l ks
end-level-le l [] = omega arith
end-level-le l (k ∷ ks) = omega (arith, end-level-le (level_after l k) ks)

simple_level : (l : ℕ) (k : Token) → IsSimple k → level_after l k ≡ l
simple_level l CondOpen h = absurd h
simple_level l CondThen h = absurd h
simple_level l CondElse h = absurd h
simple_level l CondClose h = absurd h
simple_level l _ h = refl

pub levels-snoc : (l : ℕ) (ks : List Token) (k : Token) → levels l (ks ++ k ∷ []) ≡ max (levels l ks) (level_after (end_level l ks) k)
levels-snoc l [] k = refl
levels-snoc l (j ∷ ks) k = ap (λ x. max l x) (levels-snoc (level_after l j) ks k) ∙ omega arith

-- ---- the tokens of a tree

simple_levels : (l n : ℕ) (k : Token) (ks tail : List Token) → IsSimple k → levels l (ks ++ tail) ≡ max (l + n) (levels l tail)
    → levels l (k ∷ (ks ++ tail)) ≡ max (l + n) (levels l tail)
simple_levels l n k ks tail h e = ap (λ x. max l (levels x (ks ++ tail))) (simple_level l k h) ∙ omega (arith, levels-ge l tail)

mutual
  level_closed : (s : Sequence) (l : ℕ) (tail : List Token) → IsFormed false s → levels l (tokens s ++ tail) ≡ max (l + nest s) (levels l tail)
  level_closed Empty l tail h = omega (arith, levels-ge l tail)
  level_closed (Simple k s) l tail h = simple_levels l (nest s) k (tokens s) tail h.0 (level_closed s l tail h.1)
  level_closed (Conditional arms true s) l tail h =
      let e : (arm_tokens arms ++ (CondClose ∷ tokens s)) ++ tail ≡ arm_tokens arms ++ (CondClose ∷ (tokens s ++ tail)) = append_assoc (arm_tokens arms) (CondClose ∷ tokens s) tail in
      let a : levels (suc l) (arm_tokens arms ++ (CondClose ∷ (tokens s ++ tail))) ≡ max (suc l + arm_nest arms) (levels (suc l) (CondClose ∷ (tokens s ++ tail))) =
      level_closed_arms arms (suc l) (CondClose ∷ (tokens s ++ tail)) h.0 in
      let b : levels l (tokens s ++ tail) ≡ max (l + nest s) (levels l tail) = level_closed s l tail h.1 in
      ap (λ x. max l (levels (suc l) x)) e ∙ all (levels (suc l) (arm_tokens arms ++ (CondClose ∷ (tokens s ++ tail)))) (levels l (tokens s ++ tail)) (levels l tail) (arm_nest arms) (nest s) l a b
    where
      all : (x y z a n l : ℕ) → x ≡ max (suc l + a) (max (suc l) y) → y ≡ max (l + n) z → max l x ≡ max (l + max (suc a) n) z
      all x y z a n l e f = omega arith
  level_closed (Conditional arms false s) l tail h = absurd (cc (h.0))

  level_closed_arms : (arms : Arms) (l : ℕ) (tail : List Token) → AreFormed false arms → levels l (arm_tokens arms ++ tail) ≡ max (l + arm_nest arms) (levels l tail)
  level_closed_arms (Lone test body) l tail h =
      let a : levels l (tokens test ++ (CondThen ∷ (tokens body ++ tail))) ≡ max (l + nest test) (levels l (CondThen ∷ (tokens body ++ tail))) = level_closed test l (CondThen ∷ (tokens body ++ tail)) h.0 in
      let b : levels l (tokens body ++ tail) ≡ max (l + nest body) (levels l tail) = level_closed body l tail h.1 in
      ap (λ x. levels l x) (append_assoc (tokens test) (CondThen ∷ tokens body) tail) ∙ omega arith
  level_closed_arms (Else test body otherwise) l tail h =
      let a : levels l (tokens test ++ (CondThen ∷ (tokens body ++ (CondElse ∷ (tokens otherwise ++ tail))))) ≡ max (l + nest test) (levels l (CondThen ∷ (tokens body ++ (CondElse ∷ (tokens otherwise ++ tail))))) =
      level_closed test l (CondThen ∷ (tokens body ++ (CondElse ∷ (tokens otherwise ++ tail)))) h.0 in
      let b : levels l (tokens body ++ (CondElse ∷ (tokens otherwise ++ tail))) ≡ max (l + nest body) (levels l (CondElse ∷ (tokens otherwise ++ tail))) = level_closed body l (CondElse ∷ (tokens otherwise ++ tail)) h.1 in
      let c : levels l (tokens otherwise ++ tail) ≡ max (l + nest otherwise) (levels l tail) = level_closed otherwise l tail h.2 in
      ap (λ x. levels l x) (simp append_assoc) ∙ all _ _ _ _ _ _ _ l a b c
    where
      all : (x y z w a b c l : ℕ) → x ≡ max (l + a) (max l y) → y ≡ max (l + b) (max l z) → z ≡ max (l + c) w → x ≡ max (l + max (max a b) c) w
      all x y z w a b c l p q r = omega arith
  level_closed_arms (ElseIf test body more) l tail h =
      let a : levels l (tokens test ++ (CondThen ∷ (tokens body ++ (CondElse ∷ (arm_tokens more ++ tail))))) ≡ max (l + nest test) (levels l (CondThen ∷ (tokens body ++ (CondElse ∷ (arm_tokens more ++ tail))))) =
      level_closed test l (CondThen ∷ (tokens body ++ (CondElse ∷ (arm_tokens more ++ tail)))) h.0 in
      let b : levels l (tokens body ++ (CondElse ∷ (arm_tokens more ++ tail))) ≡ max (l + nest body) (levels l (CondElse ∷ (arm_tokens more ++ tail))) = level_closed body l (CondElse ∷ (arm_tokens more ++ tail)) h.1 in
      let c : levels l (arm_tokens more ++ tail) ≡ max (l + arm_nest more) (levels l tail) = level_closed_arms more l tail h.2 in
      ap (λ x. levels l x) (simp append_assoc) ∙ all _ _ _ _ _ _ _ l a b c
    where
      all : (x y z w a b c l : ℕ) → x ≡ max (l + a) (max l y) → y ≡ max (l + b) (max l z) → z ≡ max (l + c) w → x ≡ max (l + max (max a b) c) w
      all x y z w a b c l p q r = omega arith

mutual
  pub level_tree : (s : Sequence) (l : ℕ) → IsFormed true s → levels l (tokens s) ≡ l + nest s
  level_tree Empty l h = omega arith
  level_tree (Simple k s) l h =
      let a : levels l (tokens s) ≡ l + nest s = level_tree s l h.1 in
      ap (λ x. max l (levels x (tokens s))) (simple_level l k h.0) ∙ omega arith
  level_tree (Conditional arms true s) l h =
      let a : levels (suc l) (arm_tokens arms ++ (CondClose ∷ tokens s)) ≡ max (suc l + arm_nest arms) (levels (suc l) (CondClose ∷ tokens s)) = level_closed_arms arms (suc l) (CondClose ∷ tokens s) h.0 in
      let b : levels l (tokens s) ≡ l + nest s = level_tree s l h.1 in
      omega arith
  level_tree (Conditional arms false s) l h =
      let a : levels (suc l) (arm_tokens arms) ≡ suc l + arm_nest arms = level_tree_arms arms (suc l) h.1 in
      let e : levels (suc l) (arm_tokens arms ++ tokens s) ≡ levels (suc l) (arm_tokens arms) =
      ap (λ x. levels (suc l) (arm_tokens arms ++ tokens x)) h.2 ∙ ap (λ x. levels (suc l) x) (append-nil (arm_tokens arms)) in
      let n : nest s ≡ 0 = ap nest h.2 in
      omega arith

  level_tree_arms : (arms : Arms) (l : ℕ) → AreFormed true arms → levels l (arm_tokens arms) ≡ l + arm_nest arms
  level_tree_arms (Lone test body) l h =
      let a : levels l (tokens test ++ (CondThen ∷ tokens body)) ≡ max (l + nest test) (levels l (CondThen ∷ tokens body)) = level_closed test l (CondThen ∷ tokens body) h.0 in
      let b : levels l (tokens body) ≡ l + nest body = level_tree body l h.1 in
      omega arith
  level_tree_arms (Else test body otherwise) l h =
      let a : levels l (tokens test ++ (CondThen ∷ (tokens body ++ (CondElse ∷ tokens otherwise)))) ≡ max (l + nest test) (levels l (CondThen ∷ (tokens body ++ (CondElse ∷ tokens otherwise)))) =
      level_closed test l (CondThen ∷ (tokens body ++ (CondElse ∷ tokens otherwise))) h.0 in
      let b : levels l (tokens body ++ (CondElse ∷ tokens otherwise)) ≡ max (l + nest body) (levels l (CondElse ∷ tokens otherwise)) = level_closed body l (CondElse ∷ tokens otherwise) h.1 in
      let c : levels l (tokens otherwise) ≡ l + nest otherwise = level_tree otherwise l h.2 in
      omega arith
  level_tree_arms (ElseIf test body more) l h =
      let a : levels l (tokens test ++ (CondThen ∷ (tokens body ++ (CondElse ∷ arm_tokens more)))) ≡ max (l + nest test) (levels l (CondThen ∷ (tokens body ++ (CondElse ∷ arm_tokens more)))) =
      level_closed test l (CondThen ∷ (tokens body ++ (CondElse ∷ arm_tokens more))) h.0 in
      let b : levels l (tokens body ++ (CondElse ∷ arm_tokens more)) ≡ max (l + nest body) (levels l (CondElse ∷ arm_tokens more)) = level_closed body l (CondElse ∷ arm_tokens more) h.1 in
      let c : levels l (arm_tokens more) ≡ l + arm_nest more = level_tree_arms more l h.2 in
      omega arith

-- ---- the parts of the open conditionals

then_level : (ps qs : List ConditionalPart) → at_then ps ≡ Some qs → length ps ≡ length qs
then_level [] qs e = absurd (cc)
then_level (FirstTest ∷ ps) qs e = ap (λ x. length x) (some e)
  where
    some : Some (Body ∷ ps) ≡ Some qs → Body ∷ ps ≡ qs
    some p = cc
then_level (Body ∷ ps) qs e = absurd (cc)
then_level (Otherwise ∷ ps) qs e = ap (λ x. length x) (some e)
  where
    some : Some (Body ∷ ps) ≡ Some qs → Body ∷ ps ≡ qs
    some p = cc

else_level : (ps qs : List ConditionalPart) → at_else ps ≡ Some qs → length ps ≡ length qs
else_level [] qs e = absurd (cc)
else_level (FirstTest ∷ ps) qs e = absurd (cc)
else_level (Otherwise ∷ ps) qs e = absurd (cc)
else_level (Body ∷ ps) qs e = ap (λ x. length x) (some e)
  where
    some : Some (Otherwise ∷ ps) ≡ Some qs → Otherwise ∷ ps ≡ qs
    some p = cc

close_level : (ps qs : List ConditionalPart) → at_close ps ≡ Some qs → below (length ps) ≡ length qs
close_level [] qs e = absurd (cc)
close_level (FirstTest ∷ ps) qs e = absurd (cc)
close_level (Body ∷ ps) qs e = ap (λ x. length x) (some e)
  where
    some : Some ps ≡ Some qs → ps ≡ qs
    some p = cc
close_level (Otherwise ∷ ps) qs e = ap (λ x. length x) (some e)
  where
    some : Some ps ≡ Some qs → ps ≡ qs
    some p = cc

open_level : (ps qs : List ConditionalPart) → Some (FirstTest ∷ ps) ≡ Some qs → suc (length ps) ≡ length qs
open_level ps qs e = ap (λ x. length x) (some e)
  where
    some : Some (FirstTest ∷ ps) ≡ Some qs → FirstTest ∷ ps ≡ qs
    some p = cc

same_level : (ps qs : List ConditionalPart) → Some ps ≡ Some qs → length ps ≡ length qs
same_level ps qs e = ap (λ x. length x) (some e)
  where
    some : Some ps ≡ Some qs → ps ≡ qs
    some p = cc

-- a token that may stand moves the number of open conditionals
pub allowed_level : (k : Token) (ps qs : List ConditionalPart) → allowed k ps ≡ Some qs → level_after (length ps) k ≡ length qs
allowed_level CondOpen ps qs e = open_level ps qs e
allowed_level CondThen ps qs e = then_level ps qs e
allowed_level CondElse ps qs e = else_level ps qs e
allowed_level CondClose ps qs e = close_level ps qs e
allowed_level _ ps qs e = same_level ps qs e

pub leads_level : (ps qs : List ConditionalPart) (ks : List Token) → Leads ps ks qs → end_level (length ps) ks ≡ length qs
leads_level ps qs [] e = ap (λ x. length x) (sym e)
leads_level ps qs (k ∷ ks) (ms, e, l) = ap (λ x. end_level x ks) (allowed_level k ps ms e) ∙ leads_level ms qs ks l
