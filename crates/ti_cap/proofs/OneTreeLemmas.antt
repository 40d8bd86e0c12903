-- Tokens are written by at most one tree.
use Rattle.std.proofs.Common.{◌≡◌, List, [], ◌∷◌, ◌++◌, refl, sym, ◌∙◌, ap, subst, Bool, true, false, append_assoc}
use Rattle.std.proofs.lemmas.List.{append-nil}
use Rattle.ti_cap.specs.declared.language.Token.{Token}
use Rattle.ti_cap.specs.declared.language.Token.TheVariants.{CondOpen, CondThen, CondElse, CondClose}
use Rattle.ti_cap.specs.Tree.{Sequence, Empty, Simple, Conditional, Arms, Lone, Else, ElseIf, tokens, arm_tokens, closing, IsSimple, IsFormed, AreFormed, IsTree}

-- what may stand after a sequence
abbrev Stops : List Token → Type 0
Stops [] = Unit {0}
Stops (CondThen ∷ x) = Unit {0}
Stops (CondElse ∷ x) = Unit {0}
Stops (CondClose ∷ x) = Unit {0}
Stops _ = ⊥

-- what may stand after the arms of a conditional
abbrev Ends : List Token → Type 0
Ends [] = Unit {0}
Ends (CondClose ∷ x) = Unit {0}
Ends _ = ⊥

ends_stops : (x : List Token) → Ends x → Stops x
ends_stops [] h = tt
ends_stops (CondClose ∷ x) h = tt
ends_stops (_ ∷ x) h = absurd h

stops_simple : (k : Token) (x : List Token) → IsSimple k → Stops (k ∷ x) → ⊥
stops_simple CondOpen x h g = h
stops_simple CondThen x h g = h
stops_simple CondElse x h g = h
stops_simple CondClose x h g = h
stops_simple _ x h g = g

stops_as : (x y : List Token) → x ≡ y → Stops x → Stops y
stops_as x y e h = let P : List Token → Type 0 = λ z. Stops z in subst P e h

ends_as : (x y : List Token) → x ≡ y → Ends x → Ends y
ends_as x y e h = let P : List Token → Type 0 = λ z. Ends z in subst P e h

-- only where the end may end conditionals is nothing left
abbrev Left : Bool → List Token → Type 0
Left loose x = loose ≡ true → x ≡ []

closed_left : (x : List Token) → Left false x
closed_left x e = absurd (cc)

record SameSeq (s t : Sequence) (x y : List Token) : Type 0 where
  seq : s ≡ t
  rest : x ≡ y

record SameArms (a b : Arms) (x y : List Token) : Type 0 where
  arms : a ≡ b
  rest : x ≡ y

-- the first test and what stands after its `%t`
abbrev first : Arms → Sequence
first (Lone t s) = t
first (Else t s o) = t
first (ElseIf t s a) = t

abbrev after_it : Arms → List Token
after_it (Lone t s) = tokens s
after_it (Else t s o) = tokens s ++ CondElse ∷ tokens o
after_it (ElseIf t s a) = tokens s ++ CondElse ∷ arm_tokens a

opened : (a : Arms) (y : List Token) → arm_tokens a ++ y ≡ tokens (first a) ++ CondThen ∷ (after_it a ++ y)
opened (Lone t s) y = append_assoc (tokens t) (CondThen ∷ tokens s) y
opened (Else t s o) y = append_assoc (tokens t) (CondThen ∷ (tokens s ++ CondElse ∷ tokens o)) y
opened (ElseIf t s a) y = append_assoc (tokens t) (CondThen ∷ (tokens s ++ CondElse ∷ arm_tokens a)) y

first_formed : (loose : Bool) (a : Arms) → AreFormed loose a → IsFormed false (first a)
first_formed loose (Lone t s) h = h.0
first_formed loose (Else t s o) h = h.0
first_formed loose (ElseIf t s a) h = h.0

tail_is : (k l : Token) (x y : List Token) → k ∷ x ≡ l ∷ y → x ≡ y
tail_is k l x y e = cc

head_is : (k l : Token) (x y : List Token) → k ∷ x ≡ l ∷ y → k ≡ l
head_is k l x y e = cc

if_tokens : (a : Arms) (c : Bool) (s : Sequence) (x : List Token) → tokens (Conditional a c s) ++ x ≡ CondOpen ∷ (arm_tokens a ++ (closing c ++ (tokens s ++ x)))
if_tokens a c s x = ap (λ z. CondOpen ∷ z) (append_assoc (arm_tokens a) (closing c ++ tokens s) x ∙ ap (λ z. arm_tokens a ++ z) (append_assoc (closing c) (tokens s) x))

mutual
  unique : (l m : Bool) (s t : Sequence) (x y : List Token) → IsFormed l s → IsFormed m t → Stops x → Left l x → Stops y → Left m y → tokens s ++ x ≡ tokens t ++ y → SameSeq s t x y
  unique l m Empty Empty x y h g sx lx sy ly e = record { seq = refl; rest = e }
  unique l m Empty (Simple k t) x y h g sx lx sy ly e = absurd (stops_simple k (tokens t ++ y) g.0 (stops_as x (k ∷ (tokens t ++ y)) e sx))
  unique l m Empty (Conditional a c t) x y h g sx lx sy ly e = absurd (stops_as x _ e sx)
  unique l m (Simple k s) Empty x y h g sx lx sy ly e = absurd (stops_simple k (tokens s ++ x) h.0 (stops_as y (k ∷ (tokens s ++ x)) (sym e) sy))
  unique l m (Simple k s) (Simple j t) x y h g sx lx sy ly e =
      let r : SameSeq s t x y = unique l m s t x y h.1 g.1 sx lx sy ly (tail_is k j _ _ e) in
      let q : k ≡ j = head_is k j _ _ e in
      record { seq = cc (q, r.seq); rest = r.rest }
  unique l m (Simple k s) (Conditional a c t) x y h g sx lx sy ly e =
      let P : Token → Type 0 = λ z. IsSimple z in absurd (subst P (head_is k CondOpen _ _ e) h.0)
  unique l m (Conditional a c s) Empty x y h g sx lx sy ly e = absurd (stops_as y _ (sym e) sy)
  unique l m (Conditional a c s) (Simple k t) x y h g sx lx sy ly e =
      let P : Token → Type 0 = λ z. IsSimple z in absurd (subst P (sym (head_is CondOpen k _ _ e)) g.0)
  unique l m (Conditional a true s) (Conditional b true t) x y h g sx lx sy ly e =
      let r : SameArms a b (CondClose ∷ (tokens s ++ x)) (CondClose ∷ (tokens t ++ y)) =
      unique_arms false false a b _ _ h.0 g.0 tt (closed_left _) tt (closed_left _) (tail_is CondOpen CondOpen _ _ (sym (if_tokens a true s x) ∙ e ∙ if_tokens b true t y)) in
      let q : SameSeq s t x y = unique l m s t x y h.1 g.1 sx lx sy ly (tail_is CondClose CondClose _ _ r.rest) in
      record { seq = cc (r.arms, q.seq); rest = q.rest }
  unique l m (Conditional a true s) (Conditional b false t) x y h g sx lx sy ly e =
      let none : tokens t ++ y ≡ [] = ap (λ z. tokens z ++ y) g.2 ∙ ly g.0 in
      let r : SameArms a b (CondClose ∷ (tokens s ++ x)) [] =
      unique_arms false true a b _ _ h.0 g.1 tt (closed_left _) tt (λ z. refl)
      (tail_is CondOpen CondOpen _ _ (sym (if_tokens a true s x) ∙ e ∙ if_tokens b false t y ∙ ap (λ z. CondOpen ∷ (arm_tokens b ++ z)) none)) in
      let f : CondClose ∷ (tokens s ++ x) ≡ [] = r.rest in absurd (cc)
  unique l m (Conditional a false s) (Conditional b true t) x y h g sx lx sy ly e =
      let none : tokens s ++ x ≡ [] = ap (λ z. tokens z ++ x) h.2 ∙ lx h.0 in
      let r : SameArms a b [] (CondClose ∷ (tokens t ++ y)) =
      unique_arms true false a b _ _ h.1 g.0 tt (λ z. refl) tt (closed_left _)
      (tail_is CondOpen CondOpen _ _ (sym (if_tokens a false s x ∙ ap (λ z. CondOpen ∷ (arm_tokens a ++ z)) none) ∙ e ∙ if_tokens b true t y)) in
      let f : [] ≡ CondClose ∷ (tokens t ++ y) = r.rest in absurd (cc)
  unique l m (Conditional a false s) (Conditional b false t) x y h g sx lx sy ly e =
      let none : tokens s ++ x ≡ [] = ap (λ z. tokens z ++ x) h.2 ∙ lx h.0 in
      let none' : tokens t ++ y ≡ [] = ap (λ z. tokens z ++ y) g.2 ∙ ly g.0 in
      let r : SameArms a b [] [] =
      unique_arms true true a b [] [] h.1 g.1 tt (λ z. refl) tt (λ z. refl)
      (tail_is CondOpen CondOpen _ _ (sym (if_tokens a false s x ∙ ap (λ z. CondOpen ∷ (arm_tokens a ++ z)) none) ∙ e ∙ if_tokens b false t y ∙ ap (λ z. CondOpen ∷ (arm_tokens b ++ z)) none')) in
      let q : s ≡ t = h.2 ∙ sym g.2 in
      record { seq = cc (r.arms, q); rest = lx h.0 ∙ sym (ly g.0) }

  unique_arms : (l m : Bool) (a b : Arms) (x y : List Token) → AreFormed l a → AreFormed m b → Ends x → Left l x → Ends y → Left m y → arm_tokens a ++ x ≡ arm_tokens b ++ y → SameArms a b x y
  unique_arms l m (Lone t s) (Lone t' s') x y h g ex lx ey ly e =
      let r : SameSeq t t' (CondThen ∷ (after_it (Lone t s) ++ x)) (CondThen ∷ (after_it (Lone t' s') ++ y)) =
      unique false false t t' _ _ h.0 g.0 tt (closed_left _) tt (closed_left _) (sym (opened (Lone t s) x) ∙ e ∙ opened (Lone t' s') y) in
      let d : after_it (Lone t s) ++ x ≡ after_it (Lone t' s') ++ y = tail_is CondThen CondThen _ _ r.rest in
      let q : SameSeq s s' x y = unique l m s s' x y h.1 g.1 (ends_stops x ex) lx (ends_stops y ey) ly d in
      record { arms = cc (r.seq, q.seq); rest = q.rest }
  unique_arms l m (Lone t s) (Else t' s' o') x y h g ex lx ey ly e =
      let r : SameSeq t t' (CondThen ∷ (after_it (Lone t s) ++ x)) (CondThen ∷ (after_it (Else t' s' o') ++ y)) =
      unique false false t t' _ _ h.0 g.0 tt (closed_left _) tt (closed_left _) (sym (opened (Lone t s) x) ∙ e ∙ opened (Else t' s' o') y) in
      let d : after_it (Lone t s) ++ x ≡ after_it (Else t' s' o') ++ y = tail_is CondThen CondThen _ _ r.rest in
      let q : SameSeq s s' x (CondElse ∷ (tokens o' ++ y)) = unique l false s s' x _ h.1 g.1 (ends_stops x ex) lx tt (closed_left _) (d ∙ append_assoc (tokens s') (CondElse ∷ tokens o') y) in
      absurd (ends_as x _ q.rest ex)
  unique_arms l m (Lone t s) (ElseIf t' s' b) x y h g ex lx ey ly e =
      let r : SameSeq t t' (CondThen ∷ (after_it (Lone t s) ++ x)) (CondThen ∷ (after_it (ElseIf t' s' b) ++ y)) =
      unique false false t t' _ _ h.0 g.0 tt (closed_left _) tt (closed_left _) (sym (opened (Lone t s) x) ∙ e ∙ opened (ElseIf t' s' b) y) in
      let d : after_it (Lone t s) ++ x ≡ after_it (ElseIf t' s' b) ++ y = tail_is CondThen CondThen _ _ r.rest in
      let q : SameSeq s s' x (CondElse ∷ (arm_tokens b ++ y)) = unique l false s s' x _ h.1 g.1 (ends_stops x ex) lx tt (closed_left _) (d ∙ append_assoc (tokens s') (CondElse ∷ arm_tokens b) y) in
      absurd (ends_as x _ q.rest ex)
  unique_arms l m (Else t s o) (Lone t' s') x y h g ex lx ey ly e =
      let r : SameSeq t t' (CondThen ∷ (after_it (Else t s o) ++ x)) (CondThen ∷ (after_it (Lone t' s') ++ y)) =
      unique false false t t' _ _ h.0 g.0 tt (closed_left _) tt (closed_left _) (sym (opened (Else t s o) x) ∙ e ∙ opened (Lone t' s') y) in
      let d : after_it (Else t s o) ++ x ≡ after_it (Lone t' s') ++ y = tail_is CondThen CondThen _ _ r.rest in
      let q : SameSeq s s' (CondElse ∷ (tokens o ++ x)) y = unique false m s s' _ y h.1 g.1 tt (closed_left _) (ends_stops y ey) ly (sym (append_assoc (tokens s) (CondElse ∷ tokens o) x) ∙ d) in
      absurd (ends_as y _ (sym q.rest) ey)
  unique_arms l m (Else t s o) (Else t' s' o') x y h g ex lx ey ly e =
      let r : SameSeq t t' (CondThen ∷ (after_it (Else t s o) ++ x)) (CondThen ∷ (after_it (Else t' s' o') ++ y)) =
      unique false false t t' _ _ h.0 g.0 tt (closed_left _) tt (closed_left _) (sym (opened (Else t s o) x) ∙ e ∙ opened (Else t' s' o') y) in
      let d : after_it (Else t s o) ++ x ≡ after_it (Else t' s' o') ++ y = tail_is CondThen CondThen _ _ r.rest in
      let q : SameSeq s s' (CondElse ∷ (tokens o ++ x)) (CondElse ∷ (tokens o' ++ y)) = unique false false s s' _ _ h.1 g.1 tt (closed_left _) tt (closed_left _)
      (sym (append_assoc (tokens s) (CondElse ∷ tokens o) x) ∙ d ∙ append_assoc (tokens s') (CondElse ∷ tokens o') y) in
      let f : tokens o ++ x ≡ tokens o' ++ y = tail_is CondElse CondElse _ _ q.rest in
      let v : SameSeq o o' x y = unique l m o o' x y h.2 g.2 (ends_stops x ex) lx (ends_stops y ey) ly f in
      record { arms = cc (r.seq, q.seq, v.seq); rest = v.rest }
  unique_arms l m (Else t s o) (ElseIf t' s' b) x y h g ex lx ey ly e =
      let r : SameSeq t t' (CondThen ∷ (after_it (Else t s o) ++ x)) (CondThen ∷ (after_it (ElseIf t' s' b) ++ y)) =
      unique false false t t' _ _ h.0 g.0 tt (closed_left _) tt (closed_left _) (sym (opened (Else t s o) x) ∙ e ∙ opened (ElseIf t' s' b) y) in
      let d : after_it (Else t s o) ++ x ≡ after_it (ElseIf t' s' b) ++ y = tail_is CondThen CondThen _ _ r.rest in
      let q : SameSeq s s' (CondElse ∷ (tokens o ++ x)) (CondElse ∷ (arm_tokens b ++ y)) = unique false false s s' _ _ h.1 g.1 tt (closed_left _) tt (closed_left _)
      (sym (append_assoc (tokens s) (CondElse ∷ tokens o) x) ∙ d ∙ append_assoc (tokens s') (CondElse ∷ arm_tokens b) y) in
      let f : tokens o ++ x ≡ arm_tokens b ++ y = tail_is CondElse CondElse _ _ q.rest in
      let v : SameSeq o (first b) x (CondThen ∷ (after_it b ++ y)) = unique l false o (first b) x _ h.2 (first_formed m b g.2) (ends_stops x ex) lx tt (closed_left _) (f ∙ opened b y) in
      absurd (ends_as x _ v.rest ex)
  unique_arms l m (ElseIf t s a) (Lone t' s') x y h g ex lx ey ly e =
      let r : SameSeq t t' (CondThen ∷ (after_it (ElseIf t s a) ++ x)) (CondThen ∷ (after_it (Lone t' s') ++ y)) =
      unique false false t t' _ _ h.0 g.0 tt (closed_left _) tt (closed_left _) (sym (opened (ElseIf t s a) x) ∙ e ∙ opened (Lone t' s') y) in
      let d : after_it (ElseIf t s a) ++ x ≡ after_it (Lone t' s') ++ y = tail_is CondThen CondThen _ _ r.rest in
      let q : SameSeq s s' (CondElse ∷ (arm_tokens a ++ x)) y = unique false m s s' _ y h.1 g.1 tt (closed_left _) (ends_stops y ey) ly (sym (append_assoc (tokens s) (CondElse ∷ arm_tokens a) x) ∙ d) in
      absurd (ends_as y _ (sym q.rest) ey)
  unique_arms l m (ElseIf t s (Lone t2 s2)) (Else t' s' o') x y h g ex lx ey ly e =
      let r : SameSeq t t' (CondThen ∷ (after_it (ElseIf t s (Lone t2 s2)) ++ x)) (CondThen ∷ (after_it (Else t' s' o') ++ y)) =
      unique false false t t' _ _ h.0 g.0 tt (closed_left _) tt (closed_left _) (sym (opened (ElseIf t s (Lone t2 s2)) x) ∙ e ∙ opened (Else t' s' o') y) in
      let d : after_it (ElseIf t s (Lone t2 s2)) ++ x ≡ after_it (Else t' s' o') ++ y = tail_is CondThen CondThen _ _ r.rest in
      let q : SameSeq s s' (CondElse ∷ (arm_tokens (Lone t2 s2) ++ x)) (CondElse ∷ (tokens o' ++ y)) = unique false false s s' _ _ h.1 g.1 tt (closed_left _) tt (closed_left _)
      (sym (append_assoc (tokens s) (CondElse ∷ arm_tokens (Lone t2 s2)) x) ∙ d ∙ append_assoc (tokens s') (CondElse ∷ tokens o') y) in
      let f : arm_tokens (Lone t2 s2) ++ x ≡ tokens o' ++ y = tail_is CondElse CondElse _ _ q.rest in
      let v : SameSeq t2 o' (CondThen ∷ (after_it (Lone t2 s2) ++ x)) y = unique false m t2 o' _ y h.2.0 g.2 tt (closed_left _) (ends_stops y ey) ly (sym (opened (Lone t2 s2) x) ∙ f) in
      absurd (ends_as y _ (sym v.rest) ey)
  unique_arms l m (ElseIf t s (Else t2 s2 o2)) (Else t' s' o') x y h g ex lx ey ly e =
      let r : SameSeq t t' (CondThen ∷ (after_it (ElseIf t s (Else t2 s2 o2)) ++ x)) (CondThen ∷ (after_it (Else t' s' o') ++ y)) =
      unique false false t t' _ _ h.0 g.0 tt (closed_left _) tt (closed_left _) (sym (opened (ElseIf t s (Else t2 s2 o2)) x) ∙ e ∙ opened (Else t' s' o') y) in
      let d : after_it (ElseIf t s (Else t2 s2 o2)) ++ x ≡ after_it (Else t' s' o') ++ y = tail_is CondThen CondThen _ _ r.rest in
      let q : SameSeq s s' (CondElse ∷ (arm_tokens (Else t2 s2 o2) ++ x)) (CondElse ∷ (tokens o' ++ y)) = unique false false s s' _ _ h.1 g.1 tt (closed_left _) tt (closed_left _)
      (sym (append_assoc (tokens s) (CondElse ∷ arm_tokens (Else t2 s2 o2)) x) ∙ d ∙ append_assoc (tokens s') (CondElse ∷ tokens o') y) in
      let f : arm_tokens (Else t2 s2 o2) ++ x ≡ tokens o' ++ y = tail_is CondElse CondElse _ _ q.rest in
      let v : SameSeq t2 o' (CondThen ∷ (after_it (Else t2 s2 o2) ++ x)) y = unique false m t2 o' _ y h.2.0 g.2 tt (closed_left _) (ends_stops y ey) ly (sym (opened (Else t2 s2 o2) x) ∙ f) in
      absurd (ends_as y _ (sym v.rest) ey)
  unique_arms l m (ElseIf t s (ElseIf t2 s2 a2)) (Else t' s' o') x y h g ex lx ey ly e =
      let r : SameSeq t t' (CondThen ∷ (after_it (ElseIf t s (ElseIf t2 s2 a2)) ++ x)) (CondThen ∷ (after_it (Else t' s' o') ++ y)) =
      unique false false t t' _ _ h.0 g.0 tt (closed_left _) tt (closed_left _) (sym (opened (ElseIf t s (ElseIf t2 s2 a2)) x) ∙ e ∙ opened (Else t' s' o') y) in
      let d : after_it (ElseIf t s (ElseIf t2 s2 a2)) ++ x ≡ after_it (Else t' s' o') ++ y = tail_is CondThen CondThen _ _ r.rest in
      let q : SameSeq s s' (CondElse ∷ (arm_tokens (ElseIf t2 s2 a2) ++ x)) (CondElse ∷ (tokens o' ++ y)) = unique false false s s' _ _ h.1 g.1 tt (closed_left _) tt (closed_left _)
      (sym (append_assoc (tokens s) (CondElse ∷ arm_tokens (ElseIf t2 s2 a2)) x) ∙ d ∙ append_assoc (tokens s') (CondElse ∷ tokens o') y) in
      let f : arm_tokens (ElseIf t2 s2 a2) ++ x ≡ tokens o' ++ y = tail_is CondElse CondElse _ _ q.rest in
      let v : SameSeq t2 o' (CondThen ∷ (after_it (ElseIf t2 s2 a2) ++ x)) y = unique false m t2 o' _ y h.2.0 g.2 tt (closed_left _) (ends_stops y ey) ly (sym (opened (ElseIf t2 s2 a2) x) ∙ f) in
      absurd (ends_as y _ (sym v.rest) ey)
  unique_arms l m (ElseIf t s a) (ElseIf t' s' b) x y h g ex lx ey ly e =
      let r : SameSeq t t' (CondThen ∷ (after_it (ElseIf t s a) ++ x)) (CondThen ∷ (after_it (ElseIf t' s' b) ++ y)) =
      unique false false t t' _ _ h.0 g.0 tt (closed_left _) tt (closed_left _) (sym (opened (ElseIf t s a) x) ∙ e ∙ opened (ElseIf t' s' b) y) in
      let d : after_it (ElseIf t s a) ++ x ≡ after_it (ElseIf t' s' b) ++ y = tail_is CondThen CondThen _ _ r.rest in
      let q : SameSeq s s' (CondElse ∷ (arm_tokens a ++ x)) (CondElse ∷ (arm_tokens b ++ y)) = unique false false s s' _ _ h.1 g.1 tt (closed_left _) tt (closed_left _)
      (sym (append_assoc (tokens s) (CondElse ∷ arm_tokens a) x) ∙ d ∙ append_assoc (tokens s') (CondElse ∷ arm_tokens b) y) in
      let f : arm_tokens a ++ x ≡ arm_tokens b ++ y = tail_is CondElse CondElse _ _ q.rest in
      let v : SameArms a b x y = unique_arms l m a b x y h.2 g.2 ex lx ey ly f in
      record { arms = cc (r.seq, q.seq, v.arms); rest = v.rest }

-- tokens have at most one tree
pub one_tree : (s t : Sequence) → IsTree s → IsTree t → tokens s ≡ tokens t → s ≡ t
one_tree s t h g e =
    let r : SameSeq s t [] [] = unique true true s t [] [] h g tt (λ z. refl) tt (λ z. refl) (append-nil (tokens s) ∙ e ∙ sym (append-nil (tokens t))) in r.seq
