-- Where a token may stand, and the fault if it may not.
use Rattle.std.proofs.Common.{◌≡◌, ◌≢◌, ℕ, ◌<◌, ◌≤◌, inl, inr, List, [], ◌∷◌, ◌++◌, length, refl, sym, ◌∙◌, ap, subst, arith, Bool, true, false, cond}
use Rattle.std.specs.Prelude.{Some, None, nat_lt, ◌||◌, fold}
use Rattle.ti_base.specs.Limits.{most_open}
use Rattle.ti_cap.specs.declared.language.Token.{Token}
use Rattle.ti_cap.specs.declared.language.Token.TheVariants.{CondOpen, CondThen, CondElse, CondClose}
use Rattle.ti_cap.specs.declared.language.CapFault.{CapFault}
use Rattle.ti_cap.specs.declared.language.CapFault.TheVariants.{NestTooDeep}
use Rattle.ti_cap.specs.Tree.{IsTree, Sequence, tokens}
use Rattle.ti_cap.specs.declared.scan.ConditionalPart.{ConditionalPart}
use Rattle.ti_cap.specs.declared.scan.ConditionalPart.TheVariants.{FirstTest, Body, Otherwise}
use Rattle.ti_cap.specs.Refusal.{next_parts, parts_from, open_parts, IsInFirstTest, IsNext, IsFaultBetween}
use Rattle.ti_cap.specs.inner.Analysis.{Frame, place_fault, parts_of, is_first, are_in_test}
use Rattle.ti_cap.proofs.PartsLemmas.{allowed, Leads, AreSettled, Opens, opens}
use Rattle.ti_cap.proofs.ClimbsLemmas.{stray, leads_one}

-- ---- the parts of the refusal are those that the tokens lead to

next_allowed : (k : Token) (ps qs : List ConditionalPart) → allowed k ps ≡ Some qs → next_parts ps k ≡ qs
next_allowed CondOpen ps qs e = cc
next_allowed CondThen [] qs e = absurd (cc)
next_allowed CondThen (FirstTest ∷ ps) qs e = cc
next_allowed CondThen (Body ∷ ps) qs e = absurd (cc)
next_allowed CondThen (Otherwise ∷ ps) qs e = cc
next_allowed CondElse [] qs e = absurd (cc)
next_allowed CondElse (FirstTest ∷ ps) qs e = absurd (cc)
next_allowed CondElse (Body ∷ ps) qs e = cc
next_allowed CondElse (Otherwise ∷ ps) qs e = absurd (cc)
next_allowed CondClose [] qs e = absurd (cc)
next_allowed CondClose (FirstTest ∷ ps) qs e = absurd (cc)
next_allowed CondClose (Body ∷ ps) qs e = cc
next_allowed CondClose (Otherwise ∷ ps) qs e = cc
next_allowed _ ps qs e = cc

leads_from : (ps qs : List ConditionalPart) (ks : List Token) → Leads ps ks qs → parts_from ps ks ≡ qs
leads_from ps qs [] e = sym e
leads_from ps qs (k ∷ ks) (ms, e, l) = ap (λ x. parts_from x ks) (next_allowed k ps ms e) ∙ leads_from ms qs ks l

pub leads_open : (qs : List ConditionalPart) (ks : List Token) → Leads [] ks qs → open_parts ks ≡ qs
leads_open qs ks l = leads_from [] qs ks l

-- ---- a token that is not misplaced may stand

pub goes_on : (k : Token) (ps : List ConditionalPart) → place_fault k ps ≡ None → (qs : List ConditionalPart) × (allowed k ps ≡ Some qs)
goes_on CondOpen ps e = (FirstTest ∷ ps, refl)
goes_on CondThen [] e = absurd (cc)
goes_on CondThen (FirstTest ∷ ps) e = (Body ∷ ps, refl)
goes_on CondThen (Body ∷ ps) e = absurd (cc)
goes_on CondThen (Otherwise ∷ ps) e = (Body ∷ ps, refl)
goes_on CondElse [] e = absurd (cc)
goes_on CondElse (FirstTest ∷ ps) e = absurd (cc)
goes_on CondElse (Body ∷ ps) e = (Otherwise ∷ ps, refl)
goes_on CondElse (Otherwise ∷ ps) e = absurd (cc)
goes_on CondClose [] e = absurd (cc)
goes_on CondClose (FirstTest ∷ ps) e = absurd (cc)
goes_on CondClose (Body ∷ ps) e = (ps, refl)
goes_on CondClose (Otherwise ∷ ps) e = (ps, refl)
goes_on _ ps e = (ps, refl)

lt_by : (a b : ℕ) (f : CapFault) → cond (nat_lt a b) None (Some f) ≡ None → a < b
lt_by a b f e = grind arith

-- a `%?` that is not misplaced is at most the 32nd
pub has_room : (ps : List ConditionalPart) → place_fault CondOpen ps ≡ None → length ps < most_open
has_room ps e = lt_by (length ps) most_open NestTooDeep e

-- ---- a misplaced token is at fault

become : (f g : CapFault) (before : List Token) (rest : List ℕ) → Some f ≡ Some g → IsFaultBetween f before rest → IsFaultBetween g before rest
become f g before rest e h = let is : f ≡ g = cc in let P : CapFault → Type 0 = λ x. IsFaultBetween x before rest in subst P is h

pub misplaced_fault : (k : Token) (ps : List ConditionalPart) (f : CapFault) (before : List Token) (rest : List ℕ) → place_fault k ps ≡ Some f → Leads [] before ps → IsNext k rest
    → IsFaultBetween f before rest
misplaced_fault CondOpen ps f before rest e l n = too_deep (nat_lt (length ps) most_open) refl e
  where
    too_deep : (b : Bool) → nat_lt (length ps) most_open ≡ b → cond b None (Some NestTooDeep) ≡ Some f → IsFaultBetween f before rest
    too_deep true t g = absurd (cc)
    too_deep false t g =
        let is : NestTooDeep ≡ f = cc in
        let P : CapFault → Type 0 = λ x. IsFaultBetween x before rest in
        let long : most_open ≤ length ps = grind arith in
        let same : length (open_parts before) ≡ length ps = ap (λ x. length x) (leads_open ps before l) in
        subst P is (n, omega arith)
misplaced_fault CondThen [] f before rest e l n = become _ f before rest e (n, stray before [] CondThen l refl)
misplaced_fault CondThen (FirstTest ∷ ps) f before rest e l n = absurd (cc)
misplaced_fault CondThen (Body ∷ ps) f before rest e l n = become _ f before rest e (n, stray before (Body ∷ ps) CondThen l refl)
misplaced_fault CondThen (Otherwise ∷ ps) f before rest e l n = absurd (cc)
misplaced_fault CondElse [] f before rest e l n =
    let Q : List ConditionalPart → Type 0 = λ x. ¬ IsInFirstTest x in
    let out : ¬ IsInFirstTest [] = λ z. z in
    become _ f before rest e ((n, stray before [] CondElse l refl), subst Q (sym (leads_open [] before l)) out)
misplaced_fault CondElse (FirstTest ∷ ps) f before rest e l n =
    let Q : List ConditionalPart → Type 0 = λ x. IsInFirstTest x in
    become _ f before rest e (inl ((n, stray before (FirstTest ∷ ps) CondElse l refl), subst Q (sym (leads_open (FirstTest ∷ ps) before l)) tt))
misplaced_fault CondElse (Body ∷ ps) f before rest e l n = absurd (cc)
misplaced_fault CondElse (Otherwise ∷ ps) f before rest e l n =
    let Q : List ConditionalPart → Type 0 = λ x. ¬ IsInFirstTest x in
    let out : ¬ IsInFirstTest (Otherwise ∷ ps) = λ z. z in
    become _ f before rest e ((n, stray before (Otherwise ∷ ps) CondElse l refl), subst Q (sym (leads_open (Otherwise ∷ ps) before l)) out)
misplaced_fault CondClose [] f before rest e l n =
    become _ f before rest e ((n, stray before [] CondClose l refl), leads_open [] before l)
misplaced_fault CondClose (FirstTest ∷ ps) f before rest e l n =
    let some : open_parts before ≢ [] = λ z. nonempty FirstTest ps (sym (leads_open (FirstTest ∷ ps) before l) ∙ z) in
    become _ f before rest e (inr (inl ((n, stray before (FirstTest ∷ ps) CondClose l refl), some)))
  where
    nonempty : (p : ConditionalPart) (ps : List ConditionalPart) → p ∷ ps ≢ []
    nonempty p ps e = absurd (cc)
misplaced_fault CondClose (Body ∷ ps) f before rest e l n = absurd (cc)
misplaced_fault CondClose (Otherwise ∷ ps) f before rest e l n = absurd (cc)
misplaced_fault _ ps f before rest e l n = absurd (cc)

-- ---- the end

-- a tree leaves no conditional in its first test
pub settled : (tree : Sequence) (ps : List ConditionalPart) → IsTree tree → Leads [] (tokens tree) ps → AreSettled ps
settled tree ps formed l =
    let o : Opens true [] (tokens tree) = opens true [] tree formed in
    let P : List ConditionalPart → Type 0 = λ x. AreSettled x in
    let Q : List ConditionalPart → Type 0 = λ x. AreSettled x in
    subst Q (leads_one [] (o.new ++ []) ps (tokens tree) o.leads l) (subst P (nil o.new) o.settled)
  where
    nil : (xs : List ConditionalPart) → xs ≡ xs ++ []
    nil [] = refl
    nil (x ∷ xs) = ap (λ z. x ∷ z) (nil xs)

not_first : (p : ConditionalPart) → is_first p ≡ false → p ≢ FirstTest
not_first FirstTest e z = absurd (cc)
not_first _ e z = absurd (cc)

first : (p : ConditionalPart) → is_first p ≡ true → p ≡ FirstTest
first FirstTest e = refl
first Body e = absurd (cc)
first Otherwise e = absurd (cc)

settled_from : (b : Bool) (frames : List Frame) → fold (λ found f. found || is_first f.part) b frames ≡ false → (b ≡ false) × AreSettled (parts_of frames)
settled_from b [] e = (e, tt)
settled_from b (f ∷ fs) e =
    let r : ((b || is_first f.part) ≡ false) × AreSettled (parts_of fs) = settled_from (b || is_first f.part) fs e in
    (left b (is_first f.part) r.0, (not_first f.part (right b (is_first f.part) r.0), r.1))
  where
    left : (a b : Bool) → a || b ≡ false → a ≡ false
    left true b e = absurd (cc)
    left false b e = refl

    right : (a b : Bool) → a || b ≡ false → b ≡ false
    right true b e = absurd (cc)
    right false b e = e

-- no frame is in a first test
pub settled_by : (frames : List Frame) → are_in_test frames ≡ false → AreSettled (parts_of frames)
settled_by frames e = (settled_from false frames e).1

unsettled_from : (b : Bool) (frames : List Frame) → fold (λ found f. found || is_first f.part) b frames ≡ true → AreSettled (parts_of frames) → b ≡ true
unsettled_from b [] e s = e
unsettled_from b (f ∷ fs) e s = either b (is_first f.part) refl (unsettled_from (b || is_first f.part) fs e s.1)
  where
    either : (a c : Bool) → is_first f.part ≡ c → a || c ≡ true → a ≡ true
    either true c is e = refl
    either false true is e = absurd (s.0 (first f.part is))
    either false false is e = absurd (cc)

pub unsettled_by : (frames : List Frame) → are_in_test frames ≡ true → ¬ AreSettled (parts_of frames)
unsettled_by frames e s = let r : false ≡ true = unsettled_from false frames e s in absurd (cc)
