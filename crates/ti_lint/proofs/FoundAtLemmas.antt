-- The list of findings, against the tokens that were taken.
use Rattle.std.proofs.Common.{◌≡◌, ℕ, ◌+◌, ◌<◌, ◌⊎◌, inl, inr, ◌↔◌, List, [], ◌∷◌, ◌++◌, length, take, lit<, refl, sym, ◌∙◌, ap, subst, arith, Contains, All, AllPairs, append_assoc, length-append}
use Rattle.std.specs.Prelude.{Option, Some, None}
use Rattle.std.proofs.lemmas.List.{append-nil, append_cancel_left, take_at}
use Rattle.std.proofs.lemmas.List.Elements.{Contains-push, Contains-push_cases, Contains-append_left, All-nil, All-push, All-weaker}
use Rattle.std.proofs.lemmas.List.Quantifiers.{all_pairs_push}
use Rattle.ti_cap.specs.declared.language.Token.{Token}
use Rattle.ti_cap.specs.Tree.{tokens}
use Rattle.ti_cap.specs.Spelling.{Written}
use Rattle.ti_cap.specs.Capability.{Spot, IsWellFormed, Takes, IsFirst, whole}
use Rattle.ti_cap.proofs.WrittenLemmas.{Same, one_form, one_cutting, spelled_long, written-append, written_one}
use Rattle.ti_lint.specs.declared.expected.Expected.{Expected}
use Rattle.ti_lint.specs.declared.token_finding.TokenFinding.{TokenFinding}
use Rattle.ti_lint.specs.declared.token_finding.TokenFinding.TheVariants.{StackUnderflow, TermcapParameter, ParameterRange, RepeatedIncrement, UnsetVariable, OperandType, StackResidue, UnusedIncrement, LateIncrement, DeadStore, NoEffect, ConstantCondition, RepeatedCondition}
use Rattle.ti_lint.specs.declared.placed_finding.PlacedFinding.{PlacedFinding}
use Rattle.ti_lint.specs.OnSomePath.{Stands}
use Rattle.ti_lint.specs.Conditionals.{IsFoundAmong}
use Rattle.ti_lint.specs.Findings.{Underway, IsFoundBefore, IsFoundAfter, IsFoundWithin}
use Rattle.ti_lint.specs.Found.{IsFoundAt, Precedes, rank}
use Rattle.ti_lint.specs.inner.Found.{found_at}
use Rattle.ti_lint.proofs.AtLemmas.{same_whole}

-- ---- one token at one place

-- tokens write one front of the bytes
same_front : (ks : List Token) (a b x y : List ℕ) → Written ks a → Written ks b → a ++ x ≡ b ++ y → (a ≡ b) × (x ≡ y)
same_front [] a b x y wa wb e = (wa ∙ sym wb, ap (λ z. z ++ x) (sym wa) ∙ e ∙ ap (λ z. z ++ y) wb)
same_front (k ∷ ks) a b x y (s, tail, sp, wa, ea) (u, rest, up, wb, eb) e =
    let same : Same k k s u (tail ++ x) (rest ++ y) =
    one_form k k s u (tail ++ x) (rest ++ y) sp up (sym (append_assoc s tail x) ∙ ap (λ z. z ++ x) (sym ea) ∙ e ∙ ap (λ z. z ++ y) eb ∙ append_assoc u rest y) in
    let r = same_front ks tail rest x y wa wb same.rest in
    (ea ∙ ap (λ z. z ++ tail) same.spelling ∙ ap (λ z. u ++ z) r.0 ∙ sym eb, r.1)

-- a token that stands as far from the start as another one is that one
pub record One (spot other : Spot) (k l : Token) : Type 0 where
  pub spot_is : other ≡ spot
  pub token_is : l ≡ k

head_is : (k l : Token) (xs ys : List Token) → k ∷ xs ≡ l ∷ ys → k ≡ l
head_is k l xs ys e = cc

one_place : (bytes : List ℕ) (spot other : Spot) (k l : Token) → whole spot ≡ bytes → whole other ≡ bytes → (s : Stands bytes spot.taken k) → (o : Stands bytes other.taken l)
    → length o.before ≡ length s.before → One spot other k l
one_place bytes spot other k l all also s o e =
    let joined : o.before ++ l ∷ o.after ≡ s.before ++ k ∷ s.after = sym o.spans ∙ one_cutting (tokens o.tree) (tokens s.tree) bytes o.writes.written s.writes.written ∙ s.spans in
    let same : o.before ≡ s.before =
    sym (take_at o.before (l ∷ o.after) (length s.before) e) ∙ ap (λ z. take (length s.before) z) joined ∙ take_at s.before (k ∷ s.after) (length s.before) refl in
    let rest : l ∷ o.after ≡ k ∷ s.after = append_cancel_left s.before (l ∷ o.after) (k ∷ s.after) (ap (λ z. z ++ l ∷ o.after) (sym same) ∙ joined) in
    let P : List Token → Type 0 = λ z. Written z other.taken in
    let f = same_front s.before other.taken spot.taken other.left spot.left (subst P same o.written) s.written (also ∙ sym all) in
    record {
      spot_is = ap (λ z. record { taken = z; left = other.left }) f.0 ∙ ap (λ z. record { taken = spot.taken; left = z }) f.1;
      token_is = head_is l k o.after s.after rest;
    }

-- ---- a list with a finding more

pub in_noted : (list : List PlacedFinding) (place : ℕ) (finding : Option TokenFinding) (one : PlacedFinding)
    → Contains (list ++ found_at place finding) one ↔ (Contains list one ⊎ ((one.place ≡ place) × (finding ≡ Some one.finding)))
in_noted list place None one = ((λ c. let P : List PlacedFinding → Type 0 = λ x. Contains x one in inl (subst P (append-nil list) c)), other)
  where
    other : Contains list one ⊎ ((one.place ≡ place) × (None ≡ Some one.finding)) → Contains (list ++ []) one
    other (inl c) = Contains-append_left list [] one c
    other (inr p) = absurd (cc (p.1))
in_noted list place (Some g) one = (there, back)
  where
    there : Contains (list ++ record { place = place; finding = g } ∷ []) one → Contains list one ⊎ ((one.place ≡ place) × (Some g ≡ Some one.finding))
    there c = elim (Contains-push_cases list (record { place = place; finding = g }) one c) [
      | inl old ↦ inl old
      | inr e ↦ inr (ap (λ x. x.place) (sym e), ap (λ x. Some x.finding) e)
    ]

    same : Some g ≡ Some one.finding → g ≡ one.finding
    same e = cc

    back : Contains list one ⊎ ((one.place ≡ place) × (Some g ≡ Some one.finding)) → Contains (list ++ record { place = place; finding = g } ∷ []) one
    back (inl old) = Contains-append_left list (record { place = place; finding = g } ∷ []) one old
    back (inr p) =
        let P : PlacedFinding → Type 0 = λ x. Contains (list ++ record { place = place; finding = g } ∷ []) x in
        let is : record { place = place; finding = g } ≡ one = ap (λ x. record { place = x; finding = g }) (sym p.0) ∙ ap (λ x. record { place = one.place; finding = x }) (same p.1) in
        subst P is (Contains-push list (record { place = place; finding = g }))

noted_all : (P : PlacedFinding → Type 0) (list : List PlacedFinding) (place : ℕ) (finding : Option TokenFinding) → All P list → ((g : TokenFinding) → finding ≡ Some g → P (record { place = place; finding = g }))
    → All P (list ++ found_at place finding)
noted_all P list place None all new = let Q : List PlacedFinding → Type 0 = λ x. All P x in subst Q (sym (append-nil list)) all
noted_all P list place (Some g) all new = All-push P list (record { place = place; finding = g }) all (new g refl)

noted_order : (list : List PlacedFinding) (place : ℕ) (finding : Option TokenFinding) → AllPairs Precedes list
    → ((g : TokenFinding) → finding ≡ Some g → All (λ one. Precedes one (record { place = place; finding = g })) list) → AllPairs Precedes (list ++ found_at place finding)
noted_order list place None order before = let Q : List PlacedFinding → Type 0 = λ x. AllPairs Precedes x in subst Q (sym (append-nil list)) order
noted_order list place (Some g) order before = all_pairs_push Precedes list (record { place = place; finding = g }) order (before g refl)

-- ---- the list so far

-- what was found before a place is exactly what holds of the tokens before it
pub record Lists (bytes : List ℕ) (expected : Expected) (at : Underway) (list : List PlacedFinding) : Type 0 where
  pub formed : IsWellFormed bytes
  pub all : whole at.spot ≡ bytes
  pub judged_by : at.expected ≡ expected
  pub before : List Token
  pub after : List Token
  pub taken : Written before at.spot.taken
  pub left : Written after at.spot.left
  pub exact : (one : PlacedFinding) → Contains list one ↔ ((f : IsFoundAt bytes expected one) × (length f.stands.before < length before))
  pub low : All (λ one. one.place < length at.spot.taken) list
  pub order : AllPairs Precedes list

pub lists_start : (bytes : List ℕ) (expected : Expected) (at : Underway) → IsWellFormed bytes → at.spot ≡ record { taken = []; left = bytes } → at.expected ≡ expected → Lists bytes expected at []
lists_start bytes expected at f start judged_by = record {
  formed = f;
  all = ap whole start;
  judged_by = judged_by;
  before = [];
  after = tokens f.tree;
  taken = ap (λ x. x.taken) start;
  left = let P : Spot → Type 0 = λ x. Written (tokens f.tree) x.left in subst P (sym start) f.writes.written;
  exact = λ one. ((λ c. absurd (omega (arith, c.1))), (λ p. absurd (omega (arith, p.1))));
  low = All-nil (λ one. one.place < length at.spot.taken);
  order = λ i j d less within. absurd (omega arith);
}

-- ---- the findings of one token, in the order of their table

rank_before : (at : Underway) (k : Token) (g : TokenFinding) → IsFoundBefore at k g → rank g < 6
rank_before at k StackUnderflow b = lit< tt
rank_before at k TermcapParameter b = lit< tt
rank_before at k ParameterRange b = lit< tt
rank_before at k RepeatedIncrement b = lit< tt
rank_before at k UnsetVariable b = lit< tt
rank_before at k OperandType b = lit< tt
rank_before at k _ b = absurd b

rank_after : (at : Underway) (k : Token) (g : TokenFinding) → IsFoundAfter at k g → (5 < rank g) × (rank g < 10)
rank_after at k StackResidue a = (lit< tt, lit< tt)
rank_after at k UnusedIncrement a = (lit< tt, lit< tt)
rank_after at k LateIncrement a = (lit< tt, lit< tt)
rank_after at k DeadStore a = (lit< tt, lit< tt)
rank_after at k _ a = absurd a

rank_within : (before : List Token) (k : Token) (after : List Token) (g : TokenFinding) → IsFoundAmong before k after g → 9 < rank g
rank_within before k after NoEffect w = lit< tt
rank_within before k after ConstantCondition w = lit< tt
rank_within before k after RepeatedCondition w = lit< tt
rank_within before k after _ w = absurd w

-- what a token was judged by
pub record IsJudged (at new : Underway) (k : Token) (before after within : Option TokenFinding) : Type 0 where
  pub takes : Takes k at.spot new.spot
  pub first : IsFirst k at.spot new.spot
  pub same : new.expected ≡ at.expected
  pub by_before : (g : TokenFinding) → (before ≡ Some g) ↔ IsFoundBefore at k g
  pub by_after : (g : TokenFinding) → (after ≡ Some g) ↔ IsFoundAfter at k g
  pub by_within : (g : TokenFinding) → (within ≡ Some g) ↔ IsFoundWithin at k g

-- a token has the finding
abbrev pub IsFoundOf : Underway → Token → TokenFinding → Type 0
IsFoundOf at k g = IsFoundBefore at k g ⊎ IsFoundAfter at k g ⊎ IsFoundWithin at k g

pub lists_next : (bytes : List ℕ) (expected : Expected) (at new : Underway) (k : Token) (before after within : Option TokenFinding) (list : List PlacedFinding) → Lists bytes expected at list
    → IsJudged at new k before after within
    → Lists bytes expected new (((list ++ found_at (length at.spot.taken) before) ++ found_at (length at.spot.taken) after) ++ found_at (length at.spot.taken) within)
lists_next bytes expected at new k before after within list l j = record {
  formed = l.formed;
  all = sym (same_whole at.spot new.spot k j.takes) ∙ l.all;
  judged_by = j.same ∙ l.judged_by;
  before = l.before ++ k ∷ [];
  after = n.0;
  taken = let P : List ℕ → Type 0 = λ x. Written (l.before ++ k ∷ []) x in
      subst P (sym j.takes.3) (written-append l.before (k ∷ []) at.spot.taken j.takes.0 l.taken (written_one k j.takes.0 j.takes.1));
  left = n.2;
  exact = λ one. (there one, back one);
  low = all_noted (λ one. one.place < length new.spot.taken) (All-weaker (λ one. one.place < place) (λ one. one.place < length new.spot.taken) (λ one low. omega (arith, longer)) list l.low)
      (λ g. longer) (λ g. longer) (λ g. longer);
  order = noted_order _ place within
      (noted_order _ place after (noted_order list place before l.order (λ g e. earlier g))
      (λ g e. noted_all (λ one. Precedes one (record { place = place; finding = g })) list place before (earlier g)
      (λ h f. inr (refl, omega (arith, ranked_before h f, ranked_after g e)))))
      (λ g e. noted_all (λ one. Precedes one (record { place = place; finding = g })) _ place after
      (noted_all (λ one. Precedes one (record { place = place; finding = g })) list place before (earlier g)
      (λ h f. inr (refl, omega (arith, ranked_before h f, ranked_within g e))))
      (λ h f. inr (refl, omega (arith, ranked_after h f, ranked_within g e))));
}
  where
    place : ℕ
    place = length at.spot.taken

    all_noted : (P : PlacedFinding → Type 0) → All P list → ((g : TokenFinding) → P (record { place = place; finding = g })) → ((g : TokenFinding) → P (record { place = place; finding = g }))
        → ((g : TokenFinding) → P (record { place = place; finding = g })) → All P (((list ++ found_at place before) ++ found_at place after) ++ found_at place within)
    all_noted P all one two three = noted_all P _ place within (noted_all P _ place after (noted_all P list place before all (λ g e. one g)) (λ g e. two g)) (λ g e. three g)

    n : (rest : List Token) × (l.after ≡ k ∷ rest) × Written rest new.spot.left
    n = j.first l.after l.left

    longer : place < length new.spot.taken
    longer = omega (arith, spelled_long k j.takes.0 j.takes.1, ap length j.takes.3, length-append at.spot.taken j.takes.0)

    earlier : (g : TokenFinding) → All (λ one. Precedes one (record { place = place; finding = g })) list
    earlier g = All-weaker (λ one. one.place < place) (λ one. Precedes one (record { place = place; finding = g })) (λ one low. inl low) list l.low

    ranked_before : (g : TokenFinding) → before ≡ Some g → rank g < 6
    ranked_before g e = rank_before at k g ((j.by_before g).0 e)

    ranked_after : (g : TokenFinding) → after ≡ Some g → (5 < rank g) × (rank g < 10)
    ranked_after g e = rank_after at k g ((j.by_after g).0 e)

    ranked_within : (g : TokenFinding) → within ≡ Some g → 9 < rank g
    ranked_within g e = let w = (j.by_within g).0 e in rank_within w.before k w.after g w.found

    stands : Stands bytes at.spot.taken k
    stands = record {
      tree = l.formed.tree;
      writes = l.formed.writes;
      before = l.before;
      after = n.0;
      spans = one_cutting (tokens l.formed.tree) (l.before ++ k ∷ n.0) bytes l.formed.writes.written
          (let P : List ℕ → Type 0 = λ x. Written (l.before ++ k ∷ n.0) x in
          let Q : List Token → Type 0 = λ x. Written x at.spot.left in
          subst P l.all (written-append l.before (k ∷ n.0) at.spot.taken at.spot.left l.taken (subst Q n.1 l.left)));
      written = l.taken;
    }

    here : Underway
    here = record { spot = at.spot; expected = expected }

    here_is : at ≡ here
    here_is = ap (λ x. record { spot = at.spot; expected = x }) l.judged_by

    counts : length (l.before ++ k ∷ []) ≡ length l.before + 1
    counts = length-append l.before (k ∷ [])

    Holds : PlacedFinding → Type 0
    Holds one = (f : IsFoundAt bytes expected one) × (length f.stands.before < length (l.before ++ k ∷ []))

    found : (one : PlacedFinding) → one.place ≡ place → IsFoundOf at k one.finding → Holds one
    found one is either = (
      record {
        spot = at.spot;
        token = k;
        all = l.all;
        place = sym is;
        stands = stands;
        holds = let P : Underway → Type 0 = λ x. IsFoundOf x k one.finding in subst P here_is either;
      },
      omega (arith, counts),
    )

    there : (one : PlacedFinding) → Contains (((list ++ found_at place before) ++ found_at place after) ++ found_at place within) one → Holds one
    there one c = elim ((in_noted ((list ++ found_at place before) ++ found_at place after) place within one).0 c) [
      | inr p ↦ found one p.0 (inr (inr ((j.by_within one.finding).0 p.1)))
      | inl b ↦ elim ((in_noted (list ++ found_at place before) place after one).0 b) [
        | inr p ↦ found one p.0 (inr (inl ((j.by_after one.finding).0 p.1)))
        | inl d ↦ elim ((in_noted list place before one).0 d) [
          | inr p ↦ found one p.0 (inl ((j.by_before one.finding).0 p.1))
          | inl old ↦ let p = (l.exact one).0 old in (p.0, omega (arith, p.1, counts))
        ]
      ]
    ]

    near : (a b : ℕ) → a < b + 1 → (a < b) ⊎ (a ≡ b)
    near a b less = grind arith

    -- it is found of this token
    this : (one : PlacedFinding) (f : IsFoundAt bytes expected one) → length f.stands.before ≡ length l.before
        → (one.place ≡ place) × ((before ≡ Some one.finding) ⊎ (after ≡ Some one.finding) ⊎ (within ≡ Some one.finding))
    this one f e =
        let same : One at.spot f.spot k f.token = one_place bytes at.spot f.spot k f.token l.all f.all stands f.stands e in
        let P : Spot → Type 0 = λ x. IsFoundOf (record { spot = x; expected = expected }) f.token one.finding in
        let Q : Token → Type 0 = λ x. IsFoundOf here x one.finding in
        let R : Underway → Type 0 = λ x. IsFoundOf x k one.finding in
        (sym f.place ∙ ap (λ x. length x.taken) same.spot_is, told (subst R (sym here_is) (subst Q same.token_is (subst P same.spot_is f.holds))))
      where
        told : IsFoundOf at k one.finding → (before ≡ Some one.finding) ⊎ (after ≡ Some one.finding) ⊎ (within ≡ Some one.finding)
        told (inl h) = inl ((j.by_before one.finding).1 h)
        told (inr (inl h)) = inr (inl ((j.by_after one.finding).1 h))
        told (inr (inr h)) = inr (inr ((j.by_within one.finding).1 h))

    -- what is in the list before the last addition
    kept : (one : PlacedFinding) → Contains ((list ++ found_at place before) ++ found_at place after) one → Contains (((list ++ found_at place before) ++ found_at place after) ++ found_at place within) one
    kept one c = (in_noted ((list ++ found_at place before) ++ found_at place after) place within one).1 (inl c)

    first : (one : PlacedFinding) → Contains (list ++ found_at place before) one → Contains (((list ++ found_at place before) ++ found_at place after) ++ found_at place within) one
    first one c = kept one ((in_noted (list ++ found_at place before) place after one).1 (inl c))

    back : (one : PlacedFinding) → Holds one → Contains (((list ++ found_at place before) ++ found_at place after) ++ found_at place within) one
    back one (f, less) = elim (near (length f.stands.before) (length l.before) (omega (arith, counts))) [
      | inl old ↦ first one ((in_noted list place before one).1 (inl ((l.exact one).1 (f, old))))
      | inr e ↦ let t = this one f e in elim t.1 [
        | inl b ↦ first one ((in_noted list place before one).1 (inr (t.0, b)))
        | inr (inl a) ↦ kept one ((in_noted (list ++ found_at place before) place after one).1 (inr (t.0, a)))
        | inr (inr w) ↦ (in_noted ((list ++ found_at place before) ++ found_at place after) place within one).1 (inr (t.0, w))
      ]
    ]

-- at the end
pub listed : (bytes : List ℕ) (expected : Expected) (at : Underway) (list : List PlacedFinding) → Lists bytes expected at list → at.spot.left ≡ []
    → (one : PlacedFinding) → Contains list one ↔ IsFoundAt bytes expected one
listed bytes expected at list l end one = ((λ c. ((l.exact one).0 c).0), (λ f. (l.exact one).1 (f, within f)))
  where
    written : Written l.before bytes
    written = let P : List ℕ → Type 0 = λ x. Written l.before x in
        subst P (sym (append-nil at.spot.taken) ∙ ap (λ x. at.spot.taken ++ x) (sym end) ∙ l.all) l.taken

    within : (f : IsFoundAt bytes expected one) → length f.stands.before < length l.before
    within f =
        let s = f.stands in
        omega (arith, ap length (sym s.spans ∙ one_cutting (tokens s.tree) l.before bytes s.writes.written written), length-append s.before (f.token ∷ s.after))
