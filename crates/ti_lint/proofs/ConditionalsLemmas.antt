-- What is seen of a conditional, token by token, against what holds of its parts.
use Rattle.std.proofs.Common.{◌≡◌, ◌≢◌, ℕ, zero, suc, ◌+◌, ◌-◌, ◌<◌, ◌≤◌, ◌⊎◌, inl, inr, ◌↔◌, nat_eq, nat_le, nat_lt, Bool, true, false, ◌&&◌, if◌then◌else◌, IsTrue, List, [], ◌∷◌, ◌++◌, length, get_or, take, drop, add-one, drop-cons, refl, sym, ◌∙◌, ap, subst, arith, append_assoc, length-append}
use Rattle.std.specs.Prelude.{Option, Some, None}
use Rattle.std.proofs.lemmas.List.{take_at, drop-append-le, take-append-drop, length-drop, length-take-le}
use Rattle.std.proofs.Math.Seq.{take-length, get_or-append_seam, drop-append-add}
use Rattle.std.specs.Bool.{Decides}
use Rattle.std.specs.Cmp.Lexicographic.{pointwise}
use Rattle.ti_cap.specs.contracts.language.TokenPartialEq as token_eq
use Rattle.ti_cap.specs.declared.language.Token.{Token}
use Rattle.ti_cap.specs.declared.language.Token.TheVariants.{Param, CondOpen, CondThen, CondElse, CondClose}
use Rattle.ti_cap.proofs.SameTokenLemmas.{same_token}
use Rattle.ti_cap.specs.Height.{pops, pushes, next_height}
use Rattle.ti_cap.specs.Tree.{Sequence, Empty, Simple, Arms, Lone, Else, ElseIf, tokens, arm_tokens, closing}
use Rattle.ti_lint.specs.declared.conditional.Idle.{Idle}
use Rattle.ti_lint.specs.declared.conditional.Idle.TheVariants.{Test, Body, Turn}
use Rattle.ti_lint.specs.Conditionals.{only_computes, computed, values_left, starts_test, is_constant, are_constant, IsConstantTest, closes_just, EndsWithTest, HasEarlier, IsRepeatedTest, AreIdle, HasNoEffect}
use Rattle.ti_lint.proofs.FoundLemmas.{both_are}
use Rattle.ti_lint.specs.inner.Conditionals.{test_length, height_of, in_test, ends_at, idle_after, stays_idle, LeavesValue, ConstantsFrom}

-- ---- a token more

one_pushed : (k : Token) → pushes k ≤ 1
one_pushed (Param which) = omega arith
one_pushed k = omega arith

pub computed_low : (h j : ℕ) (k : Token) → computed h k ≡ Some j → j ≤ h + 1
computed_low h j k e = by_test (only_computes k && nat_le (pops k) h) e
  where
    by_test : (b : Bool) → (if b then Some (next_height h k) else None) ≡ Some j → j ≤ h + 1
    by_test true f = let is : h - pops k + pushes k ≡ j = cc in omega (arith, one_pushed k, is)
    by_test false f = absurd (cc)

pub next_value : (ts : List Token) (i h j : ℕ) (d : Token) → i < length ts → computed h (get_or ts i d) ≡ Some j → values_left (Some h) (drop i ts) ≡ values_left (Some j) (drop (i + 1) ts)
next_value ts i h j d less e = rw (add-one) (ap (λ x. values_left (Some h) x) (drop-cons ts i d less) ∙ ap (λ x. values_left x (drop (suc i) ts)) e)

pub next_length : (ts : List Token) (i h j n : ℕ) (d : Token) → i < length ts → get_or ts i d ≢ CondThen → computed h (get_or ts i d) ≡ Some j
    → test_length (Some h) n (drop i ts) ≡ test_length (Some j) (n + 1) (drop (i + 1) ts)
next_length ts i h j n d less other e = rw (add-one i) (ap (λ x. test_length (Some h) n x) (drop-cons ts i d less) ∙ over (get_or ts i d) other e)
  where
    over : (k : Token) → k ≢ CondThen → computed h k ≡ Some j → test_length (Some h) n (k ∷ drop (suc i) ts) ≡ test_length (Some j) (n + 1) (drop (suc i) ts)
    over CondThen unlike f = absurd (unlike refl)
    over k unlike f = ap (λ x. test_length x (n + 1) (drop (suc i) ts)) f

pub idle_next : (ts : List Token) (i : ℕ) (part : Idle) (d : Token) (o : Option Idle) → i < length ts → ends_at part (get_or ts i d) ≡ false → idle_after part (get_or ts i d) ≡ o
    → stays_idle (Some part) (drop i ts) ≡ stays_idle o (drop (i + 1) ts)
idle_next ts i part d o less on is = rw (add-one i) (
    ap (λ x. stays_idle (Some part) x) (drop-cons ts i d less)
    ∙ ap (λ x. if x then true else stays_idle (idle_after part (get_or ts i d)) (drop (suc i) ts)) on
    ∙ ap (λ x. stays_idle x (drop (suc i) ts)) is)

pub idle_ends : (ts : List Token) (i : ℕ) (part : Idle) (d : Token) → i < length ts → ends_at part (get_or ts i d) ≡ true → stays_idle (Some part) (drop i ts) ≡ true
idle_ends ts i part d less on =
    ap (λ x. stays_idle (Some part) x) (drop-cons ts i d less)
    ∙ ap (λ x. if x then true else stays_idle (idle_after part (get_or ts i d)) (drop (suc i) ts)) on

in_one : (h : ℕ) (k : Token) (next : Idle) (o : Option ℕ) → computed h k ≡ o → in_test o ≡ Some next → height_of next ≤ h + 1
in_one h k next None is e = absurd (cc)
in_one h k next (Some j) is e = let P : Idle → Type 0 = λ x. height_of x ≤ h + 1 in let same : Test j ≡ next = cc in subst P same (computed_low h j k is)

pub idle_low : (part next : Idle) (k : Token) → idle_after part k ≡ Some next → height_of next ≤ height_of part + 1
idle_low (Test h) next CondThen e = by_test (nat_eq h 1) next e
  where
    by_test : (b : Bool) (q : Idle) → (if b then Some Body else None) ≡ Some q → height_of q ≤ h + 1
    by_test true (Test j) f = absurd (cc)
    by_test true q f = omega arith
    by_test false q f = absurd (cc)
idle_low (Test h) next k e = in_one h k next (computed h k) refl e
idle_low Body next CondElse e = let P : Idle → Type 0 = λ x. height_of x ≤ 1 in let is : Turn ≡ next = cc in subst P is (omega arith)
idle_low Body next k e = absurd (cc)
idle_low Turn next k e = in_one 0 k next (computed 0 k) refl e

-- ---- the test that comes next

pub record HasTest (height : Option ℕ) (count all : ℕ) (after : List Token) : Type 0 where
  pub test : List Token
  pub rest : List Token
  pub spare : ℕ
  pub spans : after ≡ test ++ CondThen ∷ rest
  pub leaves : values_left height test ≡ Some (suc spare)
  pub counts : count + length test ≡ all

at_then : (h n m : ℕ) (b : Bool) (ks : List Token) → nat_lt 0 h ≡ b → (if b then Some n else None) ≡ Some m → HasTest (Some h) n m (CondThen ∷ ks)
at_then h n m true ks e some = record {
  test = [];
  rest = ks;
  spare = h - 1;
  spans = refl;
  leaves = ap (λ x. Some x) (above h e);
  counts = let same : n ≡ m = cc in omega arith;
}
  where
    above : (x : ℕ) → nat_lt 0 x ≡ true → x ≡ suc (x - 1)
    above x t = grind arith
at_then h n m false ks e some = absurd (cc)

one_more : (h : Option ℕ) (k : Token) (n m : ℕ) (ks : List Token) (o : Option ℕ) → ((ts : List Token) → values_left h (k ∷ ts) ≡ values_left o ts) → HasTest o (n + 1) m ks → HasTest h n m (k ∷ ks)
one_more h k n m ks o goes t = record {
  test = k ∷ t.test;
  rest = t.rest;
  spare = t.spare;
  spans = ap (λ x. k ∷ x) t.spans;
  leaves = goes t.test ∙ t.leaves;
  counts = omega (arith, t.counts);
}

pub found_test : (h : Option ℕ) (n m : ℕ) (ks : List Token) → test_length h n ks ≡ Some m → HasTest h n m ks
found_test None n m ks e = absurd (cc)
found_test (Some h) n m [] e = absurd (cc)
found_test (Some h) n m (CondThen ∷ ks) e = at_then h n m (nat_lt 0 h) ks refl e
found_test (Some h) n m (k ∷ ks) e = one_more (Some h) k n m ks (computed h k) (λ ts. refl) (found_test (computed h k) (n + 1) m ks e)

pub length_is : (h : Option ℕ) (n spare : ℕ) (test rest : List Token) → values_left h test ≡ Some (suc spare) → test_length h n (test ++ CondThen ∷ rest) ≡ Some (n + length test)
length_is None n spare test rest e = absurd (cc)
length_is (Some h) n spare [] rest e = ap (λ b. if b then Some n else None) (above h (same e)) ∙ ap (λ x. Some x) (omega arith)
  where
    same : Some h ≡ Some (suc spare) → h ≡ suc spare
    same f = cc

    above : (x : ℕ) → x ≡ suc spare → nat_lt 0 x ≡ true
    above x f = grind arith
length_is (Some h) n spare (CondThen ∷ ks) rest e = absurd (cc)
length_is (Some h) n spare (k ∷ ks) rest e = length_is (computed h k) (n + 1) spare ks rest e ∙ ap (λ x. Some x) (omega arith)

pub test_within : (after : List Token) (m : ℕ) → test_length (Some 0) 0 after ≡ Some m → m ≡ length (take m after)
test_within after m e =
    let t = found_test (Some 0) 0 m after e in
    sym (length-take-le m after (omega (arith, t.counts, ap length t.spans, length-append t.test (CondThen ∷ t.rest))))

pub test_leaves : (after : List Token) (m : ℕ) → test_length (Some 0) 0 after ≡ Some m → LeavesValue (take m after)
test_leaves after m e =
    let t = found_test (Some 0) 0 m after e in
    let same : t.test ≡ take m after = sym (ap (λ x. take m x) t.spans ∙ take_at t.test (CondThen ∷ t.rest) m (omega (arith, t.counts))) in
    (t.spare, ap (λ x. values_left (Some 0) x) (sym same) ∙ t.leaves)

pub repeated_there : (before after : List Token) (m : ℕ) → test_length (Some 0) 0 after ≡ Some m → HasEarlier before (take m after) → IsRepeatedTest before after
repeated_there before after m e h =
    let t = found_test (Some 0) 0 m after e in
    let same : take m after ≡ t.test = ap (λ x. take m x) t.spans ∙ take_at t.test (CondThen ∷ t.rest) m (omega (arith, t.counts)) in
    record { test = t.test; rest = t.rest; spare = t.spare; next = t.spans; leaves = t.leaves; earlier = let P : List Token → Type 0 = λ x. HasEarlier before x in subst P same h }

length_of : (before after : List Token) (r : IsRepeatedTest before after) → test_length (Some 0) 0 after ≡ Some (length r.test)
length_of before after r = ap (λ x. test_length (Some 0) 0 x) r.next ∙ length_is (Some 0) 0 r.spare r.test r.rest r.leaves ∙ ap (λ x. Some x) (omega arith)

pub repeated_back : (before after : List Token) (m : ℕ) → test_length (Some 0) 0 after ≡ Some m → IsRepeatedTest before after → HasEarlier before (take m after)
repeated_back before after m e r =
    let count : length r.test ≡ m = same (sym (length_of before after r) ∙ e) in
    let P : List Token → Type 0 = λ x. HasEarlier before x in
    subst P (sym (ap (λ x. take m x) r.next ∙ take_at r.test (CondThen ∷ r.rest) m count)) r.earlier
  where
    same : Some (length r.test) ≡ Some m → length r.test ≡ m
    same f = cc

pub never_repeated : (before after : List Token) → test_length (Some 0) 0 after ≡ None → IsRepeatedTest before after → ⊥
never_repeated before after e r = differ (sym e ∙ length_of before after r)
  where
    differ : None ≡ Some (length r.test) → ⊥
    differ f = absurd (cc)

pub leaves_exact : (test : List Token) (count : ℕ) → values_left (Some 0) test ≡ Some count → IsTrue (nat_lt 0 count) ↔ LeavesValue test
leaves_exact test zero e = ((λ t. absurd (cc)), (λ l. absurd (differ l.0 (sym e ∙ l.1))))
  where
    differ : (spare : ℕ) → Some 0 ≡ Some (suc spare) → ⊥
    differ spare f = absurd (cc)
leaves_exact test (suc n) e = ((λ t. (n, e)), (λ l. grind arith))

-- ---- tests of constants

pub are_constant-part : (xs : List Token) (k : Token) (ys : List Token) → are_constant (xs ++ k ∷ ys) ≡ true → is_constant k ≡ true
are_constant-part [] k ys e = first (is_constant k) (are_constant ys) e
  where
    first : (a b : Bool) → a && b ≡ true → a ≡ true
    first true b f = refl
    first false b f = f
are_constant-part (x ∷ xs) k ys e = are_constant-part xs k ys (second (is_constant x) (are_constant (xs ++ k ∷ ys)) e)
  where
    second : (a b : Bool) → a && b ≡ true → b ≡ true
    second true b f = f
    second false b f = absurd (cc)

pub no_start : (k : Token) → IsTrue (starts_test k) → is_constant k ≡ false
no_start CondOpen s = refl
no_start CondElse s = refl
no_start k s = absurd (cc (s))

-- a list with an element at a place
pub record Split (xs : List Token) (n : ℕ) : Type 0 where
  pub head : List Token
  pub at : Token
  pub rest : List Token
  pub spans : xs ≡ head ++ at ∷ rest
  pub counts : length head ≡ n

pub split : (xs : List Token) (n : ℕ) → n < length xs → Split xs n
split [] n less = absurd (omega arith)
split (x ∷ xs) zero less = record { head = []; at = x; rest = xs; spans = refl; counts = refl }
split (x ∷ xs) (suc n) less =
    let s = split xs n (omega arith) in
    record { head = x ∷ s.head; at = s.at; rest = s.rest; spans = ap (λ y. x ∷ y) s.spans; counts = omega (arith, s.counts) }

-- the constants start after the first token of the test
starts_there : (before : List Token) (start : ℕ) → ConstantsFrom before start → (c : IsConstantTest before) → start ≡ length c.head + 1
starts_there before start from c = elim (near start (length c.head)) [
  | inl low ↦ absurd (early low)
  | inr (inl e) ↦ e
  | inr (inr high) ↦ absurd (late high)
]
  where
    near : (a b : ℕ) → (a ≤ b) ⊎ ((a ≡ b + 1) ⊎ (b + 1 < a))
    near a b = grind arith

    differ : false ≡ true → ⊥
    differ e = absurd (cc)

    early : start ≤ length c.head → ⊥
    early low =
        let is : drop start before ≡ drop start c.head ++ c.first ∷ c.test = ap (λ x. drop start x) c.spans ∙ drop-append-le start c.head (c.first ∷ c.test) low in
        differ (sym (no_start c.first c.starts) ∙ are_constant-part (drop start c.head) c.first c.test (ap are_constant (sym is) ∙ from.constant))

    late : length c.head + 1 < start → ⊥
    late high =
        let counts : length before ≡ length c.head + suc (length c.test) = ap length c.spans ∙ length-append c.head (c.first ∷ c.test) in
        let s = split c.test (start - length c.head - 2) (omega (arith, from.within)) in
        let spans : before ≡ (c.head ++ c.first ∷ s.head) ++ s.at ∷ s.rest = c.spans ∙ ap (λ x. c.head ++ c.first ∷ x) s.spans ∙ sym (append_assoc c.head (c.first ∷ s.head) (s.at ∷ s.rest)) in
        differ (sym (from.bound (c.head ++ c.first ∷ s.head) s.at s.rest spans (omega (arith, length-append c.head (c.first ∷ s.head), s.counts)))
        ∙ are_constant-part s.head s.at s.rest (ap are_constant (sym s.spans) ∙ c.constant))

-- a part of a list, and the element before it
parted : (xs : List Token) (n : ℕ) (d : Token) → n < length xs → xs ≡ take n xs ++ get_or xs n d ∷ drop (n + 1) xs
parted xs n d less = sym (take-append-drop n xs) ∙ ap (λ x. take n xs ++ x) (drop-cons xs n d less) ∙ rw (add-one n) refl

pub rest_of : (xs : List Token) (n : ℕ) → take (length xs - n) (drop n xs) ≡ drop n xs
rest_of xs n = ap (λ x. take x (drop n xs)) (sym (length-drop n xs)) ∙ take-length (drop n xs)

pub constants_there : (before : List Token) (start : ℕ) (d : Token) → ConstantsFrom before start → 0 < start → starts_test (get_or before (start - 1) d) ≡ true → LeavesValue (drop start before)
    → (found : IsConstantTest before) × (found.test ≡ drop start before)
constants_there before start d from some starts (spare, leaves) = (
  record {
    head = take (start - 1) before;
    first = get_or before (start - 1) d;
    test = drop start before;
    spare = spare;
    spans = parted before (start - 1) d (omega (arith, from.within)) ∙ ap (λ n. take (start - 1) before ++ get_or before (start - 1) d ∷ drop n before) (omega arith);
    starts = starts;
    constant = from.constant;
    leaves = leaves;
  },
  refl,
)

pub constants_back : (before : List Token) (start : ℕ) (d : Token) → ConstantsFrom before start → IsConstantTest before → (0 < start) × (starts_test (get_or before (start - 1) d) ≡ true) × LeavesValue (drop start before)
constants_back before start d from c =
    let e : start ≡ length c.head + 1 = starts_there before start from c in
    let at : start - 1 ≡ length c.head = omega (arith, e) in
    let first : get_or before (start - 1) d ≡ c.first = ap (λ x. get_or before x d) at ∙ ap (λ x. get_or x (length c.head) d) c.spans ∙ get_or-append_seam c.head c.first c.test d in
    let rest : drop start before ≡ c.test = ap (λ x. drop x before) e ∙ ap (λ x. drop (length c.head + 1) x) c.spans ∙ drop-append-add c.head (c.first ∷ c.test) 1 in
    (omega (arith, e), ap starts_test first ∙ c.starts, (c.spare, ap (λ x. values_left (Some 0) x) rest ∙ c.leaves))

pub no_constants : (before : List Token) (start : ℕ) (d : Token) → ConstantsFrom before start → ((0 < start) → starts_test (get_or before (start - 1) d) ≡ false) → IsConstantTest before → ⊥
no_constants before start d from unlike c = let b = constants_back before start d from c in differ (sym (unlike b.0) ∙ b.1)
  where
    differ : false ≡ true → ⊥
    differ e = absurd (cc)

-- ---- an earlier arm with the same test

-- a list is the same as another exactly if each token is
same_tokens : (tokens xs : List Token) → Decides (pointwise (token_eq.TheImpl.eq-value).it xs tokens) (xs ≡ tokens)
same_tokens [] [] = ((λ f. refl), (λ f. refl))
same_tokens [] (x ∷ xs) = ((λ f. absurd (cc)), (λ f. absurd (cc)))
same_tokens (k ∷ ts) [] = ((λ f. absurd (cc)), (λ f. absurd (cc)))
same_tokens (k ∷ ts) (x ∷ xs) = along ((token_eq.TheImpl.eq-value).it x k) (pointwise (token_eq.TheImpl.eq-value).it xs ts) (same_token k x) (same_tokens ts xs)
  where
    along : (a b : Bool) → Decides a (x ≡ k) → Decides b (xs ≡ ts) → Decides (a && b) (x ∷ xs ≡ k ∷ ts)
    along a b one more = (
      (λ t. let p = (both_are a b).0 t in let f : x ≡ k = one.0 p.0 in let g : xs ≡ ts = more.0 p.1 in cc),
      (λ f. let g : x ≡ k = cc in let i : xs ≡ ts = cc in (both_are a b).1 (one.1 g, more.1 i)),
    )

pub ends_exact : (before test : List Token) (d : Token) (r : Bool) → LeavesValue test → length test < length before → starts_test (get_or before (length before - length test - 1) d) ≡ true
    → r ≡ pointwise (token_eq.TheImpl.eq-value).it (take (length before - (length before - length test)) (drop (length before - length test) before)) test → IsTrue r ↔ EndsWithTest before test
ends_exact before test d r leaves less starts is = (there, back)
  where
    start : ℕ
    start = length before - length test

    decides : Decides r (take (length before - start) (drop start before) ≡ test)
    decides =
        let p = same_tokens test (take (length before - start) (drop start before)) in
        ((λ e. p.0 (sym is ∙ e)), (λ e. is ∙ p.1 e))

    there : IsTrue r → EndsWithTest before test
    there t = record {
      head = take (start - 1) before;
      first = get_or before (start - 1) d;
      spans = parted before (start - 1) d (omega arith)
          ∙ ap (λ x. take (start - 1) before ++ get_or before (start - 1) d ∷ x) (ap (λ n. drop n before) (omega arith) ∙ sym (rest_of before start) ∙ decides.0 t);
      starts = starts;
    }

    back : EndsWithTest before test → IsTrue r
    back e =
        let counts : start ≡ length e.head + 1 = omega (arith, ap length e.spans, length-append e.head (e.first ∷ test)) in
        decides.1 (rest_of before start ∙ ap (λ n. drop n before) counts ∙ ap (λ x. drop (length e.head + 1) x) e.spans ∙ drop-append-add e.head (e.first ∷ test) 1)

-- what the tokens from a place on say of those before it
pub record Looked (before test : List Token) (place closed : ℕ) : Type 0 where
  pub counts : (opened : ℕ) → closes_just opened (drop place before) ≡ nat_eq opened closed
  pub none : (h : HasEarlier before test) → place ≤ length h.earlier → ⊥

never_closed : (rest : List Token) → ((o : ℕ) → closes_just o rest ≡ nat_eq o 0) → (xs : List Token) (o : ℕ) → closes_just o (xs ++ CondOpen ∷ rest) ≡ false
never_closed rest none [] o = none (suc o) ∙ above o
  where
    above : (n : ℕ) → nat_eq (suc n) 0 ≡ false
    above n = grind arith
never_closed rest none (CondOpen ∷ xs) o = never_closed rest none xs (suc o)
never_closed rest none (CondClose ∷ xs) zero = refl
never_closed rest none (CondClose ∷ xs) (suc o) = never_closed rest none xs o
never_closed rest none (k ∷ xs) o = never_closed rest none xs o

-- what stands at a place, and after it
at_place : (xs head : List Token) (x : Token) (rest : List Token) (n : ℕ) (d : Token) → xs ≡ head ++ x ∷ rest → length head ≡ n → (get_or xs n d ≡ x) × (drop (n + 1) xs ≡ rest)
at_place xs head x rest n d spans e = (
  ap (λ m. get_or xs m d) (sym e) ∙ ap (λ y. get_or y (length head) d) spans ∙ get_or-append_seam head x rest d,
  ap (λ m. drop (m + 1) xs) (sym e) ∙ ap (λ y. drop (length head + 1) y) spans ∙ drop-append-add head (x ∷ rest) 1,
)

-- no arm before the `%?` that opens the conditional is one of its arms
not_earlier : (before test : List Token) (place : ℕ) (d : Token) → Looked before test (place + 1) 0 → place < length before → get_or before place d ≡ CondOpen → HasEarlier before test → ⊥
not_earlier before test place d looked less is h = elim (near place (length h.earlier)) [
  | inl low ↦ looked.none h low
  | inr (inl e) ↦ other (sym is ∙ (at_place before h.earlier CondThen h.between place d h.spans (sym e)).0)
  | inr (inr high) ↦ inside high
]
  where
    near : (a b : ℕ) → (a + 1 ≤ b) ⊎ ((a ≡ b) ⊎ (b < a))
    near a b = grind arith

    other : CondOpen ≡ CondThen → ⊥
    other e = absurd (cc)

    differ : false ≡ true → ⊥
    differ e = absurd (cc)

    inside : length h.earlier < place → ⊥
    inside high =
        let counts : length before ≡ length h.earlier + suc (length h.between) = ap length h.spans ∙ length-append h.earlier (CondThen ∷ h.between) in
        let s = split h.between (place - length h.earlier - 1) (omega (arith, counts)) in
        let spans : before ≡ (h.earlier ++ CondThen ∷ s.head) ++ s.at ∷ s.rest = h.spans ∙ ap (λ x. h.earlier ++ CondThen ∷ x) s.spans ∙ sym (append_assoc h.earlier (CondThen ∷ s.head) (s.at ∷ s.rest)) in
        let p = at_place before (h.earlier ++ CondThen ∷ s.head) s.at s.rest place d spans (omega (arith, length-append h.earlier (CondThen ∷ s.head), s.counts)) in
        let opens : s.at ≡ CondOpen = sym p.0 ∙ is in
        let none : (o : ℕ) → closes_just o s.rest ≡ nat_eq o 0 = λ o. ap (λ x. closes_just o x) (sym p.1) ∙ looked.counts o in
        differ (sym (never_closed s.rest none s.head 0) ∙ ap (λ x. closes_just 0 (s.head ++ x ∷ s.rest)) (sym opens) ∙ ap (λ x. closes_just 0 x) (sym s.spans) ∙ h.same)

-- a place that was looked at from, as the one after another
looked_at : (before test : List Token) (next closed : ℕ) → 0 < next → Looked before test next closed → closed ≡ 0 → Looked before test (next - 1 + 1) 0
looked_at before test next closed some all none =
    let P : ℕ → Type 0 = λ n. Looked before test n closed in
    let Q : ℕ → Type 0 = λ n. Looked before test (next - 1 + 1) n in
    subst Q none (subst P (omega arith) all)

pub no_earlier : (before test : List Token) (next closed : ℕ) (d : Token) → 0 < next → next ≤ length before → Looked before test next closed → closed ≡ 0
    → get_or before (next - 1) d ≡ CondOpen → HasEarlier before test → ⊥
no_earlier before test next closed d some low all none is h =
    not_earlier before test (next - 1) d (looked_at before test next closed some all none) (omega arith) is h

pub is_earlier : (before test : List Token) (next closed : ℕ) (d : Token) → 0 < next → next ≤ length before → Looked before test next closed → closed ≡ 0
    → get_or before (next - 1) d ≡ CondThen → EndsWithTest (take (next - 1) before) test → HasEarlier before test
is_earlier before test next closed d some low all none is ends = record {
  earlier = take (next - 1) before;
  between = drop (next - 1 + 1) before;
  ends = ends;
  spans = parted before (next - 1) d (omega arith) ∙ ap (λ x. take (next - 1) before ++ x ∷ drop (next - 1 + 1) before) is;
  same = (looked_at before test next closed some all none).counts 0;
}

-- ---- a conditional that changes nothing

-- the end of a conditional
pub record Ends (after : List Token) : Type 0 where
  pub closed : Bool
  pub rest : List Token
  pub spans : after ≡ closing closed ++ rest
  pub last : closed ≡ false → rest ≡ []

pub record TurnsTo (after next : List Token) : Type 0 where
  pub spans : after ≡ CondElse ∷ next

-- what may come after a `%t`, and after a `%e`
abbrev IsIdleTurn : List Token → Type 0
IsIdleTurn after = Ends after ⊎ HasNoEffect after

abbrev IsIdleBody : List Token → Type 0
IsIdleBody after = Ends after ⊎ ((next : List Token) × (after ≡ CondElse ∷ next) × IsIdleTurn next)

-- the rest of a test, and what comes after its `%t`
pub record IsIdleTest (height : Option ℕ) (after : List Token) : Type 0 where
  pub test : Sequence
  pub rest : List Token
  pub leaves : values_left height (tokens test) ≡ Some 1
  pub spans : after ≡ tokens test ++ CondThen ∷ rest
  pub body : IsIdleBody rest

whole_test : (after : List Token) → IsIdleTest (Some 0) after → HasNoEffect after
whole_test after t = elim t.body [
  | inl e ↦ record {
    arms = Lone t.test Empty;
    closed = e.closed;
    rest = e.rest;
    idle = (t.leaves, refl);
    spans = t.spans ∙ ap (λ x. tokens t.test ++ CondThen ∷ x) e.spans ∙ sym (append_assoc (tokens t.test) (CondThen ∷ []) (closing e.closed ++ e.rest));
    ends = e.last;
  }
  | inr (next, is, inl e) ↦ record {
    arms = Else t.test Empty Empty;
    closed = e.closed;
    rest = e.rest;
    idle = (t.leaves, refl, refl);
    spans = t.spans ∙ ap (λ x. tokens t.test ++ CondThen ∷ x) (is ∙ ap (λ x. CondElse ∷ x) e.spans) ∙ sym (append_assoc (tokens t.test) (CondThen ∷ CondElse ∷ []) (closing e.closed ++ e.rest));
    ends = e.last;
  }
  | inr (next, is, inr more) ↦ record {
    arms = ElseIf t.test Empty more.arms;
    closed = more.closed;
    rest = more.rest;
    idle = (t.leaves, refl, more.idle);
    spans = t.spans ∙ ap (λ x. tokens t.test ++ CondThen ∷ x) (is ∙ ap (λ x. CondElse ∷ x) more.spans)
        ∙ sym (append_assoc (tokens t.test) (CondThen ∷ CondElse ∷ arm_tokens more.arms) (closing more.closed ++ more.rest));
    ends = more.ends;
  }
]

-- what is known of the rest of the tokens, by the place
abbrev IsIdleFrom : Idle → List Token → Type 0
IsIdleFrom (Test height) after = IsIdleTest (Some height) after
IsIdleFrom Body after = IsIdleBody after
IsIdleFrom Turn after = IsIdleTurn after

nothing_left : Ends []
nothing_left = record { closed = false; rest = []; spans = refl; last = λ e. refl }

closes_here : (ks : List Token) → Ends (CondClose ∷ ks)
closes_here ks = record { closed = true; rest = ks; spans = refl; last = λ e. absurd (cc) }

at_one : (h : ℕ) (b : Bool) (ks : List Token) → nat_eq h 1 ≡ b → stays_idle (if b then Some Body else None) ks ≡ true → (stays_idle (Some Body) ks ≡ true → IsIdleBody ks) → IsIdleTest (Some h) (CondThen ∷ ks)
at_one h true ks is e along = record { test = Empty; rest = ks; leaves = ap (λ x. Some x) (one h is); spans = refl; body = along e }
  where
    one : (x : ℕ) → nat_eq x 1 ≡ true → x ≡ 1
    one x f = grind arith
at_one h false ks is e along = absurd (cc)

in_a_test : (h : ℕ) (k : Token) (o : Option ℕ) (ks : List Token) → computed h k ≡ o → stays_idle (in_test o) ks ≡ true → ((j : ℕ) → stays_idle (Some (Test j)) ks ≡ true → IsIdleTest (Some j) ks) → IsIdleTest (Some h) (k ∷ ks)
in_a_test h k None ks is e along = absurd (cc)
in_a_test h k (Some j) ks is e along =
    let t = along j e in
    record { test = Simple k t.test; rest = t.rest; leaves = ap (λ x. values_left x (tokens t.test)) is ∙ t.leaves; spans = ap (λ x. k ∷ x) t.spans; body = t.body }

pub idle_there : (part : Idle) (ks : List Token) → stays_idle (Some part) ks ≡ true → IsIdleFrom part ks
idle_there (Test h) [] e = absurd (cc)
idle_there (Test h) (CondThen ∷ ks) e = at_one h (nat_eq h 1) ks refl e (λ f. idle_there Body ks f)
idle_there (Test h) (k ∷ ks) e = in_a_test h k (computed h k) ks refl e (λ j f. idle_there (Test j) ks f)
idle_there Body [] e = inl nothing_left
idle_there Body (CondClose ∷ ks) e = inl (closes_here ks)
idle_there Body (CondElse ∷ ks) e = inr (ks, refl, idle_there Turn ks e)
idle_there Body (k ∷ ks) e = absurd (cc)
idle_there Turn [] e = inl nothing_left
idle_there Turn (CondClose ∷ ks) e = inl (closes_here ks)
idle_there Turn (k ∷ ks) e = inr (whole_test (k ∷ ks) (in_a_test 0 k (computed 0 k) ks refl e (λ j f. idle_there (Test j) ks f)))

-- and back
over_test : (o : Option ℕ) (ts ks : List Token) → values_left o ts ≡ Some 1 → stays_idle (in_test o) (ts ++ CondThen ∷ ks) ≡ stays_idle (Some Body) ks
over_test None ts ks e = absurd (cc)
over_test (Some h) [] ks e = ap (λ x. stays_idle (if nat_eq x 1 then Some Body else None) ks) (same e)
  where
    same : Some h ≡ Some 1 → h ≡ 1
    same f = cc
over_test (Some h) (CondThen ∷ ts) ks e = absurd (cc)
over_test (Some h) (k ∷ ts) ks e = over_test (computed h k) ts ks e

at_end : (closed : Bool) (rest : List Token) → (closed ≡ false → rest ≡ []) → (stays_idle (Some Body) (closing closed ++ rest) ≡ true) × (stays_idle (Some Turn) (closing closed ++ rest) ≡ true)
at_end true rest last = (refl, refl)
at_end false rest last = (ap (λ x. stays_idle (Some Body) x) (last refl), ap (λ x. stays_idle (Some Turn) x) (last refl))

-- a first test may come after a `%e`
as_turn : (ks : List Token) → stays_idle (Some (Test 0)) ks ≡ true → stays_idle (Some Turn) ks ≡ true
as_turn [] e = refl
as_turn (CondThen ∷ ks) e = absurd (cc)
as_turn (CondClose ∷ ks) e = refl
as_turn (k ∷ ks) e = e

idle_arms : (arms : Arms) (end : List Token) → AreIdle arms → (stays_idle (Some Body) end ≡ true) × (stays_idle (Some Turn) end ≡ true) → stays_idle (Some (Test 0)) (arm_tokens arms ++ end) ≡ true
idle_arms (Lone test body) end (leaves, empty) e =
    ap (λ x. stays_idle (Some (Test 0)) ((tokens test ++ CondThen ∷ tokens x) ++ end)) empty
    ∙ ap (λ x. stays_idle (Some (Test 0)) x) (append_assoc (tokens test) (CondThen ∷ []) end)
    ∙ over_test (Some 0) (tokens test) end leaves ∙ e.0
idle_arms (Else test body otherwise) end (leaves, empty, none) e =
    ap (λ x. stays_idle (Some (Test 0)) ((tokens test ++ CondThen ∷ (tokens x ++ CondElse ∷ tokens otherwise)) ++ end)) empty
    ∙ ap (λ x. stays_idle (Some (Test 0)) ((tokens test ++ CondThen ∷ CondElse ∷ tokens x) ++ end)) none
    ∙ ap (λ x. stays_idle (Some (Test 0)) x) (append_assoc (tokens test) (CondThen ∷ CondElse ∷ []) end)
    ∙ over_test (Some 0) (tokens test) (CondElse ∷ end) leaves ∙ e.1
idle_arms (ElseIf test body arms) end (leaves, empty, more) e =
    ap (λ x. stays_idle (Some (Test 0)) ((tokens test ++ CondThen ∷ (tokens x ++ CondElse ∷ arm_tokens arms)) ++ end)) empty
    ∙ ap (λ x. stays_idle (Some (Test 0)) x) (append_assoc (tokens test) (CondThen ∷ CondElse ∷ arm_tokens arms) end)
    ∙ over_test (Some 0) (tokens test) (CondElse ∷ (arm_tokens arms ++ end)) leaves ∙ as_turn (arm_tokens arms ++ end) (idle_arms arms end more e)

pub no_effect_is : (after : List Token) → (stays_idle (Some (Test 0)) after ≡ true) ↔ HasNoEffect after
no_effect_is after = ((λ e. whole_test after (idle_there (Test 0) after e)), back)
  where
    back : HasNoEffect after → stays_idle (Some (Test 0)) after ≡ true
    back h = ap (λ x. stays_idle (Some (Test 0)) x) h.spans ∙ idle_arms h.arms (closing h.closed ++ h.rest) h.idle (at_end h.closed h.rest h.ends)

-- a place from which on the tokens decide the same
pub effect_decided : (after : List Token) (part : Idle) (rest : List Token) (b : Bool) → stays_idle (Some part) rest ≡ stays_idle (Some (Test 0)) after → stays_idle (Some part) rest ≡ b → IsTrue b ↔ HasNoEffect after
effect_decided after part rest b same is = ((λ t. (no_effect_is after).0 (sym same ∙ is ∙ t)), (λ h. sym is ∙ same ∙ (no_effect_is after).1 h))
