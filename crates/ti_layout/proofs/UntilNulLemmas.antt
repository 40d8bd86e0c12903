-- The first NUL of some bytes is the one that a search finds.
use Rattle.std.proofs.Common.{◌≡◌, ℕ, zero, suc, ◌+◌, ◌*◌, ◌<◌, ◌≤◌, Bool, true, false, not, cond, eqb, map, List, [], ◌∷◌, length, take, refl, sym, ap, ◌∙◌, arith, w64}
use Rattle.std.proofs.lemmas.Bool.{false_from_ne_true}
use Rattle.std.proofs.lemmas.Bool.Decides.{nat_tests}
use Rattle.std.proofs.lemmas.List.{length-take, take_all}
use Rattle.std.specs.List.{position_or_len, prefix_len}
use Rattle.std.specs.Prelude.{min}
use Rattle.std.specs.Int.{trailing_zeros}
use Rattle.std.specs.Simd.Lanes.{mask_l}
use Rattle.std.proofs.lemmas.Simd.{trailing_mask_l}
use Rattle.std.proofs.lemmas.List.Sums.{take_while-cons}
use Rattle.memchr.specs.Find.{Nowhere, Passes, is_byte}
use Rattle.ti_words.specs.Texts.{is_nul}
use Rattle.ti_layout.specs.Table.{until_nul}

-- no byte of the rest is a NUL
rest_has_none : (x : ℕ) (xs : List ℕ) (k : ℕ) → Nowhere (Passes (is_byte 0) (x ∷ xs)) 0 (suc k) → Nowhere (Passes (is_byte 0) xs) 0 k
rest_has_none x xs k none j low high here = none (suc j) (omega arith) (omega arith) here

front_is_none : (x : ℕ) (xs : List ℕ) (k : ℕ) → Nowhere (Passes (is_byte 0) (x ∷ xs)) 0 (suc k) → is_nul x ≡ false
front_is_none x xs k none = false_from_ne_true (eqb x 0) (λ e. none 0 (omega arith) (omega arith) e)

pub until_first : (xs : List ℕ) (k : ℕ) → k < length xs → Nowhere (Passes (is_byte 0) xs) 0 k → Passes (is_byte 0) xs k → take k xs ≡ until_nul xs
until_first [] k lt none here = absurd (omega arith)
until_first (x ∷ xs) zero lt none here = let e : is_nul x ≡ true = here in sym (take_while-cons (λ b. not (is_nul b)) x xs ∙ rw e refl)
until_first (x ∷ xs) (suc k) lt none here =
    let e = front_is_none x xs k none in
    let rest = until_first xs k (omega arith) (rest_has_none x xs k none) here in
    ap (λ t. x ∷ t) rest ∙ sym (take_while-cons (λ b. not (is_nul b)) x xs ∙ rw e refl)

pub until_end : (xs : List ℕ) → Nowhere (Passes (is_byte 0) xs) 0 (length xs) → xs ≡ until_nul xs
until_end [] none = refl
until_end (x ∷ xs) none =
    let e = front_is_none x xs (length xs) none in
    ap (λ t. x ∷ t) (until_end xs (rest_has_none x xs (length xs) none)) ∙ sym (take_while-cons (λ b. not (is_nul b)) x xs ∙ rw e refl)

one_more : (b : Bool) (near all n : ℕ) → cond b (1 + near) 0 < suc n → (near < n → near ≡ all) → cond b (1 + near) 0 ≡ cond b (1 + all) 0
one_more b near all n lt same = grind (arith, nat_tests)

-- the first NUL of the first n bytes is the first of all
same_place : (xs : List ℕ) (n : ℕ) → position_or_len is_nul (take n xs) < n → position_or_len is_nul (take n xs) ≡ position_or_len is_nul xs
same_place xs zero lt = absurd (omega arith)
same_place [] (suc n) lt = refl
same_place (x ∷ xs) (suc n) lt = one_more (not (is_nul x)) (position_or_len is_nul (take n xs)) (position_or_len is_nul xs) n lt (same_place xs n)

pub until_near : (xs : List ℕ) (n : ℕ) → position_or_len is_nul (take n xs) < n → take (position_or_len is_nul (take n xs)) xs ≡ until_nul xs
until_near xs n lt = ap (λ k. take k xs) (same_place xs n lt)

marked_more : (b : Bool) (mask place size : ℕ) → 0 < cond b 1 0 + 2 * mask → (0 < mask → place < size) → cond (not b) (1 + place) 0 < suc size
marked_more b mask place size marked later = grind (arith, nat_tests)

-- if a byte is marked as a NUL, the first NUL stands among the bytes
pub below_marked : (xs : List ℕ) → 0 < mask_l (map is_nul xs) → position_or_len is_nul xs < length xs
below_marked [] marked = absurd (omega arith)
below_marked (x ∷ xs) marked = marked_more (is_nul x) (mask_l (map is_nul xs)) (position_or_len is_nul xs) (length xs) marked (below_marked xs)

-- then the lowest mark stands for the first NUL
pub first_marked : (n : ℕ) (v : List ℕ) (marks : ℕ) → length v ≡ n → n ≤ 64 → marks ≡ mask_l (map is_nul v) → 0 < marks
    → (trailing_zeros w64 marks ≡ position_or_len is_nul v) × (trailing_zeros w64 marks < n)
first_marked n v marks long most is some =
    let marked : 0 < mask_l (map is_nul v) = omega arith in
    let place = ap (trailing_zeros w64) is ∙ trailing_mask_l is_nul 64 v (omega arith) marked in (place, omega (arith, place, below_marked v marked))

-- ---- one text

until_front : (k : ℕ) (xs : List ℕ) → until_nul (take k xs) ≡ take k (until_nul xs)
until_front zero xs = refl
until_front (suc k) [] = refl
until_front (suc k) (x ∷ xs) =
    take_while-cons (λ b. not (is_nul b)) x (take k xs) ∙ by_test (not (is_nul x)) (until_front k xs) ∙ sym (ap (take (suc k)) (take_while-cons (λ b. not (is_nul b)) x xs))
  where
    by_test : (b : Bool) → until_nul (take k xs) ≡ take k (until_nul xs) → cond b (x ∷ until_nul (take k xs)) [] ≡ take (suc k) (cond b (x ∷ until_nul xs) [])
    by_test true rest = ap (λ (t : List ℕ). x ∷ t) rest
    by_test false rest = refl

-- as many bytes as the other text has, and one more, tell whether the text before the NUL is that text
pub told_by_front : (xs text : List ℕ) (k : ℕ) → k ≡ min (length xs) (length text + 1) → (until_nul (take k xs) ≡ text → until_nul xs ≡ text) × (until_nul xs ≡ text → until_nul (take k xs) ≡ text)
told_by_front xs text k e =
    let u = until_nul xs in
    let front : until_nul (take k xs) ≡ take k u = until_front k xs in
    let most : length u ≤ length xs = omega (arith, length-take (prefix_len (λ b. not (is_nul b)) xs) xs) in
    let size = length-take k u in (
      λ h. (let n : length (take k u) ≡ length text = ap length (sym front ∙ h) in sym (take_all k u (omega arith)) ∙ sym front ∙ h),
      λ h. (let n : length u ≡ length text = ap length h in front ∙ take_all k u (omega arith) ∙ h),
    )
