-- Two lists of one length, side by side, and three lists one after the other.
use Rattle.std.proofs.Common.{◌≡◌, ℕ, ◌-◌, ◌<◌, ◌≤◌, List, [], ◌∷◌, ◌++◌, length, map, get_or, refl, sym, ap, ◌∙◌, arith}
use Rattle.std.proofs.Math.Seq.{get_or-append_right}
use Rattle.std.proofs.lemmas.List.{get_or_append_left}
use Rattle.std.proofs.lemmas.List.{nil_from_length}
use Rattle.std.specs.List.{zip}
use Rattle.ti_words.specs.Spelling.{name_in, mark_in}

pub zip_push : {N B : Type 0} (f : N → List ℕ) (xs : List N) (ys : List B) (x : N) (y : B) → length xs ≡ length ys
    → zip (map f (xs ++ x ∷ [])) (ys ++ y ∷ []) ≡ zip (map f xs) ys ++ (f x, y) ∷ []
zip_push f [] ys x y h = rw (nil_from_length ys (omega arith)) refl
zip_push {N = N} {B = B} f (a ∷ as1) ys x y h = grind (arith, zip_push {N = N} {B = B} f as1)

pub firsts : {N B : Type 0} (f : N → List ℕ) (xs : List N) (ys : List B) → length xs ≡ length ys → map name_in (zip (map f xs) ys) ≡ map f xs
firsts f [] ys h = refl
firsts {N = N} {B = B} f (x ∷ xs) ys h = grind (arith, firsts {N = N} {B = B} f xs)

pub seconds : {N B : Type 0} (f : N → List ℕ) (xs : List N) (ys : List B) → length xs ≡ length ys → map mark_in (zip (map f xs) ys) ≡ ys
seconds f [] ys h = sym (nil_from_length ys (omega arith))
seconds {N = N} {B = B} f (x ∷ xs) ys h = grind (arith, seconds {N = N} {B = B} f xs)

pub in_second : {A : Type 0} (as1 bs cs : List A) (i n : ℕ) (d : A) → length as1 ≡ n → n ≤ i → i - n < length bs → get_or (as1 ++ (bs ++ cs)) i d ≡ get_or bs (i - n) d
in_second as1 bs cs i n d is after within =
    get_or-append_right as1 (bs ++ cs) i d (omega arith) ∙ get_or_append_left bs cs d (i - length as1) (omega arith) ∙ ap (λ k. get_or bs (i - k) d) is

pub in_third : {A : Type 0} (as1 bs cs : List A) (i n m : ℕ) (d : A) → length as1 ≡ n → length bs ≡ m → n ≤ i → m ≤ i - n → get_or (as1 ++ (bs ++ cs)) i d ≡ get_or cs (i - n - m) d
in_third as1 bs cs i n m d is also after past =
    get_or-append_right as1 (bs ++ cs) i d (omega arith) ∙ get_or-append_right bs cs (i - length as1) d (omega arith)
    ∙ ap (λ k. get_or cs (i - k - length bs) d) is ∙ ap (λ k. get_or cs (i - n - k) d) also
