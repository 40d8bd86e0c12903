-- How many texts at the start of a list have at most so many bytes together.
use Rattle.std.proofs.Common.{◌≡◌, ◌∙◌, ◌≤◌, ℕ, ◌+◌, ◌-◌, suc, Bool, true, false, List, [], ◌∷◌, ap, arith, cond, drop, length, map, nat_lt, sym, take}
use Rattle.std.proofs.lemmas.List.{drop-map, length-drop, take-map, take_all}
use Rattle.ti_rules.specs.Controls.{fitting, looked_at, looked_count}

at_most : (stops : Bool) (n m : ℕ) → n ≤ m → cond stops 0 (suc n) ≤ suc m
at_most true n m h = omega arith
at_most false n m h = omega (arith, h)

pub fits : (room : ℕ) (texts : List (List ℕ)) → fitting room texts ≤ length texts
fits room [] = omega arith
fits room (text ∷ texts) = at_most (nat_lt room (length text)) (fitting (room - length text) texts) (length texts) (fits (room - length text) texts)

-- the count so far, with those that fit among the others, is that of all
pub fitting_stop : {X : Type 0} (text_of : X → List ℕ) (room count all : ℕ) (x : X) (left rest : List X) → left ≡ x ∷ rest → nat_lt room (length (text_of x)) ≡ true
    → count + fitting room (map text_of left) ≡ all → count ≡ all
fitting_stop text_of room count all x left rest is stops e =
    let none : fitting room (map text_of left) ≡ 0 =
    ap (λ l. fitting room (map text_of l)) is ∙ ap (λ b. cond b 0 (suc (fitting (room - length (text_of x)) (map text_of rest)))) stops in
    omega (arith, none, e)

pub fitting_next : {X : Type 0} (text_of : X → List ℕ) (room count all : ℕ) (x : X) (left rest : List X) → left ≡ x ∷ rest → nat_lt room (length (text_of x)) ≡ false
    → count + fitting room (map text_of left) ≡ all → (count + 1) + fitting (room - length (text_of x)) (map text_of rest) ≡ all
fitting_next text_of room count all x left rest is goes e =
    let more : fitting room (map text_of left) ≡ suc (fitting (room - length (text_of x)) (map text_of rest)) =
    ap (λ l. fitting room (map text_of l)) is ∙ ap (λ b. cond b 0 (suc (fitting (room - length (text_of x)) (map text_of rest)))) goes in
    omega (arith, more, e)

pub fitting_end : {X : Type 0} (text_of : X → List ℕ) (room count all : ℕ) (left : List X) → left ≡ [] → count + fitting room (map text_of left) ≡ all → count ≡ all
fitting_end text_of room count all left is e =
    let none : fitting room (map text_of left) ≡ 0 = ap (λ l. fitting room (map text_of l)) is in
    omega (arith, none, e)

-- what is held of those at the start that fit, and of the others
pub taken_held : {X Z : Type 0} (hold : Z → X) (text_of : X → List ℕ) (items taken : List Z) (all : List X) (end : ℕ) → map hold items ≡ all
    → end ≡ looked_count text_of (map hold items) → taken ≡ take end items → map hold taken ≡ looked_at text_of all
taken_held hold text_of items taken all end same is cut =
    ap (map hold) cut ∙ sym (take-map hold end items) ∙ ap (λ n. take n (map hold items)) is ∙ ap (looked_at text_of) same

pub rest_held : {X Z : Type 0} (hold : Z → X) (text_of : X → List ℕ) (items rest : List Z) (all : List X) (end : ℕ) → map hold items ≡ all
    → end ≡ looked_count text_of (map hold items) → rest ≡ take (length items - end) (drop end items) → map hold rest ≡ drop (looked_count text_of all) all
rest_held hold text_of items rest all end same is cut =
    ap (map hold) (cut ∙ take_all (length items - end) (drop end items) (omega (arith, length-drop end items))) ∙ sym (drop-map hold end items) ∙ ap (λ n. drop n (map hold items)) is ∙ ap (λ l. drop (looked_count text_of l) l) same
