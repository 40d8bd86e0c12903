-- What stands between `|`, a byte further.
use Rattle.std.proofs.Common.{◌≡◌, ◌∙◌, ℕ, ◌+◌, ◌-◌, ◌<◌, ◌≤◌, Bool, true, false, List, [], ◌∷◌, ◌++◌, add-one, ap, append_assoc, arith, cond, drop, drop-cons, get_or, length, sym, take, Bor}
use Rattle.std.proofs.lemmas.List.{drop_all, get_or-drop, length-drop, map-append, take_more, take_all}
use Rattle.ti_rules.specs.NameBytes.{is_bar, parted}
use Rattle.ti_rules.specs.inner.Lent.{texts_lent}

pub added : (old new part rest all whole : List (List ℕ)) → old ++ all ≡ whole → all ≡ part ++ rest → new ≡ old ++ part → new ++ rest ≡ whole
added old new part rest all whole so_far is put =
    ap (λ l. l ++ rest) put ∙ append_assoc old part rest ∙ ap (λ l. old ++ l) (sym is) ∙ so_far

-- a list of lent texts with one more
pub one_more : (old new : List (Bor (List ℕ))) (last : Bor (List ℕ)) (part : List ℕ) → new ≡ old ++ last ∷ [] → last.now ≡ part → texts_lent new ≡ texts_lent old ++ part ∷ []
one_more old new last part put is =
    ap texts_lent put ∙ map-append (λ (s : Bor (List ℕ)). s.now) old (last ∷ []) ∙ ap (λ p. texts_lent old ++ p ∷ []) is

cut_at : (bytes : List ℕ) (i : ℕ) → i < length bytes → drop i bytes ≡ get_or bytes i 0 ∷ drop (i + 1) bytes
cut_at bytes i within = drop-cons bytes i 0 within ∙ ap (λ n. get_or bytes i 0 ∷ drop n bytes) (sym (add-one i))

-- the bytes from one place to another
abbrev pub between : List ℕ → (start end : ℕ) → List ℕ
between bytes start end = take (end - start) (drop start bytes)

at_drop : (bytes : List ℕ) (start place : ℕ) → start ≤ place → get_or (drop start bytes) (place - start) 0 ≡ get_or bytes place 0
at_drop bytes start place low =
    let sum : start + (place - start) ≡ place = omega (arith, low) in
    get_or-drop start bytes (place - start) 0 ∙ ap (λ n. get_or bytes n 0) sum

parted_by : (front : List ℕ) (byte : ℕ) (rest : List ℕ) (b : Bool) → is_bar byte ≡ b → parted front (byte ∷ rest) ≡ cond b (front ∷ parted [] rest) (parted (front ++ byte ∷ []) rest)
unfolding parted
parted_by front byte rest b is = ap (λ c. cond c (front ∷ parted [] rest) (parted (front ++ byte ∷ []) rest)) is

longer : (bytes : List ℕ) (start place : ℕ) → start ≤ place → place < length bytes → between bytes start place ++ get_or bytes place 0 ∷ [] ≡ between bytes start (place + 1)
longer bytes start place low within =
    let inside : place - start < length (drop start bytes) = omega (arith, low, within, length-drop start bytes) in
    let more : place + 1 - start ≡ (place - start) + 1 = omega (arith, low) in
    ap (λ b. between bytes start place ++ b ∷ []) (sym (at_drop bytes start place low))
    ∙ sym (take_more (drop start bytes) (place - start) 0 inside)
    ∙ ap (λ n. take n (drop start bytes)) (sym more)

pub parted_on : (bytes : List ℕ) (start place : ℕ) → start ≤ place → place < length bytes → is_bar (get_or bytes place 0) ≡ false
    → parted (between bytes start place) (drop place bytes) ≡ parted (between bytes start (place + 1)) (drop (place + 1) bytes)
parted_on bytes start place low within other =
    ap (parted (between bytes start place)) (cut_at bytes place within)
    ∙ parted_by (between bytes start place) (get_or bytes place 0) (drop (place + 1) bytes) false other
    ∙ ap (λ front. parted front (drop (place + 1) bytes)) (longer bytes start place low within)

pub parted_here : (bytes : List ℕ) (start place : ℕ) → place < length bytes → is_bar (get_or bytes place 0) ≡ true
    → parted (between bytes start place) (drop place bytes) ≡ between bytes start place ∷ parted (between bytes (place + 1) (place + 1)) (drop (place + 1) bytes)
parted_here bytes start place within is =
    let none : place + 1 - (place + 1) ≡ 0 = omega arith in
    ap (parted (between bytes start place)) (cut_at bytes place within)
    ∙ parted_by (between bytes start place) (get_or bytes place 0) (drop (place + 1) bytes) true is
    ∙ ap (λ n. between bytes start place ∷ parted (take n (drop (place + 1) bytes)) (drop (place + 1) bytes)) (sym none)

pub parted_end : (bytes : List ℕ) (start place : ℕ) → length bytes ≤ place → parted (between bytes start place) (drop place bytes) ≡ drop start bytes ∷ []
unfolding parted
parted_end bytes start place past =
    ap (parted (between bytes start place)) (drop_all place bytes past)
    ∙ ap (λ front. front ∷ []) (take_all (place - start) (drop start bytes) (omega (arith, past, length-drop start bytes)))
