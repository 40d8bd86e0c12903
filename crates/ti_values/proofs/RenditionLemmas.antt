-- Renditions and shifts, a byte or a part at a time.
use Rattle.std.proofs.Common.{◌≡◌, ◌≢◌, ◌∙◌, ℕ, zero, suc, ◌+◌, ◌-◌, ◌<◌, ◌≤◌, ◌&&◌, Bool, true, false, List, [], ◌∷◌, ◌++◌, add-one, ap, append_assoc, arith, cond, drop, drop-cons, get_or, length, nat_eq, nat_lt, refl, sym, take, true≢false, Bor}
use Rattle.std.proofs.lemmas.List.{append-nil, drop_all, get_or-drop, length-drop, map-append, take_more, take_all}
use Rattle.std.proofs.lemmas.Bool.Decides.{nat_tests}
use Rattle.ti_values.specs.Renditions.{are_parts, are_parts_after, is_separator, parameters, parameters_in, part_len, rendition_of, shift_in, shift_len, shifts, split_after, without_zeros}
use Rattle.ti_values.specs.inner.Rows.{slices_of}

-- ---- what is added

-- one part, and what is to come
pub added : (old new part rest all whole : List (List ℕ)) → old ++ all ≡ whole → all ≡ part ++ rest → new ≡ old ++ part → new ++ rest ≡ whole
added old new part rest all whole so_far is put =
    ap (λ l. l ++ rest) put ∙ append_assoc old part rest ∙ ap (λ l. old ++ l) (sym is) ∙ so_far

-- nothing is to come
pub added_all : (old rest whole : List (List ℕ)) → old ++ rest ≡ whole → rest ≡ [] → old ≡ whole
added_all old rest whole so_far none = sym (append-nil old) ∙ ap (λ l. old ++ l) (sym none) ∙ so_far

-- a list of lent texts with one more
pub one_more : (old new : List (Bor (List ℕ))) (last : Bor (List ℕ)) (part : List ℕ) → new ≡ old ++ last ∷ [] → last.now ≡ part → slices_of new ≡ slices_of old ++ part ∷ []
one_more old new last part put is =
    ap slices_of put ∙ map-append (λ (s : Bor (List ℕ)). s.now) old (last ∷ []) ∙ ap (λ p. slices_of old ++ p ∷ []) is

-- ---- a byte further

cut_at : (bytes : List ℕ) (i : ℕ) → i < length bytes → drop i bytes ≡ get_or bytes i 0 ∷ drop (i + 1) bytes
cut_at bytes i within = drop-cons bytes i 0 within ∙ ap (λ n. get_or bytes i 0 ∷ drop n bytes) (sym (add-one i))

pub parameters_next : (bytes : List ℕ) (i : ℕ) → i < length bytes → parameters (drop i bytes) ≡ parameters_in (rendition_of (drop i bytes)) ++ parameters (drop (i + 1) bytes)
unfolding parameters
parameters_next bytes i within =
    ap parameters (cut_at bytes i within) ∙ ap (λ l. parameters_in (rendition_of l) ++ parameters (drop (i + 1) bytes)) (sym (cut_at bytes i within))

pub no_parameters : (bytes : List ℕ) (i : ℕ) → length bytes ≤ i → parameters (drop i bytes) ≡ []
unfolding parameters
no_parameters bytes i past = ap parameters (drop_all i bytes past)

pub shifts_next : (bytes : List ℕ) (i : ℕ) → i < length bytes → shifts (drop i bytes) ≡ shift_in (shift_len (drop i bytes)) (drop i bytes) ++ shifts (drop (i + 1) bytes)
unfolding shifts
shifts_next bytes i within =
    ap shifts (cut_at bytes i within) ∙ ap (λ l. shift_in (shift_len l) l ++ shifts (drop (i + 1) bytes)) (sym (cut_at bytes i within))

pub no_shifts : (bytes : List ℕ) (i : ℕ) → length bytes ≤ i → shifts (drop i bytes) ≡ []
unfolding shifts
no_shifts bytes i past = ap shifts (drop_all i bytes past)

-- ---- parameters with `;` between them

-- the bytes from one place to another
abbrev pub between : List ℕ → (start end : ℕ) → List ℕ
between bytes start end = take (end - start) (drop start bytes)

at_drop : (bytes : List ℕ) (start place : ℕ) → start ≤ place → get_or (drop start bytes) (place - start) 0 ≡ get_or bytes place 0
at_drop bytes start place low =
    let sum : start + (place - start) ≡ place = omega (arith, low) in
    get_or-drop start bytes (place - start) 0 ∙ ap (λ n. get_or bytes n 0) sum

split_by : (front : List ℕ) (byte : ℕ) (rest : List ℕ) (b : Bool) → is_separator byte ≡ b
    → split_after front (byte ∷ rest) ≡ cond b (without_zeros front ∷ split_after [] rest) (split_after (front ++ byte ∷ []) rest)
unfolding split_after
split_by front byte rest b is = ap (λ c. cond c (without_zeros front ∷ split_after [] rest) (split_after (front ++ byte ∷ []) rest)) is

longer : (bytes : List ℕ) (start place : ℕ) → start ≤ place → place < length bytes → between bytes start place ++ get_or bytes place 0 ∷ [] ≡ between bytes start (place + 1)
longer bytes start place low within =
    let inside : place - start < length (drop start bytes) = omega (arith, low, within, length-drop start bytes) in
    let more : place + 1 - start ≡ (place - start) + 1 = omega (arith, low) in
    ap (λ b. between bytes start place ++ b ∷ []) (sym (at_drop bytes start place low))
    ∙ sym (take_more (drop start bytes) (place - start) 0 inside)
    ∙ ap (λ n. take n (drop start bytes)) (sym more)

pub split_on : (bytes : List ℕ) (start place : ℕ) → start ≤ place → place < length bytes → is_separator (get_or bytes place 0) ≡ false
    → split_after (between bytes start place) (drop place bytes) ≡ split_after (between bytes start (place + 1)) (drop (place + 1) bytes)
split_on bytes start place low within other =
    ap (split_after (between bytes start place)) (cut_at bytes place within)
    ∙ split_by (between bytes start place) (get_or bytes place 0) (drop (place + 1) bytes) false other
    ∙ ap (λ front. split_after front (drop (place + 1) bytes)) (longer bytes start place low within)

pub split_here : (bytes : List ℕ) (start place : ℕ) → place < length bytes → is_separator (get_or bytes place 0) ≡ true
    → split_after (between bytes start place) (drop place bytes)
    ≡ without_zeros (between bytes start place) ∷ split_after (between bytes (place + 1) (place + 1)) (drop (place + 1) bytes)
split_here bytes start place within is =
    let none : place + 1 - (place + 1) ≡ 0 = omega arith in
    ap (split_after (between bytes start place)) (cut_at bytes place within)
    ∙ split_by (between bytes start place) (get_or bytes place 0) (drop (place + 1) bytes) true is
    ∙ ap (λ n. without_zeros (between bytes start place) ∷ split_after (take n (drop (place + 1) bytes)) (drop (place + 1) bytes)) (sym none)

pub split_end : (bytes : List ℕ) (start place : ℕ) → length bytes ≤ place → split_after (between bytes start place) (drop place bytes) ≡ without_zeros (drop start bytes) ∷ []
unfolding split_after
split_end bytes start place past =
    ap (split_after (between bytes start place)) (drop_all place bytes past)
    ∙ ap (λ front. without_zeros front ∷ []) (take_all (place - start) (drop start bytes) (omega (arith, past, length-drop start bytes)))

-- ---- a part further

parts_past : (k : ℕ) (bytes : List ℕ) → are_parts_after k bytes ≡ are_parts_after 0 (drop k bytes)
unfolding are_parts_after
parts_past zero bytes = refl
parts_past (suc k) [] = refl
parts_past (suc k) (byte ∷ rest) = parts_past k rest

parts_by : (byte : ℕ) (rest : List ℕ) (len : ℕ) → part_len (byte ∷ rest) ≡ len → are_parts_after 0 (byte ∷ rest) ≡ nat_lt 0 len && are_parts_after (len - 1) rest
unfolding are_parts_after
parts_by byte rest len is = ap (λ n. nat_lt 0 n && are_parts_after (n - 1) rest) is

more_than_none : (n : ℕ) → nat_lt 0 (suc n) ≡ true
more_than_none n = grind (arith, nat_tests)

pub parts_next : (bytes : List ℕ) (len : ℕ) → nat_eq (length bytes) 0 ≡ false → part_len bytes ≡ len → len ≢ 0 → are_parts bytes ≡ are_parts (drop len bytes)
parts_next [] len some is more = absurd (true≢false some)
parts_next (byte ∷ rest) zero some is more = absurd (more refl)
parts_next (byte ∷ rest) (suc n) some is more =
    let less : suc n - 1 ≡ n = omega arith in
    parts_by byte rest (suc n) is ∙ ap (λ b. b && are_parts_after (suc n - 1) rest) (more_than_none n) ∙ ap (λ k. are_parts_after k rest) less ∙ parts_past n rest

pub parts_stop : (bytes : List ℕ) → nat_eq (length bytes) 0 ≡ false → part_len bytes ≡ 0 → are_parts bytes ≡ false
parts_stop [] some is = absurd (true≢false some)
parts_stop (byte ∷ rest) some is = parts_by byte rest 0 is

is_none : (n : ℕ) → nat_eq n 0 ≡ true → n ≡ 0
is_none n e = grind (arith, nat_tests)

pub parts_end : (bytes : List ℕ) → nat_eq (length bytes) 0 ≡ true → are_parts bytes ≡ true
unfolding are_parts_after
parts_end [] none = refl
parts_end (byte ∷ rest) none = absurd (omega (arith, is_none (length (byte ∷ rest)) none))
