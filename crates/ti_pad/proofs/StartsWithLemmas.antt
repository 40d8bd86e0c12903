-- What stands at the front of some bytes: a given text, or the longest run of digits.
use Rattle.std.proofs.Common.{◌≡◌, ◌∙◌, ℕ, Bool, true, false, cond, List, [], ◌∷◌, ◌++◌, ap, sym, refl, length, take, drop, one-add}
use Rattle.std.specs.Prelude.{Option, Some, find, is_some, take_while}
use Rattle.std.specs.List.{list_all, prefix_len}
use Rattle.std.specs.Str.{bytes_eq}
use Rattle.std.proofs.lemmas.Bool.{and_parts}
use Rattle.std.proofs.lemmas.List.{take-append-drop, take_at}
use Rattle.std.proofs.lemmas.List.Folds.{length-prefix_len}
use Rattle.std.proofs.lemmas.Slice.Eq.{bytes_eq-Decides}
use Rattle.ti_pad.specs.Marks.{starts_with}

pub starts : (bytes front : List ℕ) → starts_with bytes front ≡ true → bytes ≡ front ++ drop (length front) bytes
starts bytes front e =
    let same : take (length front) bytes ≡ front = (bytes_eq-Decides (take (length front) bytes) front).0 e in
    sym (take-append-drop (length front) bytes) ∙ ap (λ l. l ++ drop (length front) bytes) same

-- the longest run ends where its first byte does not belong
pub prefix_len-run : (p : ℕ → Bool) (run rest : List ℕ) → list_all p run ≡ true → prefix_len p rest ≡ 0 → prefix_len p (run ++ rest) ≡ length run
prefix_len-run p [] rest all e = e
prefix_len-run p (x ∷ run) rest all e =
    let (first, more) = and_parts (p x) (list_all p run) all in
    rw (first, prefix_len-run p run rest more e, one-add) refl

pub take_while-run : (p : ℕ → Bool) (run rest : List ℕ) → list_all p run ≡ true → prefix_len p rest ≡ 0 → take_while p (run ++ rest) ≡ run
take_while-run p run rest all e = ap (λ n. take n (run ++ rest)) (prefix_len-run p run rest all e) ∙ take_at run rest (length run) refl

one_more : (b : Bool) (x : List ℕ) (o : Option (List ℕ)) → is_some o ≡ true → is_some (cond b (Some x) o) ≡ true
one_more true x o h = refl
one_more false x o h = h

-- some bytes are their longest run and what stands after it
pub take_while-rest : (p : ℕ → Bool) (xs : List ℕ) → xs ≡ take_while p xs ++ drop (length (take_while p xs)) xs
take_while-rest p xs =
    sym (take-append-drop (prefix_len p xs) xs) ∙ ap (λ n. take_while p xs ++ drop n xs) (sym (length-prefix_len p xs))

-- what a search in a list of texts finds passes, and is in the list
find_by : (test : List ℕ → Bool) (x found : List ℕ) (xs : List (List ℕ)) → (find test xs ≡ Some found → (test found ≡ true) × (is_some (find (bytes_eq found) xs) ≡ true))
    → (b : Bool) → test x ≡ b → cond b (Some x) (find test xs) ≡ Some found
    → (test found ≡ true) × (is_some (cond (bytes_eq found x) (Some x) (find (bytes_eq found) xs)) ≡ true)
find_by test x found xs ih true t e =
    let same : x ≡ found = cc in
    let equal : bytes_eq found x ≡ true = (bytes_eq-Decides found x).1 (sym same) in
    (ap test (sym same) ∙ t, rw equal)
find_by test x found xs ih false t e = ((ih e).0, one_more (bytes_eq found x) x (find (bytes_eq found) xs) (ih e).1)

pub find_some : (test : List ℕ → Bool) (found : List ℕ) (xs : List (List ℕ)) → find test xs ≡ Some found
    → (test found ≡ true) × (is_some (find (bytes_eq found) xs) ≡ true)
find_some test found [] e = cc
find_some test found (x ∷ xs) e = find_by test x found xs (find_some test found xs) (test x) refl e
