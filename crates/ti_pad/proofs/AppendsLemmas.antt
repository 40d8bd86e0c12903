-- A write that goes on where earlier ones stopped.
use Rattle.std.proofs.Common.{◌≡◌, refl, ℕ, ◌+◌, ◌-◌, ◌≤◌, List, [], ◌∷◌, ◌++◌, length, take, drop, replicate, subst, sym, ap, ◌∙◌, arith, length-append, length-drop, take_all}
use Rattle.std.specs.Prelude.{Option}
use Rattle.std.proofs.Math.Seq.{take-add}
use Rattle.std.proofs.lemmas.List.{drop-drop, drop_at, replicate-append-replicate, take-append-le, take-replicate, take_rest}
use Rattle.std.specs.Io.KnownBytes.{Appends}
use Rattle.std.proofs.KnownBytes.{Appends-trans}

pub Appends-next : (a b c : Option (List ℕ)) (xs : List ℕ) (i n : ℕ) → Appends a b (take i xs)
    → Appends b c (take n (take (length xs - i) (drop i xs))) → Appends a c (take (i + n) xs)
Appends-next a b c xs i n p q =
    let e : take i xs ++ take n (take (length xs - i) (drop i xs)) ≡ take (i + n) xs =
    ap (λ l. take i xs ++ take n l) (take_rest xs i) ∙ sym (take-add i n xs) in
    subst (Appends a c) e (Appends-trans a b c _ _ p q)

-- pad bytes, and then more of them
pub Appends-pads : (a b c : Option (List ℕ)) (n m pad : ℕ) → Appends a b (replicate n pad) → Appends b c (replicate m pad) → Appends a c (replicate (n + m) pad)
Appends-pads a b c n m pad p q = subst (Appends a c) (replicate-append-replicate n m pad) (Appends-trans a b c _ _ p q)

-- pad bytes, and then the first of more of them
pub Appends-pads-part : (a b c : Option (List ℕ)) (n m size pad : ℕ) → m ≤ size → Appends a b (replicate n pad) → Appends b c (take m (replicate size pad))
    → Appends a c (replicate (n + m) pad)
Appends-pads-part a b c n m size pad h p q =
    let part : take m (replicate size pad) ≡ replicate m pad = take-replicate m size pad h in
    Appends-pads a b c n m pad p (rw part at q)

-- the first bytes of a text, and then the first of a stretch that stands after them
pub Appends-part : (a b c : Option (List ℕ)) (text run rest : List ℕ) (i m : ℕ) → drop i text ≡ run ++ rest → m ≤ length run → Appends a b (take i text)
    → Appends b c (take m run) → Appends a c (take (i + m) text)
Appends-part a b c text run rest i m left h p q =
    let e : take i text ++ take m run ≡ take (i + m) text =
    ap (λ l. take i text ++ l) (sym (take-append-le m run rest h) ∙ ap (take m) (sym left)) ∙ sym (take-add i m text) in
    subst (Appends a c) e (Appends-trans a b c _ _ p q)

-- and the whole stretch
pub Appends-run : (a b c : Option (List ℕ)) (text run rest : List ℕ) (i n : ℕ) → drop i text ≡ run ++ rest → n ≡ length run → Appends a b (take i text)
    → Appends b c run → Appends a c (take (i + n) text)
Appends-run a b c text run rest i n left is p q =
    let whole : take n run ≡ run = take_all n run (omega arith) in
    Appends-part a b c text run rest i n left (omega arith) p (rw whole q)

-- a run that starts the rest of a text lies within the text
pub part_within : (text run rest : List ℕ) (i : ℕ) → drop i text ≡ run ++ rest → i ≤ length text → i + length run ≤ length text
part_within text run rest i left h =
    omega (arith, ap length left, length-drop i text, length-append run rest)

-- what stands after the run
pub drop-run : (text run rest : List ℕ) (i n : ℕ) → drop i text ≡ run ++ rest → n ≡ length run → drop (i + n) text ≡ rest
drop-run text run rest i n left is = sym (drop-drop n i text) ∙ ap (drop n) left ∙ drop_at run rest n (sym is)

-- an empty text has no run
pub no_bytes : (xs : List ℕ) → length xs ≡ 0 → xs ≡ []
no_bytes [] e = refl
no_bytes (x ∷ xs) e = absurd (omega arith)

pub no_run : (text run rest : List ℕ) (i : ℕ) → drop i text ≡ run ++ rest → text ≡ [] → run ≡ []
no_run text run rest i left none = no_bytes run (omega (arith, ap length left, length-drop i text, length-append run rest, ap length none))
