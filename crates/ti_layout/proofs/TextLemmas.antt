-- Texts up to their NUL.
use Rattle.std.proofs.Common.{◌≡◌, ℕ, zero, suc, ◌+◌, ◌-◌, ◌≤◌, ℤ, pos, negsuc, Bool, true, false, not, cond, eqb, ltb, List, [], ◌∷◌, ◌++◌, length, take, drop, refl, sym, ap, ◌∙◌, arith, length-drop}
use Rattle.std.proofs.lemmas.Bool.{le-ltb, eqb-false, eqb-true}
use Rattle.std.proofs.lemmas.List.Sums.{take_while-cons}
use Rattle.std.proofs.lemmas.List.{take_all, drop-drop}
use Rattle.std.specs.List.{list_any}
use Rattle.ti_words.specs.Texts.{is_nul}
use Rattle.ti_layout.specs.Table.{until_nul, text_from, text_of_word}
use Rattle.ti_layout.specs.Checks.{is_ended, is_offset_below}
use Rattle.ti_words.specs.Spelling.{HasNoNul, IsText}

pub record Ends (xs : List ℕ) : Type 0 where
  pub clean : HasNoNul (until_nul xs)
  pub found : take (length (until_nul xs ++ 0 ∷ [])) xs ≡ until_nul xs ++ 0 ∷ []

more : (x : ℕ) (xs : List ℕ) → (list_any is_nul xs ≡ true → Ends xs) → (b : Bool) → eqb x 0 ≡ b → list_any is_nul (x ∷ xs) ≡ true → Ends (x ∷ xs)
more x xs h true e any =
    let stop : until_nul (x ∷ xs) ≡ [] = take_while-cons (λ b. not (is_nul b)) x xs ∙ rw e refl in
    record { clean = rw stop tt; found = rw stop (ap (λ n. n ∷ []) (eqb-true x 0 e)) }
more x xs h false e any =
    let goes : until_nul (x ∷ xs) ≡ x ∷ until_nul xs = take_while-cons (λ b. not (is_nul b)) x xs ∙ rw e refl in
    let rest = h (rw e at any) in
    record { clean = rw goes (eqb-false x 0 e, rest.clean); found = rw goes (ap (λ (t : List ℕ). x ∷ t) rest.found) }

pub ends : (xs : List ℕ) → list_any is_nul xs ≡ true → Ends xs
ends [] h = absurd cc
ends (x ∷ xs) h = more x xs (ends xs) (eqb x 0) refl h

pub is_text : (table : List ℕ) (z : ℤ) → is_offset_below (length table) z ≡ true → is_ended table z ≡ true → IsText table z (text_of_word table z)
is_text table (pos place) below ended = let t = ends (drop place table) ended in (place, refl, t.clean, record { found = t.found })
is_text table (negsuc zero) below ended = refl
is_text table (negsuc (suc zero)) below ended = refl
is_text table (negsuc (suc (suc n))) below ended = absurd (let e : ltb (suc (suc n)) 2 ≡ false = le-ltb _ _ (omega arith) in let f : false ≡ true = sym e ∙ below in cc)

-- ---- a text that starts within another

until_within : (xs : List ℕ) (k : ℕ) → k ≤ length (until_nul xs) → drop k (until_nul xs) ≡ until_nul (drop k xs)
until_within xs zero le = refl
until_within [] (suc k) le = absurd (omega arith)
until_within (x ∷ xs) (suc k) le = by_test (not (is_nul x)) (until_nul (x ∷ xs)) (take_while-cons (λ b. not (is_nul b)) x xs) le (until_within xs k)
  where
    by_test : (b : Bool) (t : List ℕ) → t ≡ cond b (x ∷ until_nul xs) [] → suc k ≤ length t → (k ≤ length (until_nul xs) → drop k (until_nul xs) ≡ until_nul (drop k xs)) → drop (suc k) t ≡ until_nul (drop k xs)
    by_test true t e le rest = let n : length t ≡ suc (length (until_nul xs)) = ap length e in ap (drop (suc k)) e ∙ rest (omega arith)
    by_test false t e le rest = let n : length t ≡ 0 = ap length e in absurd (omega arith)

-- it is the rest of the other
pub tail_is : (table cached : List ℕ) (start place : ℕ) → cached ≡ text_from table start → start ≤ place → place ≤ start + length cached
    → take (length cached - (place - start)) (drop (place - start) cached) ≡ text_from table place
tail_is table cached start place e low high =
    let k = place - start in
    let n : length cached ≡ length (text_from table start) = ap length e in
    let at : start + k ≡ place = omega arith in
    take_all (length cached - k) (drop k cached) (omega (arith, length-drop k cached))
    ∙ ap (drop k) e ∙ until_within (drop start table) k (omega arith)
    ∙ ap until_nul (drop-drop k start table) ∙ ap (text_from table) at
