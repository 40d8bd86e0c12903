-- Arrays that are filled item by item, from a place on.
use Rattle.std.proofs.Common.{◌≡◌, ℕ, ◌+◌, ◌<◌, ◌≤◌, List, [], ◌∷◌, ◌++◌, length, map, take, drop, get_or, sym, ap, ◌∙◌, subst, arith, append_assoc}
use Rattle.std.specs.Prelude.{set}
use Rattle.std.proofs.lemmas.List.{length-append, length-map, length-take-le, map-append, map_more, take_more_set, drop-drop, drop-set-lt}
use Rattle.ti_c.specs.Entries.{StartsWith}

-- what an array holds where n of the items have been put into it from a place on
abbrev pub put_values : {A B C : Type 0} → (A → B) → (C → B) → List A → ℕ → List C → ℕ → List B
put_values held shown before from items n = map held (take from before) ++ map shown (take n items)

length_put : {A B C : Type 0} (held : A → B) (shown : C → B) (before : List A) (from : ℕ) (items : List C) (n : ℕ)
    → from ≤ length before → n ≤ length items → length (put_values held shown before from items n) ≡ from + n
length_put held shown before from items n low few =
    length-append (map held (take from before)) (map shown (take n items))
    ∙ (let a = length-map (take from before) held in
    let b = length-map (take n items) shown in
    let c = length-take-le from before low in
    let d = length-take-le n items few in
    omega arith)

-- one more item is put
pub starts_more : {A B C : Type 0} (held : A → B) (shown : C → B) (before after : List A) (from : ℕ) (items : List C) (i at : ℕ) (d : C) (x : A)
    → StartsWith held before after (put_values held shown before from items i)
    → at ≡ from + i → from + length items ≤ length before → i < length items → at < length after → held x ≡ shown (get_or items i d)
    → StartsWith held before (set after at x) (put_values held shown before from items (i + 1))
starts_more held shown before after from items i at d x so_far place room more within holds =
    let old = put_values held shown before from items i in
    let new = put_values held shown before from items (i + 1) in
    let low : from ≤ length before = omega arith in
    let few : i ≤ length items = omega arith in
    let few_more : i + 1 ≤ length items = omega arith in
    let old_length : length old ≡ at = omega (arith, length_put held shown before from items i low few) in
    let new_length : length new ≡ at + 1 = omega (arith, length_put held shown before from items (i + 1) low few_more) in
    let grown : old ++ held x ∷ [] ≡ new =
    append_assoc (map held (take from before)) (map shown (take i items)) (held x ∷ [])
    ∙ ap (λ l. map held (take from before) ++ l) (ap (λ y. map shown (take i items) ++ y ∷ []) holds ∙ sym (map_more shown items i d more)) in
    let so_far_values : map held (take at after) ≡ old = ap (λ k. map held (take k after)) (sym old_length) ∙ so_far.front in
    let so_far_rest : drop at after ≡ drop at before = ap (λ k. drop k after) (sym old_length) ∙ so_far.rest ∙ ap (λ k. drop k before) old_length in
    record {
      front = ap (λ k. map held (take k (set after at x))) new_length
          ∙ ap (map held) (take_more_set after at x within)
          ∙ map-append held (take at after) (x ∷ [])
          ∙ ap (λ l. l ++ held x ∷ []) so_far_values
          ∙ grown;
      rest = ap (λ k. drop k (set after at x)) new_length
          ∙ drop-set-lt (at + 1) after at x (omega arith)
          ∙ sym (drop-drop 1 at after) ∙ ap (drop 1) so_far_rest ∙ drop-drop 1 at before
          ∙ ap (λ k. drop k before) (sym new_length);
    }

-- items are put after those that an array starts with
pub starts_on : {A B : Type 0} (held : A → B) (before middle after : List A) (first second : List B) (from : ℕ)
    → StartsWith held before middle first → from ≡ length first
    → StartsWith held middle after (map held (take from middle) ++ second)
    → StartsWith held before after (first ++ second)
starts_on held before middle after first second from one at two =
    let front : map held (take from middle) ≡ first = ap (λ k. map held (take k middle)) at ∙ one.front in
    let P : List _ → Type 0 = λ l. StartsWith held middle after (l ++ second) in
    let both = subst P front two in
    let size : length (first ++ second) ≡ length first + length second = length-append first second in
    record {
      front = both.front;
      rest = both.rest
          ∙ ap (λ k. drop k middle) size ∙ sym (drop-drop (length second) (length first) middle)
          ∙ ap (drop (length second)) one.rest
          ∙ drop-drop (length second) (length first) before ∙ ap (λ k. drop k before) (sym size);
    }
