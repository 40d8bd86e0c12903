-- How a printed text is filled to its width.
use Rattle.std.proofs.Common.{◌≡◌, ℕ, ◌+◌, ◌-◌, true, false, List, ◌++◌, length, replicate, refl, ap, sym, ◌∙◌, arith, append_assoc, length-append}
use Rattle.std.proofs.lemmas.List.{replicate-append-replicate, length-replicate}
use Rattle.std.specs.Prelude.{is_none}
use Rattle.ti_cap.specs.declared.language.Format.{Format}
use Rattle.ti_expand.specs.Printed.{fill, with_front, with_zeros}

-- zeros before zeros
more_zeros : (k missing count : ℕ) (ds : List ℕ) → k - (count + length ds) ≡ missing → with_zeros k (replicate count 48 ++ ds) ≡ replicate (missing + count) 48 ++ ds
more_zeros k missing count ds e =
    let there : length (replicate count 48 ++ ds) ≡ count + length ds = simp (length-append, length-replicate) in
    ap (λ (n : ℕ). replicate n 48 ++ (replicate count 48 ++ ds)) {x = k - length (replicate count 48 ++ ds)} {y = missing} (ap (λ (n : ℕ). k - n) there ∙ e)
    ∙ sym (append_assoc (replicate missing 48) (replicate count 48) ds)
    ∙ ap (λ (x : List ℕ). x ++ ds) (replicate-append-replicate missing count 48)

no_spaces : (n : ℕ) (xs : List ℕ) → n ≡ 0 → replicate n 32 ++ xs ≡ xs
no_spaces n xs e = rw e refl

pub zero_filled : (f : Format) (front ds : List ℕ) (count missing : ℕ)
    → f.zero ≡ true → f.left ≡ false → is_none f.precision ≡ true
    → missing ≡ f.width - (length front + (count + length ds))
    → fill f (with_front f front (replicate count 48 ++ ds)) ≡ front ++ (replicate (missing + count) 48 ++ ds)
zero_filled f front ds count missing z l p m =
    rw (z, l, p)
    (let body : with_zeros (f.width - length front) (replicate count 48 ++ ds) ≡ replicate (missing + count) 48 ++ ds = more_zeros (f.width - length front) missing count ds (omega arith) in
    let long : length (front ++ (replicate (missing + count) 48 ++ ds)) ≡ length front + ((missing + count) + length ds) = simp (length-append, length-replicate) in
    rw body (no_spaces (f.width - length (front ++ (replicate (missing + count) 48 ++ ds))) (front ++ (replicate (missing + count) 48 ++ ds)) (omega arith)))
