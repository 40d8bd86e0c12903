-- Labels: indices of at most five digits, and the word before them.
use Rattle.std.proofs.Common.{◌≡◌, ◌∙◌, ◌++◌, ℕ, ◌<◌, ◌≤◌, ◌^◌, List, ap, arith, get_or, inl, inr, length, subst, sym}
use Rattle.std.specs.Prelude.{IfNone, None, Option, Some, codes}
use Rattle.std.specs.Str.Parse.{IsNumeral, digits_value}
use Rattle.std.proofs.lemmas.Int.Digits.{digits_value-lt}
use native.Mathlib.Nat.{pow-le-pow_right}
use Rattle.ti_line.specs.TextLabels.{IsLabel, IsTextLabel}

-- so few digits stand for a number of 64 bits
pub label_fits : (digits : List ℕ) → IsNumeral 10 digits → length digits ≤ 5 → digits_value 10 digits < 18446744073709551616
label_fits digits n h =
    let p : 10 ^ length digits ≤ 10 ^ 5 = pow-le-pow_right {n = 10} (omega arith) h in
    omega (arith, digits_value-lt 10 digits n.1, p)

-- a label begins with `#`, and so not with the word `text`
no_word : (name label : List ℕ) (index : ℕ) → name ≡ codes "text" ++ label → ¬ IsLabel name index
no_word name label index is (digits, same, numeral, few, value) =
    let first : 116 ≡ 35 = ap (λ ws. get_or ws 0 0) (sym is ∙ same) in absurd (omega (arith, first))

-- a name is no label of a text if what comes after the word is no label
pub none_after_word : (o : Option ℕ) (name label : List ℕ) → name ≡ codes "text" ++ label → IfNone o ((index : ℕ) → ¬ IsLabel label index) → IfNone o ((index : ℕ) → ¬ IsTextLabel name index)
none_after_word (Some index) name label is none = none
none_after_word None name label is none = no_label
  where
    no_label : (index : ℕ) → ¬ IsTextLabel name index
    no_label index (inl bare) = no_word name label index is bare
    no_label index (inr (other, same, labels)) =
        let one : other ≡ label = cc in
        none index (subst (λ (l : List ℕ). IsLabel l index) one labels)

-- or if it is none, and the word is not there
pub none_without_word : (o : Option ℕ) (name : List ℕ) → ((label : List ℕ) → ¬ (name ≡ codes "text" ++ label)) → IfNone o ((index : ℕ) → ¬ IsLabel name index) → IfNone o ((index : ℕ) → ¬ IsTextLabel name index)
none_without_word (Some index) name missing none = none
none_without_word None name missing none = no_label
  where
    no_label : (index : ℕ) → ¬ IsTextLabel name index
    no_label index (inl bare) = none index bare
    no_label index (inr (label, is, labels)) = missing label is
