use Rattle.std.proofs.Common.{◌≡◌, ◌↔◌, Option, Some, None, Bool, IsTrue, is_some, List, ℕ, refl, sym, ◌∙◌, ap, subst}
use Rattle.ti_pad.specs.declared.mark.LeadingMark.{LeadingMark}
use Rattle.ti_pad.specs.Marks.{Mark, mark_at, StartsWithMark}
use Rattle.ti_pad.specs.inner.Mark.{found_mark}
use Rattle.ti_pad.proofs.FindsMarksLemmas.{finds_marks}
use Rattle.ti_pad.proofs.find_mark.starts_with_mark.Goals as goal

same : (f : Option LeadingMark) → is_some (found_mark f) ≡ is_some f
same None = refl
same (Some f) = refl

some_mark : (bytes : List ℕ) (found : Option Mark) → mark_at bytes ≡ found → IsTrue (is_some found) ↔ StartsWithMark bytes
some_mark bytes (Some m) e = ((λ t. (m, (finds_marks m bytes).0 e)), (λ s. refl))
some_mark bytes None e = ((λ t. absurd (cc)), (λ s. absurd (other s)))
  where
    other : StartsWithMark bytes → ⊥
    other (m, stands) = absurd (cc (sym e ∙ (finds_marks m bytes).1 stands))

pub returns : goal.returns
returns c =
    let P : Bool → Type 0 = λ x. IsTrue x ↔ StartsWithMark c.args.bytes.now in
    let is : is_some (mark_at c.args.bytes.now) ≡ c.is_some.result =
    ap (λ x. is_some x) (sym c.mark_at_front.ensures.mark) ∙ same c.mark_at_front.result ∙ sym c.is_some.ensures in
    record { exact = subst P is (some_mark c.args.bytes.now (mark_at c.args.bytes.now) refl) }
