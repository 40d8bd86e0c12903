-- Blocks and objects, one after another.
use Rattle.std.proofs.Common.{◌≡◌, ◌∙◌, ◌++◌, ℕ, suc, Bool, true, false, List, [], ◌∷◌, Ok, Err, Result, ap, append_assoc, arith, length, refl, subst, sym, true≢false}
use Rattle.std.specs.Prelude.{◌==◌, IfOk, codes}
use Rattle.std.proofs.lemmas.Bool.Decides.{nat_tests}
use Rattle.ti_sink.proofs.PrintedLemmas.{rest_after}
use Rattle.ti_sink.specs.Pages.{as_page}
use Rattle.ti_sink.specs.Printed.{StaysFront}
use Rattle.ti_forms.specs.Blocks.{AreBlocks, AreObjects, HaveObjects, IsBlock, subject}
use Rattle.ti_rules.specs.Findings.{finding_word}
use Rattle.ti_rules.specs.Lines.{Adds}
use Rattle.ti_rules.specs.Remarks.{Remark}

not_none : (n : ℕ) → (suc n == 0) ≡ false
not_none n = grind (arith, nat_tests)

-- a block has a line
has_line : (a b c : List ℕ) → (length (a ++ (b ++ (codes "\n" ++ c))) == 0) ≡ false
has_line [] [] c = not_none (length c)
has_line [] (x ∷ b) c = not_none (length (b ++ (codes "\n" ++ c)))
has_line (x ∷ a) b c = not_none (length (a ++ (b ++ (codes "\n" ++ c))))

not_empty : (block more lines : List ℕ) → (length block == 0) ≡ false → lines ≡ block ++ more → (length lines == 0) ≡ false
not_empty [] more lines some is = absurd (true≢false some)
not_empty (x ∷ block) more lines some is = ap (λ l. length l == 0) is ∙ not_none (length (block ++ more))

-- there is no line exactly if there is no remark
pub none_alike : (prefix : List ℕ) (remarks : List Remark) (lines : List ℕ) → AreBlocks prefix remarks lines → (length lines == 0) ≡ (length remarks == 0)
none_alike prefix [] lines are = ap (λ l. length l == 0) are
none_alike prefix (r ∷ remarks) lines (block, more, (below, rest, is), are, joined) =
    let some = ap (λ l. length l == 0) is ∙ has_line (as_page prefix) (subject r.about) (below ++ (as_page (finding_word r.finding) ++ rest)) in
    not_empty block more lines some joined ∙ sym (not_none (length remarks))

-- what comes after nothing is all
pub alone : {Y : Type 0} (Are : List Y → Type 0) (old new out : List Y) → old ≡ [] → Adds Are old new → out ≡ new → Are out
alone Are old new out empty (all, are, joined) is = subst Are (sym (is ∙ joined ∙ ap (λ l. l ++ all) empty)) are

-- what is false after a call that keeps it was false before
pub back : (a b : Bool) → (a ≡ true → b ≡ true) → b ≡ false → a ≡ false
back false b keeps off = refl
back true b keeps off = absurd (true≢false (sym (keeps refl) ∙ off))

-- objects between what was written before and after them
pub between : (remarks : List Remark) (old started told ended : List ℕ) → StaysFront old started → Adds (AreObjects remarks) started told → StaysFront told ended
    → Adds (HaveObjects remarks) old ended
between remarks old started told ended before (objects, are, is) after =
    let (start, starts) = rest_after old started before in
    let (end, ends) = rest_after told ended after in (
      start ++ (objects ++ end),
      (start, objects, end, are, refl),
      ends ∙ ap (λ l. l ++ end) is ∙ ap (λ l. (l ++ objects) ++ end) starts ∙ append_assoc (old ++ start) objects end ∙ append_assoc old start (objects ++ end),
    )

-- the document of these
pub told_of : {V E : Type 0} (r : Result V E) (items : V → List ℕ) (remarks : List Remark) (old told : List ℕ) (refused : Bool) → old ≡ [] → (refused ≡ false → Adds (HaveObjects remarks) old told)
    → IfOk r (λ v. StaysFront told (items v)) → IfOk r (λ v. refused ≡ false) → IfOk r (λ v. HaveObjects remarks (items v))
told_of (Err e) items remarks old told refused empty adds front ok = tt
told_of (Ok v) items remarks old told refused empty adds front ok =
    let (start, objects, end, are, is) = alone (HaveObjects remarks) old told told empty (adds ok) refl in
    let (more, joined) = rest_after told (items v) front in
    (start, objects, end ++ more, are, joined ∙ ap (λ l. l ++ more) is ∙ append_assoc start (objects ++ end) more ∙ ap (λ l. start ++ l) (append_assoc objects end more))
