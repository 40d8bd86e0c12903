use Rattle.std.proofs.Common.{◌≤◌, ◌∙◌, [], ◌∷◌, ◌++◌, List, ℕ, length, subst, sym}
use Rattle.ti_base.specs.Limits.{most_capability_bytes}
use Rattle.ti_cap.specs.declared.language.Token.{Token}
use Rattle.ti_cap.specs.Spelling.{Written}
use Rattle.ti_cap.proofs.WrittenLemmas.{written-append, written_one}
use Rattle.ti_lint.proofs.AtLemmas.{same_whole}
use Rattle.ti_rules.specs.Constants.{IsTestReport}
use Rattle.ti_rules.specs.Lines.{Adds}
use Rattle.ti_rules.proofs.ConstantsLemmas.{Telling, few_taken, telling_end, telling_next}
use Rattle.ti_rules.proofs.text_remarks.TextRemarks.push_tests.Goals as goal

pub push_test-requires : goal.push_test-requires
push_test-requires g c =
    let l = c.tokens in
    let P : List Token → Type 0 = λ x. length x ≤ most_capability_bytes in
    subst P (sym c.as_slice.ensures.value) (few_taken c.args.capability.now l.tape l.before.items c.tape-tape.ensures.tree l.invariant.all l.invariant.written)

pub tokens-preserved : goal.tokens-preserved
tokens-preserved g c =
    let text = c.args.capability.now in
    let l = c.tokens in
    let token = c.in-Some.token in
    let next = c.token.new.self in
    let takes = c.in-Some.ensures.some in
    let before = l.before.items in
    let new = c.push_test.new.self in
    let P : List Token → Type 0 = λ x. Written x next.taken in
    let Q : List ℕ → Type 0 = λ x. Written (before ++ token ∷ []) x in
    let R : List Token → Type 0 = λ x. Telling text c.args.self.now next x new in
    let S : List Token → ℕ → Type 0 = λ x n. Adds (IsTestReport x token n) l.self new in
    let told : S c.as_slice.result.now l.place = c.in_ok-push_test.ensures in
    let told_of : S before l.place = let T : List Token → Type 0 = λ x. S x l.place in subst T c.as_slice.ensures.value told in
    let told_at : S before (length l.tape.taken) = let T : ℕ → Type 0 = λ n. S before n in subst T l.invariant.place told_of in
    let all = sym c.in_ok-push.ensures.items in
    record {
      telling = subst R all (telling_next text c.args.self.now l.tape next token before l.self new takes told_at l.invariant.telling);
      place = c.at-place.ensures.exact;
      all = sym (same_whole l.tape next token takes) ∙ l.invariant.all;
      written = subst P all (subst Q (sym takes.3) (written-append before (token ∷ []) l.tape.taken takes.0 l.invariant.written (written_one token takes.0 takes.1)));
    }

pub returns : goal.returns
returns g c =
    let text = c.args.capability.now in
    let l = c.tokens in
    telling_end text c.args.self.now l.tape l.before.items l.self c.in_default.ensures.none.1 l.invariant.telling
