use Rattle.std.proofs.Common.{ℕ, List, [], ◌∷◌, ◌++◌, sym, ◌∙◌, subst}
use Rattle.ti_cap.specs.declared.language.Token.{Token}
use Rattle.ti_cap.specs.Spelling.{Written}
use Rattle.ti_cap.proofs.WrittenLemmas.{written-append, written_one}
use Rattle.ti_lint.proofs.AtLemmas.{same_whole}
use Rattle.ti_lint.proofs.tokens.tokens_of.Goals as goal

pub loop-token-preserved : goal.loop-token-preserved
loop-token-preserved g c =
    let l = c.loop-token in
    let k = c.in-Some.token in
    let takes = c.in-Some.ensures.some in
    let P : List Token → Type 0 = λ x. Written x c.token.new.self.taken in
    let Q : List ℕ → Type 0 = λ x. Written (l.tokens.items ++ k ∷ []) x in (
      sym (same_whole l.tape c.token.new.self k takes) ∙ l.invariant.0,
      subst P (sym c.in_ok-push.ensures.items) (subst Q (sym takes.3) (written-append l.tokens.items (k ∷ []) l.tape.taken takes.0 l.invariant.1 (written_one k takes.0 takes.1))),
    )
