use Rattle.std.proofs.Common.{[], ◌++◌, sym}
use Rattle.std.proofs.lemmas.List.{append-nil}
use Rattle.ti_cap.proofs.WrittenLemmas.{Same, one_form}
use Rattle.ti_cap.proofs.laws.spellings_stand_apart.Goals as goal

pub returns : goal.returns
returns c = λ k l s more p q.
    let r : Same k l s (s ++ more) more [] = one_form k l s (s ++ more) more [] p q (sym (append-nil (s ++ more))) in (r.rest, r.token)
