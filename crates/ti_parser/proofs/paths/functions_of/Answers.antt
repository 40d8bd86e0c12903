use Rattle.std.proofs.Common.{List, [], subst}
use Rattle.ti_expand.specs.StackHeight.{state_after}
use Rattle.ti_expand.specs.State.{start}
use Rattle.ti_parser.specs.inner.Paths.{EndMore}
use Rattle.ti_parser.specs.declared.receiver.Receiver.{Receiver}
use Rattle.ti_parser.proofs.PathsLemmas.{leads_end}
use Rattle.ti_parser.proofs.paths.functions_of.Goals.{in-Ok, in-Err-ComputedByte, in-Err-NotTried}
use Rattle.ti_parser.proofs.paths.functions_of.Goals as goal

pub returns-clause-cover : goal.returns-clause-cover
returns-clause-cover g c =
    let P : List Receiver → Type 0 = λ x. EndMore x [] c.end_all.new.ends.items in
    λ whole. elim c.match-pass.branch [
      | in-Ok w ↦ λ tree path writes is variables parameters numbers texts.
          leads_end c.args.reception c.pass.new.self.here.parsers.items c.end_all.new.ends.items c.pass.new.self.sent.items (state_after path (start variables parameters))
          (subst P c.deref.ensures.value c.in_ok-end_all.ensures) (w.in-Ok.ensures tree path writes is variables parameters numbers texts)
      | in-Err-ComputedByte w ↦ absurd (cc (w.outcome-is, whole))
      | in-Err-NotTried w ↦ absurd (cc (w.outcome-is, whole))
    ]
