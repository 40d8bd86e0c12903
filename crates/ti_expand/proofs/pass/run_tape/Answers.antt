use Rattle.std.proofs.Common.{ℕ, List, ◌++◌, subst}
use Rattle.ti_cap.specs.Capability.{ArePlain}
use Rattle.ti_expand.proofs.ArePlainLemmas.{plain_expansion}
use Rattle.ti_expand.proofs.pass.run_tape.Goals as goal

pub returns-clause-expansion : goal.returns-clause-expansion
returns-clause-expansion c =
    let a = c.args in
    let bytes = a.tape.left in
    let P : List ℕ → Type 0 = λ x. ArePlain (x ++ bytes) in
    let plain : ArePlain bytes = subst P c.requires.start c.in-Some.ensures.plain in
    rw c.in-Some.ensures.copied
    (plain_expansion bytes a.vars.now a.parameters.now c.in-Some.written c.requires.ready.well_formed plain c.in-Some.ensures.count)
