use Rattle.ti_layout.proofs.StageStepLemmas.{offsets_below}
use Rattle.ti_layout.proofs.stage.Stage.pass_part.Goals as goal

pub pass-requires-4-clause-below : goal.pass-requires-4-clause-below
pass-requires-4-clause-below c = λ half same.
    let passed = c.if-not-pass-3.ensures in
    offsets_below c.args.bytes.now c.args.half half _ _ _ _ same passed.standard passed.extended passed.passed
