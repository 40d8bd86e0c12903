use Rattle.std.proofs.Common.{sym, subst, arith}
use Rattle.std.proofs.lemmas.Result.{err_from_is_err_and}
use Rattle.ti_layout.specs.declared.stage.Stage.{Stage}
use Rattle.ti_layout.specs.Stages.{Stands}
use Rattle.ti_layout.proofs.StageStepLemmas.{stands_now}
use Rattle.ti_layout.proofs.stage.Stage.advance.Goals as goal

pub bytes_awaited-requires-clause-within : goal.bytes_awaited-requires-clause-within
bytes_awaited-requires-clause-within c = (stands_now c.args.bytes.now c.steps.self c.steps.invariant).within

pub bytes_awaited-requires-clause-fits : goal.bytes_awaited-requires-clause-fits
bytes_awaited-requires-clause-fits c = (stands_now c.args.bytes.now c.steps.self c.steps.invariant).fits

pub bytes_awaited-requires-clause-extended_fits : goal.bytes_awaited-requires-clause-extended_fits
bytes_awaited-requires-clause-extended_fits c = (stands_now c.args.bytes.now c.steps.self c.steps.invariant).extended_fits

pub returns-in_err-check_section-clause-stood : goal.returns-in_err-check_section-clause-stood
returns-in_err-check_section-clause-stood c =
    let p = err_from_is_err_and c.from_residual.result c.from_residual.ensures.1 in
    rw p.1 (subst (λ (s : Stage). Stands c.args.bytes.now s) (sym c.in_err-check_section.ensures.same) c.steps.invariant)

pub returns-clause-waits : goal.returns-clause-waits
returns-clause-waits c = c.bytes_awaited.ensures.waits c.args.bytes.now (stands_now c.args.bytes.now c.steps.self c.steps.invariant) (omega arith)
