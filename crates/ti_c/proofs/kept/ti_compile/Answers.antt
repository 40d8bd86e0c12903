use Rattle.ti_c.proofs.OneFaultLemmas.{one_refused, none_refused_as}
use Rattle.ti_c.proofs.kept.ti_compile.Goals as goal

pub returns-in-Ok-clause-only : goal.returns-in-Ok-clause-only
returns-in-Ok-clause-only c = λ number other refused. absurd (none_refused_as c.args.bytes.now number other c.in-Ok.ensures.accepted refused)

pub returns-in-Err-Refused-clause-only : goal.returns-in-Err-Refused-clause-only
returns-in-Err-Refused-clause-only c =
    let is = rw c.in-Err-Refused.field-0-is at c.in-Err-Refused.ensures.faults in
    λ number other. one_refused c.args.bytes.now _ _ number other (c.in-Err-Refused.refused.fault, c.capability_number.ensures, is)

pub returns-in-Err-Refused-clause-untold : goal.returns-in-Err-Refused-clause-untold
returns-in-Err-Refused-clause-untold c =
    let is = rw c.in-Err-Refused.field-0-is at c.in-Err-Refused.ensures.faults in
    λ sound. absurd (none_refused_as c.args.bytes.now c.capability_number.result c.in-Err-Refused.refused.place sound (c.in-Err-Refused.refused.fault, c.capability_number.ensures, is))

pub returns-in-Err-DoesNotFit-clause-only : goal.returns-in-Err-DoesNotFit-clause-only
returns-in-Err-DoesNotFit-clause-only c =
    let is = rw c.in-Err-DoesNotFit.field-0-is at c.in-Err-DoesNotFit.ensures.faults in
    λ number other refused. absurd (none_refused_as c.args.bytes.now number other is.0 refused)
