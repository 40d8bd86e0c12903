use Rattle.ti_tool.specs.inner.Files.{job_of}
use Rattle.ti_tool.proofs.FileLemmas.{fault_is_high}
use Rattle.ti_tool.proofs.FileRunsLemmas.{fault_led}
use Rattle.ti_tool.proofs.outcome.outcome_of.Goals as goal

pub fault_outcome-requires : goal.fault_outcome-requires
fault_outcome-requires g c = rw c.status-in-Err.ensures (fault_is_high c.in-Err.fault)

pub returns-in-Err-clause-led : goal.returns-in-Err-clause-led
returns-in-Err-clause-led g c =
    fault_led (λ o. o.bytes.items) (λ o. o.line.items) (λ o. o.status) (job_of c.args.errand.now) c.args.name.now c.args.contents.now c.entry_line-line.result.items c.as_slice.result.now c.in-Err.fault c.status-in-Err.result c.fault_outcome.result
    c.in-Err.ensures.fault c.entry_line-line.ensures c.as_slice.ensures.value c.status-in-Err.ensures c.fault_outcome.ensures.led
