use Rattle.ti_tool.proofs.NeedsMemoryLemmas.{capped_of}
use Rattle.ti_tool.proofs.command.cap.cap_result.Goals as goal

pub returns : goal.returns
returns g c =
    capped_of c.output_bytes.result (λ v. v.items) c.args.parameters.now c.args.output c.args.input.now c.in_ok-plain.plain.items c.in_ok-plain.ensures.accepted c.in_ok-plain.ensures.output
    c.output_bytes.ensures.value c.output_bytes.ensures.refused
