use Rattle.std.proofs.Common.{length, inl, refl}
use Rattle.ti_pad.specs.Padded.{padded_text}
use Rattle.ti_tool.proofs.IsGotLemmas.{alone_needs, alone_of}
use Rattle.ti_tool.proofs.NeedsMemoryLemmas.{within_limit}
use Rattle.ti_tool.proofs.command.expand.padded_output.Goals as goal

pub returns-in-Ok : goal.returns-in-Ok
returns-in-Ok g c =
    let short = within_limit (length (padded_text c.args.text.now c.args.padding.now)) _ c.pad.ensures.limit (λ e. (let is = c.in-Ok.is in cc)) in
    alone_of c.output_bytes.result (λ v. v.items) c.args.text.now c.args.padding.now c.args.output c.in-Ok.padded.items c.in-Ok.ensures.text short c.output_bytes.ensures.value c.output_bytes.ensures.refused

pub returns-in-Err-Memory : goal.returns-in-Err-Memory
returns-in-Err-Memory g c = inl (refl, alone_needs c.args.text.now c.args.padding.now c.args.output)
