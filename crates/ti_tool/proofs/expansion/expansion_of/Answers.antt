use Rattle.std.proofs.Common.{◌∙◌, Err, ap, inl, refl}
use Rattle.ti_tool.proofs.IsExpansionLemmas.{expansion, none_too_long, none_too_long_before}
use Rattle.ti_tool.proofs.NeedsMemoryLemmas.{expandable}
use Rattle.ti_tool.proofs.expansion.expansion_of.Goals as goal

pub returns-in-Ok-clause-output : goal.returns-in-Ok-clause-output
returns-in-Ok-clause-output g c =
    expansion c.args.bytes.now c.in_ok-capability.capability c.args.parameters.now c.new-vars.result c.in-Ok.output.items c.in_ok-capability.ensures.value c.new-vars.ensures.zero c.in_ok-capability.ensures.tree
    (none_too_long c.expand.result c.in-Ok.output c.args.parameters.now c.expand.ensures.too_long c.in-Ok.is) c.in-Ok.ensures.expansion.1.output

pub returns-in-Err-Memory-clause-refused : goal.returns-in-Err-Memory-clause-refused
returns-in-Err-Memory-clause-refused g c =
    inl (
      refl,
      expandable c.args.bytes.now c.args.parameters.now c.in_ok-capability.ensures.accepted
          (none_too_long_before c.expand.result c.args.parameters.now c.expand.ensures.too_long (c.in-Err-Memory.is ∙ ap Err c.in-Err-Memory.field-0-is)),
    )
