use Rattle.std.proofs.Common.{ℕ, List, subst, sym}
use Rattle.ti_tool.specs.FaultLines.{fault_line}
use Rattle.ti_tool.specs.Voice.{IsAdvised}
use Rattle.ti_tool.specs.declared.fault.ToolFault.TheVariants as fault
use Rattle.ti_tool.proofs.ToldLemmas.{told_by}
use Rattle.ti_tool.proofs.delivery.report_stop.Goals as goal

pub returns : goal.returns
returns g c =
    let Advised : List ℕ → Type 0 = λ line. IsAdvised c.args.has_advice line c.advised-lines.result.items in
    let lines = c.as_slice.result.now in (
      lines,
      subst (IsAdvised c.args.has_advice (fault_line (fault.Write c.args.stop.now.gone))) (sym c.as_slice.ensures.value) (subst Advised c.fault_line.ensures c.advised-lines.ensures),
      told_by lines _ _ c.write_out.result c.write_out.ensures.written c.write_out.ensures.short c.write_out.ensures.gone,
    )
