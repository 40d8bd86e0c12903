use Rattle.std.proofs.Common.{◌≡◌, ◌∙◌, ◌++◌, Bool, List, ap, ap₂, append_assoc}
use Rattle.std.specs.Prelude.{not}
use Rattle.ti_rules.specs.Remarks.{Remark}
use Rattle.ti_rules.specs.Bases.{bases_differ}
use Rattle.ti_rules.specs.Whole.{color_remarks, is_canonical, found_if}
use Rattle.ti_rules.specs.declared.finding.Finding.TheVariants.{Base, Layout}
use Rattle.ti_rules.proofs.report.Report.push_whole.Goals as goal

pub returns : goal.returns
returns g c =
    let on = c.args.self.now.on in
    let old = c.args.self.now.remarks in
    let colors = color_remarks on.entry in
    let layout : Bool → List Remark = λ is. found_if (not is) Layout in
    let base : Bool → List Remark = λ differ. found_if differ Base in
    let is : c.in_ok-canonical.canonical ≡ is_canonical on.bytes on.entry = c.in_ok-canonical.ensures ∙ ap₂ is_canonical c.bytes-bytes.ensures c.entry-entry.ensures in
    let differ : c.bases_differ-differ.result ≡ bases_differ on.bytes = c.bases_differ-differ.ensures ∙ ap bases_differ c.bytes-bytes.ensures in
    let (colored, first) = c.in_ok-push_colors.ensures in
    let (laid, second) = c.in_ok-push_if.ensures in
    let (based, third) = c.in_ok-push_if-2.ensures in (
      based ∙ laid ∙ colored,
      third ∙ ap (λ all. all ++ base c.bases_differ-differ.result) (second ∙ ap (λ all. all ++ layout c.in_ok-canonical.canonical) first)
          ∙ ap₂ (λ one other. ((old ++ colors) ++ layout one) ++ base other) is differ
          ∙ append_assoc (old ++ colors) (layout (is_canonical on.bytes on.entry)) (base (bases_differ on.bytes))
          ∙ append_assoc old colors (layout (is_canonical on.bytes on.entry) ++ base (bases_differ on.bytes)),
    )
