use Rattle.ti_forms.specs.Blocks.{IsBlock}
use Rattle.ti_rules.proofs.ReportsLemmas.{all_done, all_first, all_more}
use Rattle.ti_forms.proofs.lines.write_blocks.Goals as goal

pub remarks-init : goal.remarks-init
remarks-init g c = record { kept = λ ok. ok; goes = λ ok. all_first (IsBlock c.args.prefix.now) c.args.remarks.now c.args.page.now.bytes }

pub remarks-preserved : goal.remarks-preserved
remarks-preserved g c =
    let told = c.write_block.ensures in
    let before = c.remarks.invariant in
    record {
      kept = λ ok. before.kept (told.kept ok);
      goes = λ ok.
          all_more (IsBlock c.args.prefix.now) c.args.remarks.now c.remarks.remark-index c.remark-item.result c.args.page.now.bytes c.remarks.page.bytes c.write_block.new.page.bytes
          c.remarks-test.true c.remark-item.is (before.goes (told.kept ok)) (told.added ok);
    }

pub returns : goal.returns
returns g c = record {
  kept = c.remarks.invariant.kept;
  added = λ ok. all_done (IsBlock c.args.prefix.now) c.args.remarks.now c.remarks.remark-index c.args.page.now.bytes c.remarks.page.bytes c.remarks-test.false (c.remarks.invariant.goes ok);
}
