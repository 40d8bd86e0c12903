use Rattle.ti_forms.specs.Blocks.{IsObject}
use Rattle.ti_rules.proofs.ReportsLemmas.{all_done, all_first, all_more}
use Rattle.ti_forms.proofs.document.print_objects.Goals as goal

pub remarks-init : goal.remarks-init
remarks-init g c = record { fits = λ fits. fits; kept = λ ok. ok; goes = λ ok fits. all_first IsObject c.args.remarks.now c.args.printer.now.bytes }

pub remarks-preserved : goal.remarks-preserved
remarks-preserved g c =
    let told = c.print_remark.ensures in
    let before = c.remarks.invariant in
    record {
      fits = λ fits. before.fits (told.fits fits);
      kept = λ ok. before.kept (told.kept ok);
      goes = λ ok fits.
          all_more IsObject c.args.remarks.now c.remarks.remark-index c.remark-item.result c.args.printer.now.bytes c.remarks.printer.bytes c.print_remark.new.printer.bytes
          c.remarks-test.true c.remark-item.is (before.goes (told.kept ok) (told.fits fits)) (told.added ok fits);
    }

pub returns : goal.returns
returns g c = record {
  fits = c.remarks.invariant.fits;
  kept = c.remarks.invariant.kept;
  added = λ ok fits. all_done IsObject c.args.remarks.now c.remarks.remark-index c.args.printer.now.bytes c.remarks.printer.bytes c.remarks-test.false (c.remarks.invariant.goes ok fits);
}
