use Rattle.std.proofs.Common.{◌≡◌, false}
use Rattle.ti_forms.proofs.BlocksLemmas.{back, between}
use Rattle.ti_forms.proofs.document.print_remarks.Goals as goal

pub returns : goal.returns
returns g c =
    let old = c.args.printer.now in
    let started = c.begin_list.new.self in
    let told = c.print_objects.new.printer in
    let ended = c.end.new.self in
    let fitted : ended.is_misused ≡ false → told.is_misused ≡ false = back told.is_misused ended.is_misused c.end.ensures.is_misused in
    let held : ended.is_refused ≡ false → told.is_refused ≡ false = back told.is_refused ended.is_refused c.end.ensures.is_refused in
    record {
      told = record {
        fits = λ fits. back old.is_misused started.is_misused c.begin_list.ensures.is_misused (c.print_objects.ensures.fits (fitted fits));
        kept = λ ok. back old.is_refused started.is_refused c.begin_list.ensures.is_refused (c.print_objects.ensures.kept (held ok));
        added = λ ok fits.
            between c.args.remarks.now old.bytes started.bytes told.bytes ended.bytes c.begin_list.ensures.front (c.print_objects.ensures.added (held ok) (fitted fits)) c.end.ensures.front;
      };
    }
