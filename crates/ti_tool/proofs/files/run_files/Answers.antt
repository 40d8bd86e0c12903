use Rattle.std.proofs.Common.{◌∙◌, ap, map}
use Rattle.std.specs.Prelude.{is_some, string_bytes}
use Rattle.ti_line.specs.Requests.{texts_of}
use Rattle.ti_tool.specs.Streams.{file_name, streams}
use Rattle.ti_tool.proofs.FileRunsLemmas.{ran_files}
use Rattle.ti_tool.proofs.files.run_files.Goals as goal

pub returns-in-Ok-clause-ran : goal.returns-in-Ok-clause-ran
returns-in-Ok-clause-ran g c =
    let (founds, are, is, some, said) = c.in-Ok.ensures in
    let left = g.R.Read.remaining c.run_found-status.new.input in
    let held = g.W.Write.contents c.run_found-status.new.output in
    ran_files (g.S.Store.known c.args.store.now) c.args.extras c.args.of_entry.now (texts_of c.args.words.now) founds (map (λ f. file_name (string_bytes f.name) (is_some f.fault)) c.as_slice-files.result.now) c.in-Ok.sought.are_several c.as_slice.result.now
    (streams (g.R.Read.remaining c.args.input.now) (g.W.Write.contents c.args.output.now) (g.E.Write.contents c.args.errors.now))
    (streams left held (g.E.Write.contents c.run_found-status.new.errors)) (streams left held (g.E.Write.contents c.report_none.new.errors)) c.run_found-status.result c.report_none.result
    are (ap (map (λ f. file_name (string_bytes f.name) (is_some f.fault))) c.as_slice-files.ensures.value ∙ is) some (c.as_slice.ensures.value ∙ said) c.run_found-status.ensures.ran (c.report_none.ensures.told left held)
