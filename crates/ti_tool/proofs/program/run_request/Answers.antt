use Rattle.std.proofs.Common.{◌≡◌, ◌∙◌, sym}
use Rattle.ti_tool.specs.Streams.{streams}
use Rattle.ti_tool.proofs.FileRunsLemmas.{request_of_files, request_of_none, some_files}
use Rattle.ti_tool.proofs.program.run_request.Goals as goal

pub returns-in-Entry-clause-ran : goal.returns-in-Entry-clause-ran
returns-in-Entry-clause-ran g c =
    request_of_files (g.S.Store.known c.args.store.now) c.args.extras c.args.files.now c.args.action.now c.in-Entry.of_entry (c.run_files.new.output ≡ c.args.output.now)
    (streams (g.R.Read.remaining c.args.input.now) (g.W.Write.contents c.args.output.now) (g.E.Write.contents c.args.errors.now))
    (streams (g.R.Read.remaining c.run_files.new.input) (g.W.Write.contents c.run_files.new.output) (g.E.Write.contents c.run_files.new.errors)) c.run_files.result
    c.in-Entry.is (sym c.is_empty.ensures ∙ c.if-not-is_empty.true) c.run_files.ensures.ran

pub returns-in-Entry-clause-unwritten : goal.returns-in-Entry-clause-unwritten
returns-in-Entry-clause-unwritten g c = λ none. absurd (some_files c.args.files.now (sym c.is_empty.ensures ∙ c.if-not-is_empty.true) none)

pub returns-in-Entry-2-clause-ran : goal.returns-in-Entry-2-clause-ran
returns-in-Entry-2-clause-ran g c =
    request_of_none (g.S.Store.known c.args.store.now) c.args.extras c.args.files.now c.args.action.now c.in-Entry-2.field-0 (c.run_input.new.output ≡ c.args.output.now)
    (streams (g.R.Read.remaining c.args.input.now) (g.W.Write.contents c.args.output.now) (g.E.Write.contents c.args.errors.now))
    (streams (g.R.Read.remaining c.run_input.new.input) (g.W.Write.contents c.run_input.new.output) (g.E.Write.contents c.run_input.new.errors)) c.run_input.result
    c.in-Entry-2.is (sym c.is_empty.ensures ∙ c.if-not-is_empty.false) c.run_input.ensures.ran
