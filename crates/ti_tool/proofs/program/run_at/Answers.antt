use Rattle.std.specs.Prelude.{◌||◌}
use Rattle.std.proofs.Common.{◌≡◌, ◌∙◌, ℕ, List, ap, ap₂, inl, inr, refl, subst}
use Rattle.ti_tool.specs.Runs.{RanRequest, extras_for}
use Rattle.ti_tool.specs.Streams.{streams}
use Rattle.ti_line.specs.CommandLine.{files_of}
use Rattle.ti_line.specs.Requests.{texts_of}
use Rattle.ti_tool.specs.declared.extras.Extras.{Extras}
use Rattle.ti_tool.specs.Summaries.{summary_of}
use Rattle.ti_tool.proofs.program.run_at.Goals as goal

pub returns-in-Ok-clause-read : goal.returns-in-Ok-clause-read
returns-in-Ok-clause-read g c = λ command rows reads.
    let asks = c.in-Ok.ensures.only command rows reads in
    let Ran : List (List ℕ) → Type 0 = λ files. RanRequest (g.S.Store.known c.args.store.now) c.extras_of-extras.result c.in-Ok.request.action files (c.run_request.new.output ≡ c.args.output.now)
    (streams (g.R.Read.remaining c.args.input.now) (g.W.Write.contents c.args.output.now) (g.E.Write.contents c.args.errors.now))
    (streams (g.R.Read.remaining c.run_request.new.input) (g.W.Write.contents c.run_request.new.output) (g.E.Write.contents c.run_request.new.errors)) c.run_request.result in
    let Wanted : Extras → Type 0 = λ extras. RanRequest (g.S.Store.known c.args.store.now) extras c.in-Ok.request.action (files_of (texts_of c.args.words.now)) (c.run_request.new.output ≡ c.args.output.now)
    (streams (g.R.Read.remaining c.args.input.now) (g.W.Write.contents c.args.output.now) (g.E.Write.contents c.args.errors.now))
    (streams (g.R.Read.remaining c.run_request.new.input) (g.W.Write.contents c.run_request.new.output) (g.E.Write.contents c.run_request.new.errors)) c.run_request.result in
    let wanted : c.extras_of-extras.result ≡ extras_for c.args.at (texts_of c.args.words.now) c.in-Ok.request.action =
    ap₂ (λ s a. record { summary = s; has_advice = a }) (c.extras_of-extras.ensures.summary ∙ ap (λ has. summary_of (c.args.at.errors || has) c.in-Ok.request.action) asks.2) c.extras_of-extras.ensures.advice in
    inl (c.in-Ok.request.action, asks.0, asks.3, subst Wanted wanted (subst Ran (ap texts_of c.as_slice-files.ensures.value ∙ asks.1) c.run_request.ensures.ran))

pub returns-in-Ok-clause-unread : goal.returns-in-Ok-clause-unread
returns-in-Ok-clause-unread g c = λ none. let (command, rows, reads, asks) = c.in-Ok.ensures.read in absurd (none (command, rows, reads))

pub returns-in-Ok-clause-refused : goal.returns-in-Ok-clause-refused
returns-in-Ok-clause-refused g c = λ two. absurd (c.run_request.ensures.known two)

pub returns-in-Ok-clause-unwritten : goal.returns-in-Ok-clause-unwritten
returns-in-Ok-clause-unwritten g c = λ none.
    let (command, rows, reads, asks) = c.in-Ok.ensures.read in c.run_request.ensures.unwritten (ap texts_of c.as_slice-files.ensures.value ∙ asks.1 ∙ none)

pub returns-in-Ok-clause-no_input : goal.returns-in-Ok-clause-no_input
returns-in-Ok-clause-no_input g c = λ none. let (command, rows, reads, asks) = c.in-Ok.ensures.read in absurd (none (command, rows, reads))

pub returns-in-Ok-clause-silent : goal.returns-in-Ok-clause-silent
returns-in-Ok-clause-silent g c = λ none.
    let (command, rows, reads, asks) = c.in-Ok.ensures.read in
    let wanted = c.extras_of-extras.ensures.summary ∙ ap (λ has. summary_of (c.args.at.errors || has) c.in-Ok.request.action) asks.2 in
    c.run_request.ensures.silent (wanted ∙ none command rows c.in-Ok.request.action reads asks.0)

pub returns-in-Err-clause-read : goal.returns-in-Err-clause-read
returns-in-Err-clause-read g c = λ command rows reads. inr (c.in-Err.why, c.in-Err.ensures.only command rows reads, refl, c.run_no_request.ensures.ends (g.R.Read.remaining c.args.input.now) (g.R.Read.remaining c.args.input.now))

pub returns-in-Err-clause-unread : goal.returns-in-Err-clause-unread
returns-in-Err-clause-unread g c = λ none. (c.in-Err.why, c.in-Err.ensures.none, c.in-Err.ensures.says, refl, c.run_no_request.ensures.ends (g.R.Read.remaining c.args.input.now) (g.R.Read.remaining c.args.input.now))

pub returns-in-Err-clause-unwritten : goal.returns-in-Err-clause-unwritten
returns-in-Err-clause-unwritten g c = λ none. c.run_no_request.ensures.unwritten
