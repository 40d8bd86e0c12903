use Rattle.std.proofs.Common.{◌∙◌, Ok, Err, ap, subst, sym}
use Rattle.std.specs.Prelude.{Result}
use Rattle.clap.specs.Words.{found_of, rows_of}
use Rattle.ti_line.specs.CommandLine.{command_in, files_found, summary_found}
use Rattle.ti_line.specs.Requests.{IsAnswered, texts_of}
use Rattle.ti_line.specs.declared.no_request.LineFault.{LineFault}
use Rattle.ti_line.specs.declared.request.Action.{Action}
use Rattle.ti_line.proofs.FaultlessLemmas.{complete, found_complete, known, of_found}
use Rattle.ti_line.proofs.TiAppLemmas.{fails_again, ti_fails, ti_finds}
use Rattle.ti_line.proofs.read.read_words.Goals as goal

pub returns-in_err-matches-clause-kinds : goal.returns-in_err-matches-clause-kinds
returns-in_err-matches-clause-kinds c =
    let failed = ti_fails {T = Unit {0}} _ _ (Err c.in_err-matches.field-0.0) c.in_ok-program.ensures c.in_err-matches.ensures.kinds in
    fails_again _ c.in_err-matches.field-0.0 c.from_residual-in_err-matches.result c.from_residual-in_err-matches.ensures.1 failed

pub action_of-requires-clause-known : goal.action_of-requires-clause-known
action_of-requires-clause-known c =
    let rows = rows_of (found_of c.in-Some.given.now) in
    let found = ti_finds _ _ c.in_ok-matches.matches c.in-Some.command.now rows c.in_ok-program.ensures c.in_ok-matches.ensures.matches (sym c.in-Some.ensures.name) (sym c.in-Some.ensures.rows) in
    let whole = found_complete (texts_of c.args.words.now) c.in-Some.command.now rows found (ti_fails _ _ (Ok c.in_ok-matches.matches) c.in_ok-program.ensures c.in_ok-matches.ensures.kinds) in
    known c.in-Some.command.now rows whole

pub action_of-requires-clause-complete : goal.action_of-requires-clause-complete
action_of-requires-clause-complete c =
    let rows = rows_of (found_of c.in-Some.given.now) in
    let found = ti_finds _ _ c.in_ok-matches.matches c.in-Some.command.now rows c.in_ok-program.ensures c.in_ok-matches.ensures.matches (sym c.in-Some.ensures.name) (sym c.in-Some.ensures.rows) in
    let whole = found_complete (texts_of c.args.words.now) c.in-Some.command.now rows found (ti_fails _ _ (Ok c.in_ok-matches.matches) c.in_ok-program.ensures c.in_ok-matches.ensures.kinds) in
    complete c.in-Some.command.now rows whole

pub returns-in-Ok-clause-kinds : goal.returns-in-Ok-clause-kinds
returns-in-Ok-clause-kinds c = ti_fails _ _ (Ok c.in_ok-matches.matches) c.in_ok-program.ensures c.in_ok-matches.ensures.kinds

pub returns-in-Some-clause-kinds : goal.returns-in-Some-clause-kinds
returns-in-Some-clause-kinds c = ti_fails _ _ (Ok c.in_ok-matches.matches) c.in_ok-program.ensures c.in_ok-matches.ensures.kinds

pub returns-in-Ok-clause-read : goal.returns-in-Ok-clause-read
returns-in-Ok-clause-read c =
    let rows = rows_of (found_of c.in-Some.given.now) in
    let found = ti_finds _ _ c.in_ok-matches.matches c.in-Some.command.now rows c.in_ok-program.ensures c.in_ok-matches.ensures.matches (sym c.in-Some.ensures.name) (sym c.in-Some.ensures.rows) in
    let whole = found_complete (texts_of c.args.words.now) c.in-Some.command.now rows found (ti_fails _ _ (Ok c.in_ok-matches.matches) c.in_ok-program.ensures c.in_ok-matches.ensures.kinds) in
    let (command, is, answered) = of_found c.in-Some.command.now rows (λ x. IsAnswered c.args.to x rows c.action_of.result) whole c.action_of.ensures in
    let Answered : Result Action LineFault → Type 0 = IsAnswered c.args.to command rows in
    (command, rows, sym (ap command_in found) ∙ is, (sym c.flag.ensures ∙ c.if-flag.true, (c.in-Ok.field-0, subst Answered c.in-Ok.is answered), c.in_ok-explained-in-Ok.ensures))

pub returns-in-Ok-2-clause-read : goal.returns-in-Ok-2-clause-read
returns-in-Ok-2-clause-read c =
    let rows = rows_of (found_of c.in-Some.given.now) in
    let found = ti_finds _ _ c.in_ok-matches.matches c.in-Some.command.now rows c.in_ok-program.ensures c.in_ok-matches.ensures.matches (sym c.in-Some.ensures.name) (sym c.in-Some.ensures.rows) in
    let whole = found_complete (texts_of c.args.words.now) c.in-Some.command.now rows found (ti_fails _ _ (Ok c.in_ok-matches.matches) c.in_ok-program.ensures c.in_ok-matches.ensures.kinds) in
    let (command, is, answered) = of_found c.in-Some.command.now rows (λ x. IsAnswered c.args.to x rows c.action_of.result) whole c.action_of.ensures in
    let Answered : Result Action LineFault → Type 0 = IsAnswered c.args.to command rows in
    (command, rows, sym (ap command_in found) ∙ is, (subst Answered c.in-Ok.is answered, c.in_ok-files-in-Some.ensures ∙ ap files_found found, c.has_summary-has_summary.ensures ∙ ap summary_found found, sym c.flag.ensures ∙ c.if-flag.false))

pub returns-in-Ok-2-clause-kinds : goal.returns-in-Ok-2-clause-kinds
returns-in-Ok-2-clause-kinds c = ti_fails _ _ (Ok c.in_ok-matches.matches) c.in_ok-program.ensures c.in_ok-matches.ensures.kinds

pub returns-in-Some-clause-read : goal.returns-in-Some-clause-read
returns-in-Some-clause-read c =
    let rows = rows_of (found_of c.in-Some.given.now) in
    let found = ti_finds _ _ c.in_ok-matches.matches c.in-Some.command.now rows c.in_ok-program.ensures c.in_ok-matches.ensures.matches (sym c.in-Some.ensures.name) (sym c.in-Some.ensures.rows) in
    let whole = found_complete (texts_of c.args.words.now) c.in-Some.command.now rows found (ti_fails _ _ (Ok c.in_ok-matches.matches) c.in_ok-program.ensures c.in_ok-matches.ensures.kinds) in
    let (command, is, answered) = of_found c.in-Some.command.now rows (λ x. IsAnswered c.args.to x rows c.action_of.result) whole c.action_of.ensures in
    let Answered : Result Action LineFault → Type 0 = IsAnswered c.args.to command rows in
    (command, rows, sym (ap command_in found) ∙ is, subst Answered c.in-Err.is answered)
