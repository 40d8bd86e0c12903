use Rattle.std.proofs.Common.{◌∙◌, ◌≤◌, Err, ap, arith, length}
use Rattle.std.proofs.lemmas.Result.{err_from_is_err_and}
use Rattle.ti_escape.specs.Reading.{reading}
use Rattle.ti_tool.specs.Sources.{most_notation_chars, notation_in}
use Rattle.ti_tool.proofs.SourcesLemmas.{long_text, short_text}
use Rattle.ti_tool.proofs.notation.put_text.Goals as goal

pub returns-then-len-gt-MOST_NOTATION-clause-fault : goal.returns-then-len-gt-MOST_NOTATION-clause-fault
returns-then-len-gt-MOST_NOTATION-clause-fault c = long_text (notation_in c.args.input.now) (omega (arith, c.notation_len-len.ensures.len, c.if-len-gt-MOST_NOTATION.true))

pub returns-in_err-read_in_place-clause-fault : goal.returns-in_err-read_in_place-clause-fault
returns-in_err-read_in_place-clause-fault c =
    let p = err_from_is_err_and c.from_residual.result c.from_residual.ensures.1 in
    let short : length (notation_in c.args.input.now) ≤ most_notation_chars = omega (arith, c.notation_len-len.ensures.len, c.if-len-gt-MOST_NOTATION.false) in
    rw (p.1, p.2) (short_text (notation_in c.args.input.now) (Err c.in_err-read_in_place.field-0.0) short (ap reading c.notation_len-len.ensures.notation ∙ c.in_err-read_in_place.ensures.refused))
