use Rattle.std.proofs.Common.{◌∙◌, rules, subst}
use Rattle.ti_names.specs.inner.Hints.{IsRowOf}
use Rattle.ti_names.proofs.HintLemmas.{byte_taken, row_found}
use Rattle.ti_names.proofs.NamesLemmas.{only_row}
use Rattle.ti_names.proofs.hint.row_of.Goals as goal

pub loop-byte-preserved : goal.loop-byte-preserved
loop-byte-preserved c =
    byte_taken c.args.name.now c.loop-byte.byte-index c.loop-byte.hash c.from.result c.loop-byte-test.true (search rules)
    ∙ c.loop-byte.invariant

pub returns : goal.returns
returns c = subst (IsRowOf c.args.name.now)
    (row_found c.args.name.now c.loop-byte.byte-index c.loop-byte.hash c.from-shift.result c.from-2.result
    c.loop-byte-test.false c.loop-byte.invariant c.from-shift.ensures c.from-2.ensures)
    (only_row c.args.name.now)
