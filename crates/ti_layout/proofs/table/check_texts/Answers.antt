use Rattle.std.proofs.Common.{length, ap, ◌∙◌, arith}
use Rattle.std.proofs.lemmas.Grind.{common_steps}
use Rattle.ti_layout.specs.Checks.{verdict}
use Rattle.ti_layout.proofs.VerdictLemmas.{verdict_append}
use Rattle.ti_layout.proofs.NamePlaceChecksLemmas.{names_of_part, slice_is, table_length, base_exact}
use Rattle.ti_layout.proofs.table.check_texts.Goals as goal

pub returns-clause-verdict : goal.returns-clause-verdict
returns-clause-verdict c =
    let decided = names_of_part c.args.bytes.now c.args.part.now c.table_from.ensures c.end-end.ensures c.offsets_from-offsets_from.ensures c.names_from.ensures c.base_of-base.ensures in
    let names = c.in_ok-check_name_places.ensures ∙ ap (verdict (length c.args.bytes.now)) decided in grind (arith, common_steps, verdict_append)

pub returns-clause-base : goal.returns-clause-base
returns-clause-base c =
    let decided = names_of_part c.args.bytes.now c.args.part.now c.table_from.ensures c.end-end.ensures c.offsets_from-offsets_from.ensures c.names_from.ensures c.base_of-base.ensures in
    let names = c.in_ok-check_name_places.ensures ∙ ap (verdict (length c.args.bytes.now)) decided in
    let size = slice_is c.args.bytes.now c.args.part.now c.table_from.ensures c.end-end.ensures in
    let base = rw (size, c.offsets_from-offsets_from.ensures, table_length c.args.bytes.now c.args.part.now c.requires.there) at c.base_of-base.ensures in
    base_exact c.args.bytes.now c.args.part.now c.base_of-base.result (length c.args.bytes.now) (omega arith) c.requires.there base names

pub returns-in_err-check_name_places-clause-verdict : goal.returns-in_err-check_name_places-clause-verdict
returns-in_err-check_name_places-clause-verdict c =
    let decided = names_of_part c.args.bytes.now c.args.part.now c.table_from.ensures c.end-end.ensures c.offsets_from-offsets_from.ensures c.names_from.ensures c.base_of-base.ensures in
    let names = c.in_err-check_name_places.ensures ∙ ap (verdict (length c.args.bytes.now)) decided in grind (arith, common_steps, verdict_append)
