use Rattle.std.proofs.Common.{◌∙◌, ap, sym}
use Rattle.ti_c.specs.Names.{name_under}
use Rattle.ti_names.specs.declared.name_table.NameTable.TheVariants.{All}
use Rattle.ti_names.proofs.NamesLemmas.{inverse}
use Rattle.ti_c.proofs.finding.ti_find.Goals as goal

pub returns-in-Some-clause-found : goal.returns-in-Some-clause-found
returns-in-Some-clause-found c = λ _.
    ap (λ kind. name_under kind c.in-Some.place) c.kind_number.ensures ∙ (inverse All c.in-Some.found c.in-Some.place c.args.name.now).1 (sym c.find_bytes.ensures.value ∙ c.in-Some.is)
