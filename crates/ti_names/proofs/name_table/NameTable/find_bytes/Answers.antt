use Rattle.std.proofs.Common.{◌∙◌}
use Rattle.ti_names.proofs.NamesLemmas.{found_by, place_only}
use Rattle.ti_names.proofs.name_table.NameTable.find_bytes.Goals as goal

pub returns : goal.returns
returns c = record {
  value = c.look_at.ensures;
  found = found_by c.args.self c.args.name.now c.look_at.result c.look_at.ensures;
  only = λ at named. c.look_at.ensures ∙ place_only c.args.self at c.args.name.now named;
}
