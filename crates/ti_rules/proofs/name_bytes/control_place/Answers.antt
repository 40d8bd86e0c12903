use Rattle.ti_control.specs.Entries.{starts_control}
use Rattle.ti_rules.proofs.FirstPlaceLemmas.{place_is}
use Rattle.ti_rules.proofs.name_bytes.control_place.Goals as goal

pub returns : goal.returns
returns c = place_is starts_control c.args.names.now c.first_control.result c.first_control.ensures.first
