use Rattle.ti_control.specs.Entries.{starts_unfit}
use Rattle.ti_rules.proofs.FirstPlaceLemmas.{place_is}
use Rattle.ti_rules.proofs.name_bytes.unfit_place.Goals as goal

pub returns : goal.returns
returns c = place_is starts_unfit c.args.aliases.now c.first_unfit.result c.first_unfit.ensures.first
