use Rattle.ti_layout.specs.Stages.{at_front}
use Rattle.ti_layout.proofs.StageStepLemmas.{stands_now, first_front}
use Rattle.ti_layout.proofs.stage.Stage.start.Goals as goal

pub pass_sections-requires-clause-stands : goal.pass_sections-requires-clause-stands
pass_sections-requires-clause-stands c = first_front c.args.bytes.now c.args.self.now c.in-Magic.is c.requires

pub items-self-requires-clause-fits : goal.items-self-requires-clause-fits
items-self-requires-clause-fits c = (stands_now c.args.bytes.now (at_front c.pass_sections.new.self) c.pass_sections.ensures).fits

pub items-self-requires-clause-extended_fits : goal.items-self-requires-clause-extended_fits
items-self-requires-clause-extended_fits c = (stands_now c.args.bytes.now (at_front c.pass_sections.new.self) c.pass_sections.ensures).extended_fits

pub returns-in-Magic : goal.returns-in-Magic
returns-in-Magic c = rw c.items-self.ensures c.pass_sections.ensures
