use Rattle.ti_entry.proofs.reader.refusal_when_full.Goals as goal

pub returns : goal.returns
returns c = λ byte more. c.fault_when_full.ensures c.args.kept.now byte more c.requires.stands c.requires.waits c.requires.full
