use Rattle.ti_names.proofs.NamesLemmas.{inverse, not_empty, one_place}
use Rattle.ti_names.proofs.laws.names_stand_once.Goals as goal

pub returns-clause-one_place : goal.returns-clause-one_place
returns-clause-one_place c = one_place

pub returns-clause-inverse : goal.returns-clause-inverse
returns-clause-inverse c = inverse

pub returns-clause-not_empty : goal.returns-clause-not_empty
returns-clause-not_empty c = not_empty
