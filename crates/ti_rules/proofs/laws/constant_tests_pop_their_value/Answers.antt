use Rattle.ti_rules.proofs.PopsAlwaysLemmas.{constant_tests_pop_their_value}
use Rattle.ti_rules.proofs.laws.constant_tests_pop_their_value.Goals as goal

pub returns : goal.returns
returns c = constant_tests_pop_their_value
