use Rattle.ti_rules.proofs.ConstantsLemmas.{at_then}
use Rattle.ti_rules.proofs.constants.test_of.Goals as goal

pub returns-in-CondThen-clause-test : goal.returns-in-CondThen-clause-test
returns-in-CondThen-clause-test c = at_then c.args.before.now c.args.token c.constant_test.result c.in-CondThen.is c.constant_test.ensures.test
