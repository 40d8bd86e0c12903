use Rattle.ti_lint.proofs.ConditionalsLemmas.{leaves_exact}
use Rattle.std.proofs.Common.{sym, ◌∙◌}
use Rattle.ti_lint.proofs.conditional.leaves_value.Goals as goal

pub returns-in-Some : goal.returns-in-Some
returns-in-Some c = leaves_exact c.args.test.now c.in-Some.count (sym c.values_left.ensures ∙ c.in-Some.is)
