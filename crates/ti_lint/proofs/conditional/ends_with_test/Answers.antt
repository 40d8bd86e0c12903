use Rattle.std.proofs.Common.{sym, ◌∙◌}
use Rattle.ti_lint.proofs.ConditionalsLemmas.{ends_exact}
use Rattle.ti_lint.proofs.conditional.ends_with_test.Goals as goal

pub returns-then-starts_test : goal.returns-then-starts_test
returns-then-starts_test c = ends_exact c.args.before.now c.args.test.now _ c.eq.result c.requires c.if-before-test.false (sym c.starts_test.ensures ∙ c.if-starts_test.true) c.eq.ensures
