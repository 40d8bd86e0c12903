use Rattle.std.proofs.Common.{◌≡◌, ap, ◌∙◌, arith}
use Rattle.ti_layout.specs.Table.{ends_in}
use Rattle.ti_layout.proofs.LastNulLemmas.{after_nul, no_nul_at_all}
use Rattle.ti_layout.proofs.checks.after_last_nul.Goals as goal

pub returns-then-table-after-eq0 : goal.returns-then-table-after-eq0
returns-then-table-after-eq0 c = after_nul c.args.table.now c.back.after c.back-test.true c.back.invariant.within c.if-table-after-eq0.true c.back.invariant.none

pub returns : goal.returns
returns c =
    let front : 0 ≡ c.back.after = omega arith in
    no_nul_at_all c.args.table.now (ap (ends_in c.args.table.now) front ∙ c.back.invariant.none)
