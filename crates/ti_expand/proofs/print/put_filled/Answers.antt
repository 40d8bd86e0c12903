use Rattle.std.proofs.Common.{rules, arith, ◌++◌, take, ap, sym, ◌∙◌}
use Rattle.ti_expand.proofs.FillLemmas.{zero_filled}
use Rattle.ti_expand.proofs.print.put_filled.Goals as goal

pub returns-then-is_none-clause-written : goal.returns-then-is_none-clause-written
returns-then-is_none-clause-written c =
    c.put_body.ensures.written
    ∙ ap (λ body. take c.args.at c.args.out.now ++ body)
    (sym (zero_filled c.args.format.now c.args.front.now c.args.digits.now c.args.zeros _ c.if-format.true c.if-not-format.true (search rules) (omega (arith, c.saturating_sub-missing.ensures, c.len.ensures))))
