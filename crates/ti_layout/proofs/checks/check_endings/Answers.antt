use Rattle.std.proofs.Common.{length, sym, ◌∙◌}
use Rattle.std.proofs.lemmas.Result.{err_from_is_err_and}
use Rattle.ti_layout.specs.Checks.{ending_check}
use Rattle.ti_layout.proofs.LastNulLemmas.{told}
use Rattle.ti_layout.proofs.VerdictLemmas.{opened}
use Rattle.ti_layout.proofs.WholeSectionLemmas.{all_pass, before}
use Rattle.ti_layout.proofs.checks.check_endings.Goals as goal

pub returns-then-table : goal.returns-then-table
returns-then-table c =
    let t = c.args.table.now in
    let low = c.requires.below c.if-below.true in
    all_pass (ending_check c.args.bytes.now t.bytes.now t.end) (length c.args.bytes.now) c.args.from 2 c.args.count (λ i lt. record {
      long = c.requires.there;
      holds = told t.bytes.now t.after_last_nul c.requires.last_nul _ ∙ before t.after_last_nul _ (rw c.if-table.true (low i lt));
    })

pub returns-then-are_below : goal.returns-then-are_below
returns-then-are_below c =
    let t = c.args.table.now in
    all_pass (ending_check c.args.bytes.now t.bytes.now t.end) (length c.args.bytes.now) c.args.from 2 c.args.count (λ i lt. record {
      long = c.requires.there;
      holds = told t.bytes.now t.after_last_nul c.requires.last_nul _ ∙ before t.after_last_nul _ (c.are_below.ensures c.if-are_below.true i lt);
    })

pub loop-i-preserved : goal.loop-i-preserved
loop-i-preserved c =
    let t = c.args.table.now in
    sym (rw (← c.in_ok-check_ending.ensures) at (opened (ending_check c.args.bytes.now t.bytes.now t.end) (length c.args.bytes.now) c.args.from 2 c.args.count c.loop-i.i c.loop-i-test.true)) ∙ c.loop-i.invariant

pub returns-in_err-check_ending : goal.returns-in_err-check_ending
returns-in_err-check_ending c =
    let t = c.args.table.now in
    let p = err_from_is_err_and c.from_residual.result c.from_residual.ensures.1 in
    rw (p.1, p.2) (sym (rw (← c.in_err-check_ending.ensures) at (opened (ending_check c.args.bytes.now t.bytes.now t.end) (length c.args.bytes.now) c.args.from 2 c.args.count c.loop-i.i c.loop-i-test.true)) ∙ c.loop-i.invariant)
