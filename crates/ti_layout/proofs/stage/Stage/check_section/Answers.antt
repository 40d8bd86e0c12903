use Rattle.std.proofs.Common.{ap, subst, length, arith}
use Rattle.std.proofs.lemmas.Result.{err_from_is_err_and}
use Rattle.ti_layout.specs.Checks.{failure_of}
use Rattle.ti_layout.specs.Stages.{Reached, at_next_section}
use Rattle.ti_layout.proofs.StageStepLemmas.{stands_now, items_pass, items_fail, closing_fails, next_stage}
use Rattle.ti_layout.proofs.stage.Stage.check_section.Goals as goal

-- ---- items

pub count_within-count-requires-clause-within : goal.count_within-count-requires-clause-within
count_within-count-requires-clause-within c = (stands_now c.args.bytes.now c.args.self.now c.requires.stands).within

pub returns-in_err-check-clause-failed : goal.returns-in_err-check-clause-failed
returns-in_err-check-clause-failed c =
    let p = err_from_is_err_and c.from_residual.result c.from_residual.ensures.1 in
    rw (p.1, p.2) (ap failure_of (items_fail c.args.bytes.now c.args.self.now c.count_within-count.result c.in_err-check.field-0.0 c.requires.stands c.count_within-count.ensures.most c.in_err-check.ensures))

pub after-self-requires-clause-within : goal.after-self-requires-clause-within
after-self-requires-clause-within c = (stands_now c.args.bytes.now c.args.self.now c.requires.stands).within

pub returns-then-self-gt0-clause-stands : goal.returns-then-self-gt0-clause-stands
returns-then-self-gt0-clause-stands c = rw c.after-self.ensures (items_pass c.args.bytes.now c.args.self.now c.count_within-count.result c.requires.stands c.count_within-count.ensures.most c.in_ok-check.ensures)

-- ---- from a section to the next

pub close-requires-clause-fits : goal.close-requires-clause-fits
close-requires-clause-fits c = (stands_now c.args.bytes.now c.args.self.now c.requires.stands).fits

pub close-requires-clause-extended_fits : goal.close-requires-clause-extended_fits
close-requires-clause-extended_fits c = (stands_now c.args.bytes.now c.args.self.now c.requires.stands).extended_fits

pub close-requires-clause-named : goal.close-requires-clause-named
close-requires-clause-named c = λ e.
    let s = c.args.self.now in
    subst (λ t. Reached t (length c.args.bytes.now) s.standard s.extended) e (stands_now c.args.bytes.now s c.requires.stands).reached

pub returns-in_err-close-clause-failed : goal.returns-in_err-close-clause-failed
returns-in_err-close-clause-failed c =
    let p = err_from_is_err_and c.from_residual-in_err-close.result c.from_residual-in_err-close.ensures.1 in
    rw (p.1, p.2) (ap failure_of (closing_fails c.args.bytes.now c.args.self.now c.in_err-close.field-0.0 c.requires.stands (omega arith) c.in_err-close.ensures.verdict))

pub items-self-requires-clause-fits : goal.items-self-requires-clause-fits
items-self-requires-clause-fits c =
    let next = next_stage c.args.bytes.now c.args.self.now c.close.new.self c.requires.stands (omega arith) c.in_ok-close.ensures.verdict c.in_ok-close.ensures.kept in
    (stands_now c.args.bytes.now (at_next_section c.close.new.self) next.0).fits

pub items-self-requires-clause-extended_fits : goal.items-self-requires-clause-extended_fits
items-self-requires-clause-extended_fits c =
    let next = next_stage c.args.bytes.now c.args.self.now c.close.new.self c.requires.stands (omega arith) c.in_ok-close.ensures.verdict c.in_ok-close.ensures.kept in
    (stands_now c.args.bytes.now (at_next_section c.close.new.self) next.0).extended_fits

pub returns-clause-stands : goal.returns-clause-stands
returns-clause-stands c =
    rw (c.items-self.ensures, c.next-self.ensures) (next_stage c.args.bytes.now c.args.self.now c.close.new.self c.requires.stands (omega arith) c.in_ok-close.ensures.verdict c.in_ok-close.ensures.kept).0

pub returns-clause-less : goal.returns-clause-less
returns-clause-less c =
    rw (c.items-self.ensures, c.next-self.ensures) (next_stage c.args.bytes.now c.args.self.now c.close.new.self c.requires.stands (omega arith) c.in_ok-close.ensures.verdict c.in_ok-close.ensures.kept).1
