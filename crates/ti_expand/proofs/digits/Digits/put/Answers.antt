use Rattle.std.proofs.Common.{◌≡◌, ◌+◌, length}
use Rattle.ti_expand.specs.Printed.{digits_of}
use Rattle.ti_expand.proofs.RestLemmas.{drop_after}
use Rattle.ti_expand.proofs.digits.Digits.put.Goals as goal

pub returns-clause-rest : goal.returns-clause-rest
returns-clause-rest c =
    let w = c.write_digits-start in
    let d = c.self.inside in
    let counted : d.count ≡ length (digits_of d.conversion d.amount) = c.self.invariant in
    drop_after w.new.out c.args.out.now (digits_of d.conversion d.amount) w.result (c.args.at + d.count) w.ensures.start w.ensures.written
