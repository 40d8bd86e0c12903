use Rattle.std.proofs.Common.{◌∙◌, arith}
use Rattle.ti_cap.specs.declared.scan.OpenExtents.{OpenExtents}
use Rattle.ti_cap.specs.declared.scan.ConditionalPart.TheVariants.{FirstTest}
use Rattle.ti_cap.proofs.ScanLemmas.{found_closed}
use Rattle.ti_cap.proofs.scan.Scan.leave.Goals as goal

pub returns-clause-taken : goal.returns-clause-taken
returns-clause-taken o c =
    let fresh : OpenExtents = record { part = FirstTest; failed = record { height = 0; size = 0 }; done = record { height = 0; size = 0 } } in
    found_closed c.args.self.now c.args.opens.now fresh c.max-self.result c.max-self-2.result (omega arith) c.requires.order.many (omega (arith, c.told-opens))
    (c.max-self.ensures ∙ cc) c.max-self-2.ensures
