use Rattle.std.proofs.Common.{length}
use Rattle.ti_expand.specs.inner.Running.{IsReady}
use Rattle.ti_expand.proofs.CanRunLemmas.{heights_low}
use Rattle.ti_expand.proofs.expansion.run_capability.Goals as goal

pub run_tape-requires-clause-ready : goal.run_tape-requires-clause-ready
run_tape-requires-clause-ready c =
    let r = c.requires.ready in
    let bytes = c.args.capability.now in
    let ready : IsReady bytes c.args.parameters.now 4 (length c.args.out.now) = record {
      longest = r.longest;
      texts = r.texts;
      well_formed = r.well_formed;
      heights = heights_low bytes r.well_formed c.depth.result 4 c.depth.ensures.exact c.if-depth-gt-FEW_VALUES.false;
      bound = r.bound;
      bounded = r.bounded;
      long = r.long;
    } in
    rw c.tape.ensures.start ready
