use Rattle.std.proofs.Common.{arith}
use Rattle.std.proofs.lemmas.Result.{err_from_is_err_and}
use Rattle.ti_cap.specs.Capability.{HasDepth, HasBound, IsWellFormed}
use Rattle.ti_expand.specs.declared.fault.ExpandFault.TheVariants.{StackTooSmall, OutTooSmall}
use Rattle.ti_expand.specs.Expands.{longest_text, HasStack}
use Rattle.ti_expand.proofs.CanRunLemmas.{heights_low}
use Rattle.ti_expand.proofs.IsExpandFaultLemmas.{too_long, refused, accepted}
use Rattle.ti_expand.proofs.expansion.check.Goals as goal

pub returns-in_err-longest-clause-faults : goal.returns-in_err-longest-clause-faults
returns-in_err-longest-clause-faults c =
    let p = err_from_is_err_and c.from_residual.result c.from_residual.ensures.1 in
    let f = c.in_err-longest.field-0.0 in
    rw (p.1, p.2)
    (refused c.args.tape.now.left c.args.parameters.now c.args.places c.args.room f
    (too_long c.args.tape.now.left c.args.parameters.now c.args.places c.args.room f c.in_err-longest.ensures.too_long))

pub returns-then-places-need-clause-faults : goal.returns-then-places-need-clause-faults
returns-then-places-need-clause-faults c =
    let deep : HasDepth c.args.tape.now.left c.depth-need.result = rw c.requires at c.depth-need.ensures.exact in
    refused c.args.tape.now.left c.args.parameters.now c.args.places c.args.room (StackTooSmall c.depth-need.result)
    (omega (arith, c.in_ok-longest.ensures.short.short, c.in_ok-longest.ensures.short.longest_is), deep, c.if-places-need.true)

pub returns-then-room-need-clause-faults : goal.returns-then-room-need-clause-faults
returns-then-room-need-clause-faults c =
    let deep : HasDepth c.args.tape.now.left c.depth-need.result = rw c.requires at c.depth-need.ensures.exact in
    let bounded : HasBound c.args.tape.now.left (longest_text c.args.parameters.now) c.bound-need.result = rw (c.requires, c.in_ok-longest.ensures.short.longest_is) at c.bound-need.ensures.exact in
    let stack : HasStack c.args.tape.now.left c.args.parameters.now c.args.places =
    record { texts = omega (arith, c.in_ok-longest.ensures.short.short, c.in_ok-longest.ensures.short.longest_is); depth = c.depth-need.result; deep = deep; room = c.if-places-need.false } in
    refused c.args.tape.now.left c.args.parameters.now c.args.places c.args.room (OutTooSmall c.bound-need.result) (stack, bounded, c.if-room-need.true)

pub returns-clause-ready : goal.returns-clause-ready
returns-clause-ready c =
    let deep : HasDepth c.args.tape.now.left c.depth-need.result = rw c.requires at c.depth-need.ensures.exact in
    let formed : IsWellFormed c.args.tape.now.left = rw c.requires at c.depth-need.ensures.tree in
    let bounded : HasBound c.args.tape.now.left c.in_ok-longest.longest c.bound-need.result = rw c.requires at c.bound-need.ensures.exact in
    record { longest = c.in_ok-longest.longest; texts = c.in_ok-longest.ensures.short; well_formed = formed; heights = heights_low c.args.tape.now.left formed c.depth-need.result c.args.places deep c.if-places-need.false; bound = c.bound-need.result; bounded = bounded; long = c.if-room-need.false }

pub returns-clause-faults : goal.returns-clause-faults
returns-clause-faults c = accepted c.args.tape.now.left c.args.parameters.now c.args.places c.args.room _ (returns-clause-ready c)
