use Rattle.std.proofs.Common.{sym, subst}
use Rattle.ti_cap.specs.Capability.{Spot}
use Rattle.ti_expand.specs.StackHeight.{state_after}
use Rattle.ti_expand.specs.State.{start}
use Rattle.ti_parser.specs.Paths.{Known}
use Rattle.ti_parser.proofs.PathsLemmas.{IsAt, at_end, at_next, at_start}
use Rattle.ti_parser.proofs.paths.Paths.pass.Goals as goal

pub loop-token-init : goal.loop-token-init
loop-token-init g c =
    let known : Known = record { here = record { parsers = c.args.self.now.here.parsers.items; tops = c.args.self.now.here.tops }; opens = c.args.self.now.opens.items; sent = c.args.self.now.sent.items } in
    let P : Spot → Type 0 = λ x. IsAt c.args.reception c.args.capability.now x known in
    subst P (sym c.tape-tape.ensures.start) (at_start c.args.reception c.args.capability.now known c.requires.opens c.requires.here c.requires.tops)

pub loop-token-preserved : goal.loop-token-preserved
loop-token-preserved g c =
    let before : Known = record { here = record { parsers = c.loop-token.self.here.parsers.items; tops = c.loop-token.self.here.tops }; opens = c.loop-token.self.opens.items; sent = c.loop-token.self.sent.items } in
    let after : Known = record { here = record { parsers = c.take.new.self.here.parsers.items; tops = c.take.new.self.here.tops }; opens = c.take.new.self.opens.items; sent = c.take.new.self.sent.items } in
    at_next c.args.reception c.args.capability.now c.loop-token.tape c.token.new.self c.in-Some.token before after c.in-Some.ensures.some c.loop-token.invariant c.in_ok-take.ensures

pub returns : goal.returns
returns g c = λ tree path writes is variables parameters numbers texts.
    let known : Known = record { here = record { parsers = c.loop-token.self.here.parsers.items; tops = c.loop-token.self.here.tops }; opens = c.loop-token.self.opens.items; sent = c.loop-token.self.sent.items } in
    let end = at_end c.args.reception c.args.capability.now c.loop-token.tape known c.loop-token.invariant c.in_default.ensures.none.1 tree path writes is variables parameters numbers texts in
    c.in_ok-close.ensures c.args.reception end.0 (state_after path (start variables parameters)) end.1.0 end.1.1
