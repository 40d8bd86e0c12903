use Rattle.std.proofs.Common.{arith}
use Rattle.std.proofs.lemmas.Grind.{common_steps}
use Rattle.ti_allow.proofs.beyond.add_ends.Goals as goal

pub ends-preserved : goal.ends-preserved
ends-preserved g c = record {
  before = λ silent. c.ends.invariant.before (c.in_ok-add_end.ensures.before silent);
  beyond = λ name are. c.in_ok-add_end.ensures.beyond name (c.ends.invariant.beyond name are);
  clean = λ silent rest.
      let one = c.in_ok-add_end.ensures.clean silent in
      c.ends.invariant.clean (c.in_ok-add_end.ensures.before silent) (grind (arith, common_steps, one, rest));
}
