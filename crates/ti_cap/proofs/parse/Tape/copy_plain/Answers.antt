use Rattle.std.proofs.Common.{ap, length, arith}
use Rattle.ti_cap.proofs.ArePlainLemmas.{are_plain, plain_count, tape_end}
use Rattle.ti_cap.proofs.IsRefusalLemmas.{from_place}
use Rattle.ti_cap.proofs.parse.Tape.copy_plain.Goals as goal
use Rattle.ti_cap.proofs.parse.Tape.copy_plain.Goals.{then-self-via-then-self, then-self-via-else-self+then-out-count}

pub invariant_of-self : goal.invariant_of-self
invariant_of-self c = tape_end _ _ _ c.self.invariant

pub returns-then-self-clause-exact : goal.returns-then-self-clause-exact
returns-then-self-clause-exact c = λ plain room.
    elim c.then-self.branch [
      | then-self-via-then-self w ↦ w.if-self.true (plain_count _ _ _ c.self.invariant c.args.self.now c.self.view_is plain)
      | then-self-via-else-self+then-out-count w ↦ omega (arith, ap length (from_place c.self.inside.bytes.now c.self.inside.place), ap (λ s. length s.left) c.self.view_is)
    ]

pub returns-clause-plain : goal.returns-clause-plain
returns-clause-plain c = are_plain _ _ _ c.self.invariant c.args.self.now c.self.view_is c.if-self.false
