use Rattle.std.proofs.Common.{ap, arith, length, rules}
use Rattle.std.proofs.lemmas.Grind.{common_steps}
use Rattle.ti_pad.proofs.AppendsLemmas.{Appends-next}
use Rattle.ti_tool.proofs.noted.write_noted.Goals as goal

pub writes-preserved-in-Ok : goal.writes-preserved-in-Ok
writes-preserved-in-Ok g c = record {
  within = search rules;
  taken = Appends-next _ _ _ _ _ _ c.writes.invariant.taken c.in-Ok.ensures.bytes;
  nothing = λ none. absurd (omega (arith, ap length none));
}

pub returns-clause-written : goal.returns-clause-written
returns-clause-written c = grind (arith, common_steps)
