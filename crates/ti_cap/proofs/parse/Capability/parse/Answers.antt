use Rattle.ti_cap.proofs.parse.Capability.parse.Goals as goal
use Rattle.ti_cap.proofs.parse.Capability.parse.Goals.{in-Ok, in-Err+in_ok-limits-in-Err}

pub returns-clause-accepted : goal.returns-clause-accepted
returns-clause-accepted c =
    elim c.match-limits_of.branch [
      | in-Ok w ↦ w.in-Ok.ensures.accepted.faultless
      | in-Err+in_ok-limits-in-Err w ↦ w.in_ok-limits-in-Err.ensures.accepted.faultless
    ]
