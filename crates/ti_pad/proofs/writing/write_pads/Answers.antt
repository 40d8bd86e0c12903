use Rattle.std.proofs.Common.{◌≤◌, rules, arith}
use Rattle.ti_pad.proofs.AppendsLemmas.{Appends-pads, Appends-pads-part}
use Rattle.ti_pad.proofs.writing.write_pads.Goals as goal

pub writes-preserved : goal.writes-preserved
writes-preserved g c = record {
  within = search rules;
  taken = Appends-pads _ _ _ _ _ _ c.writes.invariant.taken c.in-Ok.ensures.written;
  nothing = λ none. absurd (omega arith);
}

pub returns-in-Err-clause-gone : goal.returns-in-Err-clause-gone
returns-in-Err-clause-gone g c =
    let short : c.in-Err.more ≤ c.min-size.result = omega (arith, c.in-Err.ensures.short) in
    Appends-pads-part _ _ _ _ _ c.min-size.result _ short c.writes.invariant.taken c.in-Err.ensures.gone
