-- What has been read so far, and what is left.
use Rattle.std.proofs.Common.{length, ◌-◌}
use Rattle.ti_cap.specs.inner.Scan.{findings_of, IsInOrder}
use Rattle.ti_cap.proofs.IsRefusalLemmas.{Parsed, IsRest}
use Rattle.ti_cap.proofs.parse.limits_of.Given as goal

abbrev pub invariant-reads : goal.invariant-reads
invariant-reads o l = record {
  parsed : Parsed l.bytes l.longest (length l.bytes - length l.left) l.tokens (findings_of l.scan l.opens);
  rest : IsRest l.bytes l.left;
  order : IsInOrder o.row.ROOM l.scan;
}

abbrev pub decreases-reads : goal.decreases-reads
decreases-reads o l = length l.left
