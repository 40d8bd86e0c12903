-- The outputs so far rise.
use Rattle.ti_values.specs.Sent.{texts_of}
use Rattle.ti_values.proofs.SameLemmas.{Rises}
use Rattle.ti_values.proofs.same.rises.Given as goal

abbrev pub invariant-outputs : goal.invariant-outputs
invariant-outputs g l = Rises (texts_of l.sent) l.next
