use Rattle.std.proofs.Common.{[], refl, arith}
use Rattle.ti_layout.specs.Stages.{new_stage}
use Rattle.ti_layout.proofs.StageStepLemmas.{stands_first, stands_now, waits}
use Rattle.ti_entry.proofs.reader.EntryReader.new.Goals as goal

pub invariant_of-result : goal.invariant_of-result
invariant_of-result c = rw (c.new.ensures, c.new-2.ensures) (record {
  most = omega arith;
  none_failed = refl;
  stands = λ e. stands_first;
  waits = λ e. waits [] new_stage (stands_now [] new_stage stands_first) (omega arith);
})
