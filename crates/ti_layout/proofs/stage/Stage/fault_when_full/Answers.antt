use Rattle.std.proofs.Common.{◌∙◌, length, sym, ap}
use Rattle.std.specs.Prelude.{Some}
use Rattle.ti_layout.specs.declared.fault.Fault.{Fault}
use Rattle.ti_layout.specs.Checks.{refusal_at, failure_of}
use Rattle.ti_layout.proofs.MostEntryBytesLemmas.{then_refused}
use Rattle.ti_layout.proofs.stage.Stage.fault_when_full.Goals as goal

pub returns : goal.returns
returns c = λ bytes byte more stands waits full.
    ap failure_of (then_refused bytes c.args.self.now byte more stands waits full)
    ∙ ap (λ (f : Fault). Some (refusal_at f (length bytes))) (sym c.fault_when_full.ensures)
