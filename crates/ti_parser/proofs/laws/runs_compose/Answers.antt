use Rattle.std.proofs.Common.{refl}
use Rattle.ti_parser.specs.Machine.{ground}
use Rattle.ti_parser.proofs.RunLemmas.{run-append}
use Rattle.ti_parser.proofs.SettledLemmas.{settled_new, settled_run}
use Rattle.ti_parser.proofs.laws.runs_compose.Goals as goal

pub returns-clause-join : goal.returns-clause-join
returns-clause-join c = run-append

pub returns-clause-clean : goal.returns-clause-clean
returns-clause-clean c = λ reading bytes is_ground is_nothing.
    settled_new _ (settled_run reading ground bytes (record { same = refl })) is_ground is_nothing
