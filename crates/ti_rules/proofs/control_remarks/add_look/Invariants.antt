-- So far all are controls, and of a stranger's string there is one, if anything was found.
use Rattle.std.proofs.Common.{◌≡◌, true}
use Rattle.ti_allow.specs.Harmless.{IsSilent}
use Rattle.ti_rules.specs.Controls.{AreControls}
use Rattle.ti_rules.proofs.control_remarks.add_look.Given as goal

abbrev pub invariant-found : goal.invariant-found
invariant-found g l =
    record {
      controls : AreControls l.fn.remarks.items → AreControls l.remarks.items;
      before : IsSilent l.remarks.items → IsSilent l.fn.remarks.items;
      silent : l.terminal.untrusted ≡ true → IsSilent l.remarks.items → l.one-index ≡ 0;
    }
