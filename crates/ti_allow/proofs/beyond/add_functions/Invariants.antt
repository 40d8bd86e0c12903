-- If nothing was found so far, all functions are allowed once the rest are; and what was found is beyond the table.
use Rattle.std.proofs.Common.{drop}
use Rattle.ti_allow.specs.Harmless.{AreAllowed, AreBeyond, IsSilent}
use Rattle.ti_allow.specs.declared.allowed.TheConstants.{ALLOWED}
use Rattle.ti_allow.proofs.beyond.add_functions.Given as goal

abbrev pub invariant-functions : goal.invariant-functions
invariant-functions g l =
    record {
      before : IsSilent l.found.items → IsSilent l.fn.found.items;
      beyond : AreBeyond ALLOWED l.name l.fn.found.items → AreBeyond ALLOWED l.name l.found.items;
      allowed : IsSilent l.found.items → AreAllowed ALLOWED l.name (drop l.function-index l.functions) → AreAllowed ALLOWED l.name l.functions;
    }
