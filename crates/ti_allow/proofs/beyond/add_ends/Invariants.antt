-- If nothing was found so far, all ends are clean once the rest are.
use Rattle.std.proofs.Common.{ℕ, List, drop}
use Rattle.std.specs.List.{AllByRecursion}
use Rattle.ti_allow.specs.Harmless.{AreBeyond, IsClean, IsSilent}
use Rattle.ti_allow.specs.declared.allowed.TheConstants.{ALLOWED}
use Rattle.ti_allow.proofs.beyond.add_ends.Given as goal

abbrev pub invariant-ends : goal.invariant-ends
invariant-ends g l =
    record {
      before : IsSilent l.found.items → IsSilent l.fn.found.items;
      beyond : (name : List ℕ) → AreBeyond ALLOWED name l.fn.found.items → AreBeyond ALLOWED name l.found.items;
      clean : IsSilent l.found.items → AllByRecursion IsClean (drop l.end-index l.ends) → AllByRecursion IsClean l.ends;
    }
