-- Which parameters a capability is expanded with.
use Rattle.std.specs.Prelude.{ℕ, List}
use Rattle.ti_expand.specs.declared.values.Value.{Value}
use Rattle.ti_tool.specs.declared.fault.ToolFault.{ToolFault}
use Rattle.ti_tool.specs.Expansions.{IsUnexpanded}

-- a capability is expanded with these parameters
abbrev pub IsExpandable : List ℕ → List Value → Type 0
IsExpandable capability parameters = (e : ToolFault) → ¬ IsUnexpanded capability parameters e
