-- When a capability is traced, and why it is not.
use Rattle.std.specs.Prelude.{ℕ, List}
use Rattle.ti_cap.specs.Refusal.{IsFaultless, IsRefusal}
use Rattle.ti_expand.specs.declared.values.Value.{Value}
use Rattle.ti_expand.specs.Expands.{IsFirstTooLong}
use Rattle.ti_trace.specs.declared.fault.TraceFault.{TraceFault}
use Rattle.ti_trace.specs.declared.fault.TraceFault.TheVariants.{Cap, Memory, TextTooLong}

-- the bytes are a capability, and no text among the parameters is too long
abbrev pub CanBeTraced : List ℕ → List Value → Type 0
CanBeTraced bytes parameters = IsFaultless bytes × ((k : ℕ) → ¬ IsFirstTooLong parameters k)

-- the first fault; memory is refused only if there is no other
abbrev pub IsTraceFault : List ℕ → List Value → TraceFault → Type 0
IsTraceFault bytes parameters (Cap refused) = IsRefusal bytes refused
IsTraceFault bytes parameters (TextTooLong k) = IsFaultless bytes × IsFirstTooLong parameters k
IsTraceFault bytes parameters Memory = CanBeTraced bytes parameters
