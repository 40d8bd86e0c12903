-- Worked rows of words for C.
use Rattle.std.proofs.Common.{inl, inr, refl, lit≤}
use Rattle.std.specs.Prelude.{codes}
use Rattle.ti_cap.specs.declared.language.CapFault.TheVariants as capability
use Rattle.ti_layout.specs.declared.fault.Fault.TheVariants as entry
use Rattle.ti_c.specs.Words.{IsWord}

-- a fault of an entry, of a capability and of padding
entry_row : IsWord 14 (codes "Trailing")
entry_row = inl (entry.Trailing, refl, refl)

capability_row : IsWord 108 (codes "StrayThen")
capability_row = inr (inl (capability.StrayThen, refl, refl))

padding_row : IsWord 301 (codes "BadPadding")
padding_row = inr (inr (5, lit≤ tt, refl))
