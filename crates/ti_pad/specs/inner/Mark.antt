-- A mark of the code as a mark of the definitions, and what stands after it.
use Rattle.std.specs.Prelude.{◌≡◌, ℕ, List, Option, drop, length, option_map}
use Rattle.ti_pad.specs.Marks.{Mark}
use Rattle.ti_pad.specs.declared.mark.LeadingMark.{LeadingMark}
use Rattle.ti_pad.specs.declared.mark.Mark as code
use Rattle.ti_pad.specs.inner.Decimals.{decimals_of}

abbrev pub mark_of : code.Mark → Mark
mark_of m = record { whole = m.whole.now; decimals = decimals_of m.decimals; flags = m.flags.now }

-- the mark that is found, if one is
abbrev pub found_mark : Option LeadingMark → Option Mark
found_mark = option_map (λ f. mark_of f.mark)

-- the rest is what stands in the bytes after these bytes of the mark that is found
abbrev pub LeavesAfter : (Mark → List ℕ) → List ℕ → LeadingMark → Type 0
LeavesAfter part bytes f = f.rest.now ≡ drop (length (part (mark_of f.mark))) bytes
