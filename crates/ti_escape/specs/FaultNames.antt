-- The name of each fault of a notation.
use Rattle.std.specs.Prelude.{ℕ, List, codes}
use Rattle.ti_escape.specs.declared.reading.NotationFault.{NotationFault}
use Rattle.ti_escape.specs.declared.reading.NotationFault.TheVariants.{CutShort, BadControl}

abbrev pub notation_fault_word : NotationFault → List ℕ
notation_fault_word CutShort = codes "CutShort"
notation_fault_word BadControl = codes "BadControl"
