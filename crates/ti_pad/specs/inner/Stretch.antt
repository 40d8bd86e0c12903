-- A text in stretches.
use Rattle.std.specs.Prelude.{ℕ, Bool, not, List, ◌==◌, replicate, codes}
use Rattle.ti_base.specs.Letters.{letter}
use Rattle.ti_pad.specs.declared.stretch.Stretch.{Stretch}
use Rattle.ti_pad.specs.declared.stretch.Stretch.TheVariants.{Literal, Pads}

-- the bytes of a stretch
abbrev pub stretch_bytes : ℕ → Stretch → List ℕ
stretch_bytes pad (Literal bytes) = bytes.now
stretch_bytes pad (Pads count) = replicate count pad

-- no mark starts at such a byte
abbrev pub is_plain : ℕ → Bool
is_plain byte = not (byte == letter (codes "$"))
