-- A line on which padding takes no byte.
use Rattle.std.specs.Prelude.{◌≡◌, false}
use Rattle.ti_pad.specs.Setting.{Setting}

abbrev pub IsWithoutRate : Setting → Type 0
IsWithoutRate s = (s.rate ≡ 0) × (s.xon ≡ false)
