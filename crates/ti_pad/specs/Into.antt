-- Why a padded text is not put into a slice.
use Rattle.std.specs.Prelude.{◌≡◌, ◌≤◌, ◌<◌, ℕ, List, length}
use Rattle.ti_base.specs.Limits.{most_padded_bytes}
use Rattle.ti_pad.specs.declared.slice.PadIntoFault.{PadIntoFault}
use Rattle.ti_pad.specs.declared.slice.PadIntoFault.TheVariants.{TooMuch, OutTooSmall}

-- the padded text is above the limit; else it is longer than a slice of so many bytes
abbrev pub IsPadIntoFault : List ℕ → ℕ → PadIntoFault → Type 0
IsPadIntoFault text room (TooMuch need) = (need ≡ length text) × (most_padded_bytes < length text)
IsPadIntoFault text room (OutTooSmall need) =
    (need ≡ length text) × (length text ≤ most_padded_bytes) × (room < length text)
