-- Names of which no byte is escaped.
use Rattle.std.specs.Prelude.{◌&&◌, ℕ, Bool, codes, nat_lt, not}
use Rattle.ti_base.specs.Letters.{letter}
use Rattle.ti_escape.specs.Notation.{has_meaning}

-- a byte of a name that is written as it is
abbrev pub is_plain : ℕ → Bool
is_plain byte = nat_lt (letter (codes " ")) byte && nat_lt byte 127 && not (has_meaning byte)
