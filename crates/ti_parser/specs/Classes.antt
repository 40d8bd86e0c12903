-- The classes of bytes below 80 (ECMA-48, 5.2 to 5.4; P. Williams).
use Rattle.std.specs.Prelude.{ℕ, ◌==◌, ◌||◌, nat_lt, if◌then◌else◌}
use Rattle.ti_parser.specs.declared.class.ByteClass.{ByteClass}
use Rattle.ti_parser.specs.declared.class.ByteClass.TheVariants.{Control, Bell, Cancel, Escape, Intermediate, Digit, Separator, Marker, Final, Delete}

unfoldable pub class_of : ℕ → ByteClass
class_of byte =
    if byte == 0x07 then Bell
    else if byte == 0x18 || byte == 0x1a then Cancel
    else if byte == 0x1b then Escape
    else if nat_lt byte 0x20 then Control
    else if nat_lt byte 0x30 then Intermediate
    else if nat_lt byte 0x3a then Digit
    else if nat_lt byte 0x3c then Separator
    else if nat_lt byte 0x40 then Marker
    else if nat_lt byte 0x7f then Final
    else Delete
