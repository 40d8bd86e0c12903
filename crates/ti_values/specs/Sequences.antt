-- Control sequences (ECMA-48, 5.4): `\E[`, parameter bytes, intermediate bytes, and a final byte.
use Rattle.std.specs.Prelude.{◌≡◌, ◌==◌, ℕ, zero, suc, ◌+◌, Bool, if◌then◌else◌, false, ◌&&◌, ◌||◌, List, [], ◌∷◌, codes, drop, length, nat_eq, nat_le, IsTrue, Option, Some, None, option_and_then, option_map, unwrap_or}
use Rattle.std.specs.List.{prefix_len, starts_with}
use Rattle.ti_base.specs.Letters.{letter}

abbrev pub is_between : ℕ → ℕ → ℕ → Bool
is_between low high byte = nat_le low byte && nat_le byte high

abbrev pub is_parameter : ℕ → Bool
is_parameter = is_between 0x30 0x3f

abbrev pub is_intermediate : ℕ → Bool
is_intermediate = is_between 0x20 0x2f

abbrev pub is_final : ℕ → Bool
is_final = is_between 0x40 0x7e

-- the start of a control sequence
abbrev pub introducer : List ℕ
introducer = 0x1b ∷ codes "["

-- the bytes after the first that pass a test
abbrev pub after : (ℕ → Bool) → List ℕ → List ℕ
after test bytes = drop (prefix_len test bytes) bytes

-- the bytes start with a final byte
abbrev pub starts_final : List ℕ → Bool
starts_final [] = false
starts_final (byte ∷ rest) = is_final byte

-- the bytes after `\E[` end its sequence
abbrev pub is_ended : List ℕ → Bool
is_ended bytes = starts_final (after is_intermediate (after is_parameter bytes))

-- at the place stands a `\E[` that is not ended
abbrev pub IsUnended : List ℕ → ℕ → Type 0
IsUnended bytes place =
    IsTrue (starts_with nat_eq (drop place bytes) introducer) × (is_ended (drop (place + 2) bytes) ≡ false)

-- some bytes have one
abbrev pub HasUnended : List ℕ → Type 0
HasUnended bytes = (place : ℕ) × IsUnended bytes place

-- at the place stands a control sequence that selects a rendition: only parameter bytes, and then `m`
abbrev pub starts_rendition : List ℕ → Bool
starts_rendition [] = false
starts_rendition (byte ∷ rest) = byte == letter (codes "m")

abbrev pub IsRendition : List ℕ → ℕ → Type 0
IsRendition bytes place =
    IsTrue (starts_with nat_eq (drop place bytes) introducer) × IsTrue (starts_rendition (after is_parameter (drop (place + 2) bytes)))

abbrev pub HasRendition : List ℕ → Type 0
HasRendition bytes = (place : ℕ) × IsRendition bytes place

-- ---- what a terminal shows

-- how many bytes go on after an `\E` to the end of its sequence: after a `[` a control sequence, else intermediate bytes and a
-- final one, as in the shift `\E(B` (ECMA-35, 13.2)
abbrev pub escape_len : List ℕ → ℕ
escape_len [] = 0
escape_len (byte ∷ rest) =
    if byte == letter (codes "[")
    then 2 + prefix_len is_parameter rest + prefix_len is_intermediate (after is_parameter rest)
    else 1 + prefix_len is_intermediate (byte ∷ rest)

-- a space or a character
abbrev pub is_printable : ℕ → Bool
is_printable = is_between 0x20 0x7e

-- some byte after the first so many is printable, and in no sequence
unfoldable pub shows_after : ℕ → List ℕ → Bool
shows_after skip [] = false
shows_after (suc skip) (byte ∷ rest) = shows_after skip rest
shows_after zero (byte ∷ rest) =
    if byte == 0x1b then shows_after (escape_len rest) rest else is_printable byte || shows_after 0 rest

abbrev pub HasShown : List ℕ → Type 0
HasShown bytes = IsTrue (shows_after 0 bytes)

-- ---- the form of a terminal of ECMA-48

-- a digit
abbrev pub is_digit : ℕ → Bool
is_digit = is_between 0x30 0x39

-- what stands after a text, if the bytes start with it
abbrev pub after_text : List ℕ → List ℕ → Option (List ℕ)
after_text text bytes = if starts_with nat_eq bytes text then Some (drop (length text) bytes) else None

-- what stands after a parameter that is printed in decimal, of any width, such as %p1%d and %p1%2d
abbrev pub after_decimal : List ℕ → List ℕ → Option (List ℕ)
after_decimal parameter bytes =
    option_and_then (λ rest. after_text (codes "d") (after is_digit rest))
    (option_and_then (after_text (codes "%")) (after_text parameter bytes))

abbrev pub is_motion_end : Option (List ℕ) → Bool
is_motion_end None = false
is_motion_end (Some rest) = starts_with nat_eq rest (codes "H") || starts_with nat_eq rest (codes "f")

-- the bytes start with two parameters in decimal, with a semicolon between them, and with H or f after them
abbrev pub starts_motion : List ℕ → List ℕ → List ℕ → Bool
starts_motion one other bytes =
    is_motion_end (option_and_then (after_decimal other) (option_and_then (after_text (codes ";")) (after_decimal one bytes)))

abbrev pub is_motion : Option (List ℕ) → Bool
is_motion None = false
is_motion (Some rest) = starts_motion (codes "%p1") (codes "%p2") rest || starts_motion (codes "%p2") (codes "%p1") rest

-- a cursor motion starts with the introducer, `%i` or not, and both parameters
abbrev pub is_ansi : List ℕ → Bool
is_ansi cup = is_motion (option_map (λ rest. unwrap_or (after_text (codes "%i") rest) rest) (after_text introducer cup))
