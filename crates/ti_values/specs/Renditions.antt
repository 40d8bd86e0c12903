-- Renditions (the control sequence SGR, ECMA-48, 8.3.117) and shifts (ECMA-35, 7.3 and 14.3).
use Rattle.std.specs.Prelude.{◌==◌, ℕ, ◌+◌, ◌-◌, Bool, if◌then◌else◌, true, false, ◌&&◌, ◌||◌, List, [], ◌∷◌, ◌++◌, Option, Some, None, codes, drop, length, nat_eq, nat_lt, not, take, zero, suc}
use Rattle.std.specs.List.{list_any, prefix_len, starts_with}
use Rattle.std.specs.Str.{bytes_eq}
use Rattle.ti_base.specs.Letters.{letter}
use Rattle.ti_values.specs.Sequences.{after, introducer, is_between, is_parameter, starts_rendition}

-- ---- the parameters of renditions

abbrev pub is_zero : ℕ → Bool
is_zero byte = byte == letter (codes "0")

-- between two numbers stands `;`, or another of the parameter bytes that are no digits
abbrev pub is_separator : ℕ → Bool
is_separator byte = not (is_between 0x30 0x39 byte)

-- zeros in front do not count, so a parameter that is left out is 0
abbrev pub without_zeros : List ℕ → List ℕ
without_zeros = after is_zero

-- parameters with a separator between them, after the front of the first
unfoldable pub split_after : (front : List ℕ) → List ℕ → List (List ℕ)
split_after front [] = without_zeros front ∷ []
split_after front (byte ∷ rest) =
    if is_separator byte then without_zeros front ∷ split_after [] rest else split_after (front ++ byte ∷ []) rest

-- the length of what starts a control sequence, if the bytes start with it: `\E[`, or the byte 9b
abbrev pub introducer_len : List ℕ → ℕ
introducer_len bytes =
    if starts_with nat_eq bytes introducer then 2 else (if starts_with nat_eq bytes (0x9b ∷ []) then 1 else 0)

-- the parameter bytes of the rendition that the bytes start with, after what starts it
abbrev pub rendition_after : ℕ → List ℕ → Option (List ℕ)
rendition_after zero rest = None
rendition_after (suc n) rest = if starts_rendition (after is_parameter rest) then Some (take (prefix_len is_parameter rest) rest) else None

abbrev pub rendition_of : List ℕ → Option (List ℕ)
rendition_of bytes = rendition_after (introducer_len bytes) (drop (introducer_len bytes) bytes)

abbrev pub parameters_in : Option (List ℕ) → List (List ℕ)
parameters_in None = []
parameters_in (Some bytes) = split_after [] bytes

-- those of each rendition in the bytes
unfoldable pub parameters : List ℕ → List (List ℕ)
parameters [] = []
parameters (byte ∷ rest) = parameters_in (rendition_of (byte ∷ rest)) ++ parameters rest

-- ---- shifts

-- a set of characters is chosen, as by `(B` after an `\E`
abbrev pub starts_designation : List ℕ → Bool
starts_designation (set ∷ final ∷ rest) = is_between 0x28 0x2f set && is_between 0x30 0x7e final
starts_designation _ = false

-- the length of the shift that the bytes start with, 0 if they start with none: SO, SI, or an `\E` and two bytes
abbrev pub shift_len : List ℕ → ℕ
shift_len [] = 0
shift_len (byte ∷ rest) =
    if byte == 0x0e || byte == 0x0f then 1 else (if byte == 0x1b && starts_designation rest then 3 else 0)

-- the shift itself
abbrev pub shift_in : ℕ → List ℕ → List (List ℕ)
shift_in zero bytes = []
shift_in (suc n) bytes = take (suc n) bytes ∷ []

-- each shift in the bytes
unfoldable pub shifts : List ℕ → List (List ℕ)
shifts [] = []
shifts (byte ∷ rest) = shift_in (shift_len (byte ∷ rest)) (byte ∷ rest) ++ shifts rest

-- ---- nothing else

-- the length of the rendition or the shift that the bytes start with; 0 if they start with neither
abbrev pub part_len_with : Option (List ℕ) → List ℕ → ℕ
part_len_with None bytes = shift_len bytes
part_len_with (Some parameters) bytes = introducer_len bytes + length parameters + 1

abbrev pub part_len : List ℕ → ℕ
part_len bytes = part_len_with (rendition_of bytes) bytes

-- after the first so many bytes come renditions and shifts alone
unfoldable pub are_parts_after : ℕ → List ℕ → Bool
are_parts_after skip [] = true
are_parts_after (suc skip) (byte ∷ rest) = are_parts_after skip rest
are_parts_after zero (byte ∷ rest) =
    let len = part_len (byte ∷ rest) in nat_lt 0 len && are_parts_after (len - 1) rest

abbrev pub are_parts : List ℕ → Bool
are_parts bytes = are_parts_after 0 bytes

-- ---- what is lacking

abbrev pub has : List (List ℕ) → List ℕ → Bool
has parts part = list_any (λ other. bytes_eq other part) parts

-- some of theirs is not there
abbrev pub lacks : (mine theirs : List (List ℕ)) → Bool
lacks mine theirs = list_any (λ part. not (has mine part)) theirs

-- some of theirs that is new is not there
abbrev pub lacks_new : (old mine theirs : List (List ℕ)) → Bool
lacks_new old mine theirs = list_any (λ part. not (has old part) && not (has mine part)) theirs
