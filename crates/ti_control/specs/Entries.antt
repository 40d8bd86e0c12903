-- What else of an entry does harm: its names, the files that it names, and its size.
use Rattle.std.specs.Prelude.{◌≡◌, ◌<◌, ◌≤◌, ◌==◌, ◌*◌, ◌||◌, ◌&&◌, ℕ, Bool, true, false, drop, length, nat_le, nat_lt, nat_eq, List, [], ◌∷◌, codes}
use Rattle.std.specs.List.{starts_with}
use Rattle.ti_base.specs.Letters.{letter}

-- ---- names

abbrev pub is_between : ℕ → ℕ → ℕ → Bool
is_between low high byte = nat_le low byte && nat_le byte high

-- one of 80 to 9F stands at the front
abbrev pub starts_c1 : List ℕ → Bool
starts_c1 [] = false
starts_c1 (byte ∷ rest) = is_between 0x80 0x9f byte

-- a control stands at the front: of C0, DEL, or of C1 in UTF-8
abbrev pub starts_control : List ℕ → Bool
starts_control [] = false
starts_control (byte ∷ rest) = nat_lt byte 0x20 || byte == 0x7f || (byte == 0xc2 && starts_c1 rest)

-- the names without the description, which is what stands after the last `|`, end before it; without a `|` all are aliases
abbrev pub starts_bar : List ℕ → Bool
starts_bar names = starts_with nat_eq names (codes "|")

pub record EndsAliases (names : List ℕ) (end : ℕ) : Type 0 where
  pub within : end ≤ length names
  pub bar : end < length names → starts_bar (drop end names) ≡ true
  pub last : (k : ℕ) → end < k → k < length names → starts_bar (drop k names) ≡ false
  pub none : end ≡ length names → (k : ℕ) → k < length names → starts_bar (drop k names) ≡ false

-- a blank or a `/`, which no alias may have, stands at the front
abbrev pub starts_unfit : List ℕ → Bool
starts_unfit [] = false
starts_unfit (byte ∷ rest) = byte == 0x20 || byte == letter (codes "/")

-- an alias that starts there is empty
abbrev pub starts_empty : List ℕ → Bool
starts_empty [] = true
starts_empty (byte ∷ rest) = byte == letter (codes "|")

-- a `|` with an empty alias after it stands at the front
abbrev pub starts_empty_after : List ℕ → Bool
starts_empty_after [] = false
starts_empty_after (byte ∷ rest) = byte == letter (codes "|") && starts_empty rest

-- ---- files: programs send those of `if` and `rf` to the terminal

-- where terminfo(5) has them
abbrev pub tabset : List ℕ
tabset = codes "/usr/share/tabset/"

abbrev pub starts_parent : List ℕ → Bool
starts_parent path = starts_with nat_eq path (codes "..")

-- ---- size

-- more characters than any screen has
abbrev pub is_vast : ℕ → ℕ → Bool
is_vast lines columns = nat_lt 1000000 (lines * columns)

-- ---- terminals of ECMA-48: one of these texts has a `\E[`

unfoldable pub ecma_capabilities : List (List ℕ)
ecma_capabilities = codes "cup" ∷ codes "home" ∷ codes "clear" ∷ codes "el" ∷ codes "ed" ∷ codes "sgr0" ∷ []

abbrev pub starts_introducer : List ℕ → Bool
starts_introducer text = starts_with nat_eq text (0x1b ∷ codes "[")
