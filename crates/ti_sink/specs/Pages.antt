-- What may stand in a page.
use Rattle.std.specs.List.{flat_map, list_all}
use Rattle.std.specs.Prelude.{◌≡◌, ◌==◌, ◌&&◌, ◌||◌, ℕ, Bool, true, false, List, [], ◌∷◌, ◌++◌, codes, fold, nat_le, if◌then◌else◌}
use Rattle.ti_base.specs.Letters.{letter}
use Rattle.ti_escape.specs.Laws.{is_printable}
use Rattle.ti_escape.specs.Notation.{octal}
use Rattle.ti_escape.specs.declared.color.Color.{Color}
use Rattle.ti_escape.specs.declared.color.Color.TheVariants.{Always, Never}

-- a page of a color, what was written to it, and whether memory was refused
pub record Paged : Type 0 where
  pub color : Color
  pub bytes : List ℕ
  pub is_refused : Bool

-- a refusal of memory is not forgotten, and the color stays
pub record Keeps (old new : Paged) : Type 0 where
  pub color : new.color ≡ old.color
  pub is_refused : old.is_refused ≡ true → new.is_refused ≡ true

-- unless memory was refused, these come after what was there
pub record Writes (these : List ℕ) (old new : Paged) : Type 0 where
  pub kept : new.is_refused ≡ false → old.is_refused ≡ false
  pub added : new.is_refused ≡ false → new.bytes ≡ old.bytes ++ these

-- a character that can be printed, a tab or the end of a line
abbrev pub is_plain : ℕ → Bool
is_plain char = is_printable char || (char == letter (codes "\t") || char == letter (codes "\n"))

-- a byte as a page has it, and bytes
abbrev pub in_page : ℕ → List ℕ
in_page byte = if is_plain byte then byte ∷ [] else octal byte

abbrev pub as_page : List ℕ → List ℕ
as_page bytes = flat_map in_page bytes

-- ---- color

-- the place between two characters, after the ESC of a control sequence, among its digits, and after a byte that may not stand there
pub data Place : Type 0 where
  Between : Place
  AfterEscape : Place
  AmongDigits : Place
  Nowhere : Place

abbrev pub is_digit : ℕ → Bool
is_digit byte = nat_le (letter (codes "0")) byte && nat_le byte (letter (codes "9"))

-- between two characters is the place of a plain one, or of a control sequence SGR: ESC, `[`, digits, and `m`
abbrev pub next_place : Place → ℕ → Place
next_place Between byte = if is_plain byte then Between else (if byte == 27 then AfterEscape else Nowhere)
next_place AfterEscape byte = if byte == letter (codes "[") then AmongDigits else Nowhere
next_place AmongDigits byte =
    if is_digit byte then AmongDigits else (if byte == letter (codes "m") then Between else Nowhere)
next_place Nowhere byte = Nowhere

abbrev pub is_between : Place → Bool
is_between Between = true
is_between _ = false

-- each byte is a plain character, or with color one of a whole control sequence
abbrev pub is_page : Color → List ℕ → Bool
is_page Never bytes = list_all is_plain bytes
is_page Always bytes = is_between (fold next_place Between bytes)

-- what was a page in a color still is
abbrev pub StaysPage : List ℕ → List ℕ → Type 0
StaysPage old new = (color : Color) → is_page color old ≡ true → is_page color new ≡ true
