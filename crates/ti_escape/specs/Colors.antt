-- Parts of a line that stand out at a terminal, by the control sequence SGR of ECMA-48: ESC, `[`, the number of a rendition, `m`.
use Rattle.std.specs.Prelude.{ℕ, List, [], ◌∷◌, codes}
use Rattle.ti_escape.specs.declared.color.Color.{Color}
use Rattle.ti_escape.specs.declared.color.Color.TheVariants as colors
use Rattle.ti_escape.specs.declared.color.Style.{Style}
use Rattle.ti_escape.specs.declared.color.Style.TheVariants as styles

abbrev pub rendition : Style → List ℕ
rendition styles.Red = 27 ∷ codes "[31m"
rendition styles.Green = 27 ∷ codes "[32m"
rendition styles.Bold = 27 ∷ codes "[1m"
rendition styles.Faint = 27 ∷ codes "[2m"

-- what comes before a part in a style
abbrev pub opening : Color → Style → List ℕ
opening colors.Never style = []
opening colors.Always style = rendition style

-- what comes after it, without a number: all renditions end
abbrev pub closing : Color → List ℕ
closing colors.Never = []
closing colors.Always = 27 ∷ codes "[m"
