-- Which texts are tried, and over what.
use Rattle.std.specs.Prelude.{ℕ, ◌+◌, List, [], ◌∷◌, codes, ℤ, pos, negsuc, min}
use Rattle.ti_values.specs.Limits.{most_colors, most_columns, most_lines}
use Rattle.ti_values.specs.declared.range.Range.{Range}
use Rattle.ti_values.specs.declared.range.Range.TheVariants.{Numbers, Places, Regions, Attributes}

-- a number of an entry as far as it is tried, and none below 0
abbrev pub limited : ℕ → ℤ → ℕ
limited most (pos n) = min n most
limited most (negsuc n) = 0

-- the texts that are tried, each with its range, for so many lines, columns and colors: colors from 0; lines and columns from 0;
-- how far or how often, from 1; and attributes
abbrev pub texts_within : ℕ → ℕ → ℕ → List (List ℕ × Range)
texts_within lines columns colors =
    (codes "setaf", Numbers 0 colors) ∷ (codes "setab", Numbers 0 colors) ∷ (codes "setf", Numbers 0 colors) ∷
    (codes "setb", Numbers 0 colors) ∷ (codes "cup", Places lines columns) ∷ (codes "csr", Regions lines) ∷
    (codes "hpa", Numbers 0 columns) ∷ (codes "vpa", Numbers 0 lines) ∷ (codes "cub", Numbers 1 (columns + 1)) ∷
    (codes "cuf", Numbers 1 (columns + 1)) ∷ (codes "dch", Numbers 1 (columns + 1)) ∷ (codes "ech", Numbers 1 (columns + 1)) ∷
    (codes "ich", Numbers 1 (columns + 1)) ∷ (codes "cud", Numbers 1 (lines + 1)) ∷ (codes "cuu", Numbers 1 (lines + 1)) ∷
    (codes "dl", Numbers 1 (lines + 1)) ∷ (codes "il", Numbers 1 (lines + 1)) ∷ (codes "indn", Numbers 1 (lines + 1)) ∷
    (codes "rin", Numbers 1 (lines + 1)) ∷ (codes "sgr", Attributes) ∷ []

-- the same for the numbers of an entry
unfoldable pub tried_texts : ℤ → ℤ → ℤ → List (List ℕ × Range)
tried_texts lines columns colors =
    texts_within (limited most_lines lines) (limited most_columns columns) (limited most_colors colors)
