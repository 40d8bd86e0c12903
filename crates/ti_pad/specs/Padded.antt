-- What padding makes of a text.
use Rattle.std.specs.Prelude.{◌+◌, ◌*◌, ◌/◌, ◌≤◌, ◌&&◌, ℕ, Bool, not, List, [], ◌∷◌, codes, flat_map, take, unwrap_or, if◌then◌else◌, ◌==◌, replicate}
use Rattle.std.specs.List.{list_any}
use Rattle.std.specs.Str.Parse.{digits_value}
use Rattle.ti_base.specs.Letters.{letter}
use Rattle.ti_pad.specs.Setting.{Setting}
use Rattle.ti_pad.specs.Marks.{Mark, Piece, literal, marked, pieces}

-- the tenths of a millisecond: of the decimals the first alone counts
abbrev pub tenths : Mark → ℕ
tenths m = 10 * digits_value 10 m.whole + digits_value 10 (take 1 (unwrap_or m.decimals []))

abbrev pub has_flag : ℕ → Mark → Bool
has_flag flag m = list_any (λ b. b == flag) m.flags

-- the affected lines if the mark has a `*`
abbrev pub lines_of : Setting → Mark → ℕ
lines_of s m = if has_flag (letter (codes "*")) m then s.lines else 1

-- under xon only a mark with a `/` is padded
abbrev pub is_passed_over : Setting → Mark → Bool
is_passed_over s m = s.xon && not (has_flag (letter (codes "/")) m)

-- so many pad bytes take the time of the mark: `tenths / 10000` seconds a line, at `rate` bytes a
-- second
abbrev pub TakesTheTime : Setting → Mark → ℕ → Type 0
TakesTheTime s m count = tenths m * lines_of s m * s.rate ≤ 10000 * count

-- the smallest count of pad bytes that takes the time
abbrev pub count_of : Setting → Mark → ℕ
count_of s m = if is_passed_over s m then 0 else (tenths m * lines_of s m * s.rate + 9999) / 10000

-- what a piece becomes
abbrev pub padded_piece : Setting → Piece → List ℕ
padded_piece s (literal byte) = byte ∷ []
padded_piece s (marked m) = replicate (count_of s m) s.pad

-- what a text becomes
abbrev pub padded_text : List ℕ → Setting → List ℕ
padded_text bytes s = flat_map (padded_piece s) (pieces bytes)
