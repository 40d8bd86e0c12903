-- The limits of what is tried, so that no entry costs more than a large sound one.
use Rattle.std.specs.Prelude.{ℕ}

-- lines, columns and colors of a screen
abbrev pub most_lines : ℕ
most_lines = 200

abbrev pub most_columns : ℕ
most_columns = 264

abbrev pub most_colors : ℕ
most_colors = 256

-- bytes of a text, and bytes that it may write
abbrev pub most_bytes : ℕ
most_bytes = 1024

abbrev pub most_written_bytes : ℕ
most_written_bytes = 256
