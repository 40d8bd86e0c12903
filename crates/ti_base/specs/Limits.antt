-- The limits of the whole, each a number that clauses and definitions cite by its name.
use Rattle.std.specs.Prelude.{ℕ}

-- bytes of an entry, of either format
abbrev pub most_entry_bytes : ℕ
most_entry_bytes = 32768

-- the greatest number of the legacy format, as of its header words and offsets
abbrev pub greatest_word : ℕ
greatest_word = 32767

-- the greatest number of the format with numbers of 32 bits
abbrev pub greatest_wide_word : ℕ
greatest_wide_word = 2147483647

-- bytes of a capability
abbrev pub most_capability_bytes : ℕ
most_capability_bytes = 32767

-- conditionals that are open at once
abbrev pub most_open : ℕ
most_open = 32

-- values on the stack
abbrev pub most_values : ℕ
most_values = 32

-- the width of a format, and its precision
abbrev pub greatest_width : ℕ
greatest_width = 255

-- the number of a `%{nn}`
abbrev pub greatest_constant : ℕ
greatest_constant = 2147483647

-- bytes of a text among the parameters
abbrev pub most_text_bytes : ℕ
most_text_bytes = 32767

-- the rate of a line, in bytes per second
abbrev pub greatest_rate : ℕ
greatest_rate = 1000000

-- affected lines
abbrev pub most_lines : ℕ
most_lines = 65535

-- bytes of a padded text
abbrev pub most_padded_bytes : ℕ
most_padded_bytes = 67108864

-- interrupted reads or writes that one call tries again
abbrev pub most_interruptions : ℕ
most_interruptions = 1000
