-- What a format is: the number that an entry of it starts with, how wide its numbers are, and what it is called.
use Rattle.std.specs.Prelude.{ℕ, List, [], ◌∷◌, ◌==◌, Option, codes}
use Rattle.std.specs.List.{find}
use Rattle.ti_base.specs.Limits.{greatest_word, greatest_wide_word}
use Rattle.ti_words.specs.declared.Width.{Width}
use Rattle.ti_words.specs.declared.Width.TheVariants.{Legacy, Wide}

-- each format
abbrev pub widths : List Width
widths = Legacy ∷ Wide ∷ []

-- the magic number of a format: octal 0432 and 01036
abbrev pub magic_number : Width → ℕ
magic_number Legacy = 282
magic_number Wide = 542

-- the bytes of a number
abbrev pub number_size : Width → ℕ
number_size Legacy = 2
number_size Wide = 4

-- the greatest number of a format
abbrev pub greatest_number : Width → ℕ
greatest_number Legacy = greatest_word
greatest_number Wide = greatest_wide_word

-- the word for a format
abbrev pub format_name : Width → List ℕ
format_name Legacy = codes "legacy"
format_name Wide = codes "wide"

-- the format with a magic number, if there is one
abbrev pub width_of_magic : ℕ → Option Width
width_of_magic magic = find (λ width. magic_number width == magic) widths
