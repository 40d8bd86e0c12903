-- Canonical bytes piece by piece, and how long they are, in numbers that 64 bits hold.
-- Only private functions of the crate cite this.
use Rattle.std.specs.Prelude.{ℕ, ◌+◌, ◌-◌, ◌*◌, ◌^◌, ◌<◌, ◌++◌, List, length, min}
use Rattle.ti_words.specs.declared.Width.{Width}
use Rattle.ti_words.specs.Texts.{TextValue}
use Rattle.ti_words.specs.Value.{PartValue}
use Rattle.ti_words.specs.Widths.{number_size}
use Rattle.ti_words.specs.Spelling.{flags_of, numbers_of, words_of, pad, pad_len}
use Rattle.ti_draft.specs.Canonical.{present_count, strings_of, text_words}

-- the number, or the greatest one of 64 bits
abbrev pub capped_count : ℕ → ℕ
capped_count n = min n (2 ^ 64 - 1)

-- a part after its counts, without the pad
abbrev pub part_length : Width → PartValue → List TextValue → ℕ
part_length w p names =
    length p.flags + length p.numbers * number_size w + length p.texts * 2 + length names * 2 + length (strings_of p names).table

-- the items of a part, with a pad after a count of bytes, and where its texts are put
abbrev pub items_bytes : Width → ℕ → PartValue → List ℕ
items_bytes w count p = flags_of p.flags ++ pad count ++ numbers_of w p.numbers ++ words_of (text_words 0 p.texts)

abbrev pub items_length : Width → ℕ → PartValue → ℕ
items_length w count p = length p.flags + pad_len count + length p.numbers * number_size w + length p.texts * 2

-- words can hold the counts of a part
pub record AreFew (p : PartValue) (names : List TextValue) : Type 0 where
  pub flags : length p.flags < 2 ^ 15
  pub numbers : length p.numbers < 2 ^ 15
  pub texts : length p.texts < 2 ^ 15
  pub items : present_count p.texts + length names < 2 ^ 15
  pub table : length (strings_of p names).table < 2 ^ 15
