-- What is kept of a text that was tried, so that it is tried once for all entries that share it.
use Rattle.std.specs.Prelude.{ℕ, Bool, List, []}
use Rattle.ti_values.specs.declared.range.Range.{Range}
use Rattle.ti_values.specs.declared.range.Range.TheVariants.{Attributes}
use Rattle.ti_values.specs.Ranges.{values}
use Rattle.ti_values.specs.Sent.{AreSent}
use Rattle.ti_rules.specs.Values.{IsNumbersReport}

-- the most texts that are kept of which nothing is told, and with what they send
abbrev pub most_quiet_texts : ℕ
most_quiet_texts = 2048

abbrev pub most_sent_texts : ℕ
most_sent_texts = 256

-- nothing is told of a text over a range, whatever its name is: in each entry of a terminal of ECMA-48, or in each other one
pub record IsQuiet (ansi : Bool) (text : List ℕ) (range : Range) : Type 0 where
  pub silent : (name : List ℕ) → IsNumbersReport ansi name text range []

-- what a text sends for all sets of attributes
abbrev pub AreSentForSets : List ℕ → List (List ℕ) → Type 0
AreSentForSets text sent = AreSent text (values Attributes) sent
