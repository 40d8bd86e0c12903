-- Texts without where they lie in memory.
use Rattle.std.specs.Prelude.{ℕ, Bool, List, ◌==◌}
use Rattle.ti_words.specs.declared.Text.{Text}
use Rattle.ti_words.specs.declared.Text.TheVariants as texts

-- a text's mark, or its bytes
pub data TextValue : Type 0 where
  AbsentText : TextValue
  CancelledText : TextValue
  TextOf : List ℕ → TextValue

-- a text as a caller sees it
abbrev pub text_value : Text → TextValue
text_value texts.Absent = AbsentText
text_value texts.Cancelled = CancelledText
text_value (texts.Value bytes) = TextOf bytes.now

-- the byte after a text in its table
abbrev pub is_nul : ℕ → Bool
is_nul b = b == 0
