-- The names that a draft keeps as texts.
-- Only private functions of the crate cite this.
use Rattle.std.specs.Prelude.{ℕ, List, []}
use Rattle.ti_words.specs.declared.Text.{Text}
use Rattle.ti_words.specs.declared.Text.TheVariants as texts

-- the bytes of a name, which is a text that is there
abbrev pub name_of : Text → List ℕ
name_of (texts.Value name) = name.now
name_of texts.Absent = []
name_of texts.Cancelled = []
