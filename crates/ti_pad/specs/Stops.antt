-- What a writer took if a padded text was not written to its end.
use Rattle.std.specs.Prelude.{◌≡◌, ◌<◌, ℕ, List, Option, length, take}
use Rattle.std.specs.Io.KnownBytes.{Appends, Keeps}
use Rattle.ti_pad.specs.declared.writing.PadStop.{PadStop}
use Rattle.ti_pad.specs.declared.writing.PadStop.TheVariants.{TooMuch, Failed}

-- the writer took the first `gone` bytes of the text
abbrev pub AppendsFirst : Option (List ℕ) → Option (List ℕ) → List ℕ → ℕ → Type 0
AppendsFirst before after text gone = Appends before after (take gone text)

-- too long a text is told with its length, and nothing of it is written; else a part is taken
abbrev pub StopsAt : Option (List ℕ) → Option (List ℕ) → List ℕ → PadStop → Type 0
StopsAt before after text (TooMuch need) = (need ≡ length text) × Keeps before after
StopsAt before after text (Failed gone) = (gone < length text) × AppendsFirst before after text gone
