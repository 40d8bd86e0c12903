-- What the program says to people beyond the lines that are fixed: rows show its words.
use Rattle.std.specs.Prelude.{◌≡◌, ℕ, Bool, true, false, List, ◌++◌}
use Rattle.ti_escape.specs.declared.color.Color.TheVariants.{Never}
use Rattle.ti_sink.specs.Pages.{is_page}

-- each byte can be printed, or is a tab or the end of a line
abbrev pub IsPage : List ℕ → Type 0
IsPage lines = is_page Never lines ≡ true

-- a fixed line, and a page after it if advice is wanted
abbrev pub IsAdvised : Bool → List ℕ → List ℕ → Type 0
IsAdvised false line lines = lines ≡ line
IsAdvised true line lines = (said : List ℕ) × IsPage said × (lines ≡ line ++ said)
