-- What holds of all words.
use Rattle.std.specs.Prelude.{◌≡◌, ◌⊎◌, List, []}
use Rattle.clap.specs.Words.{Row, Text}
use Rattle.ti_line.specs.CommandLine.{AreRead, AsksForHelp, Command, IsComplete, IsRefused, Reads, faults}

-- words on which `clap` finds no fault are read
abbrev pub MakesLine : Type 0
MakesLine = (words : List Text) → faults words ≡ [] → AreRead words

-- words are read as one subcommand with one list of values
abbrev pub ReadsOneLine : Type 0
ReadsOneLine = (words : List Text) (command other : Command) (rows others : List Row)
    → Reads words command rows → Reads words other others → (command ≡ other) × (rows ≡ others)

-- words that are read neither ask for help nor are refused
abbrev pub StandApart : Type 0
StandApart = (words : List Text) → AreRead words → (AsksForHelp words ⊎ IsRefused words) → ⊥

-- words are read, ask for help or are refused
abbrev pub IsOneOfThree : Type 0
IsOneOfThree = (words : List Text) → AreRead words ⊎ (AsksForHelp words ⊎ IsRefused words)

-- what a subcommand wants is there if it is read: a name, and numbers within their ranges
abbrev pub ReadsWhatIsWanted : Type 0
ReadsWhatIsWanted =
    (words : List Text) (command : Command) (rows : List Row) → Reads words command rows → IsComplete command rows
