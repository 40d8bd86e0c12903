-- The output of a request on one of several files.
use Rattle.std.specs.Prelude.{ℕ, Bool, true, List, Ok}
use Rattle.ti_line.specs.declared.request.EntryAction.{EntryAction}
use Rattle.ti_words.specs.Value.{EntryValue}
use Rattle.ti_tool.specs.Files.{IsOneOfSeveral, before_findings}
use Rattle.ti_tool.specs.Results.{IsDueIn}

-- the output for a file whose contents spell an entry is the output for the entry, with the name
abbrev pub IsDueOfSeveral : EntryAction → List ℕ → Bool → List ℕ → EntryValue → List ℕ → Type 0
IsDueOfSeveral action name passed contents v out =
    (plain : List ℕ)
    × IsDueIn (before_findings true name) action passed contents v (Ok plain)
    × IsOneOfSeveral action name plain out
