-- Names and words by the numbers that C knows them by.
use Rattle.std.specs.Prelude.{ℕ, List, Option, Some, None, nat_eq, if◌then◌else◌}
use Rattle.ti_words.specs.declared.Kind.{Kind}
use Rattle.ti_words.specs.declared.Kind.TheVariants.{Flag, Number, Text}
use Rattle.ti_names.specs.declared.name_table.NameTable.TheVariants.{All}
use Rattle.ti_names.specs.AllNames.{Place, name_in, place_in}

-- the kind that a number means
abbrev pub kind_at : ℕ → Option Kind
kind_at number =
    if nat_eq number 0 then Some Flag
    else (if nat_eq number 1 then Some Number else (if nat_eq number 2 then Some Text else None))

-- the name at an index of a kind among all names, none if there is no such kind
abbrev pub name_under : Option Kind → ℕ → Option (List ℕ)
name_under None index = None
name_under (Some kind) index = name_in All kind index

-- the kind and the index of the capability with a name, among all names
abbrev pub place_for : List ℕ → Option Place
place_for name = place_in All name
