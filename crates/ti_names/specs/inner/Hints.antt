-- The rows of all capabilities, and the one row that can have a name.
use Rattle.std.specs.Prelude.{◌≡◌, ℕ, ◌+◌, ◌-◌, List, length, nat_lt, if◌then◌else◌}
use Rattle.ti_words.specs.declared.Kind.TheVariants as kinds
use Rattle.ti_names.specs.declared.name_table.NameTable.{NameTable}
use Rattle.ti_names.specs.AllNames.{IsNamedIn, Place}
use Rattle.ti_names.specs.NameLists.{all_flags, all_numbers}

-- the capability of a row: flags stand before numbers before texts
abbrev pub place_of_row : ℕ → Place
place_of_row row =
    if nat_lt row (length all_flags) then (kinds.Flag, row)
    else if nat_lt row (length all_flags + length all_numbers) then (kinds.Number, row - length all_flags)
    else (kinds.Text, row - (length all_flags + length all_numbers))

-- no capability but that at the place has the name in any table
abbrev pub IsOnlyPlace : List ℕ → Place → Type 0
IsOnlyPlace name place = (table : NameTable) (at : Place) → IsNamedIn table at.0 at.1 name → place ≡ at

-- the same of the capability of a row
abbrev pub IsRowOf : List ℕ → ℕ → Type 0
IsRowOf name row = IsOnlyPlace name (place_of_row row)
