-- The names of extended capabilities, and which capability has a name first.
use Rattle.std.specs.Prelude.{◌≡◌, ◌≢◌, ℕ, List, ◌++◌, map, take, slice_get, Option, Some, None}
use Rattle.std.specs.List.{AllByRecursion}
use Rattle.std.specs.Option.{option_or}
use Rattle.ti_words.specs.declared.Kind.{Kind}
use Rattle.ti_words.specs.declared.Kind.TheVariants as kinds
use Rattle.ti_names.specs.AllNames.{Place, place_in}
use Rattle.ti_words.specs.Value.{NamedPart, EntryValue}
use Rattle.ti_names.specs.declared.name_table.NameTable.TheVariants.{All, Long}
use Rattle.ti_entry.specs.declared.finding.Position.{Position}
use Rattle.ti_entry.specs.declared.finding.Position.TheVariants.{Standard, Extended}
use Rattle.ti_words.specs.Spelling.{name_in, part_names}

-- the names of the capabilities of a kind, by their index
abbrev pub names_of : NamedPart → Kind → List (List ℕ)
names_of p kinds.Flag = map name_in p.flags
names_of p kinds.Number = map name_in p.numbers
names_of p kinds.Text = map name_in p.texts

-- no name of a list is this one
abbrev pub Lacks : List (List ℕ) → List ℕ → Type 0
Lacks names name = AllByRecursion (λ n. n ≢ name) names

-- the least index at which a list has the name, or none if no item is the name
abbrev pub IsLeastIndex : List (List ℕ) → List ℕ → Option ℕ → Type 0
IsLeastIndex names name None = Lacks names name
IsLeastIndex names name (Some i) = (slice_get names i ≡ Some name) × Lacks (take i names) name

-- the names before a capability's: flags stand before numbers before texts, and each by its index
abbrev pub names_before : NamedPart → Kind → ℕ → List (List ℕ)
names_before p kinds.Flag i = take i (names_of p kinds.Flag)
names_before p kinds.Number i = names_of p kinds.Flag ++ take i (names_of p kinds.Number)
names_before p kinds.Text i = names_of p kinds.Flag ++ names_of p kinds.Number ++ take i (names_of p kinds.Text)

-- the kind and the index of the first capability with the name, or none if no capability has it
abbrev pub IsFirstNamed : NamedPart → List ℕ → Option (Kind × ℕ) → Type 0
IsFirstNamed p name None = Lacks (part_names p) name
IsFirstNamed p name (Some at) = (slice_get (names_of p at.0) at.1 ≡ Some name) × Lacks (names_before p at.0 at.1) name

-- ---- by any name

-- the place of the standard capability with a name of terminfo(5), short or long
abbrev pub standard_place : List ℕ → Option Place
standard_place name = option_or (place_in All name) (place_in Long name)

-- where an entry has the capability with a name: a standard name comes before the entry's own
abbrev pub IsPosition : EntryValue → List ℕ → Option Position → Type 0
IsPosition v name None = (standard_place name ≡ None) × IsFirstNamed v.extended name None
IsPosition v name (Some (Standard kind i)) = standard_place name ≡ Some (kind, i)
IsPosition v name (Some (Extended kind i)) = (standard_place name ≡ None) × IsFirstNamed v.extended name (Some (kind, i))
