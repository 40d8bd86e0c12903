-- A notation with the name of its capability before it, as in a source of terminfo.
use Rattle.std.specs.Prelude.{ℕ, ◌==◌, Bool, true, false, List, Option, Some, None, codes, if◌then◌else◌, is_some, option_and_then, take}
use Rattle.std.specs.List.{position}
use Rattle.ti_base.specs.Letters.{letter}
use Rattle.ti_entry.specs.Finding.{standard_place}
use Rattle.ti_names.specs.AllNames.{Place}
use Rattle.ti_words.specs.declared.Kind.TheVariants as kinds

abbrev pub is_equals : ℕ → Bool
is_equals byte = byte == letter (codes "=")

abbrev pub is_string : Option Place → Bool
is_string (Some (kinds.Text, index)) = true
is_string _ = false

abbrev pub string_name : List ℕ → Option (List ℕ)
string_name name = if is_string (standard_place name) then Some name else None

-- what stands before the first `=`, if it is a short or long name of a string
abbrev pub pasted_name : List ℕ → Option (List ℕ)
pasted_name text = option_and_then (λ count. string_name (take count text)) (position is_equals text)

abbrev pub has_name : List ℕ → Bool
has_name text = is_some (pasted_name text)
