-- What is due for a file that was named, from its contents, and the line on its fault.
use Rattle.std.specs.Prelude.{◌≡◌, ◌==◌, ℕ, Bool, true, false, List, [], ◌∷◌, ◌++◌, Ok, codes, if◌then◌else◌}
use Rattle.ti_base.specs.Letters.{letter}
use Rattle.ti_escape.specs.Notation.{notation}
use Rattle.ti_line.specs.CommandLine.{is_minus}
use Rattle.ti_line.specs.declared.options.NameForm.{NameForm}
use Rattle.ti_line.specs.declared.options.NameForm.TheVariants as name_forms
use Rattle.ti_line.specs.declared.request.EntryAction.{EntryAction}
use Rattle.ti_line.specs.declared.request.EntryAction.TheVariants as of_entry
use Rattle.ti_tool.specs.Documents.{IsInObject}
use Rattle.ti_tool.specs.Results.{IsDueOf}

-- the name of a file in a result: as it stands, or in the notation; that of standard input stays `-`
abbrev pub shown_file : NameForm → List ℕ → List ℕ
shown_file name_forms.Raw name = name
shown_file name_forms.Notation name = if is_minus name then codes "-" else notation name

-- lines with something before each of them, from the start of a line or from within one
abbrev pub each_line : List ℕ → Bool → List ℕ → List ℕ
each_line before at_start [] = []
each_line before true (b ∷ bs) = before ++ b ∷ each_line before (b == letter (codes "\n")) bs
each_line before false (b ∷ bs) = b ∷ each_line before (b == letter (codes "\n")) bs

-- the result of one of several files: a listing after a line with the name, each verdict after the name
abbrev pub one_of_several : EntryAction → List ℕ → List ℕ → List ℕ
one_of_several (of_entry.Show options) name out =
    codes "file: " ++ shown_file options.naming.form name ++ codes "\n" ++ out
one_of_several (of_entry.Check which naming) name out =
    each_line (shown_file naming.form name ++ codes ": ") true out
one_of_several _ name out = out

-- a document is in an object with the name
abbrev pub IsOneOfSeveral : EntryAction → List ℕ → List ℕ → List ℕ → Type 0
IsOneOfSeveral (of_entry.Json document) name plain out = IsInObject document name plain out
IsOneOfSeveral action name plain out = out ≡ one_of_several action name plain

-- the result of a file; of one alone it is as of an entry on standard input
abbrev pub IsResultOfFile : Bool → EntryAction → List ℕ → List ℕ → List ℕ → Type 0
IsResultOfFile true action name plain out = IsOneOfSeveral action name plain out
IsResultOfFile false action name plain out = out ≡ plain

-- what a file is called before a line on it
abbrev pub file_called : List ℕ → List ℕ
file_called name = if is_minus name then codes "standard input" else notation name

-- one of several files is called so before the first line of each finding
abbrev pub before_findings : Bool → List ℕ → List ℕ
before_findings several name = if several then file_called name ++ codes ": " else []

-- what is due for the contents of a file is what is due for an entry of these bytes, with the name
abbrev pub IsDueOfFile : Bool → EntryAction → List ℕ → Bool → List ℕ → List ℕ → Type 0
IsDueOfFile several action name passed contents out =
    (plain : List ℕ)
    × IsDueOf (before_findings several name) action passed contents (Ok plain)
    × IsResultOfFile several action name plain out

-- the line on the fault of a file
abbrev pub file_line : List ℕ → List ℕ → List ℕ
file_line name line = file_called name ++ codes ": " ++ line
