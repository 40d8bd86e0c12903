-- What an entry and its capabilities are called in the lines on an entry.
use Rattle.std.specs.Prelude.{ℕ, List, ◌++◌, codes, decimal, unwrap_or}
use Rattle.ti_words.specs.declared.Kind.{Kind}
use Rattle.ti_words.specs.Items.{ExtendedSubject, StandardSubject, SubjectValue}
use Rattle.ti_names.specs.declared.name_table.NameTable.{NameTable}
use Rattle.ti_names.specs.AllNames.{name_in}
use Rattle.ti_escape.specs.Notation.{label_notation, notation}
use Rattle.ti_json.specs.Rows.{kind_word}
use Rattle.ti_line.specs.declared.options.NameForm.{NameForm}
use Rattle.ti_line.specs.declared.options.NameForm.TheVariants as forms
use Rattle.ti_line.specs.declared.options.Naming.{Naming}

-- the word for the kind, with a `+` if the entry names the capability itself
abbrev pub subject_word : SubjectValue → List ℕ
subject_word (StandardSubject kind index) = kind_word kind ++ codes " "
subject_word (ExtendedSubject kind name) = kind_word kind ++ codes "+ "

-- a standard capability is called by its name, or by `#` and its index if the table of names has none
abbrev pub label_of : NameTable → Kind → ℕ → List ℕ
label_of table kind index = unwrap_or (name_in table kind index) (codes "#" ++ decimal index)

-- an extended one by its name as it stands in the entry, or in the notation without a space
abbrev pub extended_label : NameForm → List ℕ → List ℕ
extended_label forms.Raw name = name
extended_label forms.Notation name = label_notation name

abbrev pub subject_label : Naming → SubjectValue → List ℕ
subject_label naming (StandardSubject kind index) = label_of naming.table kind index
subject_label naming (ExtendedSubject kind name) = extended_label naming.form name

-- the names of the entry: as they stand in it, or in the notation
abbrev pub names_in_form : NameForm → List ℕ → List ℕ
names_in_form forms.Raw names = names
names_in_form forms.Notation names = notation names
