-- How results are written: as the flags of a line request, or plainly.
use Rattle.std.specs.Prelude.{ℕ, Bool, true, false, ◌||◌, List, ◌++◌, Option, Some, None, codes, if◌then◌else◌}
use Rattle.std.specs.Str.{bytes_eq}
use Rattle.ti_names.specs.declared.name_table.NameTable.{NameTable}
use Rattle.ti_names.specs.declared.name_table.NameTable.TheVariants as tables
use Rattle.ti_escape.specs.declared.color.Color.{Color}
use Rattle.ti_escape.specs.declared.color.Color.TheVariants as colors
use Rattle.ti_escape.specs.declared.form.Form.{Form}
use Rattle.ti_escape.specs.declared.form.Form.TheVariants as forms
use Rattle.ti_escape.specs.Forms.{formed}
use Rattle.ti_lint.specs.declared.level.Level.{Level}
use Rattle.ti_lint.specs.declared.level.Level.TheVariants as scopes
use Rattle.ti_lint.specs.declared.lint_options.LintOptions.{LintOptions}
use Rattle.ti_trace.specs.declared.options.TraceRows.{TraceRows}
use Rattle.ti_trace.specs.declared.options.TraceRows.TheVariants as trace_rows
use Rattle.ti_line.specs.declared.destination.Destination.{Destination}
use Rattle.ti_line.specs.declared.destination.Destination.TheVariants as destinations
use Rattle.ti_line.specs.declared.options.Comparison.{Comparison}
use Rattle.ti_line.specs.declared.options.Comparison.TheVariants as comparisons
use Rattle.ti_line.specs.declared.options.Document.TheVariants as documents
use Rattle.ti_line.specs.declared.options.Likeness.{Likeness}
use Rattle.ti_line.specs.declared.options.Likeness.TheVariants as likenesses
use Rattle.ti_line.specs.declared.options.ListOptions.{ListOptions}
use Rattle.ti_line.specs.declared.options.NameForm.{NameForm}
use Rattle.ti_line.specs.declared.options.NameForm.TheVariants as name_forms
use Rattle.ti_line.specs.declared.options.Naming.{Naming}
use Rattle.ti_line.specs.declared.options.Output.{Output}
use Rattle.ti_line.specs.declared.options.Output.TheVariants as outputs
use Rattle.ti_line.specs.declared.options.TraceForm.{TraceForm}
use Rattle.ti_line.specs.declared.options.TraceForm.TheVariants as trace_forms
use Rattle.ti_line.specs.declared.options.Verdicts.{Verdicts}
use Rattle.ti_line.specs.declared.options.Verdicts.TheVariants.{All, Faults}
use Rattle.ti_line.specs.declared.request.Action.{Action}
use Rattle.ti_line.specs.declared.request.Action.TheVariants as asks
use Rattle.ti_line.specs.declared.request.CapabilityAction.{CapabilityAction}
use Rattle.ti_line.specs.declared.request.EntryAction.{EntryAction}
use Rattle.ti_line.specs.declared.request.EntryAction.TheVariants as of_entry

-- results go to a terminal
abbrev pub is_terminal : Destination → Bool
is_terminal destinations.File = false
is_terminal (destinations.Terminal color) = true

-- whether parts of lines stand out if nothing else is asked for: only at a terminal
abbrev pub color_at : Destination → Color
color_at destinations.File = colors.Never
color_at (destinations.Terminal color) = color

-- what the word of `--color` asks for; another word than these asks for nothing
abbrev pub color_by : Destination → List ℕ → Option Color
color_by to word =
    if bytes_eq word (codes "auto") then Some (color_at to)
    else (if bytes_eq word (codes "always") then Some colors.Always
    else (if bytes_eq word (codes "never") then Some colors.Never else None))

abbrev pub color_of : Destination → Option (List ℕ) → Option Color
color_of to None = Some (color_at to)
color_of to (Some word) = color_by to word

-- an output: its bytes as they stand, or in a form with a newline
abbrev pub output_bytes : Output → List ℕ → List ℕ
output_bytes outputs.Raw bytes = bytes
output_bytes (outputs.Line form) bytes = formed form bytes ++ codes "\n"

-- what `--source` asks for: that the input is read as the notation of a capability
abbrev pub input_action : Bool → CapabilityAction → Action
input_action true action = asks.Source action
input_action false action = asks.Capability action

-- what `--hex` and `--escape` ask for of an output
abbrev pub output_of : Bool → Bool → Output
output_of true escape = outputs.Line forms.Hex
output_of false true = outputs.Line forms.Notation
output_of false false = outputs.Raw

-- what `--escape` asks for of the texts of a listing, or of a trace
abbrev pub form_of : Bool → Form
form_of true = forms.Notation
form_of false = forms.Hex

-- what `--all` asks for
abbrev pub level_of : Bool → Level
level_of true = scopes.All
level_of false = scopes.Errors

-- what `--all` and `--untrusted` ask for
abbrev pub lint_options : Bool → Bool → LintOptions
lint_options all untrusted = record { level = level_of all; untrusted = untrusted }

-- what `--expand` asks for
abbrev pub likeness_of : Bool → Likeness
likeness_of true = likenesses.Tokens
likeness_of false = likenesses.Bytes

-- what `--all-names` asks for
abbrev pub name_table_of : Bool → NameTable
name_table_of true = tables.All
name_table_of false = tables.Common

-- how the names of an entry are written: in the notation if `--escape` asks for it, or if results go
-- to a terminal, which would obey their bytes
abbrev pub name_form_of : Bool → Bool → NameForm
name_form_of true terminal = name_forms.Notation
name_form_of false true = name_forms.Notation
name_form_of false false = name_forms.Raw

-- what a listing calls an entry and its capabilities, by the flags `--all-names` and `--escape`, and by
-- whether it goes to a terminal
abbrev pub naming_of : Bool → Bool → Bool → Naming
naming_of all_names escape terminal =
    record { table = name_table_of all_names; form = name_form_of escape terminal }

-- the options of a listing by the two flags
abbrev pub list_options : Bool → Bool → ListOptions
list_options all_names escape =
    record { naming = naming_of all_names escape false; form = form_of escape }

-- what `show` asks for by `--json` and both; a listing at a terminal is one as if both were given
abbrev pub show_action : Bool → Bool → Bool → Bool → EntryAction
show_action true all_names escape terminal = of_entry.Json documents.Listing
show_action false all_names escape terminal =
    of_entry.Show (list_options (all_names || terminal) (escape || terminal))

-- what `--faults` asks for
abbrev pub which_verdicts : Bool → Verdicts
which_verdicts true = Faults
which_verdicts false = All

-- the few lines on faults name all capabilities, and so does a listing at a terminal
abbrev pub names_all : Verdicts → Bool → Bool
names_all Faults terminal = true
names_all All terminal = terminal

-- what `check` asks for by it and the same
abbrev pub check_action : Verdicts → Bool → Bool → Bool → Bool → EntryAction
check_action which true all_names escape terminal = of_entry.Json (documents.Verdicts which)
check_action which false all_names escape terminal =
    of_entry.Check which (naming_of (all_names || names_all which terminal) escape terminal)

-- what `lint` asks for by `--json`
abbrev pub lint_action : Bool → LintOptions → Color → EntryAction
lint_action true options color = of_entry.Json (documents.Findings options)
lint_action false options color = of_entry.Lint options color

-- at a terminal a trace has runs of bytes joined
abbrev pub trace_rows_at : Bool → TraceRows
trace_rows_at true = trace_rows.Joined
trace_rows_at false = trace_rows.Each

-- what `trace` asks for by `--json` and `--escape`, and by whether it goes to a terminal, where it is as if `--escape` were given
abbrev pub trace_form_of : Bool → Bool → Bool → Color → TraceForm
trace_form_of true escape terminal color = trace_forms.Json
trace_form_of false escape terminal color =
    trace_forms.Lines (record { form = form_of (escape || terminal); color = color; rows = trace_rows_at terminal })

-- what `diff` asks for by `--json`, and by whether it goes to a terminal
abbrev pub comparison_of : Bool → Bool → Color → Comparison
comparison_of true terminal color = comparisons.Json
comparison_of false true color = comparisons.Headed color
comparison_of false false color = comparisons.Lines color
