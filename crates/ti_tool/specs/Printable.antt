-- Which results of requests are pages, whatever an entry that a stranger wrote holds.
use Rattle.std.specs.Prelude.{◌≡◌, ℕ, Bool, List, Ok}
use Rattle.ti_escape.specs.declared.form.Form.TheVariants as forms
use Rattle.ti_expand.specs.declared.values.Value.{Value}
use Rattle.ti_line.specs.declared.options.NameForm.TheVariants as name_forms
use Rattle.ti_line.specs.declared.options.Output.TheVariants as outputs
use Rattle.ti_line.specs.declared.request.EntryAction.{EntryAction}
use Rattle.ti_line.specs.declared.request.EntryAction.TheVariants as of_entry
use Rattle.ti_tool.specs.Files.{IsDueOfFile}
use Rattle.ti_tool.specs.Results.{IsCappedAs}
use Rattle.ti_tool.specs.Voice.{IsPage}

-- names and strings are in the notation, or the result is a document of JSON
abbrev pub IsEscaped : EntryAction → Type 0
IsEscaped (of_entry.Show options) = (options.form ≡ forms.Notation) × (options.naming.form ≡ name_forms.Notation)
IsEscaped (of_entry.Json document) = Unit {0}
IsEscaped (of_entry.Check which naming) = naming.form ≡ name_forms.Notation
IsEscaped (of_entry.Expand e) = e.output ≡ outputs.Line forms.Notation
IsEscaped (of_entry.Get g) = g.output ≡ outputs.Line forms.Notation
IsEscaped action = ⊥

-- of a file alone, as of standard input, and of one of several
abbrev pub EntriesArePages : Type 0
EntriesArePages = (several : Bool) (action : EntryAction) (name : List ℕ) (passed : Bool) (contents out : List ℕ)
    → IsEscaped action → IsDueOfFile several action name passed contents out → IsPage out

abbrev pub CapabilitiesArePages : Type 0
CapabilitiesArePages = (parameters : List Value) (input out : List ℕ)
    → IsCappedAs parameters (outputs.Line forms.Notation) input (Ok out) → IsPage out
