-- The lines of rows, as `show`, `check` and `diff` write them.
use Rattle.std.specs.List.{flat_map}
use Rattle.std.specs.Prelude.{ℕ, List, [], ◌++◌, codes, decimal, if◌then◌else◌}
use Rattle.std.specs.Fmt.{signed_decimal}
use Rattle.ti_cap.specs.FaultNames.{cap_fault_word}
use Rattle.ti_escape.specs.Forms.{shown}
use Rattle.ti_words.specs.Value.{EntryValue}
use Rattle.ti_words.specs.Widths.{format_name}
use Rattle.ti_json.specs.Rows.{ContentValue, HasFault, HasFormat, HasLimits, HasNames, HasNumber, HasText, InState, IsSet, OfCapability, OfFormat, OfNames, RowValue, TopicValue, entry_rows, is_absent, state_word}
use Rattle.ti_line.specs.declared.options.ListOptions.{ListOptions}
use Rattle.ti_line.specs.declared.options.Naming.{Naming}
use Rattle.ti_listing.specs.Labels.{names_in_form, subject_label, subject_word}

-- what a row is about
abbrev pub topic_label : Naming → TopicValue → List ℕ
topic_label naming OfFormat = codes "format:"
topic_label naming OfNames = codes "names:"
topic_label naming (OfCapability subject) = subject_word subject ++ subject_label naming subject

-- what it says: of a flag that is set nothing; a text is shown in the requested form, `-` in place of no bytes
abbrev pub content_words : ListOptions → ContentValue → List ℕ
content_words options (InState state) = codes " " ++ state_word state
content_words options IsSet = []
content_words options (HasNumber n) = codes " " ++ signed_decimal n
content_words options (HasFormat width) = codes " " ++ format_name width
content_words options (HasNames names) = codes " " ++ names_in_form options.naming.form names
content_words options (HasText text) = codes " " ++ shown options.form text
content_words options (HasLimits depth bound) = codes " ok depth " ++ decimal depth ++ codes " bound " ++ decimal bound
content_words options (HasFault refused) =
    codes " fault " ++ cap_fault_word refused.fault ++ codes " at " ++ decimal refused.place

-- a line after a sign; what is absent has none
abbrev pub row_line : ListOptions → List ℕ → RowValue → List ℕ
row_line options sign row =
    if is_absent row.1 then []
    else sign ++ topic_label options.naming row.0 ++ content_words options row.1 ++ codes "\n"

abbrev pub row_lines : ListOptions → List RowValue → List ℕ
row_lines options rows = flat_map (row_line options []) rows

abbrev pub entry_lines : ListOptions → EntryValue → List ℕ
entry_lines options v = row_lines options (entry_rows v)
