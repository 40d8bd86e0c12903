-- What `check` shows of the texts of an entry: a row on each, or on those with a fault, in a line or in an object of JSON, and
-- whether all of these are capabilities.
use Rattle.std.specs.Prelude.{◌≡◌, ◌⊎◌, ◌&&◌, ℕ, Bool, true, false, not, List, [], ◌∷◌, ◌++◌, Option, Some, None, filter}
use Rattle.std.specs.List.{list_all}
use Rattle.ti_words.specs.declared.Kind.TheVariants as kinds
use Rattle.ti_words.specs.Items.{Listed, StandardSubject, SubjectValue, items, text_in}
use Rattle.ti_words.specs.Value.{EntryValue}
use Rattle.ti_names.specs.declared.class.Class.{Class}
use Rattle.ti_names.specs.declared.class.Class.TheVariants.{Input}
use Rattle.ti_names.specs.NameLists.{class_at}
use Rattle.ti_cap.specs.declared.language.CapRefused.{CapRefused}
use Rattle.ti_cap.specs.Capability.{HasDepth, HasBound}
use Rattle.ti_cap.specs.Refusal.{IsFaultless, IsRefusal}
use Rattle.ti_escape.specs.declared.form.Form.TheVariants as forms
use Rattle.ti_json.specs.Rows.{ContentValue, HasFault, HasLimits, OfCapability, RowValue}
use Rattle.ti_line.specs.declared.options.Naming.{Naming}
use Rattle.ti_line.specs.declared.options.Verdicts.{Verdicts}
use Rattle.ti_line.specs.declared.options.Verdicts.TheVariants.{All, Faults}
use Rattle.ti_listing.specs.Listing.{row_lines}

-- ---- one text

-- a text without a fault has a depth, and a bound if texts among the parameters have no bytes
abbrev pub IsSoundText : List ℕ → ContentValue → Type 0
IsSoundText text content =
    (depth : ℕ) × (bound : ℕ) × IsFaultless text × HasDepth text depth × HasBound text 0 bound
    × (content ≡ HasLimits depth bound)

abbrev pub IsFaultyText : List ℕ → ContentValue → Type 0
IsFaultyText text content = (refused : CapRefused) × IsRefusal text refused × (content ≡ HasFault refused)

abbrev pub IsJudged : List ℕ → ContentValue → Type 0
IsJudged text content = IsSoundText text content ⊎ IsFaultyText text content

-- the row on a capability, if it is a text that is there
abbrev pub HasRows : SubjectValue → Option (List ℕ) → List RowValue → Type 0
HasRows subject None rows = rows ≡ []
HasRows subject (Some text) rows =
    (content : ContentValue) × IsJudged text content × (rows ≡ (OfCapability subject, content) ∷ [])

-- ---- all texts

abbrev pub AreRows : List Listed → List RowValue → Type 0
AreRows [] rows = rows ≡ []
AreRows (listed ∷ rest) rows =
    (first : List RowValue) × (more : List RowValue)
    × HasRows listed.0 (text_in listed.1) first × AreRows rest more × (rows ≡ first ++ more)

abbrev pub is_sound : ContentValue → Bool
is_sound (HasFault refused) = false
is_sound content = true

-- whether none has a fault
abbrev pub are_sound : List RowValue → Bool
are_sound rows = list_all (λ row. is_sound row.1) rows

-- ---- those that are written

abbrev pub is_input : Option Class → Bool
is_input (Some Input) = true
is_input class = false

-- a text is a pattern of input, `u6` or `u8`, and no output string (terminfo(5))
abbrev pub is_pattern : SubjectValue → Bool
is_pattern (StandardSubject kinds.Text index) = is_input (class_at index)
is_pattern subject = false

-- each row is written, or only that on the fault of an output string
abbrev pub is_written : Verdicts → RowValue → Bool
is_written All row = true
is_written Faults (OfCapability subject, content) = not (is_sound content) && not (is_pattern subject)
is_written Faults row = false

abbrev pub written : Verdicts → List RowValue → List RowValue
written which rows = filter (is_written which) rows

-- the lines
abbrev pub AreVerdicts : Verdicts → Naming → EntryValue → List ℕ → Bool → Type 0
AreVerdicts which naming v out passed =
    (rows : List RowValue) × AreRows (items v) rows
    × (out ≡ row_lines (record { naming = naming; form = forms.Notation }) (written which rows))
    × (passed ≡ are_sound (written which rows))

-- whether none of those that are written has a fault
abbrev pub IsVerdict : Verdicts → EntryValue → Bool → Type 0
IsVerdict which v passed = (rows : List RowValue) × AreRows (items v) rows × (passed ≡ are_sound (written which rows))
