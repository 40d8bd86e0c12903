-- Texts that are sent as they stand and have a control sequence that is not ended.
use Rattle.std.specs.Prelude.{◌≡◌, ◌⊎◌, ℕ, Bool, true, List, []}
use Rattle.ti_names.specs.declared.class.Class.{Class}
use Rattle.ti_names.specs.declared.class.Class.TheVariants as classes
use Rattle.ti_values.specs.Sequences.{HasUnended}
use Rattle.ti_words.specs.Value.{EntryValue}
use Rattle.ti_rules.specs.Lines.{AreAll}
use Rattle.ti_rules.specs.Remarks.{NoEvidence, Remark, on_values}
use Rattle.ti_rules.specs.Splits.{text_finding}
use Rattle.ti_rules.specs.Subjects.{KnownText, known_texts}
use Rattle.ti_rules.specs.Values.{is_ansi_entry}

-- a text
abbrev pub IsSequenceReport : List ℕ → List ℕ → List Remark → Type 0
IsSequenceReport name text remarks =
    (HasUnended text × (remarks ≡ on_values name text (text_finding text) NoEvidence)) ⊎ ((¬ HasUnended text) × (remarks ≡ []))

-- a text of terminfo(5) that is sent as it stands, to a terminal of ECMA-48
abbrev pub IsSequenceIn : Bool → Bool → Class → List ℕ → List ℕ → List Remark → Type 0
IsSequenceIn true true classes.Plain name text remarks = IsSequenceReport name text remarks
IsSequenceIn ansi standard class name text remarks = remarks ≡ []

abbrev pub IsSequenceOf : Bool → KnownText → List Remark → Type 0
IsSequenceOf ansi t = IsSequenceIn ansi t.standard t.class t.name t.text

abbrev pub AreSequenceRemarks : EntryValue → List Remark → Type 0
AreSequenceRemarks v = AreAll (IsSequenceOf (is_ansi_entry v)) (known_texts v)
