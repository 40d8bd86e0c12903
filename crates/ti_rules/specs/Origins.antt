-- Texts that send other numbers for the first line and column than `cup` does.
use Rattle.std.specs.Prelude.{◌≡◌, ◌⊎◌, ℕ, Bool, List, [], codes, Option, Some, None, if◌then◌else◌}
use Rattle.ti_cap.specs.declared.language.CapRefused.{CapRefused}
use Rattle.ti_cap.specs.Refusal.{IsFaultless, IsRefusal}
use Rattle.ti_values.specs.Axes.{numbers_differ}
use Rattle.ti_values.specs.Ranges.{parameters_of}
use Rattle.ti_values.specs.Sent.{IsShort, Sends}
use Rattle.ti_values.specs.declared.axes.Axes.{Axes}
use Rattle.ti_values.specs.declared.axes.Axes.TheVariants.{Both, Line, Column, Lines}
use Rattle.ti_values.specs.declared.tried.Tried.TheVariants.{Number}
use Rattle.ti_words.specs.Texts.{TextValue, TextOf}
use Rattle.ti_words.specs.Value.{EntryValue}
use Rattle.ti_rules.specs.declared.finding.Finding.TheVariants.{OriginDiffers}
use Rattle.ti_rules.specs.Lines.{InTurn}
use Rattle.ti_rules.specs.Remarks.{NoEvidence, OfTwo, Remark, unmarked}
use Rattle.ti_rules.specs.Values.{text_named}

-- a text with its name, and what it sends for 0
pub record Motion : Type 0 where
  pub name : List ℕ
  pub text : List ℕ
  pub sent : List ℕ

-- what a text sends if each parameter is 0; none if it is no capability, or is not tried
abbrev pub IsSentIfShort : List ℕ → Option (List ℕ) → Type 0
IsSentIfShort text None = ¬ IsShort text
IsSentIfShort text (Some sent) = IsShort text × Sends text (parameters_of (Number 0)) sent

abbrev pub IsSentAtOrigin : List ℕ → Option (List ℕ) → Type 0
IsSentAtOrigin text sent =
    ((refused : CapRefused) × IsRefusal text refused × (sent ≡ None)) ⊎ (IsFaultless text × IsSentIfShort text sent)

-- both texts, if their numbers differ
abbrev pub origin_if : Bool → Motion → List ℕ → List ℕ → List Remark
origin_if differs cup name text =
    if differs then unmarked (OfTwo cup.name cup.text name text) OriginDiffers NoEvidence else []

abbrev pub origin_remarks : Motion → List ℕ → List ℕ → Axes → Option (List ℕ) → List Remark
origin_remarks cup name text axes None = []
origin_remarks cup name text axes (Some sent) = origin_if (numbers_differ axes cup.sent sent) cup name text

-- `cup` and a text with a name, if it is there
abbrev pub IsOriginOf : Motion → List ℕ → Axes → TextValue → List Remark → Type 0
IsOriginOf cup name axes (TextOf text) remarks =
    (sent : Option (List ℕ)) × IsSentAtOrigin text sent × (remarks ≡ origin_remarks cup name text axes sent)
IsOriginOf cup name axes text remarks = remarks ≡ []

abbrev pub IsOriginReport : EntryValue → Motion → List ℕ × Axes → List Remark → Type 0
IsOriginReport v cup (name, axes) = IsOriginOf cup name axes (text_named v name)

-- `cup` and each text that sends one of its numbers
abbrev pub AreOriginsBeside : EntryValue → Motion → List Remark → Type 0
AreOriginsBeside v cup =
    InTurn (IsOriginReport v cup (codes "home", Both))
    (InTurn (IsOriginReport v cup (codes "vpa", Line))
    (InTurn (IsOriginReport v cup (codes "hpa", Column)) (IsOriginReport v cup (codes "csr", Lines))))

abbrev pub AreOriginsOf : EntryValue → List ℕ → Option (List ℕ) → List Remark → Type 0
AreOriginsOf v text None remarks = remarks ≡ []
AreOriginsOf v text (Some sent) remarks = AreOriginsBeside v (record { name = codes "cup"; text = text; sent = sent }) remarks

abbrev pub AreOriginsIn : EntryValue → TextValue → List Remark → Type 0
AreOriginsIn v (TextOf text) remarks = (sent : Option (List ℕ)) × IsSentAtOrigin text sent × AreOriginsOf v text sent remarks
AreOriginsIn v text remarks = remarks ≡ []

abbrev pub AreOriginRemarks : EntryValue → List Remark → Type 0
AreOriginRemarks v = AreOriginsIn v (text_named v (codes "cup"))
