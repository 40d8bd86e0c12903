-- What is found in an entry: remarks, each on a text, on two texts, on a name or on the whole entry.
use Rattle.std.specs.Prelude.{ℕ, ℤ, List, [], ◌∷◌}
use Rattle.ti_cap.specs.declared.parameter_set.ParameterSet.{ParameterSet}
use Rattle.ti_rules.specs.declared.finding.Finding.{Finding}
use Rattle.ti_values.specs.declared.tried.Tried.{Tried}

-- what a remark is about: a text comes with its name before it
pub data About : Type 0 where
  OfEntry : About
  OfName : List ℕ → About
  OfText : List ℕ → List ℕ → About
  OfTwo : List ℕ → List ℕ → List ℕ → List ℕ → About

-- what a sentence has beside the words of its finding: a number, parameters, values with what is sent for them, an
-- attribute, by the name of its text, with a set of attributes; a function of the terminal, in words; names, with a space between two; or how many there are
pub data Evidence : Type 0 where
  NoEvidence : Evidence
  Last : ℕ → Evidence
  Value : ℤ → Evidence
  Parameters : ParameterSet → Evidence
  For : Tried → Evidence
  Sent : Tried → List ℕ → Evidence
  SentForTwo : Tried → Tried → List ℕ → Evidence
  Attribute : List ℕ → ℕ → Evidence
  Lacking : List ℕ → ℕ → List ℕ → List ℕ → Evidence
  Function : List ℕ → Evidence
  Named : List ℕ → Evidence
  Count : ℕ → Evidence

-- what it is about, the places of the text at which it is so, what was found, and the evidence
pub record Remark : Type 0 where
  pub about : About
  pub places : List ℕ
  pub finding : Finding
  pub evidence : Evidence

-- the same of a text, whatever its name is
pub record TextRemark : Type 0 where
  pub places : List ℕ
  pub finding : Finding
  pub evidence : Evidence

-- ---- the one remark, at no place

abbrev pub unmarked : About → Finding → Evidence → List Remark
unmarked about finding evidence = record { about = about; places = []; finding = finding; evidence = evidence } ∷ []

abbrev pub on_values : List ℕ → List ℕ → Finding → Evidence → List Remark
on_values name text finding evidence = unmarked (OfText name text) finding evidence

abbrev pub unplaced : Finding → Evidence → List TextRemark
unplaced finding evidence = record { places = []; finding = finding; evidence = evidence } ∷ []

-- ---- the one at some places; there is none without a place

abbrev pub placed : List ℕ → Finding → Evidence → List TextRemark
placed [] _ _ = []
placed (place ∷ places) finding evidence = record { places = place ∷ places; finding = finding; evidence = evidence } ∷ []

-- ---- the same on the text with a name

abbrev pub with_name : List ℕ → List ℕ → TextRemark → Remark
with_name name text remark =
    record { about = OfText name text; places = remark.places; finding = remark.finding; evidence = remark.evidence }
