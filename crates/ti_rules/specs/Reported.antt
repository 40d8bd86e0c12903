-- Which of the remarks that were found are reported.
use Rattle.std.specs.Prelude.{◌≡◌, ◌&&◌, ◌||◌, ◌==◌, ℕ, Bool, true, false, List, length, not, map}
use Rattle.std.specs.List.{filter, list_any}
use Rattle.std.specs.Str.{bytes_eq}
use Rattle.ti_lint.specs.declared.level.Level.{Level}
use Rattle.ti_lint.specs.declared.level.Level.TheVariants as levels
use Rattle.ti_rules.specs.Findings.{finding_word, hidden_by, is_harm, is_only_all}
use Rattle.ti_rules.specs.Remarks.{About, OfText, Remark}

-- what a remark is about, and its word
pub record Head : Type 0 where
  pub about : About
  pub word : List ℕ

abbrev pub head : Remark → Head
head r = record { about = r.about; word = finding_word r.finding }

-- the same text under the same name
abbrev pub is_same_text : About → About → Bool
is_same_text (OfText name text) (OfText other its) = bytes_eq name other && bytes_eq text its
is_same_text one other = false

-- a remark is hidden by one on the same text whose word its finding names
abbrev pub hides : Remark → Head → Bool
hides r h = bytes_eq h.word (hidden_by r.finding) && is_same_text h.about r.about

abbrev pub is_hidden_by : List Head → Remark → Bool
is_hidden_by heads r = list_any (hides r) heads

-- most findings name none
abbrev pub is_hidden : List Head → Remark → Bool
is_hidden heads r = not (length (hidden_by r.finding) == 0) && is_hidden_by heads r

-- some findings only a report on all has
abbrev pub is_all : Level → Bool
is_all levels.Errors = false
is_all levels.All = true

abbrev pub is_reported : Level → List Head → Remark → Bool
is_reported level heads r = (is_all level || not (is_only_all r.finding)) && not (is_hidden heads r)

abbrev pub reported : Level → List Remark → List Remark
reported level found = filter (is_reported level (map head found)) found

-- ---- harm

abbrev pub harmful : List Remark → List Remark
harmful remarks = filter (λ r. is_harm r.finding) remarks

-- all that was found of it is reported, whatever else was found and whatever the level is
abbrev pub HarmIsReported : Type 0
HarmIsReported = (level : Level) (found : List Remark) → harmful (reported level found) ≡ harmful found
