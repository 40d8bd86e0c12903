-- What the strings of an entry make a terminal do, held against the table of what they may.
use Rattle.std.specs.Prelude.{◌≡◌, ◌-◌, ℕ, suc, ◌||◌, ◌&&◌, Bool, true, false, not, List, [], ◌∷◌, ◌++◌, codes, drop, length, map, nat_lt, if◌then◌else◌, take}
use Rattle.std.specs.List.{AllByRecursion, flat_map, list_any}
use Rattle.std.specs.Str.{bytes_eq}
use Rattle.ti_allow.specs.Harmless.{IsSilent, OnlyTableAlways, PlainOnlyTable}
use Rattle.ti_allow.specs.Plain.{doubled}
use Rattle.ti_allow.specs.declared.allowed.TheConstants.{ALLOWED}
use Rattle.ti_cap.specs.declared.language.CapRefused.{CapRefused}
use Rattle.ti_cap.specs.Refusal.{IsFaultless, IsRefusal}
use Rattle.ti_control.specs.Capabilities.{is_sent}
use Rattle.ti_control.specs.Entries.{ecma_capabilities, starts_introducer}
use Rattle.ti_lint.specs.declared.lint_options.LintOptions.{LintOptions}
use Rattle.ti_names.specs.declared.class.Class.{Class}
use Rattle.ti_names.specs.declared.class.Class.TheVariants as classes
use Rattle.ti_words.specs.Texts.{TextOf, TextValue}
use Rattle.ti_words.specs.Value.{EntryValue}
use Rattle.ti_rules.specs.declared.finding.Finding.TheVariants.{NotAllTried, NotEcma}
use Rattle.ti_rules.specs.Findings.{is_control}
use Rattle.ti_rules.specs.Lines.{AreAll, InTurn}
use Rattle.ti_rules.specs.Own.{asked_name, own_remarks}
use Rattle.ti_rules.specs.Reported.{is_all}
use Rattle.ti_rules.specs.Remarks.{Count, Evidence, Named, NoEvidence, OfEntry, Remark, unmarked}
use Rattle.ti_rules.specs.Subjects.{KnownText, UnknownText, known_texts, unknown_texts}
use Rattle.ti_rules.specs.Values.{text_named}

-- ---- the terminal

-- some byte starts a `\E[`
abbrev pub has_introducer : List ℕ → Bool
has_introducer [] = false
has_introducer (byte ∷ rest) = starts_introducer (byte ∷ rest) || has_introducer rest

abbrev pub is_ecma_text : TextValue → Bool
is_ecma_text (TextOf text) = has_introducer text
is_ecma_text text = false

-- one of these texts has one
abbrev pub is_ecma_in : EntryValue → List ℕ → Bool
is_ecma_in v name = is_ecma_text (text_named v name)

abbrev pub is_ecma_entry : EntryValue → Bool
is_ecma_entry v = list_any (is_ecma_in v) ecma_capabilities

-- ---- how a string is sent

-- a program gives it parameters, or sends it as it stands
pub data Sending : Type 0 where
  Expanded : List ℕ → Sending
  AsItStands : List ℕ → Sending

-- a string that is looked at: the name by which the table is asked, and how it is sent
pub record Look : Type 0 where
  pub name : List ℕ
  pub sending : Sending

-- after these a program writes a title, and then `fsl`, if the entry has it
abbrev pub takes_title : List ℕ → Bool
takes_title name = bytes_eq (codes "tsl") name || (bytes_eq (codes "TS") name || bytes_eq (codes "Swd") name)

-- the three are one string, of which the title is a parameter
abbrev pub with_title : List ℕ → List ℕ → List ℕ
with_title text end = text ++ (codes "%p9%s" ++ doubled end)

abbrev pub titled : TextValue → List ℕ → List ℕ → List ℕ
titled (TextOf end) name text = if takes_title name then with_title text end else text
titled end name text = text

abbrev pub plain_sending : TextValue → List ℕ → List ℕ → Sending
plain_sending (TextOf end) name text = if takes_title name then Expanded (with_title (doubled text) end) else AsItStands text
plain_sending end name text = AsItStands text

abbrev pub asked : List ℕ → Sending → Look
asked name sending = record { name = name; sending = sending }

abbrev pub look : Bool → List ℕ → List ℕ → Sending → Look
look untrusted name text sending = asked (asked_name untrusted name text) sending

-- a string of a class, if it is sent
abbrev pub looks_in : Bool → Bool → TextValue → Class → List ℕ → List ℕ → List Look
looks_in untrusted true end classes.Plain name text = look untrusted name text (plain_sending end name text) ∷ []
looks_in untrusted true end (classes.Parameterized parameters) name text = look untrusted name text (Expanded (titled end name text)) ∷ []
looks_in untrusted sent end class name text = []

abbrev pub looks_of : Bool → TextValue → KnownText → List Look
looks_of untrusted end t = looks_in untrusted (is_sent t.name) end t.class t.name t.text

-- of a string of which nothing is known: a program may expand it, or send it as it stands
abbrev pub unknown_looks : Bool → UnknownText → List Look
unknown_looks untrusted u = look untrusted u.name u.text (Expanded u.text) ∷ look untrusted u.name u.text (AsItStands u.text) ∷ []

-- all that are looked at in the entry of a stranger
abbrev pub all_looks : EntryValue → List Look
all_looks v = flat_map (looks_of true (text_named v (codes "fsl"))) (known_texts v) ++ flat_map (unknown_looks true) (unknown_texts v)

-- ---- what it may do

-- a terminal takes nothing of it that is not in the table for its name: expanded if it is a capability, and else as it stands
abbrev pub Keeps : List ℕ → Sending → Type 0
Keeps name (Expanded text) = (IsFaultless text → OnlyTableAlways ALLOWED name text)
    × ((refused : CapRefused) → IsRefusal text refused → PlainOnlyTable ALLOWED name text)
Keeps name (AsItStands text) = PlainOnlyTable ALLOWED name text

abbrev pub KeepsToTable : Look → Type 0
KeepsToTable l = Keeps l.name l.sending

-- ---- what is reported of it

abbrev pub IsControl : Remark → Type 0
IsControl r = is_control r.finding ≡ true

abbrev pub AreControls : List Remark → Type 0
AreControls remarks = AllByRecursion IsControl remarks

-- of the entry of a stranger something, if they may do more
pub record AreOnLooks (untrusted : Bool) (looks : List Look) (remarks : List Remark) : Type 0 where
  pub controls : AreControls remarks
  pub silent : untrusted ≡ true → IsSilent remarks → AllByRecursion KeepsToTable looks

-- and of a string that has a rule of its own, what that says
abbrev pub AreControlsOf : Bool → TextValue → KnownText → List Remark → Type 0
AreControlsOf untrusted end t = InTurn (AreOnLooks untrusted (looks_of untrusted end t)) (λ all. all ≡ own_remarks untrusted t.name t.text)

abbrev pub AreUnknownControls : Bool → UnknownText → List Remark → Type 0
AreUnknownControls untrusted u = AreOnLooks untrusted (unknown_looks untrusted u)

-- ---- all texts

-- texts can share bytes, so that those of an entry send far more than it has; those that share none have fewer together
abbrev pub most_bytes : ℕ
most_bytes = 32768

-- how many texts at the start of a list have at most so many bytes together
abbrev pub fitting : ℕ → List (List ℕ) → ℕ
fitting room [] = 0
fitting room (text ∷ texts) = if nat_lt room (length text) then 0 else suc (fitting (room - length text) texts)

-- how many of a list are looked at, which ones, and the names of those that are left, each after a space
abbrev pub looked_count : {X : Type 0} → (X → List ℕ) → List X → ℕ
looked_count text_of texts = fitting most_bytes (map text_of texts)

abbrev pub looked_at : {X : Type 0} → (X → List ℕ) → List X → List X
looked_at text_of texts = take (looked_count text_of texts) texts

abbrev pub spaced : {X : Type 0} → (X → List ℕ) → X → List ℕ
spaced name_of text = codes " " ++ name_of text

abbrev pub left_names : {X : Type 0} → (text_of name_of : X → List ℕ) → List X → List ℕ
left_names text_of name_of texts = flat_map (spaced name_of) (drop (looked_count text_of texts) texts)

abbrev pub bytes_of_known : KnownText → List ℕ
bytes_of_known t = t.text

abbrev pub bytes_of_unknown : UnknownText → List ℕ
bytes_of_unknown t = t.text

abbrev pub name_of_known : KnownText → List ℕ
name_of_known t = t.name

abbrev pub name_of_unknown : UnknownText → List ℕ
name_of_unknown t = t.name

abbrev pub names_left : EntryValue → List ℕ
names_left v = left_names bytes_of_known name_of_known (known_texts v) ++ left_names bytes_of_unknown name_of_unknown (unknown_texts v)

-- of the entry of a stranger they are named
abbrev pub left_evidence : Bool → List ℕ → Evidence
left_evidence true names = Named names
left_evidence false names = NoEvidence

-- one remark if there are names, of which the first comes after a space
abbrev pub on_left : Bool → List ℕ → List Remark
on_left untrusted [] = []
on_left untrusted (space ∷ names) = unmarked OfEntry NotAllTried (left_evidence untrusted names)

abbrev pub left_remarks : Bool → EntryValue → List Remark
left_remarks untrusted v = on_left untrusted (names_left v)

abbrev pub AreControlsBy : Bool → EntryValue → List Remark → Type 0
AreControlsBy untrusted v =
    InTurn (AreAll (AreControlsOf untrusted (text_named v (codes "fsl"))) (looked_at bytes_of_known (known_texts v)))
    (InTurn (AreAll (AreUnknownControls untrusted) (looked_at bytes_of_unknown (unknown_texts v))) (λ all. all ≡ left_remarks untrusted v))

-- the table is for terminals of ECMA-48: of another one that is a stranger's one remark says how many there are, if there are several,
-- unless all are asked for
abbrev pub folds : LintOptions → Bool → ℕ → Bool
folds options is_ecma count = options.untrusted && (not (is_all options.level) && (not is_ecma && nat_lt 1 count))

abbrev pub folded_by : LintOptions → Bool → List Remark → List Remark
folded_by options is_ecma found =
    if folds options is_ecma (length found) then unmarked OfEntry NotEcma (Count (length found)) else found

abbrev pub folded : LintOptions → EntryValue → List Remark → List Remark
folded options v found = folded_by options (is_ecma_entry v) found

abbrev pub AreControlRemarks : LintOptions → EntryValue → List Remark → Type 0
AreControlRemarks options v remarks = (found : List Remark) × AreControlsBy options.untrusted v found × (remarks ≡ folded options v found)

-- ---- the law

-- no remark is on what a string makes a terminal do
abbrev pub HasNoControl : List Remark → Type 0
HasNoControl remarks = AllByRecursion (λ r. is_control r.finding ≡ false) remarks
