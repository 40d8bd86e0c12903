-- Worked rows, from terminfo(5), term(5) and the entries of ncurses.
use Rattle.std.proofs.Common.{◌≡◌, ℕ, Bool, [], ◌∷◌, true, false, refl, None, Some, negsuc}
use Rattle.std.specs.Prelude.{codes}
use Rattle.std.specs.Fmt.{digits}
use Rattle.ti_control.specs.Entries.{starts_introducer}
use Rattle.ti_allow.specs.Plain.{doubled_byte}
use Rattle.ti_allow.specs.declared.effect.Effect.TheVariants.{Title}
use Rattle.ti_escape.specs.declared.color.Color.TheVariants.{Never}
use Rattle.ti_lint.specs.declared.level.Level.TheVariants.{Errors, All}
use Rattle.ti_lint.specs.declared.token_finding.TokenFinding.TheVariants.{ParameterRange, RepeatedIncrement}
use Rattle.ti_names.specs.NameLists.{all_flags, all_numbers, all_texts}
use Rattle.ti_names.specs.declared.class.Class.TheVariants as classes
use Rattle.ti_names.specs.declared.class.Class.TheVariants.{List as ListClass, Plain}
use Rattle.ti_pad.specs.Delays.{total_delay}
use Rattle.ti_rules.specs.Actions.{is_tabset, natural, on_command, on_file}
use Rattle.ti_rules.specs.Bases.{bases_differ}
use Rattle.ti_rules.specs.Constants.{IsTestsReport}
use Rattle.ti_rules.specs.Controls.{has_introducer, titled}
use Rattle.ti_rules.specs.Crashes.{range_in}
use Rattle.ti_rules.specs.Findings.{finding_word, hidden_by, is_only_all}
use Rattle.ti_rules.specs.Keys.{Key, is_first_part, on_keys, on_two}
use Rattle.ti_rules.specs.Lines.{AreAll, InTurn}
use Rattle.ti_rules.specs.Marks.{first_place}
use Rattle.ti_rules.specs.NameBytes.{first_empty, parted}
use Rattle.ti_rules.specs.Names.{on_again, on_name, on_new}
use Rattle.ti_rules.specs.Origins.{Motion, origin_remarks}
use Rattle.ti_rules.specs.Pairs.{equal_pair}
use Rattle.ti_rules.specs.Remarks.{Attribute, For, Last, NoEvidence, OfEntry, OfText, OfTwo, Remark, on_values, placed, unmarked, unplaced}
use Rattle.ti_rules.specs.Reported.{reported}
use Rattle.ti_rules.specs.Reports.{IsUseReport}
use Rattle.ti_rules.specs.Sequences.{IsSequenceIn}
use Rattle.ti_rules.specs.Subjects.{known_as}
use Rattle.ti_rules.specs.Texts.{delay_remarks, empty_key, half_paired, may_leave_out, usage_of}
use Rattle.ti_rules.specs.Values.{Trial, ignored_if, remark_of, text_named, tried_at}
use Rattle.ti_rules.specs.Whole.{has}
use Rattle.ti_rules.specs.declared.finding.Finding.TheVariants.{AlikeKeys, Control, EmptyKey, EmptyOutput, EqualPair, HalfPaired, IgnoredAttribute, KeyPrefix, LongDelay, OriginDiffers, Reads, RepeatedAlias, RepeatedName, Runs, SameOutput, Token}
use Rattle.ti_rules.specs.declared.finding.Finding.{Finding}
use Rattle.ti_rules.specs.declared.names.NameKind.TheVariants.{Alias, Own}
use Rattle.ti_values.specs.declared.axes.Axes.TheVariants.{Both, Line}
use Rattle.ti_values.specs.declared.range.Range.TheVariants.{Numbers}
use Rattle.ti_values.specs.declared.tried.Tried.TheVariants.{Attributes, Two}
use Rattle.ti_words.specs.Items.{ExtendedSubject, StandardSubject}
use Rattle.ti_words.specs.Texts.{AbsentText, TextOf}
use Rattle.ti_words.specs.Value.{EntryValue, bare, no_values}
use Rattle.ti_words.specs.declared.Kind.TheVariants as kinds
use Rattle.ti_words.specs.declared.Width.TheVariants.{Legacy}

-- files that `if` and `rf` name
pub files : (is_tabset (codes "/usr/share/tabset/vt100") ≡ true) × (is_tabset (codes "/usr/share/tabset/../x") ≡ false) × (is_tabset (codes "/dev/zero") ≡ false)
files = (refl, refl, refl)

-- names between `|`, and empty ones
pub names : parted [] (codes "vt100|vt100-am") ≡ codes "vt100" ∷ codes "vt100-am" ∷ []
unfolding parted
names = refl

pub empties : (first_empty (codes "a|") ≡ Some 2) × (first_empty (codes "a|b") ≡ None) × (first_empty [] ≡ Some 0)
empties = (refl, refl, refl)

-- a remark on `mrcup` of ncr160vppp
abbrev on : Finding → Remark
on finding = record { about = OfText (codes "mrcup") []; places = []; finding = finding; evidence = NoEvidence }

-- a parameter beyond the last hides that two values send the same, and keys that send the same are only of a report on all
pub reports : (reported Errors (on (Token ParameterRange) ∷ on SameOutput ∷ on AlikeKeys ∷ on Runs ∷ []) ≡ on (Token ParameterRange) ∷ on Runs ∷ [])
    × (reported All (on AlikeKeys ∷ on SameOutput ∷ []) ≡ on AlikeKeys ∷ on SameOutput ∷ [])
reports = (refl, refl)

-- what programs do with `iprog`, `if` and `rf`, and a number below 0
pub actions : (on_command (codes "iprog") AbsentText ≡ []) × (on_command (codes "iprog") (TextOf (codes "tset")) ≡ on_values (codes "iprog") (codes "tset") Runs NoEvidence)
    × (on_file (codes "if") (TextOf (codes "/usr/share/tabset/vt100")) ≡ []) × (on_file (codes "rf") (TextOf (codes "/dev/zero")) ≡ on_values (codes "rf") (codes "/dev/zero") Reads NoEvidence)
    × (natural (negsuc 0) ≡ 0)
actions = (refl, refl, refl, refl, refl)

-- ---- whole entries: one with the name `a` alone, and its bytes; and one whose `bel`, the second text, is ^G

abbrev named : EntryValue
named = bare Legacy (codes "a")

abbrev with_bell : EntryValue
with_bell = record named { standard = record no_values { texts = AbsentText ∷ TextOf (7 ∷ []) ∷ [] } }

pub bases : (bases_differ [] ≡ false) × (bases_differ (26 ∷ 1 ∷ 2 ∷ 0 ∷ 0 ∷ 0 ∷ 0 ∷ 0 ∷ 0 ∷ 0 ∷ 0 ∷ 0 ∷ 97 ∷ 0 ∷ []) ≡ false)
bases = (refl, refl)

pub bells : (text_named named (codes "bel") ≡ AbsentText) × (text_named with_bell (codes "bel") ≡ TextOf (7 ∷ [])) × (text_named with_bell (codes "cbt") ≡ AbsentText)
    × (has with_bell (codes "bel") ≡ true) × (has named (codes "bel") ≡ false)
unfolding text_named has all_flags all_numbers all_texts
bells = (refl, refl, refl, refl, refl)

-- ---- remarks: the places of a text, and the words of a finding

pub places : (first_place starts_introducer (codes "ab") ≡ None) × (first_place starts_introducer (97 ∷ 27 ∷ codes "[m") ≡ Some 1)
    × (placed [] SameOutput NoEvidence ≡ [])
places = (refl, refl, refl)

pub words : (finding_word SameOutput ≡ codes "same-output") × (is_only_all AlikeKeys ≡ true) × (hidden_by SameOutput ≡ codes "parameter-range")
words = (refl, refl, refl)

-- ---- keys: `kcuu1` sends the first part of what `kf1` sends

abbrev up : Key
up = (codes "A", codes "kcuu1")

abbrev first : Key
first = (codes "AP", codes "kf1")

pub keys : (is_first_part up.0 first.0 ≡ true) × (is_first_part first.0 first.0 ≡ false) × (on_keys (up ∷ first ∷ []) (up ∷ first ∷ []) ≡ on_two up first KeyPrefix)
    × (on_keys (up ∷ up ∷ []) (up ∷ up ∷ []) ≡ on_two up up AlikeKeys) × (on_keys (first ∷ []) (first ∷ []) ≡ [])
keys = (refl, refl, refl, refl, refl)

-- ---- pairs, and texts by their use

pub pairs : (equal_pair EqualPair (codes "smso") (codes "rmso") (TextOf (codes "x")) (TextOf (codes "x")) ≡ unmarked (OfTwo (codes "smso") (codes "x") (codes "rmso") (codes "x")) EqualPair NoEvidence)
    × (equal_pair EqualPair (codes "smso") (codes "rmso") (TextOf []) (TextOf []) ≡ []) × (equal_pair EqualPair (codes "smso") (codes "rmso") (TextOf (codes "x")) AbsentText ≡ [])
pairs = (refl, refl, refl)

pub uses : (may_leave_out (codes "sgr") ≡ true) × (may_leave_out (codes "cup") ≡ false) × (half_paired true (codes "abc") ≡ unplaced HalfPaired NoEvidence)
    × (half_paired false (codes "abc") ≡ []) × (empty_key [] ≡ unplaced EmptyKey NoEvidence)
uses = (refl, refl, refl, refl, refl)

-- a delay of five seconds, and one of five milliseconds
pub delays : (delay_remarks (codes "a$<5000/>") ≡ placed (1 ∷ []) LongDelay NoEvidence) × (delay_remarks (codes "a$<5>") ≡ [])
unfolding total_delay
delays = (refl, refl)

-- a text that is known and there
pub subjects : (known_as (ExtendedSubject kinds.Text (codes "XM")) None (Some (codes "x")) ≡ [])
    × (known_as (ExtendedSubject kinds.Text (codes "XM")) (Some Plain) (Some (codes "x")) ≡ record { name = codes "XM"; text = codes "x"; class = Plain; standard = false } ∷ [])
    × (known_as (StandardSubject kinds.Text 1) (Some Plain) None ≡ [])
subjects = (refl, refl, refl)

-- an own name and an alias that stand twice, and an alias that does not
pub repeated : (on_again Own (codes "XM") ≡ on_name (codes "XM") RepeatedName) × (on_again Alias (codes "a") ≡ on_name (codes "a") RepeatedAlias) × (on_new Alias (codes "a") ≡ [])
repeated = (refl, refl, refl)

-- a text of another terminal, and a key, are not looked at for sequences
pub sequences : IsSequenceIn false true Plain (codes "bold") (27 ∷ codes "[") [] × IsSequenceIn true true classes.Key (codes "kf1") (27 ∷ codes "[") []
sequences = (refl, refl)

-- one after another
pub in_turn : AreAll {X = ℕ} (λ x all. all ≡ x ∷ []) (1 ∷ 2 ∷ []) (1 ∷ 2 ∷ []) × InTurn {Y = ℕ} (λ all. all ≡ 1 ∷ []) (λ all. all ≡ 2 ∷ []) (1 ∷ 2 ∷ [])
in_turn = ((1 ∷ [], 2 ∷ [], refl, (2 ∷ [], [], refl, refl, refl), refl), (1 ∷ [], 2 ∷ [], refl, refl, refl))

-- no token, and so no test of constants
pub tests : IsTestsReport [] []
tests = ([], (refl, refl))

-- an `acsc` of three bytes
pub uses_reported : IsUseReport (usage_of (record { mask = 0 }) (codes "acsc") ListClass) (codes "acsc") (codes "abc")
    (on_values (codes "acsc") (codes "abc") HalfPaired NoEvidence)
uses_reported = (unplaced HalfPaired NoEvidence, refl, refl)

-- ---- values: of an attribute that `sgr` ignores

abbrev trial : Trial
trial = record { name = codes "sgr"; text = codes "x"; tried = Attributes 0 ∷ Attributes 32 ∷ []; sent = codes "x" ∷ codes "x" ∷ [] }

pub tried : (tried_at trial 1 ≡ Attributes 32) × (ignored_if true trial (codes "bold") 32 ≡ on_values (codes "sgr") (codes "x") IgnoredAttribute (Attribute (codes "bold") 32))
    × (remark_of trial EmptyOutput (λ k. For (tried_at trial k)) None ≡ [])
tried = (refl, refl, refl)

-- `cup` beside `vpa` of ncr160vt200pp, and beside `home` of linux
abbrev cup : Motion
cup = record { name = codes "cup"; text = codes "c"; sent = 27 ∷ codes "[1;1H" }

pub origins : (origin_remarks cup (codes "vpa") (codes "v") Line (Some (27 ∷ codes "[0d")) ≡ unmarked (OfTwo (codes "cup") (codes "c") (codes "vpa") (codes "v")) OriginDiffers NoEvidence)
    × (origin_remarks cup (codes "home") (codes "h") Both (Some (27 ∷ codes "[H")) ≡ []) × (origin_remarks cup (codes "vpa") (codes "v") Line None ≡ [])
origins = (refl, refl, refl)

-- ---- control functions

pub controls : (has_introducer (97 ∷ 27 ∷ codes "[m") ≡ true) × (has_introducer (27 ∷ codes "H") ≡ false)
    × (range_in ((codes "setaf", Numbers 0 8) ∷ []) (codes "setaf") ≡ Some (Numbers 0 8)) × (range_in ((codes "setaf", Numbers 0 8) ∷ []) (codes "setab") ≡ None)
    × (titled (TextOf (codes "%")) (codes "tsl") (codes "a") ≡ codes "a%p9%s%%") × (titled (TextOf (codes "b")) (codes "cup") (codes "a") ≡ codes "a")
unfolding doubled_byte
controls = (refl, refl, refl, refl, refl, refl)
