-- Worked rows of the command line.
use Rattle.std.proofs.Common.{◌≡◌, ◌<◌, ◌∙◌, arith, List, [], ◌∷◌, true, false, ap, get_or, inl, inr, map, refl, sym}
use Rattle.std.specs.Prelude.{None, Some, ℕ, codes, filter, pos}
use Rattle.clap.specs.Facts.{explicit_source}
use Rattle.clap.specs.Words.{Row, Text}
use Rattle.clap.proofs.OnLiterals.{clap_on_literals}
use Rattle.ti_names.specs.NameLists.{all_flags, all_numbers, all_texts}
use Rattle.ti_lint.specs.ExtendedClasses.{extended_classes}
use Rattle.ti_line.specs.Fits.{Fit, IsMisfit, IsTaking}
use Rattle.ti_line.specs.declared.fit.Takes.TheVariants.{Anything, Counted, Numbers}
use Rattle.ti_line.specs.TextLabels.{IsLabel, IsTextLabel}
use Rattle.ti_line.specs.declared.given.Param.{Param}
use Rattle.ti_line.specs.declared.given.Param.TheVariants.{Either, Word}
use Rattle.ti_line.specs.declared.no_request.LineFault.TheVariants.{NoNumber, OnlyNumbers, Surplus}
use Rattle.ti_line.specs.CommandLine.{AsksForHelp, Cap, Check, Command, Convert, Diff, Expand, Get, IsRefused, Lint, Reads, Show, Trace, files_of, has_summary}

-- words are read as a subcommand with these values of arguments, besides the defaults
abbrev IsReadAs : List Text → Command → List (Text × List Text) → Type 0
IsReadAs words command given =
    (rows : List Row) × Reads words command rows × (map (λ r. (r.id, r.values)) (filter (λ r. explicit_source r.source) rows) ≡ given)

-- `ti cap n:4 --hex n:9`
cap_row : IsReadAs (codes "ti" ∷ codes "cap" ∷ codes "n:4" ∷ codes "--hex" ∷ codes "n:9" ∷ []) Cap ((codes "PARAM", codes "n:4" ∷ codes "n:9" ∷ []) ∷ (codes "hex", codes "true" ∷ []) ∷ [])
unfolding clap_on_literals
cap_row = (_, (refl, refl), refl)

-- `ti cap n:7 --source`
source_row : IsReadAs (codes "ti" ∷ codes "cap" ∷ codes "n:7" ∷ codes "--source" ∷ []) Cap ((codes "PARAM", codes "n:7" ∷ []) ∷ (codes "source", codes "true" ∷ []) ∷ [])
unfolding clap_on_literals
source_row = (_, (refl, refl), refl)

-- `ti trace n:7 --escape`
trace_row : IsReadAs (codes "ti" ∷ codes "trace" ∷ codes "n:7" ∷ codes "--escape" ∷ []) Trace ((codes "PARAM", codes "n:7" ∷ []) ∷ (codes "escape", codes "true" ∷ []) ∷ [])
unfolding clap_on_literals
trace_row = (_, (refl, refl), refl)

-- `ti trace --of cup 7 --entry a`
trace_of_row : IsReadAs (codes "ti" ∷ codes "trace" ∷ codes "--of" ∷ codes "cup" ∷ codes "7" ∷ codes "--entry" ∷ codes "a" ∷ []) Trace ((codes "NAME", codes "cup" ∷ []) ∷ (codes "PARAM", codes "7" ∷ []) ∷ (codes "ENTRY", codes "a" ∷ []) ∷ [])
unfolding clap_on_literals
trace_of_row = (_, (refl, refl), refl)

-- `ti trace --source --of cup`
both_inputs_row : IsReadAs (codes "ti" ∷ codes "trace" ∷ codes "--source" ∷ codes "--of" ∷ codes "cup" ∷ []) Trace ((codes "source", codes "true" ∷ []) ∷ (codes "NAME", codes "cup" ∷ []) ∷ [])
unfolding clap_on_literals
both_inputs_row = (_, (refl, refl), refl)

-- `ti show`
show_row : IsReadAs (codes "ti" ∷ codes "show" ∷ []) Show []
unfolding clap_on_literals
show_row = (_, (refl, refl), refl)

-- `ti show --escape`
escape_row : IsReadAs (codes "ti" ∷ codes "show" ∷ codes "--escape" ∷ []) Show ((codes "escape", codes "true" ∷ []) ∷ [])
unfolding clap_on_literals
escape_row = (_, (refl, refl), refl)

-- `ti show --json`
json_row : IsReadAs (codes "ti" ∷ codes "show" ∷ codes "--json" ∷ []) Show ((codes "json", codes "true" ∷ []) ∷ [])
unfolding clap_on_literals
json_row = (_, (refl, refl), refl)

-- `ti check --all-names`
names_row : IsReadAs (codes "ti" ∷ codes "check" ∷ codes "--all-names" ∷ []) Check ((codes "all-names", codes "true" ∷ []) ∷ [])
unfolding clap_on_literals
names_row = (_, (refl, refl), refl)

-- `ti convert --wide`
wide_row : IsReadAs (codes "ti" ∷ codes "convert" ∷ codes "--wide" ∷ []) Convert ((codes "wide", codes "true" ∷ []) ∷ [])
unfolding clap_on_literals
wide_row = (_, (refl, refl), refl)

-- `ti convert --narrow --wide`
both_row : IsReadAs (codes "ti" ∷ codes "convert" ∷ codes "--narrow" ∷ codes "--wide" ∷ []) Convert ((codes "narrow", codes "true" ∷ []) ∷ (codes "wide", codes "true" ∷ []) ∷ [])
unfolding clap_on_literals
both_row = (_, (refl, refl), refl)

-- `ti expand --rate 960 cup`
expand_row : IsReadAs (codes "ti" ∷ codes "expand" ∷ codes "--rate" ∷ codes "960" ∷ codes "cup" ∷ []) Expand ((codes "rate", codes "960" ∷ []) ∷ (codes "NAME", codes "cup" ∷ []) ∷ [])
unfolding clap_on_literals
expand_row = (_, (refl, refl), refl)

-- `ti get cup 4 -- -9`
get_row : IsReadAs (codes "ti" ∷ codes "get" ∷ codes "cup" ∷ codes "4" ∷ codes "--" ∷ codes "-9" ∷ []) Get ((codes "NAME", codes "cup" ∷ []) ∷ (codes "PARAM", codes "4" ∷ codes "-9" ∷ []) ∷ [])
unfolding clap_on_literals
get_row = (_, (refl, refl), refl)

-- `ti lint a`
lint_row : IsReadAs (codes "ti" ∷ codes "lint" ∷ codes "a" ∷ []) Lint ((codes "FILE", codes "a" ∷ []) ∷ [])
unfolding clap_on_literals
lint_row = (_, (refl, refl), refl)

-- `ti lint --explain layout`
explain_row : IsReadAs (codes "ti" ∷ codes "lint" ∷ codes "--explain" ∷ codes "layout" ∷ []) Lint ((codes "explain", codes "true" ∷ []) ∷ (codes "FILE", codes "layout" ∷ []) ∷ [])
unfolding clap_on_literals
explain_row = (_, (refl, refl), refl)

-- `ti diff a b`
diff_row : IsReadAs (codes "ti" ∷ codes "diff" ∷ codes "a" ∷ codes "b" ∷ []) Diff ((codes "FILE", codes "a" ∷ codes "b" ∷ []) ∷ [])
unfolding clap_on_literals
diff_row = (_, (refl, refl), refl)

-- `ti lint --json --all --untrusted`, `ti diff --color=never a b` and `ti trace --json --color always`
lint_json_row : IsReadAs (codes "ti" ∷ codes "lint" ∷ codes "--json" ∷ codes "--all" ∷ codes "--untrusted" ∷ []) Lint ((codes "json", codes "true" ∷ []) ∷ (codes "all", codes "true" ∷ []) ∷ (codes "untrusted", codes "true" ∷ []) ∷ [])
unfolding clap_on_literals
lint_json_row = (_, (refl, refl), refl)

color_row : IsReadAs (codes "ti" ∷ codes "diff" ∷ codes "--color=never" ∷ codes "a" ∷ codes "b" ∷ []) Diff ((codes "color", codes "never" ∷ []) ∷ (codes "FILE", codes "a" ∷ codes "b" ∷ []) ∷ [])
unfolding clap_on_literals
color_row = (_, (refl, refl), refl)

trace_json_row : IsReadAs (codes "ti" ∷ codes "trace" ∷ codes "--json" ∷ codes "--color" ∷ codes "always" ∷ []) Trace ((codes "json", codes "true" ∷ []) ∷ (codes "color", codes "always" ∷ []) ∷ [])
unfolding clap_on_literals
trace_json_row = (_, (refl, refl), refl)

-- `ti check a b` and `ti get cup --entry a` name files, and `ti show -` names none
several_row : files_of (codes "ti" ∷ codes "check" ∷ codes "a" ∷ codes "b" ∷ []) ≡ codes "a" ∷ codes "b" ∷ []
unfolding clap_on_literals
several_row = refl

entry_row : files_of (codes "ti" ∷ codes "get" ∷ codes "cup" ∷ codes "--entry" ∷ codes "a" ∷ []) ≡ codes "a" ∷ []
unfolding clap_on_literals
entry_row = refl

input_row : files_of (codes "ti" ∷ codes "show" ∷ codes "-" ∷ []) ≡ []
unfolding clap_on_literals
input_row = refl

-- `ti lint --summary` has the option, and `ti lint` has not
summary_row : has_summary (codes "ti" ∷ codes "lint" ∷ codes "--summary" ∷ []) ≡ true
unfolding clap_on_literals
summary_row = refl

no_summary_row : has_summary (codes "ti" ∷ codes "lint" ∷ []) ≡ false
unfolding clap_on_literals
no_summary_row = refl

-- `ti expand --rate 1000001 bel`
rate_row : IsRefused (codes "ti" ∷ codes "expand" ∷ codes "--rate" ∷ codes "1000001" ∷ codes "bel" ∷ [])
unfolding clap_on_literals
rate_row = refl

-- `ti`
alone_row : IsRefused (codes "ti" ∷ [])
unfolding clap_on_literals
alone_row = refl

-- `ti --help`
help_row : AsksForHelp (codes "ti" ∷ codes "--help" ∷ [])
unfolding clap_on_literals
help_row = refl

-- ---- parameters of `get` that fit, and such as do not

abbrev word : Text → Param
word text = Word (record { ref_ptr = (0, 0); now = text })

abbrev number : ℕ → Text → Param
number n text = Either (pos n) (record { ref_ptr = (0, 0); now = text })

-- `#10` is a label of 10
ten : IsLabel (codes "#10") 10
ten = (codes "10", refl, (omega arith, (omega arith, (omega arith, tt))), omega arith, refl)

-- a label begins with `#` or with `t`
no_label : (name : List ℕ) (first : ℕ) → get_or name 0 0 ≡ first → 35 < first → first < 116 → (index : ℕ) → ¬ IsTextLabel name index
no_label name first is low high index (inl (digits, same, numeral, few, value)) =
    let mark : 35 ≡ first = sym (ap (λ ws. get_or ws 0 0) same) ∙ is in absurd (omega (arith, mark, low))
no_label name first is low high index (inr (label, same, rest)) =
    let letter : 116 ≡ first = sym (ap (λ ws. get_or ws 0 0) same) ∙ is in absurd (omega (arith, letter, high))

-- terminfo(5) gives `cup`, the text at 10, two parameters, by its long name and by its label too; `bel`, a flag, a number, and
-- the own names `Ss` and `kxyz` take numbers; of `Ms`, which takes texts, and of `own` nothing is known
cup_takes : IsTaking (codes "cup") (Counted 10 2)
unfolding all_flags all_numbers all_texts
cup_takes = inr (no_label (codes "cup") 99 refl (omega arith) (omega arith), refl)

long_takes : IsTaking (codes "cursor_address") (Counted 10 2)
unfolding all_flags all_numbers all_texts
long_takes = inr (no_label (codes "cursor_address") 99 refl (omega arith) (omega arith), refl)

mark_takes : IsTaking (codes "#10") (Counted 10 2)
unfolding all_texts
mark_takes = inl (10, inl ten, refl)

label_takes : IsTaking (codes "text#10") (Counted 10 2)
unfolding all_texts
label_takes = inl (10, inr (codes "#10", refl, ten), refl)

bel_takes : IsTaking (codes "bel") Numbers
unfolding all_flags all_numbers all_texts
bel_takes = inr (no_label (codes "bel") 98 refl (omega arith) (omega arith), refl)

am_takes : IsTaking (codes "am") Numbers
unfolding all_flags all_numbers all_texts
am_takes = inr (no_label (codes "am") 97 refl (omega arith) (omega arith), refl)

colors_takes : IsTaking (codes "colors") Numbers
unfolding all_flags all_numbers all_texts
colors_takes = inr (no_label (codes "colors") 99 refl (omega arith) (omega arith), refl)

own_takes : IsTaking (codes "Ss") Numbers
unfolding all_flags all_numbers all_texts extended_classes
own_takes = inr (no_label (codes "Ss") 83 refl (omega arith) (omega arith), refl)

key_takes : IsTaking (codes "kxyz") Numbers
unfolding all_flags all_numbers all_texts
key_takes = inr (no_label (codes "kxyz") 107 refl (omega arith) (omega arith), refl)

clipboard_takes : IsTaking (codes "Ms") Anything
unfolding all_flags all_numbers all_texts extended_classes
clipboard_takes = inr (no_label (codes "Ms") 77 refl (omega arith) (omega arith), refl)

unknown_takes : IsTaking (codes "own") Anything
unfolding all_flags all_numbers all_texts extended_classes
unknown_takes = inr (no_label (codes "own") 111 refl (omega arith) (omega arith), refl)

-- `cup 4 9`, `cup 4 9 entry` and `cup 4 red`
fit_row : Fit (codes "cup") 2 (number 4 (codes "4") ∷ number 9 (codes "9") ∷ [])
unfolding all_flags all_numbers all_texts
fit_row = (Counted 10 2, cup_takes, (omega arith, refl))

surplus_row : IsMisfit (codes "cup") 3 (number 4 (codes "4") ∷ number 9 (codes "9") ∷ word (codes "entry") ∷ []) (Surplus 10 2 3 true)
unfolding all_flags all_numbers all_texts
surplus_row = (cup_takes, omega arith, refl, refl)

no_number_row : IsMisfit (codes "cup") 2 (number 4 (codes "4") ∷ word (codes "red") ∷ []) (NoNumber 10 2)
unfolding all_flags all_numbers all_texts
no_number_row = (2, cup_takes, omega arith, refl)

-- `am entry`, and `bel 1 2 3`, which are as many numbers as may be
only_numbers_row : IsMisfit (codes "am") 1 (word (codes "entry") ∷ []) (OnlyNumbers 1)
unfolding all_flags all_numbers all_texts
only_numbers_row = (am_takes, refl)

numbers_row : Fit (codes "bel") 2 (number 1 (codes "1") ∷ number 2 (codes "2") ∷ [])
unfolding all_flags all_numbers all_texts
numbers_row = (Numbers, bel_takes, refl)

-- `pfkey 1 text`
key_row : Fit (codes "pfkey") 2 (number 1 (codes "1") ∷ word (codes "text") ∷ [])
unfolding all_flags all_numbers all_texts
key_row = (Counted 115 2, inr (no_label (codes "pfkey") 112 refl (omega arith) (omega arith), refl), (omega arith, refl))
