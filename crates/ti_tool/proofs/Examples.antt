-- Worked rows of the definitions.
use Rattle.std.proofs.Common.{◌≡◌, [], ◌∷◌, ◌++◌, true, false, arith, inl, inr, refl}
use Rattle.std.specs.Prelude.{Err, codes}
use Rattle.ti_cap.specs.declared.language.CapFault.TheVariants.{CutShort}
use Rattle.ti_cap.specs.declared.language.CapRefused.{CapRefused}
use Rattle.ti_json.specs.Rows.{HasFault, HasLimits, OfCapability, RowValue}
use Rattle.ti_line.specs.declared.options.NameForm.TheVariants.{Notation}
use Rattle.ti_line.specs.declared.options.Verdicts.TheVariants.{All, Faults}
use Rattle.ti_lint.specs.ExtendedClasses.{extended_classes}
use Rattle.ti_names.specs.NameLists.{all_flags, all_numbers, all_texts}
use Rattle.ti_words.specs.declared.Kind.TheVariants as kinds
use Rattle.ti_words.specs.Items.{StandardSubject}
use Rattle.ti_tool.specs.Files.{shown_file}
use Rattle.ti_tool.specs.ItemNames.{IsKindLabel}
use Rattle.ti_tool.specs.Sources.{text_in_source}
use Rattle.ti_tool.specs.Unfit.{is_unknown}
use Rattle.ti_tool.specs.declared.fault.ToolFault.TheVariants.{HasName}
use Rattle.ti_tool.specs.declared.item_name.Names.TheVariants as names
use Rattle.ti_tool.specs.Verdicts.{is_pattern, written}

-- `ti get '#10'` means the string `cup`, as `text#10` does
bare_label : IsKindLabel names.All (codes "#10") kinds.Text 10
bare_label = inl (refl, (codes "10", refl, (omega arith, (omega arith, (omega arith, tt))), omega arith, refl))

word_label : IsKindLabel names.All (codes "text#10") kinds.Text 10
word_label = inr (codes "#10", refl, (codes "10", refl, (omega arith, (omega arith, (omega arith, tt))), omega arith, refl))

-- a line of a source of terminfo
source_row : text_in_source (codes "bel=^G,") ≡ Err HasName
unfolding all_flags all_numbers all_texts
source_row = refl

-- of `Foo` no manual says anything, of `cup` one does
own_name_row : is_unknown (codes "Foo") ≡ true
unfolding all_flags all_numbers all_texts extended_classes
own_name_row = refl

table_name_row : is_unknown (codes "cup") ≡ false
unfolding all_flags all_numbers all_texts
table_name_row = refl

-- standard input stays `-` in a result, and another name is in the notation
input_row : shown_file Notation (codes "-") ≡ codes "-"
input_row = refl

minus_row : shown_file Notation (codes "-\n") ≡ codes "-^J"
minus_row = refl

-- `u6` is at 293 and `u8` at 295, `u7` between them
u6_row : is_pattern (StandardSubject kinds.Text 293) ≡ true
unfolding all_texts
u6_row = refl

u7_row : is_pattern (StandardSubject kinds.Text 294) ≡ false
unfolding all_texts
u7_row = refl

u8_row : is_pattern (StandardSubject kinds.Text 295) ≡ true
unfolding all_texts
u8_row = refl

abbrev cut : CapRefused
cut = record { fault = CutShort; place = 0 }

-- of `bel`, which is sound, `cr` and `u8` the fault of `cr` alone
abbrev bell : RowValue
bell = (OfCapability (StandardSubject kinds.Text 1), HasLimits 0 1)

abbrev carriage_return : RowValue
carriage_return = (OfCapability (StandardSubject kinds.Text 2), HasFault cut)

abbrev answer : RowValue
answer = (OfCapability (StandardSubject kinds.Text 295), HasFault cut)

faults_row : written Faults (bell ∷ carriage_return ∷ answer ∷ []) ≡ carriage_return ∷ []
unfolding all_texts
faults_row = refl

all_row : written All (bell ∷ carriage_return ∷ answer ∷ []) ≡ bell ∷ carriage_return ∷ answer ∷ []
all_row = refl
