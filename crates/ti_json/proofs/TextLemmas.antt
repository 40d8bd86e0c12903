-- Texts of which each character can be printed.
use Rattle.std.proofs.Common.{◌≡◌, ◌++◌, ◌∙◌, ◌/◌, ◌%◌, ◌<◌, ℕ, zero, suc, ℤ, pos, negsuc, Bool, true, false, List, [], ◌∷◌, None, cond, refl, arith}
use Rattle.std.specs.Prelude.{codes, decimal, nat_eq, slice_get, unwrap_or}
use Rattle.std.specs.List.{list_all}
use Rattle.std.specs.Fmt.{digit_glyph, digits, digits_onto, signed_decimal}
use Rattle.std.proofs.lemmas.Bool.{and_from, and_parts}
use Rattle.std.proofs.lemmas.Bool.Decides.{nat_tests}
use Rattle.std.proofs.lemmas.List.Folds.{list_all-append}
use Rattle.ti_cap.specs.declared.language.CapFault.{CapFault}
use Rattle.ti_cap.specs.declared.language.CapFault.TheVariants as cap_faults
use Rattle.ti_cap.specs.FaultNames.{cap_fault_word}
use Rattle.ti_words.specs.declared.Kind.{Kind}
use Rattle.ti_words.specs.declared.Kind.TheVariants as kinds
use Rattle.ti_words.specs.declared.Width.{Width}
use Rattle.ti_words.specs.Widths.{format_name}
use Rattle.ti_names.specs.declared.name_table.NameTable.{NameTable}
use Rattle.ti_names.specs.declared.name_table.NameTable.TheVariants as tables
use Rattle.ti_names.specs.AllNames.{has_index, listed, name_in}
use Rattle.ti_names.specs.NameLists.{all_flags, all_numbers, all_texts}
use Rattle.ti_escape.specs.Laws.{is_printable}
use Rattle.ti_json.specs.declared.row.ValueState.{ValueState}
use Rattle.ti_json.specs.declared.row.ValueState.TheVariants as states
use Rattle.ti_json.specs.Rows.{state_word}

abbrev pub IsText : List ℕ → Type 0
IsText text = list_all is_printable text ≡ true

pub both : (a b : List ℕ) → IsText a → IsText b → IsText (a ++ b)
both a b of_a of_b = list_all-append is_printable a b ∙ and_from (list_all is_printable a) (list_all is_printable b) of_a of_b

either : (x y : List ℕ) (b : Bool) → IsText x → IsText y → IsText (cond b x y)
either x y true of_x of_y = of_x
either x y false of_x of_y = of_y

-- ---- numbers

glyph : (n : ℕ) → is_printable (digit_glyph false (n % 10)) ≡ true
glyph n = let small : n % 10 < 10 = omega arith in small_glyph (n % 10) small
  where
    small_glyph : (d : ℕ) → d < 10 → is_printable (digit_glyph false d) ≡ true
    small_glyph d small = grind (arith, nat_tests)

onto : (k n : ℕ) (acc : List ℕ) → IsText acc → IsText (digits_onto k 10 false n acc)
onto zero n acc is = is
onto (suc k) n acc is =
    let more : IsText (digit_glyph false (n % 10) ∷ acc) = and_from (is_printable (digit_glyph false (n % 10))) (list_all is_printable acc) (glyph n) is in
    either (digit_glyph false (n % 10) ∷ acc) _ (nat_eq (n / 10) 0) more (onto k (n / 10) (digit_glyph false (n % 10) ∷ acc) more)

pub decimal_text : (n : ℕ) → IsText (decimal n)
unfolding digits
decimal_text n = onto 64 n [] refl

pub signed_text : (z : ℤ) → IsText (signed_decimal z)
signed_text (pos n) = decimal_text n
signed_text (negsuc n) = decimal_text (suc n)

-- ---- names

name_text : (names : List (List ℕ)) (index : ℕ) (has : Bool) → list_all (list_all is_printable) names ≡ true
    → (other : List ℕ) → IsText other → IsText (unwrap_or (cond has (slice_get names index) None) other)
name_text names index false all other is = is
name_text [] index true all other is = is
name_text (name ∷ names) zero true all other is = (and_parts (list_all is_printable name) (list_all (list_all is_printable) names) all).0
name_text (name ∷ names) (suc index) true all other is =
    name_text names index true (and_parts (list_all is_printable name) (list_all (list_all is_printable) names) all).1 other is

names_text : (table : NameTable) (kind : Kind) → list_all (list_all is_printable) (listed table kind) ≡ true
unfolding all_flags all_numbers all_texts
names_text tables.Common kinds.Flag = refl
names_text tables.Common kinds.Number = refl
names_text tables.Common kinds.Text = refl
names_text tables.All kinds.Flag = refl
names_text tables.All kinds.Number = refl
names_text tables.All kinds.Text = refl
names_text tables.Long kinds.Flag = refl
names_text tables.Long kinds.Number = refl
names_text tables.Long kinds.Text = refl

pub label_text : (table : NameTable) (kind : Kind) (index : ℕ) → IsText (unwrap_or (name_in table kind index) (codes "#" ++ decimal index))
label_text table kind index =
    name_text (listed table kind) index (has_index table kind index) (names_text table kind) (codes "#" ++ decimal index)
    (both (codes "#") (decimal index) refl (decimal_text index))

-- ---- words

pub fault_text : (fault : CapFault) → IsText (cap_fault_word fault)
fault_text cap_faults.TooLong = refl
fault_text cap_faults.CutShort = refl
fault_text cap_faults.UnknownEscape = refl
fault_text cap_faults.BadParameter = refl
fault_text cap_faults.BadVariable = refl
fault_text cap_faults.BadConstant = refl
fault_text cap_faults.BadFormat = refl
fault_text cap_faults.StrayThen = refl
fault_text cap_faults.StrayElse = refl
fault_text cap_faults.StrayEnd = refl
fault_text cap_faults.NoThen = refl
fault_text cap_faults.NestTooDeep = refl
fault_text cap_faults.StackTooDeep = refl

pub state_text : (state : ValueState) → IsText (state_word state)
state_text states.Absent = refl
state_text states.Cancelled = refl
state_text states.Missing = refl

pub format : (width : Width) → IsText (format_name width)
format width = grind arith
