-- Divisions at which programs end by SIGFPE that expand a string by another library: by 0, and of the least number by -1.
use Rattle.std.specs.Prelude.{◌≡◌, ◌==◌, ◌&&◌, ◌||◌, ◌⊎◌, ◌+ℤ◌, ℕ, ℤ, pos, Bool, true, false, not, List, [], ◌∷◌, ◌++◌, Option, Some, None, if◌then◌else◌, codes, length, map}
use Rattle.std.specs.List.{list_any}
use Rattle.std.specs.Str.{bytes_eq}
use Rattle.ti_cap.specs.Capability.{Spot, Takes}
use Rattle.ti_cap.specs.Refusal.{IsFaultless, IsRefusal}
use Rattle.ti_cap.specs.declared.language.CapRefused.{CapRefused}
use Rattle.ti_cap.specs.declared.language.Op.{Op}
use Rattle.ti_cap.specs.declared.language.Op.TheVariants.{Div, Rem, Not, BitNot}
use Rattle.ti_cap.specs.declared.language.Token.{Token}
use Rattle.ti_cap.specs.declared.language.Token.TheVariants.{Compute, Constant, Param}
use Rattle.ti_expand.specs.Effect.{combine, complement, flag_number, is_zero}
use Rattle.ti_control.specs.Capabilities.{is_sent}
use Rattle.ti_names.specs.declared.class.Class.{Class}
use Rattle.ti_names.specs.declared.class.Class.TheVariants as classes
use Rattle.ti_words.specs.Value.{EntryValue}
use Rattle.ti_rules.specs.Controls.{bytes_of_known, bytes_of_unknown, looked_at}
use Rattle.ti_rules.specs.Lines.{AreAll, InTurn}
use Rattle.ti_rules.specs.Subjects.{KnownText, UnknownText, known_texts, unknown_texts}
use Rattle.ti_rules.specs.Values.{number_named}
use Rattle.ti_rules.specs.Remarks.{Last, NoEvidence, Remark, TextRemark, placed, with_name}
use Rattle.ti_rules.specs.declared.finding.Finding.TheVariants.{DividesByParameter, DividesByZero, DividesLeast}
use Rattle.ti_values.specs.Ranges.{values}
use Rattle.ti_values.specs.Screens.{tried_texts}
use Rattle.ti_values.specs.declared.range.Range.{Range}
use Rattle.ti_values.specs.declared.tried.Tried.{Tried}
use Rattle.ti_values.specs.declared.tried.Tried.TheVariants.{Attributes, Number, Two}

-- ---- what is known before a token

-- the numbers on top of the stack that constants and operations alone left there, the top first, and the parameter that the token
-- right before pushed
pub record Before : Type 0 where
  pub numbers : List ℤ
  pub parameter : Option ℕ

abbrev pub knows : List ℤ → Before
knows numbers = record { numbers = numbers; parameter = None }

abbrev pub knows_nothing : Before
knows_nothing = knows []

-- an operation leaves one number of those that it takes; if one of them is not known, nothing is
abbrev pub negated : List ℤ → List ℤ
negated [] = []
negated (top ∷ numbers) = flag_number (is_zero top) ∷ numbers

abbrev pub complemented : List ℤ → List ℤ
complemented [] = []
complemented (top ∷ numbers) = complement top ∷ numbers

unfoldable pub result_of : Op → (left right : ℤ) → ℤ
result_of op left right = combine op left right

abbrev pub with_right : Op → ℤ → List ℤ → List ℤ
with_right op right [] = []
with_right op right (left ∷ numbers) = result_of op left right ∷ numbers

abbrev pub combined : Op → List ℤ → List ℤ
combined op [] = []
combined op (right ∷ numbers) = with_right op right numbers

abbrev pub computed : Op → List ℤ → List ℤ
computed Not numbers = negated numbers
computed BitNot numbers = complemented numbers
computed op numbers = combined op numbers

abbrev pub after : Before → Token → Before
after before (Constant n) = knows (n ∷ before.numbers)
after before (Compute op) = knows (computed op before.numbers)
after before (Param which) = record { numbers = []; parameter = Some which }
after before token = knows_nothing

-- ---- a division

abbrev pub divides : Token → Bool
divides (Compute Div) = true
divides (Compute Rem) = true
divides token = false

abbrev pub is_minus_one : ℤ → Bool
is_minus_one n = is_zero (n +ℤ pos 1)

-- the least number of 32 bits
abbrev pub is_least : ℤ → Bool
is_least n = is_zero (n +ℤ pos 2147483648)

abbrev pub least_is_top : List ℤ → Bool
least_is_top [] = false
least_is_top (top ∷ numbers) = is_least top

-- by numbers that are known
abbrev pub on_numbers : List ℤ → ℕ → List TextRemark
on_numbers [] place = []
on_numbers (divisor ∷ numbers) place =
    if is_zero divisor then placed (place ∷ []) DividesByZero NoEvidence
    else if is_minus_one divisor && least_is_top numbers then placed (place ∷ []) DividesLeast NoEvidence else []

-- a parameter is 0 for the values of a try; so are all nine attributes of the empty set
abbrev pub is_zero_for : ℕ → Tried → Bool
is_zero_for which (Number first) = not (which == 1) || first == 0
is_zero_for which (Two first second) = if which == 1 then first == 0 else not (which == 2) || second == 0
is_zero_for which (Attributes set) = set == 0

-- for some values over which the text is tried
abbrev pub may_be_zero : Option Range → ℕ → Bool
may_be_zero None which = false
may_be_zero (Some range) which = list_any (is_zero_for which) (values range)

abbrev pub on_parameter : Option Range → ℕ → ℕ → List TextRemark
on_parameter range which place = if may_be_zero range which then placed (place ∷ []) DividesByParameter (Last which) else []

abbrev pub on_division : Option Range → Before → Option ℕ → ℕ → List TextRemark
on_division range before (Some which) place = on_parameter range which place
on_division range before None place = on_numbers before.numbers place

abbrev pub on_token : Option Range → Before → Token → ℕ → List TextRemark
on_token range before token place = if divides token then on_division range before before.parameter place else []

-- ---- a text

-- the tokens write the bytes that are left, and the remarks are on these tokens
abbrev pub AreCrashesFrom : Option Range → Spot → Before → List Token → List TextRemark → Type 0
AreCrashesFrom range spot before [] remarks = (spot.left ≡ []) × (remarks ≡ [])
AreCrashesFrom range spot before (token ∷ rest) remarks =
    (next : Spot) × (more : List TextRemark) × Takes token spot next × AreCrashesFrom range next (after before token) rest more
    × (remarks ≡ on_token range before token (length spot.taken) ++ more)

abbrev pub AreCrashes : Option Range → List ℕ → List TextRemark → Type 0
AreCrashes range text remarks =
    (all : List Token) × AreCrashesFrom range (record { taken = []; left = text }) knows_nothing all remarks

-- under its name
abbrev pub AreCrashesOf : Option Range → List ℕ → List ℕ → List Remark → Type 0
AreCrashesOf range name text remarks =
    (found : List TextRemark) × AreCrashes range text found × (remarks ≡ map (with_name name text) found)

-- ---- all texts

abbrev pub range_in : List (List ℕ × Range) → List ℕ → Option Range
range_in [] name = None
range_in ((known, range) ∷ rest) name = if bytes_eq known name then Some range else range_in rest name

-- a text that is no capability is not expanded
abbrev pub AreDivisionsIf : Option Range → List ℕ → List ℕ → List Remark → Type 0
AreDivisionsIf range name text remarks =
    ((refused : CapRefused) × IsRefusal text refused × (remarks ≡ [])) ⊎ (IsFaultless text × AreCrashesOf range name text remarks)

-- of a class, if it is sent
abbrev pub AreDivisionsIn : Bool → List (List ℕ × Range) → Class → List ℕ → List ℕ → List Remark → Type 0
AreDivisionsIn true rows (classes.Parameterized parameters) name text = AreDivisionsIf (range_in rows name) name text
AreDivisionsIn sent rows class name text = λ remarks. remarks ≡ []

abbrev pub AreDivisionsOf : List (List ℕ × Range) → KnownText → List Remark → Type 0
AreDivisionsOf rows t = AreDivisionsIn (is_sent t.name) rows t.class t.name t.text

abbrev pub AreUnknownDivisions : UnknownText → List Remark → Type 0
AreUnknownDivisions u = AreDivisionsIf None u.name u.text

abbrev pub rows_of : EntryValue → List (List ℕ × Range)
rows_of v = tried_texts (number_named v (codes "lines")) (number_named v (codes "cols")) (number_named v (codes "colors"))

abbrev pub AreDivisionRemarks : EntryValue → List Remark → Type 0
AreDivisionRemarks v =
    InTurn (AreAll (AreDivisionsOf (rows_of v)) (looked_at bytes_of_known (known_texts v)))
    (AreAll AreUnknownDivisions (looked_at bytes_of_unknown (unknown_texts v)))
