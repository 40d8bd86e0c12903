-- What the words of a command line mean as parameters of a capability.
use Rattle.std.specs.Prelude.{◌≡◌, ℕ, ◌<◌, ◌≤◌, ◌-◌, List, [], ◌∷◌, ◌++◌, length, codes, ℤ, pos, neg_ℤ, FitsSigned, ◌⊎◌, Option, Some, None}
use Rattle.std.specs.List.{AllByRecursion}
use Rattle.std.specs.Int.{w32}
use Rattle.std.specs.Str.Parse.{IsNumeral, digits_value}
use Rattle.ti_expand.specs.declared.values.Value.{Value}
use Rattle.ti_expand.specs.declared.values.Value.TheVariants.{Num, Text}
use Rattle.ti_line.specs.declared.given.Given.{Given}
use Rattle.ti_line.specs.declared.given.Param.{Param}
use Rattle.ti_line.specs.declared.given.Param.TheVariants as params
use Rattle.ti_line.specs.declared.params.WordFault.{WordFault}
use Rattle.ti_line.specs.declared.params.WordFault.TheVariants as faults

-- decimal digits, one or more, with a `-` before them or none, that stand for a number of 32 bits
abbrev pub IsNumber : List ℕ → ℤ → Type 0
IsNumber text z =
    FitsSigned w32 z
    × ((IsNumeral 10 text × (z ≡ pos (digits_value 10 text)))
    ⊎ ((digits : List ℕ) × (text ≡ codes "-" ++ digits) × IsNumeral 10 digits
    × (z ≡ neg_ℤ (pos (digits_value 10 digits)))))

-- `n:` and a number, or `s:` and the text itself
abbrev pub IsParam : List ℕ → Value → Type 0
IsParam word (Num z) = (text : List ℕ) × (word ≡ codes "n:" ++ text) × IsNumber text z
IsParam word (Text t) = word ≡ codes "s:" ++ t.now

-- each word means the value in its place, and after the words each value is the missing one
abbrev pub Stand : {V : Type 0} → (List ℕ → V → Type 0) → V → List (List ℕ) → List V → Type 0
Stand Means missing [] values = AllByRecursion (λ value. value ≡ missing) values
Stand Means missing (word ∷ words) [] = ⊥
Stand Means missing (word ∷ words) (value ∷ values) =
    Means word value × Stand Means missing words values

-- the words mean nine values, of which those without a word are the missing one
abbrev pub AreNine : {V : Type 0} → (List ℕ → V → Type 0) → V → List (List ℕ) → List V → Type 0
AreNine Means missing words values = (length values ≡ 9) × Stand Means missing words values

-- the words stand for nine parameters, of which the missing ones are 0
abbrev pub AreParams : List (List ℕ) → List Value → Type 0
AreParams = AreNine IsParam (Num (pos 0))

-- the word in this place, from 1 on, means nothing, and each before it means something
abbrev pub IsFirstBad : {V : Type 0} → (List ℕ → V → Type 0) → ℕ → List (List ℕ) → Type 0
IsFirstBad Means which [] = ⊥
IsFirstBad {V} Means which (word ∷ words) =
    ((which ≡ 1) × ((value : V) → ¬ Means word value))
    ⊎ ((1 < which) × ((value : V) × Means word value) × IsFirstBad Means (which - 1) words)

-- why words mean no parameters
abbrev pub IsWordFault : {V : Type 0} → (List ℕ → V → Type 0) → List (List ℕ) → WordFault → Type 0
IsWordFault Means words faults.TooMany = 9 < length words
IsWordFault Means words (faults.BadWord which) = (length words ≤ 9) × IsFirstBad Means which words

-- ---- the words of `get`

-- `n:` or `s:` stands before a text
abbrev pub IsMarked : List ℕ → Type 0
IsMarked word = (text : List ℕ) × ((word ≡ codes "n:" ++ text) ⊎ (word ≡ codes "s:" ++ text))

-- a mark makes a word a number or a text; without one a number of 32 bits may be either, and any other
-- word is a text
abbrev pub IsGiven : List ℕ → Param → Type 0
IsGiven word (params.Value value) = IsParam word value
IsGiven word (params.Either z t) = (¬ IsMarked word) × IsNumber word z × (t.now ≡ word)
IsGiven word (params.Word t) = (¬ IsMarked word) × ((z : ℤ) → ¬ IsNumber word z) × (t.now ≡ word)

-- the words give nine parameters, of which the missing ones are 0
abbrev pub AreGiven : List (List ℕ) → List Param → Type 0
AreGiven = AreNine IsGiven (params.Value (Num (pos 0)))

-- the parameters of `get`: none if there are no words
abbrev pub IsGivenBy : List (List ℕ) → Option Given → Type 0
IsGivenBy [] given = given ≡ None
IsGivenBy (word ∷ words) given =
    (g : Given) × (given ≡ Some g) × AreGiven (word ∷ words) g.params
