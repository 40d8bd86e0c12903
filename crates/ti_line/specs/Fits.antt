-- Whether parameters fit the capability that terminfo(5), or another manual, names.
use Rattle.std.specs.Prelude.{◌≡◌, ◌<◌, ◌≤◌, ◌⊎◌, ◌||◌, ℕ, suc, Bool, true, false, List, [], ◌∷◌, Option, Some, None, codes, if◌then◌else◌, length, slice_get, take}
use Rattle.std.specs.List.{list_any}
use Rattle.std.specs.Option.{option_map_or, option_or}
use Rattle.std.specs.Str.{bytes_eq}
use Rattle.ti_words.specs.declared.Kind.TheVariants as kinds
use Rattle.ti_names.specs.AllNames.{Place, name_in, place_in}
use Rattle.ti_names.specs.NameLists.{class_at}
use Rattle.ti_names.specs.declared.class.Class.{Class}
use Rattle.ti_names.specs.declared.class.Class.TheVariants.{Parameterized}
use Rattle.ti_names.specs.declared.name_table.NameTable.TheVariants as tables
use Rattle.ti_lint.specs.ExtendedClasses.{extended_class}
use Rattle.ti_lint.specs.TextParameters.{text_parameters}
use Rattle.ti_line.specs.Params.{IsGivenBy}
use Rattle.ti_line.specs.TextLabels.{IsTextLabel}
use Rattle.ti_line.specs.declared.fit.Takes.{Takes}
use Rattle.ti_line.specs.declared.fit.Takes.TheVariants.{Anything, Counted, Numbers}
use Rattle.ti_line.specs.declared.given.Given.{Given}
use Rattle.ti_line.specs.declared.given.Param.{Param}
use Rattle.ti_line.specs.declared.given.Param.TheVariants as params
use Rattle.ti_line.specs.declared.no_request.LineFault.{LineFault}
use Rattle.ti_line.specs.declared.no_request.LineFault.TheVariants as fault

-- a text takes as many parameters as terminfo(5) gives it; one that it gives none takes any numbers, as tput has it
abbrev pub taken_by : ℕ → Class → Takes
taken_by text (Parameterized count) = Counted text count
taken_by text _ = Numbers

abbrev pub taken_at : ℕ → Takes
taken_at text = option_map_or (taken_by text) (class_at text) Anything

-- a flag and a number take numbers too
abbrev pub taken_in : Place → Takes
taken_in (kinds.Text, text) = taken_at text
taken_in _ = Numbers

-- a text of an entry's own takes numbers if it has a class and no parameter that is a text
abbrev pub has_text_parameters : List ℕ → Bool
has_text_parameters name =
    (text_parameters name).first || (text_parameters name).second || (text_parameters name).third

abbrev pub taken_by_own : List ℕ → Takes
taken_by_own name =
    option_map_or (λ class. if has_text_parameters name then Anything else Numbers) (extended_class name) Anything

-- by a short or long name, or by the name of an entry's own
abbrev pub taken_by_name : List ℕ → Takes
taken_by_name name =
    option_map_or taken_in (option_or (place_in tables.All name) (place_in tables.Long name)) (taken_by_own name)

-- what the capability that a name means takes: the text of its label, such as `#10` or `text#10`, or else the one with the name
abbrev pub IsTaking : List ℕ → Takes → Type 0
IsTaking name takes =
    ((index : ℕ) × IsTextLabel name index × (takes ≡ taken_at index))
    ⊎ (((index : ℕ) → ¬ IsTextLabel name index) × (takes ≡ taken_by_name name))

-- of a function key and of its label terminfo(5) has a number as the first parameter and texts after it; of any other
-- capability numbers
abbrev pub takes_texts : ℕ → Bool
takes_texts text =
    option_map_or
    (λ name. list_any (bytes_eq name) (codes "pfkey" ∷ codes "pfloc" ∷ codes "pfx" ∷ codes "pln" ∷ codes "pfxl" ∷ []))
    (name_in tables.All kinds.Text text) false

-- those of the parameters that are numbers
abbrev pub numbers_among : ℕ → List Param → List Param
numbers_among text params = if takes_texts text then take 1 params else params

-- a word without a mark that is no number of 32 bits
abbrev pub is_word : Param → Bool
is_word (params.Word t) = true
is_word _ = false

-- the place of the first of them, counted from `place` on
abbrev pub first_word_from : ℕ → List Param → Option ℕ
first_word_from place [] = None
first_word_from place (param ∷ params) = if is_word param then Some place else first_word_from (suc place) params

abbrev pub first_word : List Param → Option ℕ
first_word = first_word_from 1

-- so many words, of which these are the parameters, fit what is taken: they are not more than terminfo(5) gives, and none of
-- those that are numbers is another word
abbrev pub FitsIn : Takes → ℕ → List Param → Type 0
FitsIn (Counted text count) words params = (words ≤ count) × (first_word (numbers_among text params) ≡ None)
FitsIn Numbers words params = first_word params ≡ None
FitsIn Anything words params = Unit {0}

-- they fit the capability with a name
abbrev pub Fit : List ℕ → ℕ → List Param → Type 0
Fit name words params = (takes : Takes) × IsTaking name takes × FitsIn takes words params

-- why they do not
abbrev pub IsMisfit : List ℕ → ℕ → List Param → LineFault → Type 0
IsMisfit name words params (fault.Surplus text takes given is_named) =
    IsTaking name (Counted text takes) × (takes < words) × (given ≡ words)
    × (is_named ≡ option_map_or is_word (slice_get params takes) false)
IsMisfit name words params (fault.NoNumber text which) =
    (takes : ℕ) × IsTaking name (Counted text takes) × (words ≤ takes)
    × (first_word (numbers_among text params) ≡ Some which)
IsMisfit name words params (fault.OnlyNumbers which) =
    IsTaking name Numbers × (first_word params ≡ Some which)
IsMisfit name words params why = ⊥

-- what words give the capability with a name, which it fits
abbrev pub IsGivenTo : List ℕ → List (List ℕ) → Option Given → Type 0
IsGivenTo name words None = IsGivenBy words None
IsGivenTo name words (Some g) = IsGivenBy words (Some g) × Fit name (length words) g.params

-- why they give nothing that fits
abbrev pub HasMisfit : List ℕ → List (List ℕ) → LineFault → Type 0
HasMisfit name words why = (g : Given) × IsGivenBy words (Some g) × IsMisfit name (length words) g.params why
