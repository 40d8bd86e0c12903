-- What `get` makes of the value of a capability.
use Rattle.std.specs.Prelude.{◌≡◌, ◌≤◌, ◌<◌, ◌⊎◌, ℕ, suc, Bool, true, false, List, [], ◌∷◌, ◌++◌, codes, length, Option, Some, None, Result, Ok, Err, ℤ, neg_ℤ, pos}
use Rattle.ti_words.specs.Items.{FlagItem, ItemValue, NumberItem, TextItem}
use Rattle.std.specs.Fmt.{signed_decimal}
use Rattle.ti_base.specs.Limits.{most_padded_bytes}
use Rattle.ti_words.specs.declared.Flag.{Flag}
use Rattle.ti_words.specs.declared.Flag.TheVariants as flags
use Rattle.ti_words.specs.declared.Number.{Number}
use Rattle.ti_words.specs.declared.Number.TheVariants as numbers
use Rattle.ti_words.specs.Texts.{TextOf}
use Rattle.ti_words.specs.Value.{EntryValue}
use Rattle.ti_cap.specs.declared.language.CapRefused.{CapRefused}
use Rattle.ti_cap.specs.Refusal.{IsFaultless, IsRefusal}
use Rattle.ti_cap.specs.Sources.{IsTakenAsText}
use Rattle.ti_expand.specs.declared.values.Value.{Value}
use Rattle.ti_expand.specs.declared.values.Value.TheVariants as values
use Rattle.ti_pad.specs.Setting.{Setting}
use Rattle.ti_pad.specs.Padded.{padded_text}
use Rattle.ti_line.specs.declared.given.Given.{Given}
use Rattle.ti_line.specs.declared.given.Param.{Param}
use Rattle.ti_line.specs.declared.given.Param.TheVariants as params
use Rattle.ti_line.specs.declared.options.Output.{Output}
use Rattle.ti_line.specs.declared.request.Get.{Get}
use Rattle.ti_line.specs.Options.{output_bytes}
use Rattle.ti_tool.specs.Expansions.{IsPadded}
use Rattle.ti_tool.specs.ItemNames.{IsItemCalled}
use Rattle.ti_tool.specs.Unfit.{IsDueIfFit}
use Rattle.ti_tool.specs.declared.item_name.Names.TheVariants.{All}
use Rattle.ti_tool.specs.declared.fault.ToolFault.{ToolFault}
use Rattle.ti_tool.specs.declared.fault.ToolFault.TheVariants as fault

-- ---- parameters

-- a word with a mark is its value, and one that is no number a text; a number is a text if the capability takes this
-- parameter, counted from 1, as one on some path
abbrev pub IsTaken : List ℕ → ℕ → Param → Value → Type 0
IsTaken capability which (params.Value taken) value = value ≡ taken
IsTaken capability which (params.Word t) value = value ≡ values.Text t
IsTaken capability which (params.Either z t) value =
    (IsTakenAsText capability which × (value ≡ values.Text t))
    ⊎ ((¬ IsTakenAsText capability which) × (value ≡ values.Num z))

-- each parameter from one on is the value in its place
abbrev pub AreTakenFrom : List ℕ → ℕ → List Param → List Value → Type 0
AreTakenFrom capability which [] values = Unit {0}
AreTakenFrom capability which (param ∷ params) [] = ⊥
AreTakenFrom capability which (param ∷ params) (value ∷ values) =
    IsTaken capability which param value × AreTakenFrom capability (suc which) params values

-- the values of the parameters
abbrev pub AreTaken : List ℕ → List Param → List Value → Type 0
AreTaken capability params values =
    (length values ≡ length params) × AreTakenFrom capability 1 params values

-- ---- a text

-- a text that is padded as it stands, or why it is not
abbrev pub IsPaddedAlone : List ℕ → Setting → Output → Result (List ℕ) ToolFault → Type 0
IsPaddedAlone text setting output (Ok out) =
    (length (padded_text text setting) ≤ most_padded_bytes)
    × (out ≡ output_bytes output (padded_text text setting))
IsPaddedAlone text setting output (Err (fault.TooMuch need)) =
    (need ≡ length (padded_text text setting)) × (most_padded_bytes < need)
IsPaddedAlone text setting output (Err e) = ⊥

-- the refusal of a text, or what is due for it with the values of parameters
abbrev pub IsDueBy : List ℕ → Given → (List Value → Result (List ℕ) ToolFault → Type 0)
    → Result (List ℕ) ToolFault → Type 0
IsDueBy text given due answer =
    ((refused : CapRefused) × IsRefusal text refused × (answer ≡ Err (fault.Cap refused)))
    ⊎ (IsFaultless text
    × ((parameters : List Value) × AreTaken text given.params parameters × due parameters answer))

-- a text that is expanded and padded, or the first fault
abbrev pub IsExpandedBy : List ℕ → Given → Setting → Output → Result (List ℕ) ToolFault → Type 0
IsExpandedBy text given setting output =
    IsDueBy text given (λ parameters. IsPadded text parameters setting output)

-- with no parameters it is not expanded
abbrev pub IsTextResult : List ℕ → Option Given → Setting → Output → Result (List ℕ) ToolFault
    → Type 0
IsTextResult text None setting output = IsPaddedAlone text setting output
IsTextResult text (Some given) setting output = IsExpandedBy text given setting output

-- ---- a value

-- the terminal has what the flag says
abbrev pub is_set : Flag → Bool
is_set flags.Yes = true
is_set _ = false

-- a number, or -1 if the entry has none
abbrev pub number_or_none : Number → ℤ
number_or_none (numbers.Value n) = n
number_or_none _ = neg_ℤ (pos 1)

-- the line of a number
abbrev pub number_result : Number → List ℕ
number_result number = signed_decimal (number_or_none number) ++ codes "\n"

-- what is due for a value, and whether it is no flag that is not set
abbrev pub IsValueResult : Option ItemValue → Get → Bool → Result (List ℕ) ToolFault → Type 0
IsValueResult (Some (FlagItem flag)) g set answer = (set ≡ is_set flag) × (answer ≡ Ok [])
IsValueResult (Some (NumberItem number)) g set answer =
    (set ≡ true) × (answer ≡ Ok (number_result number))
IsValueResult (Some (TextItem (TextOf text))) g set answer =
    (set ≡ true) × IsTextResult text g.given g.padding g.output answer
IsValueResult (Some (TextItem text)) g set answer = (set ≡ true) × (answer ≡ Err fault.NoSuchText)
IsValueResult None g set answer = (set ≡ true) × (answer ≡ Err fault.NoSuchName)

-- what is due for the capability of an entry that the name means
abbrev pub IsGot : Get → Bool → EntryValue → Result (List ℕ) ToolFault → Type 0
IsGot g set v answer =
    (item : Option ItemValue) × IsItemCalled All g.name.now v item
    × IsDueIfFit g.name.now g.given item (IsValueResult item g set) answer
