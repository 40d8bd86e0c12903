-- The words that do not fit the capability of a name that no table has.
use Rattle.std.specs.Prelude.{◌≡◌, ◌⊎◌, ◌&&◌, ℕ, Bool, true, not, List, Option, Some, None, Result, Err, is_some}
use Rattle.ti_cap.specs.Refusal.{IsFaultless}
use Rattle.ti_cap.specs.Sources.{IsTakenAsText}
use Rattle.ti_entry.specs.Finding.{standard_place}
use Rattle.ti_line.specs.Fits.{first_word}
use Rattle.ti_line.specs.declared.given.Given.{Given}
use Rattle.ti_lint.specs.ExtendedClasses.{extended_class}
use Rattle.ti_tool.specs.declared.fault.ToolFault.{ToolFault}
use Rattle.ti_tool.specs.declared.fault.ToolFault.TheVariants as fault
use Rattle.ti_words.specs.Items.{FlagItem, ItemValue, NumberItem, TextItem}
use Rattle.ti_words.specs.Texts.{TextOf}

-- no table has a name: it is neither a short nor a long name of terminfo(5), and no manual says what class it has
abbrev pub is_unknown : List ℕ → Bool
is_unknown name = not (is_some (standard_place name)) && not (is_some (extended_class name))

-- what takes numbers alone: a flag, a number, and a text that takes no parameter as a text on any path
abbrev pub TakesNumbers : Option ItemValue → Type 0
TakesNumbers (Some (FlagItem flag)) = Unit {0}
TakesNumbers (Some (NumberItem number)) = Unit {0}
TakesNumbers (Some (TextItem (TextOf text))) = IsFaultless text × ((which : ℕ) → ¬ IsTakenAsText text which)
TakesNumbers _ = ⊥

-- the place of the first word without a mark that is no number of 32 bits, counted from 1
abbrev pub word_given : Option Given → Option ℕ
word_given None = None
word_given (Some given) = first_word given.params

-- the word at this place does not fit the value that a name means
abbrev pub IsUnfit : List ℕ → Option Given → Option ItemValue → ℕ → Type 0
IsUnfit name given item which =
    (is_unknown name ≡ true) × TakesNumbers item × (word_given given ≡ Some which)

-- what is due for a value that the words fit, or that one does not
abbrev pub IsDueIfFit : List ℕ → Option Given → Option ItemValue → (Result (List ℕ) ToolFault → Type 0)
    → Result (List ℕ) ToolFault → Type 0
IsDueIfFit name given item due answer =
    ((which : ℕ) × IsUnfit name given item which × (answer ≡ Err (fault.OnlyNumbers which)))
    ⊎ (((which : ℕ) → ¬ IsUnfit name given item which) × due answer)
