-- What is known of the values on top of a stack and in variables, and what a token makes of it.
use Rattle.std.specs.Prelude.{◌≡◌, ◌==◌, ◌||◌, ℕ, Bool, List, ℤ, Option, Some, None, true, if◌then◌else◌}
use Rattle.ti_cap.specs.declared.language.Op.{Op}
use Rattle.ti_cap.specs.declared.language.Op.TheVariants.{Not, BitNot}
use Rattle.ti_cap.specs.declared.language.Token.{Token}
use Rattle.ti_cap.specs.declared.language.Token.TheVariants.{Param, Constant, Store, Load, Length, Compute, Increment, Char, Print, CondThen}
use Rattle.ti_expand.specs.Effect.{char_byte, combine, complement, flag_number, is_zero}
use Rattle.ti_expand.specs.State.{State, number_on, variable_at, variable_index, without_top}
use Rattle.ti_expand.specs.declared.values.Value.{Value}
use Rattle.ti_parser.specs.Characters.{is_between}
use Rattle.ti_parser.specs.Given.{first_byte, may_be}
use Rattle.ti_parser.specs.declared.names.Names.{Names}
use Rattle.ti_parser.specs.declared.names.Stored.{Stored}
use Rattle.ti_parser.specs.declared.reading.FirstCharacter.{FirstCharacter}
use Rattle.ti_parser.specs.declared.reading.FirstCharacter.TheVariants.{Any}
use Rattle.ti_parser.specs.declared.tops.Top.{Top}
use Rattle.ti_parser.specs.declared.tops.Top.TheVariants.{Number, Printed}
use Rattle.ti_parser.specs.declared.tops.Tops.{Tops}

-- the number on top, or the byte that `%c` prints of it
abbrev pub IsTop : Top → List Value → Type 0
IsTop (Number n) stack = number_on stack ≡ n
IsTop (Printed character) stack = may_be character (char_byte (number_on stack)) ≡ true

-- nothing is known
abbrev pub unknown : Top
unknown = Printed Any

-- what is known of each place is so of what a pop there gives
pub record AreOnTop (tops : Tops) (stack : List Value) : Type 0 where
  pub first : IsTop tops.first stack
  pub second : IsTop tops.second (without_top stack)
  pub third : IsTop tops.third (without_top (without_top stack))
  pub fourth : IsTop tops.fourth (without_top (without_top (without_top stack)))

-- ---- variables

-- a variable has the number
abbrev pub IsStored : Option Stored → List ℤ → Type 0
IsStored None variables = Unit {0}
IsStored (Some s) variables = variable_at variables (variable_index s.letter) ≡ s.number

pub record AreStored (names : Names) (variables : List ℤ) : Type 0 where
  pub first : IsStored names.first variables
  pub second : IsStored names.second variables
  pub third : IsStored names.third variables
  pub fourth : IsStored names.fourth variables

abbrev pub known : Option ℤ → Top
known None = unknown
known (Some n) = Number n

abbrev pub number_of : Top → Option ℤ
number_of (Number n) = Some n
number_of (Printed character) = None

abbrev pub no_names : Names
no_names = record { first = None; second = None; third = None; fourth = None }

-- the number of a variable, if this is it
abbrev pub number_at : Option Stored → ℕ → Option ℤ → Option ℤ
number_at None letter otherwise = otherwise
number_at (Some s) letter otherwise = if s.letter == letter then Some s.number else otherwise

abbrev pub number_in : Names → ℕ → Option ℤ
number_in n letter = number_at n.first letter (number_at n.second letter (number_at n.third letter (number_at n.fourth letter None)))

-- what is known of other variables
abbrev pub other_than : ℕ → Option Stored → Option Stored
other_than letter None = None
other_than letter (Some s) = if s.letter == letter then None else Some s

abbrev pub is_variable : ℕ → Bool
is_variable byte = is_between 97 122 byte || is_between 65 90 byte

abbrev pub stored_as : ℕ → Option ℤ → Option Stored
stored_as letter None = None
stored_as letter (Some n) = if is_variable letter then Some (record { letter = letter; number = n }) else None

-- a variable that was stored comes first, and the fourth of the others is forgotten
abbrev pub stored : ℕ → Option ℤ → Names → Names
stored letter value n = record {
  first = stored_as letter value;
  second = other_than letter n.first;
  third = other_than letter n.second;
  fourth = other_than letter n.third;
}

-- ---- all of it

-- what is known of a state
pub record AreTops (tops : Tops) (s : State) : Type 0 where
  pub stack : AreOnTop tops s.stack
  pub variables : AreStored tops.names s.variables
  pub parameter : may_be tops.parameter (first_byte s.parameters) ≡ true

-- before any token only the first parameter is known
abbrev pub tops_at_start : FirstCharacter → Tops
tops_at_start character =
    record { first = unknown; second = unknown; third = unknown; fourth = unknown; names = no_names; parameter = character }

abbrev pub no_tops : Tops
no_tops = tops_at_start Any

abbrev pub popped : Tops → Tops
popped t = record { first = t.second; second = t.third; third = t.fourth; fourth = unknown; names = t.names; parameter = t.parameter }

abbrev pub pushed : Top → Tops → Tops
pushed value t = record { first = value; second = t.first; third = t.second; fourth = t.third; names = t.names; parameter = t.parameter }

abbrev pub negated : Top → Top
negated (Number n) = Number (flag_number (is_zero n))
negated value = unknown

abbrev pub turned : Top → Top
turned (Number n) = Number (complement n)
turned value = unknown

abbrev pub combined : Op → Top → Top → Top
combined op (Number left) (Number right) = Number (combine op left right)
combined op left right = unknown

-- only the first parameter is known
abbrev pub parameter_top : ℕ → FirstCharacter → Top
parameter_top which character = if which == 1 then Printed character else unknown

abbrev pub computed : Op → Tops → Tops
computed Not t = pushed (negated t.first) (popped t)
computed BitNot t = pushed (turned t.first) (popped t)
computed op t = pushed (combined op t.second t.first) (popped (popped t))

abbrev pub tops_after : Token → Tops → Tops
tops_after (Constant n) t = pushed (Number n) t
tops_after (Param which) t = pushed (parameter_top which t.parameter) t
tops_after (Load variable) t = pushed (known (number_in t.names variable)) t
tops_after (Store variable) t = record (popped t) { names = stored variable (number_of t.first) t.names }
tops_after Length t = pushed unknown (popped t)
tops_after (Compute op) t = computed op t
-- `%i` adds 1 to the first parameter, so it is no longer what was given
tops_after Increment t = record t { parameter = Any }
tops_after Char t = popped t
tops_after (Print format) t = popped t
tops_after CondThen t = popped t
tops_after token t = t
