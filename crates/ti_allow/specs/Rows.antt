-- What a row of a table of functions holds.
use Rattle.std.specs.Borrow.{Bor}
use Rattle.std.specs.Str.{bytes_eq}
use Rattle.std.specs.Prelude.{map, ℕ, ◌==◌, ◌&&◌, ◌||◌, not, Bool, true, false, List, [], ◌∷◌, nat_le, Option, Some, None}
use Rattle.std.specs.List.{list_all, list_any}
use Rattle.ti_allow.specs.Names.{names_of}
use Rattle.ti_allow.specs.declared.row.Asking.{Asking}
use Rattle.ti_allow.specs.declared.row.Asking.TheVariants.{Either, Never, Always}
use Rattle.ti_allow.specs.declared.row.Head.{Head}
use Rattle.ti_allow.specs.declared.row.Head.TheVariants.{Any as AnyHead, Begins, Exactly}
use Rattle.ti_allow.specs.declared.row.Numbers.{Numbers}
use Rattle.ti_allow.specs.declared.row.Numbers.TheVariants.{Without, Listed, Some as SomeOf, Mode}
use Rattle.ti_allow.specs.declared.row.Row.{Row}
use Rattle.ti_allow.specs.declared.row.Span.{Span}
use Rattle.ti_allow.specs.declared.standing.Standing.{Standing}
use Rattle.ti_allow.specs.declared.standing.Standing.TheVariants.{Everywhere}
use Rattle.ti_allow.specs.declared.row.Values.{Values}
use Rattle.ti_allow.specs.declared.row.Values.TheVariants.{Free, In, Never as NoValue}
use Rattle.ti_parser.specs.declared.function.Function.{Function}
use Rattle.ti_parser.specs.declared.function.FunctionKind.{FunctionKind}
use Rattle.ti_parser.specs.declared.function.FunctionKind.TheVariants.{Control, Escape, Sequence, Device, System, Start, Privacy, Application, Title}
use Rattle.ti_parser.specs.declared.function.Intermediates.{Intermediates}
use Rattle.ti_parser.specs.declared.function.Intermediates.TheVariants.{Empty, Single, Pair, Many}
use Rattle.ti_parser.specs.declared.number.FunctionNumber.{FunctionNumber}
use Rattle.ti_parser.specs.declared.number.FunctionNumber.TheVariants.{Absent, Known, Large, Any}

-- ---- numbers

abbrev pub is_within : ℕ → Span → Bool
is_within value span = nat_le span.0 value && nat_le value span.1

-- a number that is left out is 0; of one that is large, or not known, no span says that it may come
abbrev pub is_number_in : Span → FunctionNumber → Bool
is_number_in span Absent = is_within 0 span
is_number_in span (Known value) = is_within value span
is_number_in span Large = false
is_number_in span Any = false

abbrev pub has_value : Values → FunctionNumber → Bool
has_value Free number = true
has_value (In span) number = is_number_in span number
has_value NoValue number = false

abbrev pub are_listed : Values → Values → List FunctionNumber → Bool
are_listed first others [] = has_value first Absent
are_listed first others (number ∷ rest) = has_value first number && list_all (has_value others) rest

-- more numbers than are kept: nothing is known of these
abbrev pub is_free : Values → Bool
is_free Free = true
is_free values = false

abbrev pub is_empty : List FunctionNumber → Bool
is_empty [] = true
is_empty numbers = false

abbrev pub has_numbers : Numbers → Function → Bool
has_numbers Without function = is_empty function.numbers
has_numbers (SomeOf span) function = list_any (is_number_in span) function.numbers
has_numbers (Listed first others) function =
    are_listed first others function.numbers && (is_free others || not function.is_overfull)
has_numbers (Mode span) function = false

-- ---- the other parts of a function

abbrev pub is_first : ℕ → Intermediates → Bool
is_first byte Empty = false
is_first byte (Single one) = one == byte
is_first byte (Pair one two) = one == byte
is_first byte Many = false

abbrev pub is_kind : FunctionKind → FunctionKind → Bool
is_kind Control Control = true
is_kind Escape Escape = true
is_kind Sequence Sequence = true
is_kind Device Device = true
is_kind System System = true
is_kind Start Start = true
is_kind Privacy Privacy = true
is_kind Application Application = true
is_kind Title Title = true
is_kind one other = false

abbrev pub is_byte : Option ℕ → Option ℕ → Bool
is_byte None None = true
is_byte (Some one) (Some other) = one == other
is_byte one other = false

abbrev pub are_bytes : Intermediates → Intermediates → Bool
are_bytes Empty Empty = true
are_bytes (Single one) (Single other) = one == other
are_bytes (Pair one two) (Pair other next) = one == other && two == next
are_bytes Many Many = true
are_bytes one other = false

abbrev pub has_head : Head → Function → Bool
has_head AnyHead function = true
has_head (Begins byte) function = is_first byte function.intermediates
has_head (Exactly marker intermediates letter) function =
    is_byte marker function.marker && are_bytes intermediates function.intermediates && is_byte letter function.letter

-- a `?` in the body of a string makes it a request
abbrev pub asks_so : Asking → Bool → Bool
asks_so Either asks = true
asks_so Never asks = not asks
asks_so Always asks = asks

-- ---- where it may stand

-- texts that are lent
abbrev pub texts_of : List (Bor (List ℕ)) → List (List ℕ)
texts_of = map (λ text. text.now)

abbrev pub is_one_of : List (List ℕ) → List ℕ → Bool
is_one_of names name = list_any (λ known. bytes_eq known name) names

abbrev pub stands : Standing → List ℕ → Bool
stands Everywhere name = true
stands standing name = is_one_of (names_of standing) name

-- ---- rows

-- the row has the function, but for its numbers and where it stands
abbrev pub is_of : Row → Function → Bool
is_of row function = is_kind row.kind function.kind && has_head row.head function && asks_so row.asking function.asks

abbrev pub admits : List ℕ → Function → Row → Bool
admits name function row = is_of row function && stands row.standing name && has_numbers row.numbers function

-- a mode by itself
abbrev pub has_mode : Numbers → FunctionNumber → Bool
has_mode (Mode span) mode = is_number_in span mode
has_mode numbers mode = false

abbrev pub admits_mode : List ℕ → Function → FunctionNumber → Row → Bool
admits_mode name function mode row = is_of row function && stands row.standing name && has_mode row.numbers mode

-- each mode of the function is that of some row
abbrev pub are_modes : List Row → List ℕ → Function → List FunctionNumber → Bool
are_modes rows name function modes =
    not (is_empty modes) && list_all (λ mode. list_any (admits_mode name function mode) rows) modes

-- one row allows the function, or several allow its modes
unfoldable pub is_allowed : List Row → List ℕ → Function → Bool
is_allowed rows name function =
    list_any (admits name function) rows || (not function.is_overfull && are_modes rows name function function.numbers)
