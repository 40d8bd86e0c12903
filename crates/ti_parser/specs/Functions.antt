-- What the parser hands out.
use Rattle.std.specs.Prelude.{ℕ, ◌==◌, ◌++◌, true, false, List, [], ◌∷◌, length, nat_lt, Option, Some, None, if◌then◌else◌}
use Rattle.ti_parser.specs.Numbers.{most_numbers}
use Rattle.ti_parser.specs.declared.function.Function.{Function}
use Rattle.ti_parser.specs.declared.function.Intermediates.{Intermediates}
use Rattle.ti_parser.specs.declared.function.Intermediates.TheVariants.{Empty, Single, Pair, Many}
use Rattle.ti_parser.specs.declared.function.FunctionKind.TheVariants.{Control, Escape}
use Rattle.ti_parser.specs.declared.function.HandedOut.{HandedOut}
use Rattle.ti_parser.specs.declared.number.FunctionNumber.{FunctionNumber}
use Rattle.ti_parser.specs.declared.number.FunctionNumber.TheVariants.{Absent, Known, Large, Any}

-- a function of which nothing has come
abbrev pub blank : Function
blank = record {
  kind = Control;
  marker = None;
  intermediates = Empty;
  numbers = [];
  letter = None;
  asks = false;
  is_overfull = false;
}

abbrev pub control : ℕ → Function
control byte = record blank { letter = Some byte }

abbrev pub escape : ℕ → Function → Function
escape byte function = record function { kind = Escape; letter = Some byte }

abbrev pub with_intermediate : Intermediates → ℕ → Intermediates
with_intermediate Empty byte = Single byte
with_intermediate (Single before) byte = Pair before byte
with_intermediate (Pair before second) byte = Many
with_intermediate Many byte = Many

-- one number more, as long as there is room
abbrev pub pushed : FunctionNumber → Function → Function
pushed number function =
    if nat_lt (length function.numbers) most_numbers then record function { numbers = function.numbers ++ number ∷ [] }
    else record function { is_overfull = true }

-- the last number: there is none if no digit and no separator came
abbrev pub finished : FunctionNumber → Function → Function
finished Absent function = if length function.numbers == 0 then function else pushed Absent function
finished (Known value) function = pushed (Known value) function
finished Large function = pushed Large function
finished Any function = pushed Any function

abbrev pub nothing : HandedOut
nothing = record { ended = None; function = None }

abbrev pub only : Function → HandedOut
only function = record { ended = None; function = Some function }

-- all that is handed out, in its order
abbrev pub listed : Option Function → List Function
listed None = []
listed (Some function) = function ∷ []

abbrev pub functions_of : HandedOut → List Function
functions_of output = listed output.ended ++ listed output.function
