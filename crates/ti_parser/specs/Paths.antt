-- What the paths of a capability send.
use Rattle.std.specs.Prelude.{◌≡◌, ℕ, zero, suc, ◌||◌, Bool, List, [], ◌∷◌, ℤ, length, reverse, if◌then◌else◌}
use Rattle.std.specs.List.{AllByRecursion}
use Rattle.ti_cap.specs.declared.language.Token.{Token}
use Rattle.ti_cap.specs.declared.language.Token.TheVariants.{Byte, Char, Print}
use Rattle.ti_cap.specs.declared.mode.Mode.{Mode}
use Rattle.ti_cap.specs.declared.mode.Mode.TheVariants.{Run as RunMode, ToElse, ToEnd}
use Rattle.ti_cap.specs.Pass.{next_mode, is_running}
use Rattle.ti_cap.specs.Path.{IsPath}
use Rattle.ti_cap.specs.Spelling.{Writes}
use Rattle.ti_cap.specs.Tree.{Sequence}
use Rattle.ti_expand.specs.Effect.{char_byte, print_for}
use Rattle.ti_expand.specs.Meaning.{meaning}
use Rattle.ti_expand.specs.Sound.{AreVariables}
use Rattle.ti_expand.specs.StackHeight.{state_after}
use Rattle.ti_expand.specs.State.{State, number_on, start}
use Rattle.ti_expand.specs.Steps.{meet}
use Rattle.ti_expand.specs.declared.values.Value.{Value}
use Rattle.ti_parser.specs.Covers.{IsRunCovered}
use Rattle.ti_parser.specs.Given.{AreGiven, IsData}
use Rattle.ti_parser.specs.Machine.{ground, run}
use Rattle.ti_parser.specs.Tops.{AreTops, no_tops}
use Rattle.ti_parser.specs.declared.tops.Tops.{Tops}
use Rattle.ti_parser.specs.declared.configuration.Configuration.{Configuration}
use Rattle.ti_parser.specs.declared.function.Function.{Function}
use Rattle.ti_parser.specs.Padding.{without_marks}
use Rattle.ti_parser.specs.declared.padding.Front.TheVariants.{Text as FrontText}
use Rattle.ti_parser.specs.declared.reading.Reception.{Reception}
use Rattle.ti_parser.specs.declared.receiver.Receiver.{Receiver}
use Rattle.ti_parser.specs.inner.Receivers.{Hearing, IsHeard, hear}

-- a new parser takes the output of a state without its padding marks: it ends in one of these, and hands out none but these functions
abbrev pub IsOutputCovered : Reception → List Configuration → List Function → State → Type 0
IsOutputCovered r ends functions s = IsRunCovered ends functions (run r.reading ground (without_marks r.marks s.output))

-- so it does on each path of the capability that the bytes write, for all variables and all parameters that may be given
abbrev pub IsCover : Reception → List ℕ → List Configuration → List Function → Type 0
IsCover r bytes ends functions = (tree : Sequence) (path : List Token) → Writes tree bytes → IsPath tree path
    → (variables : List ℤ) (parameters : List Value) → AreVariables variables → AreGiven r.first_character parameters → IsOutputCovered r ends functions (state_after path (start variables parameters))

-- what covers all paths covers each expansion, whose meaning is that of the path that the tests choose
abbrev pub CoversExpansions : Type 0
CoversExpansions = (r : Reception) (bytes : List ℕ) (ends : List Configuration) (functions : List Function) → IsCover r bytes ends functions
    → (tree : Sequence) → Writes tree bytes → (variables : List ℤ) (parameters : List Value) → AreVariables variables → AreGiven r.first_character parameters
    → IsOutputCovered r ends functions (meaning tree (start variables parameters))

-- ---- one pass

-- what is known of the paths that come to a place: the parsers that they lead to, and numbers on top of their stacks
pub record Point : Type 0 where
  pub parsers : List Receiver
  pub tops : Tops

-- a place to which no path comes
abbrev pub no_point : Point
no_point = record { parsers = []; tops = no_tops }

-- what waits in an open conditional: the paths after its failed tests, since its last `%e`, and those after its bodies
pub record Waiting : Type 0 where
  pub failed : Point
  pub done : Point

-- what a pass knows: the paths where it runs, what waits in the open conditionals, the innermost last, and what was sent
pub record Known : Type 0 where
  pub here : Point
  pub opens : List Waiting
  pub sent : List Function

-- the paths that wait in a mode, by what waits, the innermost first
abbrev pub waiting_in : List Waiting → Mode → Point
waiting_in [] mode = no_point
waiting_in (inner ∷ opens) RunMode = no_point
waiting_in (inner ∷ opens) (ToElse zero) = inner.failed
waiting_in (inner ∷ opens) (ToElse (suc n)) = waiting_in opens (ToElse n)
waiting_in (inner ∷ opens) (ToEnd zero) = inner.done
waiting_in (inner ∷ opens) (ToEnd (suc n)) = waiting_in opens (ToEnd n)

-- the paths in a mode
abbrev pub point_in : Point → List Waiting → Mode → Point
point_in here opens RunMode = here
point_in here opens (ToElse n) = waiting_in opens (ToElse n)
point_in here opens (ToEnd n) = waiting_in opens (ToEnd n)

-- a parser before any byte
abbrev pub fresh : Hearing
fresh = record { front = FrontText; parser = ground }

-- the output of a state, whatever comes after it, leads to one of these parsers
abbrev pub Leads : Reception → List Receiver → List Function → List ℕ → Type 0
Leads r parsers sent output = (rest : List ℕ) → IsHeard r rest parsers sent (hear r rest fresh output)

-- the state is one of a point
abbrev pub IsSeen : Reception → Point → List Function → State → Type 0
IsSeen r point sent s = Leads r point.parsers sent s.output × AreTops point.tops s

-- a path that comes to the mode with the state is known
abbrev pub IsKnown : Reception → Known → Mode → State → Type 0
IsKnown r known mode s = IsSeen r (point_in known.here (reverse known.opens) mode) known.sent s

-- what a token writes
abbrev pub written : Token → State → List ℕ
written (Byte byte) s = byte ∷ []
written Char s = char_byte (number_on s.stack) ∷ []
written (Print format) s = print_for format.conversion format s.stack
written token s = []

-- the state after a token that is met in a mode, or passed over
abbrev pub met_by : Token → Mode → Bool → State → State
met_by token mode fails s = if is_running mode || is_running (next_mode mode token fails) then meet token s else s

-- the variables of a state are 52, and no value of it has other texts
pub record AreData (s : State) : Type 0 where
  pub variables : length s.variables ≡ 52
  pub stack : AllByRecursion IsData s.stack
  pub parameters : AllByRecursion IsData s.parameters

-- each path that was known is known after the token, whichever way a test goes
abbrev pub KnowsOn : Reception → Token → Known → Known → Type 0
KnowsOn r token old new = (mode : Mode) (s : State) (fails : Bool) → AreData s → IsKnown r old mode s → IsKnown r new (next_mode mode token fails) (met_by token mode fails s)

abbrev pub nothing_waits : Waiting
nothing_waits = record { failed = no_point; done = no_point }
