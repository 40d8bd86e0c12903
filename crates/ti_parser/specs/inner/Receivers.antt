-- Parsers that receive a text without its marks, byte by byte, and what is known of them.
use Rattle.std.specs.Prelude.{◌≡◌, ℕ, ◌++◌, ◌⊎◌, Bool, true, false, List, [], ◌∷◌, Option, Some, None, if◌then◌else◌}
use Rattle.std.specs.List.{AllByRecursion}
use Rattle.ti_parser.specs.Covers.{AreSent, CoversConfiguration, SendMore}
use Rattle.ti_parser.specs.Functions.{listed}
use Rattle.ti_parser.specs.Machine.{ground, run, step}
use Rattle.ti_parser.specs.Padding.{beyond_dollar, completes, has_close, is_close, is_dollar, left_of, turn_of}
use Rattle.ti_parser.specs.declared.configuration.Configuration.{Configuration}
use Rattle.ti_parser.specs.declared.function.Function.{Function}
use Rattle.ti_parser.specs.declared.padding.Marks.{Marks}
use Rattle.ti_parser.specs.declared.padding.Marks.TheVariants.{Untouched}
use Rattle.ti_parser.specs.declared.padding.Part.TheVariants.{Dollar}
use Rattle.ti_parser.specs.declared.padding.Front.{Front}
use Rattle.ti_parser.specs.declared.padding.Front.TheVariants.{Text, Mark}
use Rattle.ti_parser.specs.declared.padding.Turn.{Turn}
use Rattle.ti_parser.specs.declared.padding.Turn.TheVariants.{Holds, Ends, Breaks}
use Rattle.ti_parser.specs.declared.receiver.Ahead.{Ahead}
use Rattle.ti_parser.specs.declared.receiver.Ahead.TheVariants.{Unknown, Closed, Unclosed, Unmarked}
use Rattle.ti_parser.specs.declared.receiver.Move.{Move}
use Rattle.ti_parser.specs.declared.receiver.Move.TheVariants.{Gone, Skips, Sends}
use Rattle.ti_parser.specs.declared.receiver.Receiver.{Receiver}
use Rattle.ti_parser.specs.declared.reading.Reading.{Reading}
use Rattle.ti_parser.specs.declared.reading.Reception.{Reception}

-- ---- what is received

-- a parser, and where the next byte stands
pub record Hearing : Type 0 where
  pub front : Front
  pub parser : Configuration

pub record Heard : Type 0 where
  pub hearing : Hearing
  pub functions : List Function

-- a parser after some bytes, if `rest` comes after them
unfoldable pub hear : Reception → List ℕ → Hearing → List ℕ → Heard
hear r rest x [] = record { hearing = x; functions = [] }
hear r rest x (byte ∷ bytes) =
    let left = left_of r.marks x.front byte (bytes ++ rest) in
    let now = run r.reading x.parser left.bytes in
    let more = hear r rest (record { front = left.front; parser = now.configuration }) bytes in
    record { hearing = more.hearing; functions = now.functions ++ more.functions }

-- ---- what is known

-- a parser, with the bytes that come
pub record Moment : Type 0 where
  pub marks : Marks
  pub rest : List ℕ
  pub front : Front
  pub parser : Configuration

abbrev pub at : Reception → List ℕ → Hearing → Moment
at r rest x = record { marks = r.marks; rest = rest; front = x.front; parser = x.parser }

-- the bytes that come are as they are known to be
abbrev pub Comes : Marks → Ahead → List ℕ → Type 0
Comes marks Unknown rest = Unit {0}
Comes marks Closed rest = has_close rest ≡ true
Comes marks Unclosed rest = has_close rest ≡ false
Comes marks (Unmarked part) rest = completes marks part rest ≡ false

-- in a mark they complete it
abbrev pub ComesAt : Marks → Front → Ahead → List ℕ → Type 0
ComesAt marks (Mark part) ahead rest = completes marks part rest ≡ true
ComesAt marks front ahead rest = Comes marks ahead rest

pub record CoversMoment (known : Receiver) (m : Moment) : Type 0 where
  pub front : known.front ≡ m.front
  pub ahead : ComesAt m.marks known.front known.ahead m.rest
  pub parser : CoversConfiguration known.parser m.parser

-- one of the receivers covers it
abbrev pub IsAmong : List Receiver → Moment → Type 0
IsAmong [] m = ⊥
IsAmong (known ∷ rest) m = CoversMoment known m ⊎ IsAmong rest m

-- what the first cover the second do
abbrev pub CoverMore : List Receiver → List Receiver → Type 0
CoverMore few many = (m : Moment) → IsAmong few m → IsAmong many m

-- it ends as one of the receivers, and hands out none but these functions
pub record IsHeard (r : Reception) (rest : List ℕ) (receivers : List Receiver) (sent : List Function) (h : Heard) : Type 0 where
  pub ends : IsAmong receivers (at r rest h.hearing)
  pub sends : AreSent sent h.functions

-- from all that the first receivers cover, the bytes lead to what the second do, and hand out none but these functions
abbrev pub Lead : Reception → List ℕ → List Receiver → List Function → List Receiver → Type 0
Lead r bytes before sent after = (rest : List ℕ) (x : Hearing) → IsAmong before (at r (bytes ++ rest) x) → IsHeard r rest after sent (hear r rest x bytes)

-- so does each of these bytes
abbrev pub EachLeads : Reception → List ℕ → List Receiver → List Function → List Receiver → Type 0
EachLeads r bytes before sent after = AllByRecursion (λ byte. Lead r (byte ∷ []) before sent after) bytes

-- ---- what a byte does to what is known

-- what is known of the bytes after it, if it may come
abbrev pub ahead_by : Turn → ℕ → Option Ahead
ahead_by (Holds part) byte = Some (Unmarked part)
ahead_by Ends byte = if is_close byte then None else Some Unclosed
ahead_by Breaks byte = Some Unknown

abbrev pub next_ahead : Marks → Ahead → ℕ → Option Ahead
next_ahead marks Unknown byte = Some Unknown
next_ahead marks Closed byte = Some (if is_close byte then Unknown else Closed)
next_ahead marks Unclosed byte = if is_close byte then None else Some Unclosed
next_ahead marks (Unmarked part) byte = ahead_by (turn_of marks part byte) byte

abbrev pub sends_on : Front → Option Ahead → Move
sends_on front None = Gone
sends_on front (Some ahead) = Sends front ahead

abbrev pub skips_on : Turn → ℕ → Move
skips_on (Holds part) byte = Skips (Mark part) Unknown
skips_on Ends byte = Skips Text (if is_close byte then Unknown else Closed)
skips_on Breaks byte = Gone

-- a `$` may begin a mark
abbrev pub may_begin : Marks → Front → ℕ → Bool
may_begin Untouched front byte = false
may_begin marks Text byte = is_dollar byte
may_begin marks front byte = false

-- what it does if it begins none
abbrev pub move_of : Marks → Front → Ahead → ℕ → Move
move_of marks (Mark part) ahead byte = skips_on (turn_of marks part byte) byte
move_of marks front ahead byte =
    if may_begin marks front byte then Sends (beyond_dollar marks) (Unmarked Dollar) else sends_on Text (next_ahead marks ahead byte)

-- ---- receivers after a byte

-- outside of marks, before any byte
abbrev pub outside : Receiver
outside = record { front = Text; ahead = Unknown; parser = ground; opened = None }

-- a byte was the first of a mark
abbrev pub begun : Receiver → Receiver
begun known = record known { front = Mark Dollar; ahead = Unknown }

-- the byte was taken
abbrev pub stepped : Reading → ℕ → Receiver → Front → Ahead → Receiver
stepped reading byte known front ahead = record known { front = front; ahead = ahead; parser = (step reading known.parser byte).configuration }

-- what a move leads to is covered, and what it hands out was sent
pub record IsSentOn (reading : Reading) (byte : ℕ) (known next : Receiver) (sent : List Function) (after : List Receiver) : Type 0 where
  pub covers : CoverMore (next ∷ []) after
  pub ended : SendMore (listed (step reading known.parser byte).output.ended) sent
  pub function : SendMore (listed (step reading known.parser byte).output.function) sent

abbrev pub IsMoved : Reading → ℕ → Receiver → Move → List Function → List Receiver → Type 0
IsMoved reading byte known Gone sent after = Unit {0}
IsMoved reading byte known (Skips front ahead) sent after = CoverMore (record known { front = front; ahead = ahead } ∷ []) after
IsMoved reading byte known (Sends front ahead) sent after = IsSentOn reading byte known (stepped reading byte known front ahead) sent after

-- ---- the end of a text

abbrev pub ends_text : Ahead → Bool
ends_text Closed = false
ends_text ahead = true

abbrev pub can_end : Front → Ahead → Bool
can_end (Mark part) ahead = false
can_end front ahead = ends_text ahead
