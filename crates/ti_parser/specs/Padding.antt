-- Padding marks (terminfo(5), "Delays and Padding"), and what a terminal receives of a text that has some: as `tputs` of ncurses
-- sends it, and as `ti_pad` does.
use Rattle.std.specs.Prelude.{ℕ, ◌+◌, ◌==◌, ◌++◌, Bool, false, List, [], ◌∷◌, codes, nat_lt, if◌then◌else◌}
use Rattle.std.specs.List.{list_any}
use Rattle.ti_base.specs.Letters.{letter}
use Rattle.ti_parser.specs.Laws.{is_digit}
use Rattle.ti_parser.specs.declared.padding.Marks.{Marks}
use Rattle.ti_parser.specs.declared.padding.Marks.TheVariants.{Untouched, Tputs, TiPad}
use Rattle.ti_parser.specs.declared.padding.Part.{Part}
use Rattle.ti_parser.specs.declared.padding.Part.TheVariants.{Dollar, Open, Whole, Point, Decimals, Star, Slash, Flags}
use Rattle.ti_parser.specs.declared.padding.Turn.{Turn}
use Rattle.ti_parser.specs.declared.padding.Turn.TheVariants.{Holds, Ends, Breaks}
use Rattle.ti_parser.specs.declared.padding.Front.{Front}
use Rattle.ti_parser.specs.declared.padding.Front.TheVariants.{Text, Literal, Mark}

-- ---- the grammar of a mark, byte by byte

abbrev pub after_dollar : ℕ → Turn
after_dollar byte = if byte == letter (codes "<") then Holds Open else Breaks

-- a digit, or a point
abbrev pub in_open : Part → ℕ → Turn
in_open point byte =
    if is_digit byte then Holds (Whole 1) else if byte == letter (codes ".") then Holds point else Breaks

-- `*` is per affected line, `/` is mandatory
abbrev pub after_number : ℕ → Turn
after_number byte =
    if byte == letter (codes "*") then Holds Star
    else if byte == letter (codes "/") then Holds Slash
    else if byte == letter (codes ">") then Ends
    else Breaks

-- at most five digits
abbrev pub in_whole : ℕ → ℕ → Turn
in_whole count byte =
    if is_digit byte then (if nat_lt count 5 then Holds (Whole (count + 1)) else Breaks)
    else if byte == letter (codes ".") then Holds Decimals
    else after_number byte

abbrev pub after_point : ℕ → Turn
after_point byte = if is_digit byte then Holds Decimals else Breaks

abbrev pub after_star : ℕ → Turn
after_star byte =
    if byte == letter (codes "/") then Holds Flags else if byte == letter (codes ">") then Ends else Breaks

abbrev pub after_slash : ℕ → Turn
after_slash byte =
    if byte == letter (codes "*") then Holds Flags else if byte == letter (codes ">") then Ends else Breaks

-- a mark as `ti_pad` takes it: digits with a point among them, flags in any order, and `>`
abbrev pub pad_turn : Part → ℕ → Turn
pad_turn Dollar byte = after_dollar byte
pad_turn Open byte = in_open Point byte
pad_turn (Whole count) byte = in_whole count byte
pad_turn Point byte = after_point byte
pad_turn Decimals byte = if is_digit byte then Holds Decimals else after_number byte
pad_turn Star byte = after_star byte
pad_turn Slash byte = after_slash byte
pad_turn Flags byte = if byte == letter (codes ">") then Ends else Breaks

-- `tputs` takes any number of digits and flags, and one byte after them, whatever it is (lib_tputs.c)
abbrev pub tputs_after : ℕ → Turn
tputs_after byte =
    if byte == letter (codes "*") then Holds Flags else if byte == letter (codes "/") then Holds Flags else Ends

abbrev pub tputs_turn : Part → ℕ → Turn
tputs_turn Dollar byte = after_dollar byte
tputs_turn Open byte = in_open Decimals byte
tputs_turn (Whole count) byte =
    if is_digit byte then Holds (Whole count) else if byte == letter (codes ".") then Holds Decimals else tputs_after byte
tputs_turn Decimals byte = if is_digit byte then Holds Decimals else tputs_after byte
tputs_turn part byte = tputs_after byte

unfoldable pub turn_of : Marks → Part → ℕ → Turn
turn_of Untouched part byte = Breaks
turn_of Tputs part byte = tputs_turn part byte
turn_of TiPad part byte = pad_turn part byte

-- ---- marks in a text

abbrev pub is_close : ℕ → Bool
is_close byte = byte == letter (codes ">")

-- a `>` comes
abbrev pub has_close : List ℕ → Bool
has_close bytes = list_any is_close bytes

abbrev pub completed : Turn → (Part → Bool) → Bool → Bool
completed (Holds part) next is_closed = next part
completed Ends next is_closed = is_closed
completed Breaks next is_closed = false

-- the bytes that follow complete the mark: its last byte is a `>`, or one comes later, which `tputs` alone allows
unfoldable pub completes : Marks → Part → List ℕ → Bool
completes marks part [] = false
completes marks part (byte ∷ bytes) =
    completed (turn_of marks part byte) (λ next. completes marks next bytes) (has_close (byte ∷ bytes))

abbrev pub is_dollar : ℕ → Bool
is_dollar byte = byte == letter (codes "$")

-- what is left of a byte, and where the next one stands
pub record Left : Type 0 where
  pub bytes : List ℕ
  pub front : Front

abbrev pub kept : ℕ → Front → Left
kept byte front = record { bytes = byte ∷ []; front = front }

abbrev pub dropped : Front → Left
dropped front = record { bytes = []; front = front }

-- after a `$` that begins no mark `tputs` sends the next byte as it is
abbrev pub beyond_dollar : Marks → Front
beyond_dollar Tputs = Literal
beyond_dollar marks = Text

abbrev pub left_in_mark : Turn → ℕ → Left
left_in_mark (Holds part) byte = dropped (Mark part)
left_in_mark Ends byte = dropped Text
left_in_mark Breaks byte = kept byte Text

-- a `$` begins a mark if the bytes after it complete one
abbrev pub left_of : Marks → Front → ℕ → List ℕ → Left
left_of marks Text byte rest =
    if is_dollar byte then (if completes marks Dollar rest then dropped (Mark Dollar) else kept byte (beyond_dollar marks))
    else kept byte Text
left_of marks Literal byte rest = kept byte Text
left_of marks (Mark part) byte rest = left_in_mark (turn_of marks part byte) byte

unfoldable pub left_from : Marks → Front → List ℕ → List ℕ
left_from marks front [] = []
left_from marks front (byte ∷ bytes) =
    (left_of marks front byte bytes).bytes ++ left_from marks (left_of marks front byte bytes).front bytes

-- a text without its marks
abbrev pub without_marks : Marks → List ℕ → List ℕ
without_marks marks text = left_from marks Text text
