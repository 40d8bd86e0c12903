-- Worked rows of the parser, computed. The functions are those of ECMA-48, of the manuals that `Transitions` names, and by hand.
use Rattle.std.proofs.Common.{◌≡◌, ℕ, List, [], ◌∷◌, ◌++◌, refl, true}
use Rattle.std.specs.Prelude.{codes, Some}
use Rattle.ti_base.specs.Letters.{letter}
use Rattle.ti_parser.specs.Characters.{decoded}
use Rattle.ti_parser.specs.Classes.{class_of}
use Rattle.ti_parser.specs.Functions.{blank, control}
use Rattle.ti_parser.specs.Machine.{act, anew, ground, introduced, plain, run, step, taken}
use Rattle.ti_parser.specs.Padding.{completes, left_from, turn_of, without_marks}
use Rattle.ti_parser.specs.Transitions.{transition_of}
use Rattle.ti_parser.specs.declared.character.Begun.{Begun}
use Rattle.ti_parser.specs.declared.character.Begun.TheVariants.{Nothing, Latin, One}
use Rattle.ti_parser.specs.declared.function.Function.{Function}
use Rattle.ti_parser.specs.declared.function.Intermediates.TheVariants.{Single, Pair, Many}
use Rattle.ti_parser.specs.declared.function.FunctionKind.TheVariants.{Escape, Sequence, Device, System, Application, Title}
use Rattle.ti_parser.specs.declared.number.FunctionNumber.{FunctionNumber}
use Rattle.ti_parser.specs.declared.number.FunctionNumber.TheVariants.{Absent, Known, Large}
use Rattle.ti_parser.specs.declared.padding.Marks.TheVariants.{Untouched, Tputs, TiPad}
use Rattle.ti_parser.specs.declared.reading.Coding.{Coding}
use Rattle.ti_parser.specs.declared.reading.Coding.TheVariants.{Utf8, Utf8WithC1, Bytes}
use Rattle.ti_parser.specs.declared.reading.Reading.{Reading}
use Rattle.ti_parser.specs.declared.reading.Within.TheVariants.{StartsAnew, GoesOn}
use Rattle.ti_parser.specs.declared.state.State.{State}
use Rattle.ti_parser.specs.declared.state.State.TheVariants.{AfterEscape, AfterCut, SequenceIgnore, SystemBody, StringBody}

abbrev reading : Coding → Reading
reading coding = record { coding = coding; within = StartsAnew }

abbrev lasting : Coding → Reading
lasting coding = record { coding = coding; within = GoesOn }

abbrev sent : Reading → List ℕ → List Function
sent how bytes = (run how ground bytes).functions

abbrev left : Reading → List ℕ → State
left how bytes = (run how ground bytes).configuration.state

abbrev e : List ℕ → List ℕ
e rest = 27 ∷ rest

abbrev csi : List FunctionNumber → List ℕ → Function
csi numbers final = record blank { kind = Sequence; numbers = numbers; letter = Some (letter final) }

abbrev esc : List ℕ → Function
esc final = record blank { kind = Escape; letter = Some (letter final) }

abbrev osc : List FunctionNumber → Function
osc numbers = record blank { kind = System; numbers = numbers }

abbrev utf8 : Reading
utf8 = reading Utf8

-- ---- control sequences

sequence_rows : (sent utf8 (e (codes "[1;2H")) ≡ csi (Known 1 ∷ Known 2 ∷ []) (codes "H") ∷ [])
    × (sent utf8 (e (codes "[m")) ≡ csi [] (codes "m") ∷ [])
    × (sent utf8 (e (codes "[;m")) ≡ csi (Absent ∷ Absent ∷ []) (codes "m") ∷ [])
    × (sent utf8 (e (codes "[4:3m")) ≡ csi (Known 4 ∷ Known 3 ∷ []) (codes "m") ∷ [])
    × (sent utf8 (e (codes "[?25h")) ≡ record (csi (Known 25 ∷ []) (codes "h")) { marker = Some 63 } ∷ [])
    × (sent utf8 (e (codes "[2 q")) ≡ record (csi (Known 2 ∷ []) (codes "q")) { intermediates = Single 32 } ∷ [])
    × (sent utf8 (e (codes "[65535;65536c")) ≡ csi (Known 65535 ∷ Large ∷ []) (codes "c") ∷ [])
    × (sent utf8 (e (codes "[1?h")) ≡ [])
    × (left utf8 (e (codes "[1?")) ≡ SequenceIgnore)
unfolding run step taken plain act introduced anew decoded class_of transition_of
sequence_rows = (refl, refl, refl, refl, refl, refl, refl, refl, refl)

-- a control within a sequence is carried out, DEL is ignored, CAN ends it, and an escape starts another
within_rows : (sent utf8 (e (codes "[1" ++ 7 ∷ codes "m")) ≡ control 7 ∷ csi (Known 1 ∷ []) (codes "m") ∷ [])
    × (sent utf8 (e (10 ∷ codes "M")) ≡ control 10 ∷ esc (codes "M") ∷ [])
    × (sent utf8 (e (codes "[1" ++ 127 ∷ codes "2m")) ≡ csi (Known 12 ∷ []) (codes "m") ∷ [])
    × (sent utf8 (e (codes "[1" ++ 24 ∷ codes "m")) ≡ control 24 ∷ [])
    × (sent utf8 (e (codes "[1" ++ e (codes "[K"))) ≡ csi [] (codes "K") ∷ [])
    × (left utf8 (e []) ≡ AfterEscape)
unfolding run step taken plain act introduced anew decoded class_of transition_of
within_rows = (refl, refl, refl, refl, refl, refl)

-- ---- escape sequences; `ESC % G` and `ESC % @` select UTF-8 or not, and the reading stays

escape_rows : (sent utf8 (e (codes "%G")) ≡ record (esc (codes "G")) { intermediates = Single 37 } ∷ [])
    × (sent utf8 (e (codes "%@")) ≡ record (esc (codes "@")) { intermediates = Single 37 } ∷ [])
    × (sent utf8 (e (codes "7")) ≡ esc (codes "7") ∷ [])
    × (sent utf8 (e (codes "$(C")) ≡ record (esc (codes "C")) { intermediates = Pair 36 40 } ∷ [])
    × (sent utf8 (e (codes " !\"0")) ≡ record (esc (codes "0")) { intermediates = Many } ∷ [])
unfolding run step taken plain act introduced anew decoded class_of transition_of
escape_rows = (refl, refl, refl, refl, refl)

-- ---- strings: BEL ends an OSC and no APC; `ESC \` is the escape sequence ST; the Linux console; screen's title

string_rows : (sent utf8 (e (codes "]2;a" ++ 7 ∷ codes "b")) ≡ osc (Known 2 ∷ []) ∷ [])
    × (sent utf8 (e (codes "]2;a" ++ e (codes "\\"))) ≡ osc (Known 2 ∷ []) ∷ esc (codes "\\") ∷ [])
    × (sent utf8 (e (codes "]4;1;?" ++ 7 ∷ [])) ≡ record (osc (Known 4 ∷ [])) { asks = true } ∷ [])
    × (sent utf8 (e (codes "]52" ++ 7 ∷ [])) ≡ osc (Known 52 ∷ []) ∷ [])
    × (left utf8 (e (codes "]2;a" ++ e [])) ≡ AfterCut)
    × (left utf8 (e (codes "]2;a")) ≡ SystemBody)
    × (left utf8 (e (codes "_Gi=1" ++ 7 ∷ [])) ≡ StringBody)
    × (sent utf8 (e (codes "_Gi=1" ++ e (codes "\\"))) ≡ record blank { kind = Application; letter = Some 71 } ∷ esc (codes "\\") ∷ [])
    × (sent utf8 (e (codes "P1$qm" ++ e (codes "\\")))
    ≡ record blank { kind = Device; intermediates = Single 36; numbers = Known 1 ∷ []; letter = Some 113 } ∷ esc (codes "\\") ∷ [])
    × (sent utf8 (e (codes "kvi" ++ e (codes "\\"))) ≡ record blank { kind = Title; letter = Some 118 } ∷ esc (codes "\\") ∷ [])
    × (sent utf8 (e (codes "]R" ++ codes "x")) ≡ record (osc []) { letter = Some 82 } ∷ [])
    × (sent utf8 (e (codes "]P1aF0000x"))
    ≡ record (osc (Known 1 ∷ Known 10 ∷ Known 15 ∷ Known 0 ∷ Known 0 ∷ Known 0 ∷ Known 0 ∷ [])) { letter = Some 80 } ∷ [])
unfolding run step taken plain act introduced anew decoded class_of transition_of
string_rows = (refl, refl, refl, refl, refl, refl, refl, refl, refl, refl, refl, refl)

-- ---- C1, in each reading: 9B is CSI but in UTF-8, C2 9B is CSI but in bytes, where 9B starts it; 84 is IND

upper_rows : (sent utf8 (155 ∷ codes "6n") ≡ [])
    × (sent (reading Utf8WithC1) (155 ∷ codes "6n") ≡ csi (Known 6 ∷ []) (codes "n") ∷ [])
    × (sent (reading Bytes) (155 ∷ codes "6n") ≡ csi (Known 6 ∷ []) (codes "n") ∷ [])
    × (sent utf8 (194 ∷ 155 ∷ codes "6n") ≡ csi (Known 6 ∷ []) (codes "n") ∷ [])
    × (sent (reading Bytes) (194 ∷ 155 ∷ codes "6n") ≡ csi (Known 6 ∷ []) (codes "n") ∷ [])
    × (sent (reading Utf8WithC1) (195 ∷ 155 ∷ codes "6n") ≡ [])
    × (sent (reading Bytes) (e (91 ∷ 182 ∷ 238 ∷ [])) ≡ csi (Known 6 ∷ []) (codes "n") ∷ [])
    × (sent (reading Bytes) (e (codes "[1" ++ 132 ∷ codes "m")) ≡ esc (codes "D") ∷ [])
    × (sent (lasting Bytes) (e (codes "[1" ++ 132 ∷ codes "m")) ≡ esc (codes "D") ∷ csi (Known 1 ∷ []) (codes "m") ∷ [])
    × (sent (reading Bytes) (e (codes "]2;a" ++ 132 ∷ codes "b" ++ 7 ∷ [])) ≡ osc (Known 2 ∷ []) ∷ esc (codes "D") ∷ control 7 ∷ [])
    × (sent (lasting Bytes) (e (codes "]2;a" ++ 132 ∷ codes "b" ++ 7 ∷ [])) ≡ esc (codes "D") ∷ osc (Known 2 ∷ []) ∷ [])
    × (sent (lasting Utf8) (e (codes "]2;a" ++ 5 ∷ codes "b" ++ 7 ∷ [])) ≡ control 5 ∷ osc (Known 2 ∷ []) ∷ [])
    × (sent (lasting Utf8) (e (codes "P" ++ 7 ∷ codes "q")) ≡ control 7 ∷ [])
    × (sent (lasting Bytes) (e (codes "]2;a" ++ 156 ∷ [])) ≡ osc (Known 2 ∷ []) ∷ esc (codes "\\") ∷ [])
unfolding run step taken plain act introduced anew decoded class_of transition_of
upper_rows = (refl, refl, refl, refl, refl, refl, refl, refl, refl, refl, refl, refl, refl, refl)

-- a character of UTF-8 that is begun is kept, and dropped at a byte that does not fit
abbrev begun_after : List ℕ → Begun
begun_after bytes = (run utf8 ground bytes).configuration.begun

begun_rows : (begun_after (194 ∷ []) ≡ Latin) × (begun_after (226 ∷ 130 ∷ []) ≡ One) × (begun_after (226 ∷ 130 ∷ 172 ∷ []) ≡ Nothing)
    × (begun_after (237 ∷ 160 ∷ []) ≡ Nothing) × (begun_after (224 ∷ 128 ∷ []) ≡ Nothing)
    × (sent utf8 (194 ∷ e (codes "[K")) ≡ csi [] (codes "K") ∷ [])
unfolding run step taken plain act introduced anew decoded class_of transition_of
begun_rows = (refl, refl, refl, refl, refl, refl)

-- ---- padding marks: `tputs` takes one byte after a number, whatever it is, if a `>` comes later, and no byte after a `$` for a `$`

mark_rows : (without_marks Tputs (codes "a$<5>b$<2.5*/>c") ≡ codes "abc") × (without_marks TiPad (codes "a$<5>b$<2.5*/>c") ≡ codes "abc")
    × (without_marks Untouched (codes "a$<5>") ≡ codes "a$<5>")
    × (without_marks Tputs (codes "$<9" ++ e (codes "[6n>")) ≡ codes "[6n>") × (without_marks TiPad (codes "$<9" ++ e (codes "[6n>")) ≡ codes "$<9" ++ e (codes "[6n>"))
    × (without_marks Tputs (codes "$<9" ++ e (codes "[6n")) ≡ codes "$<9" ++ e (codes "[6n"))
    × (without_marks Tputs (codes "$$<5>") ≡ codes "$$<5>") × (without_marks TiPad (codes "$$<5>") ≡ codes "$")
    × (without_marks Tputs (codes "$<123456**//>a") ≡ codes "a") × (without_marks TiPad (codes "$<123456>") ≡ codes "$<123456>") × (without_marks TiPad (codes "$<.>") ≡ codes "$<.>")
unfolding left_from completes turn_of
mark_rows = (refl, refl, refl, refl, refl, refl, refl, refl, refl, refl, refl)
