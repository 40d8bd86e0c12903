-- What holds of marks, pieces and counts.
use Rattle.std.specs.Prelude.{◌≡◌, ◌≤◌, ◌<◌, ◌↔◌, ℕ, true, false, List, Some, None, length, drop}
use Rattle.ti_pad.specs.Setting.{Setting}
use Rattle.ti_pad.specs.Marks.{StandsAtFront, Mark, joined_text, mark_at, pieces, mark_bytes}
use Rattle.ti_pad.specs.Padded.{TakesTheTime, count_of, is_passed_over}

-- a mark is found exactly where one starts by the grammar
abbrev pub FindsMarks : Type 0
FindsMarks = (m : Mark) (bytes : List ℕ) → (mark_at bytes ≡ Some m) ↔ StandsAtFront m bytes

-- after the first byte of a mark none starts before its end
abbrev pub MarksLieApart : Type 0
MarksLieApart = (m : Mark) (bytes : List ℕ) (k : ℕ) → StandsAtFront m bytes
    → 0 < k → k < length (mark_bytes m) → mark_at (drop k bytes) ≡ None

-- nothing of a text is lost between its pieces
abbrev pub PiecesJoin : Type 0
PiecesJoin = (bytes : List ℕ) → joined_text (pieces bytes) ≡ bytes

-- a mark that is passed over has no pad bytes
abbrev pub PassesOver : Type 0
PassesOver = (s : Setting) (m : Mark) → is_passed_over s m ≡ true → count_of s m ≡ 0

-- the pad bytes of any other mark take its time
abbrev pub CountsEnough : Type 0
CountsEnough = (s : Setting) (m : Mark) → is_passed_over s m ≡ false
    → TakesTheTime s m (count_of s m)

-- and no smaller count does
abbrev pub CountsLeast : Type 0
CountsLeast = (s : Setting) (m : Mark) (count : ℕ) → is_passed_over s m ≡ false
    → TakesTheTime s m count → count_of s m ≤ count
