-- Padding marks of a text: a `$<`, a number of milliseconds, flags and a `>`.
use Rattle.std.specs.Prelude.{pred, ◌≡◌, ◌+◌, ◌≤◌, ◌<◌, ◌&&◌, ℕ, zero, suc, Bool, true, List, [], ◌∷◌, ◌++◌, Option, Some, None, length, drop, take, take_while, find, flat_map, is_some, option_map, unwrap_or, nat_le, nat_lt, if◌then◌else◌, codes}
use Rattle.std.specs.List.{list_all}
use Rattle.std.specs.Char.{is_ascii_digit}
use Rattle.std.specs.Str.{bytes_eq}

-- ---- the grammar

-- the parts of a mark: whole milliseconds, decimals if it has a point, flags
pub record Mark : Type 0 where
  pub whole : List ℕ
  pub decimals : Option (List ℕ)
  pub flags : List ℕ

-- `*` is per affected line, `/` is mandatory
abbrev pub all_flags : List (List ℕ)
all_flags = [] ∷ codes "*" ∷ codes "/" ∷ codes "*/" ∷ codes "/*" ∷ []

abbrev pub decimals_text : Option (List ℕ) → List ℕ
decimals_text None = []
decimals_text (Some digits) = codes "." ++ digits

-- the bytes of a mark, from each of its parts on
abbrev pub bytes_after_number : Mark → List ℕ
bytes_after_number m = m.flags ++ codes ">"

abbrev pub bytes_after_whole : Mark → List ℕ
bytes_after_whole m = decimals_text m.decimals ++ bytes_after_number m

abbrev pub bytes_after_front : Mark → List ℕ
bytes_after_front m = m.whole ++ bytes_after_whole m

abbrev pub mark_bytes : Mark → List ℕ
mark_bytes m = codes "$<" ++ bytes_after_front m

-- which parts make a mark: at most five digits, any number of decimals, at least one digit in all
pub record IsMark (m : Mark) : Type 0 where
  pub whole : list_all is_ascii_digit m.whole ≡ true
  pub at_most_five : length m.whole ≤ 5
  pub decimals : list_all is_ascii_digit (unwrap_or m.decimals []) ≡ true
  pub some_digit : 0 < length m.whole + length (unwrap_or m.decimals [])
  pub flags : is_some (find (bytes_eq m.flags) all_flags) ≡ true

-- the mark stands at the front of the bytes
pub record StandsAtFront (m : Mark) (bytes : List ℕ) : Type 0 where
  pub is_mark : IsMark m
  pub rest : List ℕ
  pub bytes_are : bytes ≡ mark_bytes m ++ rest

-- some mark stands there
abbrev pub StartsWithMark : List ℕ → Type 0
StartsWithMark bytes = (m : Mark) × StandsAtFront m bytes

-- ---- the mark at the front of the bytes, if there is one

abbrev pub starts_with : List ℕ → List ℕ → Bool
starts_with bytes front = bytes_eq (take (length front) bytes) front

abbrev pub decimals_at : List ℕ → Option (List ℕ)
decimals_at bytes =
    if starts_with bytes (codes ".") then Some (take_while is_ascii_digit (drop 1 bytes)) else None

abbrev pub flags_at : List ℕ → Option (List ℕ)
flags_at bytes = find (λ flags. starts_with bytes (flags ++ codes ">")) all_flags

abbrev pub has_number : List ℕ → Option (List ℕ) → Bool
has_number whole decimals =
    nat_le (length whole) 5 && nat_lt 0 (length whole + length (unwrap_or decimals []))

abbrev pub mark_after_number : List ℕ → Option (List ℕ) → List ℕ → Option Mark
mark_after_number whole decimals rest =
    if has_number whole decimals
    then option_map
    (λ flags. record { whole = whole; decimals = decimals; flags = flags }) (flags_at rest)
    else None

abbrev pub mark_after_whole : List ℕ → List ℕ → Option Mark
mark_after_whole whole rest =
    mark_after_number whole (decimals_at rest)
    (drop (length (decimals_text (decimals_at rest))) rest)

abbrev pub mark_after_front : List ℕ → Option Mark
mark_after_front rest =
    mark_after_whole (take_while is_ascii_digit rest)
    (drop (length (take_while is_ascii_digit rest)) rest)

abbrev pub mark_at : List ℕ → Option Mark
mark_at bytes = if starts_with bytes (codes "$<") then mark_after_front (drop 2 bytes) else None

-- ---- a text in pieces

-- a byte that means itself, or a mark
pub data Piece : Type 0 where
  literal : ℕ → Piece
  marked : Mark → Piece

abbrev pub piece_at : ℕ → Option Mark → (ℕ → List Piece) → List Piece
piece_at byte None next = literal byte ∷ next 0
piece_at byte (Some m) next = marked m ∷ next (pred (length (mark_bytes m)))

-- the pieces after the first `skip` bytes, which belong to a mark
unfoldable pub pieces_from : ℕ → List ℕ → List Piece
pieces_from skip [] = []
pieces_from (suc skip) (byte ∷ rest) = pieces_from skip rest
pieces_from zero (byte ∷ rest) =
    piece_at byte (mark_at (byte ∷ rest)) (λ skip. pieces_from skip rest)

abbrev pub pieces : List ℕ → List Piece
pieces = pieces_from 0

-- the bytes that a piece was cut from
abbrev pub piece_bytes : Piece → List ℕ
piece_bytes (literal byte) = byte ∷ []
piece_bytes (marked m) = mark_bytes m

abbrev pub joined_text : List Piece → List ℕ
joined_text = flat_map piece_bytes
