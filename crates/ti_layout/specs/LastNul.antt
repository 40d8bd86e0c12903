-- How all texts and names of a table are checked for their NULs at once: by the place after its last NUL.
-- Only private functions of the crate cite this.
use Rattle.std.specs.Prelude.{◌≡◌, ℕ, ◌+◌, ◌*◌, ◌<◌, ℤ, pos, negsuc, Bool, true, List, nat_lt}
use Rattle.ti_words.specs.Word.{word_at}
use Rattle.ti_layout.specs.declared.part.Part.{Part}
use Rattle.ti_layout.specs.Layout.{offsets_from}
use Rattle.ti_layout.specs.Table.{ends_in}
use Rattle.ti_layout.specs.Checks.{is_offset_below}

-- the texts that start before this place have their NUL in the table, and no others
abbrev pub IsAfterLastNul : List ℕ → ℕ → Type 0
IsAfterLastNul table after = (place : ℕ) → ends_in table place ≡ nat_lt place after

-- a mark, or a place before another
abbrev pub is_before : ℕ → ℤ → Bool
is_before end (pos place) = nat_lt place end
is_before end (negsuc n) = true

-- each of so many offsets from a place on is a mark, or a place of a table of this size
abbrev pub AreOffsetsBelow : List ℕ → ℕ → ℕ → ℕ → Type 0
AreOffsetsBelow bytes size from count =
    (i : ℕ) → i < count → is_offset_below size (word_at 2 bytes (from + 2 * i)) ≡ true

-- each text of a part has a mark, or a place of its table
abbrev pub HasOffsetsBelow : List ℕ → Part → Type 0
HasOffsetsBelow bytes p = AreOffsetsBelow bytes p.table (offsets_from p) p.texts
