-- Checks of an input in a fixed order, and the refusal of the first one that is not passed.
use Rattle.std.specs.Prelude.{ℕ, ◌+◌, ◌%◌, ℤ, pos, negsuc, Bool, true, false, List, [], ◌∷◌, length, map, slice_index, Option, Some, None, Result, Ok, Err, nat_lt, if◌then◌else◌}
use Rattle.std.specs.List.{flat_map}
use Rattle.ti_layout.specs.declared.fault.Fault.{Fault}
use Rattle.ti_layout.specs.declared.fault.Fault.TheVariants.{Truncated, BadPad, Unterminated, BadExtendedName, Trailing}
use Rattle.ti_layout.specs.declared.fault.Refused.{Refused}
use Rattle.ti_words.specs.Word.{unsigned_at, word_at}
use Rattle.ti_layout.specs.Layout.{places}
use Rattle.ti_words.specs.Texts.{is_nul}
use Rattle.ti_layout.specs.Table.{ends_in}

-- one check: the length of the prefix that it reads, whether an entry may end before it, what must hold of it, and the
-- fault and the place if it does not hold
pub record Check : Type 0 where
  pub prefix : ℕ
  pub may_end : Bool
  pub holds : Bool
  pub fault : Fault
  pub place : ℕ

abbrev pub check : ℕ → Bool → Fault → ℕ → Check
check prefix holds fault place = record { prefix = prefix; may_end = false; holds = holds; fault = fault; place = place }

-- a check of what follows a whole entry: made if a byte does
abbrev pub check_after : ℕ → Bool → Fault → Check
check_after end holds fault = record { prefix = end + 1; may_end = true; holds = holds; fault = fault; place = end }

abbrev pub refusal_at : Fault → ℕ → Refused
refusal_at fault place = record { fault = fault; place = place }

-- what a list of checks says of an input: it passes them, it ends before a check, maybe as an entry does, or one fails
pub data Verdict : Type 0 where
  Passes : Verdict
  Ends : Bool → Verdict
  Fails : Refused → Verdict

-- the first check, in order, that an input of this length does not pass
abbrev pub verdict : ℕ → List Check → Verdict
verdict len [] = Passes
verdict len (c ∷ cs) =
    if nat_lt len c.prefix then Ends c.may_end
    else (if c.holds then verdict len cs
    else Fails (refusal_at c.fault c.place))

-- the refusal: if the input ends before the prefix of a check, and no entry may, it is Truncated at its length
abbrev pub refusal_of : ℕ → Verdict → Option Refused
refusal_of len Passes = None
refusal_of len (Ends may_end) = if may_end then None else Some (refusal_at Truncated len)
refusal_of len (Fails r) = Some r

-- the check that has failed: its prefix is there, it does not hold, and no earlier one fails
abbrev pub failure_of : Verdict → Option Refused
failure_of Passes = None
failure_of (Ends may_end) = None
failure_of (Fails r) = Some r

-- the verdict that a result means
abbrev pub result_verdict : {A : Type 0} → Result A Refused → Verdict
result_verdict (Ok x) = Passes
result_verdict (Err r) = Fails r

-- ---- what must hold

abbrev pub is_not_negative : ℤ → Bool
is_not_negative (pos n) = true
is_not_negative (negsuc n) = false

-- at least -2
abbrev pub is_number_word : ℤ → Bool
is_number_word (pos n) = true
is_number_word (negsuc n) = nat_lt n 2

-- at least -2, and below the size of the table
abbrev pub is_offset_below : ℕ → ℤ → Bool
is_offset_below size (pos n) = nat_lt n size
is_offset_below size (negsuc n) = nat_lt n 2

-- a mark, or a place of the table with a NUL at it or after it
abbrev pub is_ended : List ℕ → ℤ → Bool
is_ended table (pos place) = ends_in table place
is_ended table (negsuc n) = true

-- ---- checks of whole sections, item by item

abbrev pub nul_check : List ℕ → Fault → ℕ → Check
nul_check bytes fault p = check (p + 1) (is_nul (slice_index bytes p)) fault p

-- a byte 0 at an odd place, so that what follows starts at an even one
abbrev pub pad_checks : List ℕ → ℕ → List Check
pad_checks bytes p = map (nul_check bytes BadPad) (places p 1 (p % 2))

-- the table, which ends at end, is there: checked also if no offset is a place in it
abbrev pub table_check : ℕ → Check
table_check end = check end true Unterminated end

abbrev pub ending_check : List ℕ → List ℕ → ℕ → ℕ → Check
ending_check bytes table end p = check end (is_ended table (word_at 2 bytes p)) Unterminated p

-- each text has its NUL in the table
abbrev pub ending_checks : List ℕ → List ℕ → ℕ → ℕ → ℕ → List Check
ending_checks bytes table end from count = table_check end ∷ map (ending_check bytes table end) (places from 2 count)

-- the name at an offset, counted from base: its place is in the table, and a NUL stands at it or after it
abbrev pub name_place_checks : List ℕ → List ℕ → ℕ → ℕ → ℕ → List Check
name_place_checks bytes table base end p =
    check end (nat_lt (base + unsigned_at 2 bytes p) (length table)) BadExtendedName p
    ∷ check end (ends_in table (base + unsigned_at 2 bytes p)) Unterminated p
    ∷ []

abbrev pub all_name_place_checks : List ℕ → List ℕ → ℕ → ℕ → List ℕ → List Check
all_name_place_checks bytes table base end ps = flat_map (name_place_checks bytes table base end) ps

-- no byte follows
abbrev pub end_check : ℕ → Check
end_check end = check_after end false Trailing
