-- What is written of an entry, and which entries are not written, and why: the first of four faults that one has.
use Rattle.std.specs.Prelude.{◌≡◌, ◌<◌, ◌⊎◌, ℕ, pos, negsuc, Bool, true, false, ◌||◌, ◌==◌, List, length, map, nat_lt, Option, Some, None, if◌then◌else◌, codes}
use Rattle.std.specs.List.{list_any}
use Rattle.ti_words.specs.declared.Number.{Number}
use Rattle.ti_words.specs.declared.Number.TheVariants as numbers
use Rattle.ti_words.specs.declared.Width.{Width}
use Rattle.ti_words.specs.Texts.{TextValue, AbsentText, CancelledText, TextOf, is_nul}
use Rattle.ti_draft.specs.declared.fault.EncodeFault.{EncodeFault}
use Rattle.ti_draft.specs.declared.fault.EncodeFault.TheVariants as faults
use Rattle.ti_draft.specs.declared.fault.EncodeIntoFault.{EncodeIntoFault}
use Rattle.ti_draft.specs.declared.fault.EncodeIntoFault.TheVariants.{Refused, OutTooSmall}
use Rattle.ti_words.specs.Value.{EntryValue}
use Rattle.ti_words.specs.Widths.{greatest_number}
use Rattle.ti_base.specs.Limits.{most_entry_bytes}
use Rattle.ti_words.specs.Spelling.{Spells, mark_in, part_names}
use Rattle.ti_draft.specs.Canonical.{canonical}

abbrev pub has_nul : List ℕ → Bool
has_nul bytes = list_any is_nul bytes

abbrev pub text_has_nul : TextValue → Bool
text_has_nul AbsentText = false
text_has_nul CancelledText = false
text_has_nul (TextOf text) = has_nul text

-- the names are empty or hold a NUL, or an extended name holds one
abbrev pub has_bad_name : EntryValue → Bool
has_bad_name v = (length v.names == 0) || has_nul v.names || list_any text_has_nul (map TextOf (part_names v.extended))

-- a text holds a NUL
abbrev pub has_bad_text : EntryValue → Bool
has_bad_text v = list_any text_has_nul v.standard.texts || list_any text_has_nul (map mark_in v.extended.texts)

abbrev pub is_out_of_range : Width → Number → Bool
is_out_of_range w numbers.Absent = false
is_out_of_range w numbers.Cancelled = false
is_out_of_range w (numbers.Value (pos n)) = nat_lt (greatest_number w) n
is_out_of_range w (numbers.Value (negsuc n)) = true

-- a number is negative, or too great for the format
abbrev pub has_bad_number : EntryValue → Bool
has_bad_number v =
    list_any (is_out_of_range v.width) v.standard.numbers
    || list_any (is_out_of_range v.width) (map mark_in v.extended.numbers)

-- its bytes are too many for an entry
abbrev pub is_too_long : EntryValue → Bool
is_too_long v = nat_lt most_entry_bytes (length (canonical v))

-- why an entry is not written, if it is not
abbrev pub encode_fault : EntryValue → Option EncodeFault
encode_fault v =
    if has_bad_name v then Some faults.BadName
    else (if has_bad_text v then Some faults.NulInText
    else (if has_bad_number v then Some faults.NumberOutOfRange
    else (if is_too_long v then Some faults.TooManyOrLong else None)))

-- what is written of an entry: its one layout, which spells it, and only if it has no fault
pub record IsEncodingOf (v : EntryValue) (bytes : List ℕ) : Type 0 where
  pub canonical : bytes ≡ canonical v
  pub spells : Spells bytes v
  pub fit : encode_fault v ≡ None

-- why nothing is written: the first fault that there is, or no memory if there is none
pub record IsEncodeFault (v : EntryValue) (fault : EncodeFault) : Type 0 where
  pub first : (encode_fault v ≡ Some fault) ⊎ ((encode_fault v ≡ None) × (fault ≡ faults.Memory))
  pub memory : fault ≡ faults.Memory → encode_fault v ≡ None

-- why nothing is written into a room: the first fault that there is, or else fewer bytes than the entry needs
abbrev pub IsEncodeIntoFault : EntryValue → ℕ → EncodeIntoFault → Type 0
IsEncodeIntoFault v room (Refused fault) = encode_fault v ≡ Some fault
IsEncodeIntoFault v room (OutTooSmall need) =
    (encode_fault v ≡ None) × (need ≡ length (canonical v)) × (room < need)

-- the names of the faults
abbrev pub encode_fault_word : EncodeFault → List ℕ
encode_fault_word faults.BadName = codes "BadName"
encode_fault_word faults.NulInText = codes "NulInText"
encode_fault_word faults.NumberOutOfRange = codes "NumberOutOfRange"
encode_fault_word faults.TooManyOrLong = codes "TooManyOrLong"
encode_fault_word faults.Memory = codes "Memory"
