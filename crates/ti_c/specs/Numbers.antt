-- The numbers by which C knows the faults, as `include/ti.h` names them.
use Rattle.std.specs.Prelude.{ℕ, Option, Some, None}
use Rattle.ti_cap.specs.declared.language.CapFault.{CapFault}
use Rattle.ti_cap.specs.declared.language.CapFault.TheVariants as capability
use Rattle.ti_draft.specs.declared.fault.EncodeFault.{EncodeFault}
use Rattle.ti_draft.specs.declared.fault.EncodeFault.TheVariants as encode
use Rattle.ti_layout.specs.declared.fault.Fault.{Fault}
use Rattle.ti_layout.specs.declared.fault.Fault.TheVariants as entry

-- no fault
abbrev pub done : ℕ
done = 0

-- the faults of an entry
abbrev pub entry_number : Fault → ℕ
entry_number entry.Truncated = 1
entry_number entry.BadMagic = 2
entry_number entry.BadHeader = 3
entry_number entry.HeaderTooBig = 4
entry_number entry.BadNames = 5
entry_number entry.BadFlag = 6
entry_number entry.BadPad = 7
entry_number entry.BadNumber = 8
entry_number entry.BadOffset = 9
entry_number entry.Unterminated = 10
entry_number entry.BadExtendedHeader = 11
entry_number entry.ExtendedTooBig = 12
entry_number entry.BadExtendedName = 13
entry_number entry.Trailing = 14

-- the faults of a capability
abbrev pub capability_number : CapFault → ℕ
capability_number capability.TooLong = 101
capability_number capability.CutShort = 102
capability_number capability.UnknownEscape = 103
capability_number capability.BadParameter = 104
capability_number capability.BadVariable = 105
capability_number capability.BadConstant = 106
capability_number capability.BadFormat = 107
capability_number capability.StrayThen = 108
capability_number capability.StrayElse = 109
capability_number capability.StrayEnd = 110
capability_number capability.NoThen = 111
capability_number capability.NestTooDeep = 112
capability_number capability.StackTooDeep = 113

-- the faults of an expansion: more than nine parameters, a text that is too long; a call for C brings a stack that is deep
-- enough and takes no memory, so the other faults of an expansion have no number
abbrev pub too_many_parameters : ℕ
too_many_parameters = 201

abbrev pub text_too_long : ℕ
text_too_long = 202

-- less room than the output needs, of an expansion and of padding
abbrev pub out_too_small : ℕ
out_too_small = 203

-- a capability that is not kept
abbrev pub does_not_fit : ℕ
does_not_fit = 204

-- no variables for a kept capability that has some
abbrev pub no_variables : ℕ
no_variables = 205

-- the faults of padding: a rate or a count of lines above its limit, a padded text that is too long
abbrev pub bad_padding : ℕ
bad_padding = 301

abbrev pub too_much : ℕ
too_much = 302

-- no capability has the name, or none stands at the place
abbrev pub not_named : ℕ
not_named = 401

-- an array has less room than the entry requires
abbrev pub room_too_small : ℕ
room_too_small = 402

-- the faults of an entry that is to be written
abbrev pub bad_name : ℕ
bad_name = 501

abbrev pub nul_in_text : ℕ
nul_in_text = 502

abbrev pub number_out_of_range : ℕ
number_out_of_range = 503

abbrev pub too_many_or_long : ℕ
too_many_or_long = 504

-- a call for C takes no memory, so that fault has no number
abbrev pub encode_number : EncodeFault → Option ℕ
encode_number encode.BadName = Some bad_name
encode_number encode.NulInText = Some nul_in_text
encode_number encode.NumberOutOfRange = Some number_out_of_range
encode_number encode.TooManyOrLong = Some too_many_or_long
encode_number encode.Memory = None
