-- How the facts that hold on some path go on with each token; proofs/ ties them to the walks over the tokens.
use Rattle.std.specs.Prelude.{ℕ, zero, suc, ◌-◌, ◌*◌, ◌/◌, ◌%◌, ◌^◌, ◌≤◌, nat_eq, nat_le, nat_lt, Bool, true, false, not, ◌||◌, ◌&&◌, if◌then◌else◌, Option, Some, None, bit_and, bit_or}
use Rattle.std.specs.Int.{bit_at}
use Rattle.ti_cap.specs.declared.language.Token.{Token}
use Rattle.ti_cap.specs.declared.language.Token.TheVariants.{Param, Store, Load, Increment}
use Rattle.ti_cap.specs.Height.{pops, pushes}
use Rattle.ti_cap.specs.Sources.{takes_text}
use Rattle.ti_lint.specs.declared.variables.Variables.{Variables}
use Rattle.ti_lint.specs.declared.heights.Heights.{Heights}
use Rattle.ti_lint.specs.declared.facts.Facts.{Facts}
use Rattle.ti_lint.specs.declared.expected.Expected.{Expected}
use Rattle.ti_lint.specs.declared.expected.TextParameters.{TextParameters}
use Rattle.ti_lint.specs.declared.values.Values.{Values}
use Rattle.ti_lint.specs.declared.token_finding.TokenFinding.{TokenFinding}
use Rattle.ti_lint.specs.declared.token_finding.TokenFinding.TheVariants.{StackUnderflow, TermcapParameter, ParameterRange, RepeatedIncrement, UnsetVariable, OperandType}
use Rattle.ti_lint.specs.inner.Values.{no_values, either_values, after_values}

abbrev pub has_bit : ℕ → ℕ → Bool
has_bit mask place = nat_eq (bit_at mask place) 1

-- ---- heights

abbrev pub lowered : Heights → Heights
lowered h = record { mask = bit_or (h.mask / 2 ^ 1) (bit_and h.mask 1) }

abbrev pub raised : Heights → Heights
raised h = record { mask = h.mask * 2 ^ 1 % 2 ^ 64 }

abbrev pub either_height : Heights → Heights → Heights
either_height a b = record { mask = bit_or a.mask b.mask }

abbrev pub after_pops : ℕ → Heights → Heights
after_pops zero h = h
after_pops (suc n) h = after_pops n (lowered h)

abbrev pub after_pushes : ℕ → Heights → Heights
after_pushes zero h = h
after_pushes (suc n) h = after_pushes n (raised h)

abbrev pub after_heights : Token → Heights → Heights
after_heights token h = after_pushes (pushes token) (after_pops (pops token) h)

-- some height is below this
abbrev pub is_any_below : ℕ → Heights → Bool
is_any_below zero h = false
is_any_below (suc n) h = is_any_below n h || has_bit h.mask n

abbrev pub lacks : Token → Heights → Bool
lacks token h = is_any_below (pops token) h

-- ---- variables

abbrev pub place_of : ℕ → ℕ
place_of which = which - 65

abbrev pub stored_also : ℕ → Variables → Variables
stored_also which set = record { mask = bit_or set.mask (2 ^ place_of which) }

abbrev pub either_set : Variables → Variables → Variables
either_set a b = record { mask = bit_or a.mask b.mask }

abbrev pub both_sets : Variables → Variables → Variables
both_sets a b = record { mask = bit_and a.mask b.mask }

abbrev pub after_stores : Token → Variables → Variables
after_stores (Store which) set = stored_also which set
after_stores token set = set

-- the variable that a token names is a letter
abbrev pub IsLettered : Token → Type 0
IsLettered (Store which) = (65 ≤ which) × (which ≤ 122)
IsLettered (Load which) = (65 ≤ which) × (which ≤ 122)
IsLettered token = Unit {0}

-- ---- all of them

abbrev pub no_facts : Facts
no_facts = record { heights = record { mask = 0 }; incremented = false; named_first_two = false; stored = record { mask = 2 ^ 64 - 1 }; values = no_values }

abbrev pub first_facts : Facts
first_facts = record { heights = record { mask = 1 }; incremented = false; named_first_two = false; stored = record { mask = 0 }; values = no_values }

abbrev pub joined : Facts → Facts → Facts
joined a b = record {
  heights = either_height a.heights b.heights;
  incremented = a.incremented || b.incremented;
  named_first_two = a.named_first_two || b.named_first_two;
  stored = both_sets a.stored b.stored;
  values = either_values a.values b.values;
}

abbrev pub after_increment : Token → Bool → Bool
after_increment Increment met = true
after_increment token met = met

abbrev pub is_first_two : Token → Bool
is_first_two (Param which) = nat_eq which 1 || nat_eq which 2
is_first_two token = false

abbrev pub after_token : Token → Facts → Facts
after_token token f = record {
  heights = after_heights token f.heights;
  incremented = after_increment token f.incremented;
  named_first_two = f.named_first_two || is_first_two token;
  stored = after_stores token f.stored;
  values = after_values token f.values;
}

-- ---- what is found

abbrev pub found_if : Bool → TokenFinding → Option TokenFinding
found_if test finding = if test then Some finding else None

-- the variable keeps a value that a text of the entry has stored
abbrev pub is_kept : Expected → ℕ → Bool
is_kept expected which = nat_le which 90 && has_bit expected.stored.mask (place_of which)

abbrev pub is_unset : Expected → ℕ → Facts → Bool
is_unset expected which f = not (has_bit f.stored.mask (place_of which)) && not (is_kept expected which)

abbrev pub underflow : Bool → TokenFinding
underflow true = TermcapParameter
underflow false = StackUnderflow

-- a text is wanted, or a number
abbrev pub agrees : Bool → Bool → Bool
agrees true is_text = is_text
agrees false is_text = not is_text

-- some path has a value of the kind at the place
abbrev pub has_kind : TextParameters → Bool → Values → ℕ → Bool
has_kind texts wanted v place =
    ((agrees wanted texts.first && has_bit v.first place) || (agrees wanted texts.second && has_bit v.second place))
    || ((agrees wanted texts.third && has_bit v.third place) || (not wanted && has_bit v.other place))

-- one of so many values on top is of the kind on no path
abbrev pub is_other_below : ℕ → TextParameters → Bool → Values → Bool
is_other_below zero texts wanted v = false
is_other_below (suc n) texts wanted v = is_other_below n texts wanted v || not (has_kind texts wanted v n)

-- what is told of a token that pops
abbrev pub of_pops : Bool → TokenFinding → Bool → Option TokenFinding
of_pops true below other = Some below
of_pops false below other = found_if other OperandType

-- `termcap` says that no parameter is named
abbrev pub judgement : Expected → Bool → Token → Facts → Option TokenFinding
judgement expected termcap (Param which) f = found_if (nat_lt expected.parameters which) ParameterRange
judgement expected termcap Increment f = found_if f.incremented RepeatedIncrement
judgement expected termcap (Load which) f = found_if (is_unset expected which f) UnsetVariable
judgement expected termcap token f =
    of_pops (lacks token f.heights) (underflow termcap) (is_other_below (pops token) expected.texts (takes_text token) f.values)
