-- Which values may be at each place of the stack, the top first.
use Rattle.std.specs.Prelude.{ℕ, zero, suc, ◌*◌, ◌/◌, ◌%◌, ◌^◌, nat_eq, Bool, true, false, if◌then◌else◌, Option, Some, None, bit_or}
use Rattle.ti_cap.specs.declared.language.Token.{Token}
use Rattle.ti_cap.specs.Height.{pops, pushes}
use Rattle.ti_cap.specs.Sources.{source}
use Rattle.ti_lint.specs.declared.values.Source.{Source}
use Rattle.ti_lint.specs.declared.values.Source.TheVariants.{First, Second, Third, Other}
use Rattle.ti_lint.specs.declared.values.Values.{Values}

abbrev pub source_of : Option ℕ → Source
source_of None = Other
source_of (Some which) = if nat_eq which 1 then First else (if nat_eq which 2 then Second else (if nat_eq which 3 then Third else Other))

abbrev pub same_source : Source → Source → Bool
same_source First First = true
same_source Second Second = true
same_source Third Third = true
same_source Other Other = true
same_source _ _ = false

-- the places of the values from a source
abbrev pub mask_of : Source → Values → ℕ
mask_of First v = v.first
mask_of Second v = v.second
mask_of Third v = v.third
mask_of Other v = v.other

abbrev pub no_values : Values
no_values = record { first = 0; second = 0; third = 0; other = 0 }

abbrev pub either_values : Values → Values → Values
either_values a b = record {
  first = bit_or a.first b.first;
  second = bit_or a.second b.second;
  third = bit_or a.third b.third;
  other = bit_or a.other b.other;
}

-- so many values are popped
abbrev pub dropped : ℕ → ℕ → ℕ
dropped zero mask = mask
dropped (suc n) mask = dropped n (mask / 2 ^ 1)

-- a value is pushed, if one is; the test says whether it is of the source
abbrev pub pushed : ℕ → Bool → ℕ → ℕ
pushed zero is_top mask = mask
pushed (suc n) true mask = bit_or (mask * 2 ^ 1 % 2 ^ 64) 1
pushed (suc n) false mask = mask * 2 ^ 1 % 2 ^ 64

abbrev pub moved : Token → Source → ℕ → ℕ
moved token one mask = pushed (pushes token) (same_source one (source_of (source token))) (dropped (pops token) mask)

abbrev pub after_values : Token → Values → Values
after_values token v = record {
  first = moved token First v.first;
  second = moved token Second v.second;
  third = moved token Third v.third;
  other = moved token Other v.other;
}
