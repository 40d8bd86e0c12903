-- The decimals of a mark of the code.
use Rattle.std.specs.Prelude.{◌≡◌, true, ℕ, List, [], Option, option_map, unwrap_or}
use Rattle.std.specs.Borrow.{Bor}
use Rattle.std.specs.Char.{is_ascii_digit}
use Rattle.std.specs.List.{list_all}

-- the decimals that a slice lends, if there are any
abbrev pub decimals_of : Option (Bor (List ℕ)) → Option (List ℕ)
decimals_of = option_map (λ s. s.now)

-- decimals that are there are digits
abbrev pub AreDecimals : Option (Bor (List ℕ)) → Type 0
AreDecimals decimals = list_all is_ascii_digit (unwrap_or (decimals_of decimals) []) ≡ true
