-- What is true of the paths from a place to the end, and how it goes on from the last token to the first.
use Rattle.std.specs.Prelude.{◌≡◌, ℕ, ◌+◌, ◌-◌, min, max, nat_eq, nat_le, nat_lt, Bool, true, false, not, ◌||◌, ◌&&◌, List, [], ◌∷◌, ◌++◌, get_or, drop, Option, Some, bit_or}
use Rattle.ti_cap.specs.declared.language.Token.{Token}
use Rattle.ti_cap.specs.declared.language.Token.TheVariants.{Store, Load, Increment, CondOpen, CondThen, CondElse, CondClose}
use Rattle.ti_cap.specs.Height.{pops, pushes}
use Rattle.ti_cap.specs.Spelling.{Written}
use Rattle.ti_cap.specs.Capability.{Spot}
use Rattle.ti_lint.specs.declared.variables.Variables.{Variables}
use Rattle.ti_lint.specs.declared.facts.Facts.{Facts}
use Rattle.ti_lint.specs.declared.outlook.Outlook.{Outlook}
use Rattle.ti_lint.specs.declared.backward.OpenOutlooks.{OpenOutlooks}
use Rattle.ti_lint.specs.declared.token_finding.TokenFinding.{TokenFinding}
use Rattle.ti_lint.specs.declared.token_finding.TokenFinding.TheVariants.{StackResidue, UnusedIncrement, LateIncrement, DeadStore}
use Rattle.ti_lint.specs.inner.Facts.{has_bit, place_of, stored_also, is_first_two, found_if}

abbrev pub end_outlook : Outlook
end_outlook = record { needs = 0; names_first_two = false; loads = record { mask = 0 } }

abbrev pub either_outlook : Outlook → Outlook → Outlook
either_outlook a b = record {
  needs = min a.needs b.needs;
  names_first_two = a.names_first_two || b.names_first_two;
  loads = record { mask = bit_or a.loads.mask b.loads.mask };
}

-- what it pops, and what the paths after it need beside what it pushes
abbrev pub needed : Token → ℕ → ℕ
needed token after = max (pops token) (after + pops token - pushes token)

abbrev pub loaded : Token → Variables → Variables
loaded (Load which) set = stored_also which set
loaded token set = set

-- with a token before all the paths
abbrev pub outlook_before : Token → Outlook → Outlook
outlook_before token after = record {
  needs = needed token after.needs;
  names_first_two = after.names_first_two || is_first_two token;
  loads = loaded token after.loads;
}

-- ---- what is found

abbrev pub of_increment : Bool → Bool → Option TokenFinding
of_increment before true = found_if before LateIncrement
of_increment before false = Some UnusedIncrement

abbrev pub prospect : Token → Facts → Outlook → Option TokenFinding
prospect Increment before after = of_increment before.named_first_two after.names_first_two
prospect (Store which) before after = found_if (nat_le 97 which && not (has_bit after.loads.mask (place_of which))) DeadStore
prospect token before after = found_if (nat_lt 0 (pushes token) && nat_eq after.needs 0) StackResidue

-- ---- the pass from the end

-- the paths that go on from a place, and for each open conditional those that wait for its next part, the innermost first
pub record Ahead : Type 0 where
  pub here : Outlook
  pub opens : List OpenOutlooks

abbrev pub end_open : OpenOutlooks
end_open = record { failed = end_outlook; done = end_outlook }

-- nothing goes on in a conditional that the end closes
abbrev pub at_end : Ahead
at_end = record { here = end_outlook; opens = [] }

abbrev pub innermost_open : Ahead → OpenOutlooks
innermost_open a = get_or a.opens 0 end_open

abbrev pub outer_opens : Ahead → List OpenOutlooks
outer_opens a = drop 1 a.opens

-- with one token before
abbrev pub ahead_of : Token → Ahead → Ahead
ahead_of CondClose a = record { here = a.here; opens = record { failed = a.here; done = a.here } ∷ a.opens }
ahead_of CondElse a = record {
  here = (innermost_open a).done;
  opens = record { failed = a.here; done = (innermost_open a).done } ∷ outer_opens a;
}
ahead_of CondThen a = record {
  here = outlook_before CondThen (either_outlook a.here (innermost_open a).failed);
  opens = innermost_open a ∷ outer_opens a;
}
ahead_of CondOpen a = record { here = a.here; opens = outer_opens a }
ahead_of token a = record { here = outlook_before token a.here; opens = a.opens }

-- the tokens from a place to the end
abbrev pub ahead_of_all : List Token → Ahead
ahead_of_all [] = at_end
ahead_of_all (token ∷ rest) = ahead_of token (ahead_of_all rest)

-- what comes after each token, that of the first token last
abbrev pub outlooks : List Token → List Outlook
outlooks [] = []
outlooks (token ∷ rest) = outlooks rest ++ (ahead_of_all rest).here ∷ []

-- the list has what comes after each token that is left
pub record IsAhead (spot : Spot) (list : List Outlook) : Type 0 where
  pub rest : List Token
  pub left : Written rest spot.left
  pub list_is : list ≡ outlooks rest
