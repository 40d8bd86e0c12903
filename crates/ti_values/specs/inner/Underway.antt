-- A pass over a text, between two tokens.
use Rattle.std.specs.Prelude.{◌≡◌, ◌<◌, ◌++◌, ◌||◌, Bool, List, [], Option, Some, None, length}
use Rattle.ti_cap.specs.declared.language.Token.{Token}
use Rattle.ti_cap.specs.Spelling.{Written}
use Rattle.ti_expand.specs.Steps.{Underway, steps}
use Rattle.ti_values.specs.Negative.{some_negative}

-- however tokens write what was left, a number below 0 was printed by the first of them, or some later one prints it
abbrev pub GoesOn : (old new : Underway) → Bool → Type 0
GoesOn old new negative = (ks : List Token) → Written ks old.spot.left
    → (rest : List Token) × Written rest new.spot.left
    × (some_negative old.state (steps old.mode old.state ks) ≡ negative || some_negative new.state (steps new.mode new.state rest))
