-- The names of a list as the code holds them, with a NUL after each.
use Rattle.std.proofs.Common.{◌≡◌, ◌∙◌, ℕ, ◌<◌, ◌≤◌, List, length, map, Option, Some, None, refl, sym, ap}
use Rattle.std.specs.Borrow.{Bor}
use Rattle.std.specs.Prelude.{MatchOption, option_map, slice_get}
use Rattle.std.specs.List.{HoldsAt}
use Rattle.std.specs.Option.{option_copied}
use Rattle.std.proofs.lemmas.Option.{none-some, same_Some, slice_get-map, slice_get_past, slice_get_read}
use Rattle.ti_names.specs.AllNames.{with_nul}

-- what the call `get` promises is the name at the index
pub lent_is : (names : List (Bor (List ℕ))) (index : ℕ) (lent : Option (Bor (Bor (List ℕ))))
    → MatchOption lent (length names ≤ index) (λ x. (index < length names) × HoldsAt (λ y. x.now ≡ y) names index)
    → option_copied lent ≡ slice_get names index
lent_is names index None past = sym (slice_get_past names index past)
lent_is names index (Some x) within = sym (slice_get_read names (length names) index x.now refl within.0 (within.1 x.now))

mapped : {X Y : Type 0} (f : X → Y) (o : Option X) (y : Y) → option_map f o ≡ Some y → (x : X) × (y ≡ f x) × (o ≡ Some x)
mapped f None y e = absurd (none-some y e)
mapped f (Some x) y e = (x, sym (same_Some (f x) y e), refl)

-- a name of the list without its NUL
pub name_held : (held : List (Bor (List ℕ))) (names : List (List ℕ)) (index : ℕ) (one : Bor (List ℕ))
    → map (λ name. name.now) held ≡ map with_nul names → slice_get held index ≡ Some one
    → (name : List ℕ) × (one.now ≡ with_nul name) × (slice_get names index ≡ Some name)
name_held held names index one is at =
    mapped with_nul (slice_get names index) one.now
    (sym (slice_get-map with_nul names index)
    ∙ ap (λ all. slice_get all index) (sym is)
    ∙ slice_get-map (λ name. name.now) held index
    ∙ ap (option_map (λ name. name.now)) at)
