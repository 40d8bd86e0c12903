-- SectionItems that lie one after the other.
use Rattle.std.proofs.Common.{◌≡◌, ℕ, zero, suc, ◌+◌, ◌*◌, ◌<◌, ◌≤◌, List, [], ◌∷◌, ◌++◌, map, length, get_or, refl, ap, ◌∙◌, arith}
use Rattle.std.proofs.lemmas.Option.{slice_get-get_or, slice_get_past}
use Rattle.std.specs.Prelude.{slice_get, Some, None}
use Rattle.ti_words.specs.declared.Width.{Width}
use Rattle.ti_layout.specs.Layout.{places}
use Rattle.ti_words.specs.Widths.{number_size}

pub length_places : {A : Type 0} (f : ℕ → A) (from size count : ℕ) → length (map f (places from size count)) ≡ count
length_places f from size zero = refl
length_places f from size (suc count) = ap suc (length_places f (from + size) size count)

pub item_at : {A : Type 0} (f : ℕ → A) (from size count i : ℕ) (d : A) → i < count → get_or (map f (places from size count)) i d ≡ f (from + size * i)
item_at f from size zero i d lt = absurd (omega arith)
item_at f from size (suc count) zero d lt = ap f (omega arith)
item_at f from size (suc count) (suc i) d lt = item_at f (from + size) size count i d (omega arith) ∙ ap f (omega arith)

pub no_item_at : {A : Type 0} (f : ℕ → A) (from size count i : ℕ) (d : A) → count ≤ i → get_or (map f (places from size count)) i d ≡ d
no_item_at f from size zero i d le = refl
no_item_at f from size (suc count) zero d le = absurd (omega arith)
no_item_at f from size (suc count) (suc i) d le = no_item_at f (from + size) size count i d (omega arith)

pub get_named : (f : ℕ → List ℕ) (from count i : ℕ) → i < count → slice_get (map f (places from 2 count)) i ≡ Some (f (from + 2 * i))
get_named f from count i lt = slice_get-get_or (map f (places from 2 count)) i [] (omega (arith, length_places f from 2 count)) ∙ ap Some (item_at f from 2 count i [] lt)

pub get_none : (f : ℕ → List ℕ) (from count i : ℕ) → count ≤ i → slice_get (map f (places from 2 count)) i ≡ None
get_none f from count i le = slice_get_past (map f (places from 2 count)) i (omega (arith, length_places f from 2 count))

-- a number and those before it lie within as many as there are
pub within : (w : Width) (i count : ℕ) → i < count → number_size w * i + number_size w ≤ number_size w * count
within w i count lt = grind arith

pub places_append : (from size a b : ℕ) → places from size (a + b) ≡ places from size a ++ places (from + size * a) size b
places_append from size zero b =
    let at : from ≡ from + size * 0 = omega arith in
    let n : zero + b ≡ b = omega arith in
    ap (places from size) n ∙ ap (λ p. places p size b) at
places_append from size (suc a) b =
    let n : suc a + b ≡ suc (a + b) = omega arith in
    let at : from + size + size * a ≡ from + size * suc a = omega arith in
    ap (places from size) n ∙ ap (λ (ps : List ℕ). from ∷ ps) (places_append (from + size) size a b ∙ ap (λ p. places (from + size) size a ++ places p size b) at)
