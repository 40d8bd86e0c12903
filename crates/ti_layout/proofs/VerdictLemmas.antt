-- Checks one after the other, and going over a section item by item.
use Rattle.std.proofs.Common.{◌≡◌, ℕ, suc, ◌+◌, ◌-◌, ◌*◌, ◌<◌, List, [], ◌∷◌, ◌++◌, map, refl, ap, ◌∙◌, arith}
use Rattle.std.proofs.lemmas.Bool.Decides.{nat_tests}
use Rattle.std.specs.List.{flat_map}
use Rattle.std.proofs.lemmas.List.Concat.{flat_map-cons}
use Rattle.ti_layout.specs.Layout.{places}
use Rattle.ti_layout.specs.Checks.{Check, Verdict, Passes, Ends, Fails, verdict}

abbrev pub then : Verdict → Verdict → Verdict
then Passes v = v
then (Ends may_end) v = Ends may_end
then (Fails r) v = Fails r

pub verdict_append : (len : ℕ) (xs ys : List Check) → verdict len (xs ++ ys) ≡ then (verdict len xs) (verdict len ys)
verdict_append len [] ys = refl
verdict_append len (c ∷ cs) ys = grind (arith, nat_tests, verdict_append len cs ys)

-- ---- what is left of a section after i items

pub places_left : (from size count i : ℕ) → i < count → places (from + size * i) size (count - i) ≡ (from + size * i) ∷ places (from + size * (i + 1)) size (count - (i + 1))
places_left from size count i lt =
    let k : count - i ≡ suc (count - (i + 1)) = omega arith in
    let next : from + size * i + size ≡ from + size * (i + 1) = omega arith in
    rw (k, next) refl

abbrev pub rest_of : (ℕ → Check) → ℕ → ℕ → ℕ → ℕ → ℕ → Verdict
rest_of f len from size count i = verdict len (map f (places (from + size * i) size (count - i)))

pub opened : (f : ℕ → Check) (len from size count i : ℕ) → i < count → rest_of f len from size count i ≡ then (verdict len (f (from + size * i) ∷ [])) (rest_of f len from size count (i + 1))
opened f len from size count i lt =
    ap (λ ps. verdict len (map f ps)) (places_left from size count i lt) ∙ verdict_append len (f (from + size * i) ∷ []) (map f (places (from + size * (i + 1)) size (count - (i + 1))))

-- the same of items with several checks each
abbrev pub rest_of_each : (ℕ → List Check) → ℕ → ℕ → ℕ → ℕ → ℕ → Verdict
rest_of_each f len from size count i = verdict len (flat_map f (places (from + size * i) size (count - i)))

pub opened_each : (f : ℕ → List Check) (len from size count i : ℕ) → i < count → rest_of_each f len from size count i ≡ then (verdict len (f (from + size * i))) (rest_of_each f len from size count (i + 1))
opened_each f len from size count i lt =
    let rest = places (from + size * (i + 1)) size (count - (i + 1)) in
    ap (λ ps. verdict len (flat_map f ps)) (places_left from size count i lt)
    ∙ ap (verdict len) (flat_map-cons f (from + size * i) rest) ∙ verdict_append len (f (from + size * i)) (flat_map f rest)
