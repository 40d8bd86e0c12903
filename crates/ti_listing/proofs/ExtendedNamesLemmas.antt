-- Names that are gone over one after another.
use Rattle.std.proofs.Common.{◌≡◌, ◌∙◌, ◌+◌, ◌<◌, ◌≤◌, ℕ, List, [], ◌∷◌, ◌++◌, add-one, ap, drop, get_or, length, map, sym, take, arith, if◌then◌else◌}
use Rattle.std.proofs.Math.ListN.{drop_of_length-le}
use Rattle.std.proofs.Math.Seq.{drop-cons, take-suc}
use Rattle.std.proofs.lemmas.List.{get_or-map, length-map, map-append}
use Rattle.ti_words.specs.declared.Kind.{Kind}
use Rattle.ti_words.specs.Items.{ExtendedSubject, SubjectValue}
use Rattle.ti_listing.specs.Differences.{has, with_new}

-- the next of those that may be new
pub next_new : (names more : List (List ℕ)) (i : ℕ) → i < length more
    → with_new names (drop i more) ≡ with_new (if has names (get_or more i []) then names else names ++ get_or more i [] ∷ []) (drop (i + 1) more)
next_new names more i within =
    ap (with_new names) (drop-cons more i [] within)
    ∙ ap (λ n. with_new (if has names (get_or more i []) then names else names ++ get_or more i [] ∷ []) (drop n more)) (sym (add-one i))

pub end_new : (names more : List (List ℕ)) (i : ℕ) → length more ≤ i → with_new names (drop i more) ≡ names
end_new names more i past = ap (with_new names) (drop_of_length-le more past)

-- a front of them is one longer
pub next_name : {X : Type 0} (name_of : X → List ℕ) (kind : Kind) (names : List X) (i : ℕ) (d : X) → i < length names
    → map (ExtendedSubject kind) (take (i + 1) (map name_of names)) ≡ map (ExtendedSubject kind) (take i (map name_of names)) ++ ExtendedSubject kind (name_of (get_or names i d)) ∷ []
next_name name_of kind names i d within =
    let all : List (List ℕ) = map name_of names in
    let subjects : List (List ℕ) → List SubjectValue = map (ExtendedSubject kind) in
    ap (λ n. subjects (take n all)) (add-one i)
    ∙ ap subjects (take-suc all i [] (omega (arith, within, length-map names name_of)))
    ∙ map-append (ExtendedSubject kind) (take i all) (get_or all i [] ∷ [])
    ∙ ap (λ x. subjects (take i all) ++ ExtendedSubject kind x ∷ []) (get_or-map name_of names i d [] within)
