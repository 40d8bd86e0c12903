-- Names in the order of their offsets, and the first that is equal to another.
use Rattle.std.proofs.Common.{◌≡◌, ◌≢◌, ℕ, zero, suc, ◌+◌, ◌*◌, ◌<◌, List, [], ◌∷◌, length, take, ap, subst, ◌∙◌, arith}
use Rattle.std.specs.Prelude.{slice_get, Some}
use Rattle.ti_layout.specs.Layout.{count_of_kind, kind_names_from}
use Rattle.ti_words.specs.declared.Kind.{Kind}
use Rattle.ti_layout.specs.declared.part.Part.{Part}
use Rattle.ti_layout.specs.Content.{name_from, named_part_in}
use Rattle.ti_entry.specs.Finding.{Lacks, names_of}
use Rattle.ti_entry.proofs.NamedItemsLemmas.{names_are}
use Rattle.ti_layout.proofs.PlacesLemmas.{get_named, length_places}

-- ---- names in a row

pub named_at : (bytes : List ℕ) (x : Part) (base : ℕ) (kind : Kind) (i : ℕ) → i < count_of_kind x kind
    → slice_get (names_of (named_part_in bytes x base) kind) i ≡ Some (name_from bytes x base (kind_names_from x kind + 2 * i))
named_at bytes x base kind i lt =
    ap (λ l. slice_get l i) (names_are bytes x base kind) ∙ get_named (name_from bytes x base) (kind_names_from x kind) (count_of_kind x kind) i lt

pub named_count : (bytes : List ℕ) (x : Part) (base : ℕ) (kind : Kind) → length (names_of (named_part_in bytes x base) kind) ≡ count_of_kind x kind
named_count bytes x base kind = ap length (names_are bytes x base kind) ∙ length_places (name_from bytes x base) (kind_names_from x kind) 2 (count_of_kind x kind)

-- the names up to an index and the one at it are others
lacks_next : (names : List (List ℕ)) (name n : List ℕ) (i : ℕ) → Lacks (take i names) name → slice_get names i ≡ Some n → n ≢ name → Lacks (take (suc i) names) name
lacks_next [] name n i h e other = tt
lacks_next (m ∷ ms) name n zero h e other = (λ f. other (let same : n ≡ m = cc in same ∙ f), tt)
lacks_next (m ∷ ms) name n (suc i) h e other = (h.0, lacks_next ms name n i h.1 e other)

pub lacks_more : (names : List (List ℕ)) (name n : List ℕ) (i : ℕ) → Lacks (take i names) name → slice_get names i ≡ Some n → n ≢ name → Lacks (take (i + 1) names) name
lacks_more names name n i h e other = let next : suc i ≡ i + 1 = omega arith in subst (λ k. Lacks (take k names) name) next (lacks_next names name n i h e other)
