-- Names and marks of the extended capabilities that arrays hold.
use Rattle.std.proofs.Common.{◌≡◌, ℕ, List, length, map, sym, ◌∙◌}
use Rattle.std.proofs.lemmas.List.{length-map}
use Rattle.std.specs.List.{zip}
use Rattle.ti_words.specs.Spelling.{name_in, mark_in}
use Rattle.ti_draft.proofs.NamedLemmas.{firsts, seconds}

pub given_names : {N X B : Type 0} (f : N → List ℕ) (g : X → B) (ns : List N) (xs : List X) → length ns ≡ length xs → map name_in (zip (map f ns) (map g xs)) ≡ map f ns
given_names f g ns xs h = firsts f ns (map g xs) (h ∙ sym (length-map xs g))

pub given_marks : {N X B : Type 0} (f : N → List ℕ) (g : X → B) (ns : List N) (xs : List X) → length ns ≡ length xs → map mark_in (zip (map f ns) (map g xs)) ≡ map g xs
given_marks f g ns xs h = seconds f ns (map g xs) (h ∙ sym (length-map xs g))
