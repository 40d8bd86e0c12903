-- A mark after its decimals.
use Rattle.std.proofs.Common.{◌≡◌, ◌+◌, ◌-◌, ℕ, List, refl, length, take, drop, add-one, ap, ◌∙◌}
use Rattle.std.specs.Prelude.{Some}
use Rattle.std.proofs.lemmas.List.{take_rest}
use Rattle.ti_pad.specs.Marks.{decimals_at, mark_after_whole, mark_after_number}

pub mark_after_whole-some : (whole rest d : List ℕ) → decimals_at rest ≡ Some d
    → mark_after_number whole (Some d) (take (length rest - (length d + 1)) (drop (length d + 1) rest)) ≡ mark_after_whole whole rest
mark_after_whole-some whole rest d e =
    ap (mark_after_number whole (Some d)) (take_rest rest (length d + 1)) ∙ rw (add-one, e) refl
