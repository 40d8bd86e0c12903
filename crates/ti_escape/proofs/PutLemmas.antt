-- A notation in a slice, stretch by stretch.
use Rattle.std.proofs.Common.{◌≡◌, ◌∙◌, ◌+◌, ◌≤◌, ℕ, List, [], ◌∷◌, ◌++◌, ap, sym, length, drop, take, arith, append_assoc, length-append}
use Rattle.std.proofs.lemmas.List.{drop-drop, length-take-le}
use Rattle.ti_escape.specs.declared.stretch.Space.{Space}
use Rattle.ti_escape.proofs.NotationLemmas.{spaced_all}

-- the next stretch of bytes that have room has room
pub stretch_fits : (out before after span rest whole : List ℕ) (at end : ℕ) → end ≤ length out → take end out ++ after ≡ take at before ++ whole → after ≡ span ++ rest
    → length out ≡ length before → at + length whole ≤ length before → end + length span ≤ length out
stretch_fits out before after span rest whole at end within made next same room =
    let low : at ≤ length before = omega arith in
    omega (arith, ap length made, length-append (take end out) after, length-append (take at before) whole, length-take-le end out within, length-take-le at before low, ap length next, length-append span rest)

-- what is put is what was put and the stretch
pub put-stretch : (out new text after span rest : List ℕ) (at end : ℕ) → take at out ++ after ≡ text → after ≡ span ++ rest → take end new ≡ take at out ++ span → take end new ++ rest ≡ text
put-stretch out new text after span rest at end made next put =
    ap (λ l. l ++ rest) put ∙ append_assoc (take at out) span rest ∙ ap (λ l. take at out ++ l) (sym next) ∙ made

-- what is kept after a place is kept after a later one too
pub kept-later : (out new before span : List ℕ) (at end : ℕ) → drop at out ≡ drop at before → end ≡ at + length span → drop end new ≡ drop end out → drop end new ≡ drop end before
kept-later out new before span at end kept is put =
    rw is (rw is at put ∙ sym (drop-drop (length span) at out) ∙ ap (drop (length span)) kept ∙ drop-drop (length span) at before)

-- if no bytes are left, the notation of all is put
pub put-end : (space : Space) (last : ℕ) (rest out before whole : List ℕ) (at end : ℕ) → length rest ≡ 0 → end ≤ length out → take end out ++ spaced_all space last rest ≡ take at before ++ whole
    → at + length whole ≤ length before → end ≡ at + length whole
put-end space last [] out before whole at end none within made room =
    let low : at ≤ length before = omega arith in
    omega (arith, ap length made, length-append (take end out) [], length-append (take at before) whole, length-take-le end out within, length-take-le at before low)
put-end space last (x ∷ rest) out before whole at end none within made room = absurd (omega arith)
