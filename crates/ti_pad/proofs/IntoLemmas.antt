-- A padded text in a slice, stretch by stretch.
use Rattle.std.proofs.Common.{◌≡◌, ◌∙◌, ◌+◌, ◌≤◌, ℕ, List, ◌++◌, ap, sym, length, drop, take, arith, append_assoc, length-append}
use Rattle.std.proofs.lemmas.List.{drop-drop, length-take-le, take-append-drop}
use Rattle.ti_pad.specs.Padded.{padded_text}
use Rattle.ti_pad.specs.Setting.{Setting}
use Rattle.ti_pad.proofs.PaddedTextLemmas.{padded_text_none}

-- the next stretch of a text that has room has room
pub stretch_fits : (out text after run rest : List ℕ) (at : ℕ) → at ≤ length out → take at out ++ after ≡ text → after ≡ run ++ rest → length text ≤ length out → at + length run ≤ length out
stretch_fits out text after run rest at within made next fits =
    omega (arith, ap length made, length-append (take at out) after, length-take-le at out within, ap length next, length-append run rest, fits)

-- what is put is the text so far and the stretch
pub put-stretch : (out new text after run rest : List ℕ) (at end : ℕ) → take at out ++ after ≡ text → after ≡ run ++ rest → take end new ≡ take at out ++ run → take end new ++ rest ≡ text
put-stretch out new text after run rest at end made next put =
    ap (λ l. l ++ rest) put ∙ append_assoc (take at out) run rest ∙ ap (λ l. take at out ++ l) (sym next) ∙ made

-- what stands after a place stands after a later one too
pub kept-later : (out new before run : List ℕ) (at end : ℕ) → drop at out ≡ drop at before → end ≡ at + length run → drop end new ≡ drop end out → drop end new ≡ drop end before
kept-later out new before run at end kept is put =
    rw is (rw is at put ∙ sym (drop-drop (length run) at out) ∙ ap (drop (length run)) kept ∙ drop-drop (length run) at before)

-- if no text is left, all of it is put
pub put-whole : (rest out before text : List ℕ) (s : Setting) (at : ℕ) → length rest ≡ 0 → at ≤ length out → take at out ++ padded_text rest s ≡ text → drop at out ≡ drop at before
    → out ≡ text ++ drop (length text) before
put-whole rest out before text s at none within made kept =
    let whole : take at out ≡ text = padded_text_none rest (take at out) text s none made in
    let is : length text ≡ at = ap length (sym whole) ∙ length-take-le at out within in
    sym (take-append-drop at out) ∙ ap (λ l. l ++ drop at out) whole ∙ ap (λ l. text ++ l) (kept ∙ ap (λ n. drop n before) (sym is))
