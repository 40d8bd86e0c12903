-- How a text is read, one part after another.
use Rattle.std.proofs.Common.{◌≡◌, ◌∙◌, ◌++◌, ◌+◌, ◌<◌, ◌≤◌, ℕ, zero, suc, Bool, List, [], ◌∷◌, Ok, Err, ap, sym, refl, drop, length, set, take, append_assoc, arith}
use Rattle.std.proofs.lemmas.List.{drop-drop, drop-set-lt, take_more_set}
use Rattle.ti_escape.specs.declared.reading.Meant.{Meant}
use Rattle.ti_escape.specs.declared.reading.NotationFault.{NotationFault}
use Rattle.ti_escape.specs.Reading.{Read, meant_at, one_read, read_from, with_bytes}

pub read_none : (after : Bool) → read_from after 0 [] ≡ Ok []
unfolding read_from
read_none after = refl

read_from-drop : (after : Bool) (skip : ℕ) (chars : List ℕ) → read_from after skip chars ≡ read_from after 0 (drop skip chars)
unfolding read_from
read_from-drop after zero chars = refl
read_from-drop after (suc skip) [] = refl
read_from-drop after (suc skip) (char ∷ rest) = read_from-drop after skip rest

-- a part that means a byte
pub read_one : (after : Bool) (text : List ℕ) (m : Meant) → meant_at after text ≡ Ok m
    → read_from after 0 text ≡ with_bytes (m.byte ∷ []) (read_from m.percent 0 (drop (m.more + 1) text))
unfolding read_from
read_one after [] m e = absurd (cc e)
read_one after (char ∷ rest) m e =
    let next : drop m.more rest ≡ drop (m.more + 1) (char ∷ rest) = drop-drop m.more 1 (char ∷ rest) ∙ ap (λ n. drop n (char ∷ rest)) (omega arith) in
    ap (λ meant. one_read (suc (length rest)) meant (λ after skip. read_from after skip rest)) e
    ∙ ap (with_bytes (m.byte ∷ [])) (read_from-drop m.percent m.more rest ∙ ap (read_from m.percent 0) next)

-- and one that means none
pub read_fault : (after : Bool) (text : List ℕ) (fault : NotationFault) → 0 < length text → meant_at after text ≡ Err fault
    → read_from after 0 text ≡ Err (fault, length text)
unfolding read_from
read_fault after [] fault some e = absurd (let none : ¬ (0 < 0) = omega arith in none some)
read_fault after (char ∷ rest) fault some e = ap (λ meant. one_read (suc (length rest)) meant (λ after skip. read_from after skip rest)) e

pub with_more : (first : List ℕ) (byte : ℕ) (r : Read) → with_bytes first (with_bytes (byte ∷ []) r) ≡ with_bytes (first ++ byte ∷ []) r
with_more first byte (Ok bytes) = ap Ok (sym (append_assoc first (byte ∷ []) bytes))
with_more first byte (Err refused) = refl

-- a byte is put over characters that are read
pub put_one : (after : Bool) (room : List ℕ) (read : Read) (len at : ℕ) (m : Meant) → len ≤ at → at + (m.more + 1) ≤ length room → meant_at after (drop at room) ≡ Ok m
    → read ≡ with_bytes (take len room) (read_from after 0 (drop at room))
    → read ≡ with_bytes (take (len + 1) (set room len m.byte)) (read_from m.percent 0 (drop (at + (m.more + 1)) (set room len m.byte)))
put_one after room read len at m before within e h =
    let last : take len room ++ m.byte ∷ [] ≡ take (len + 1) (set room len m.byte) = sym (take_more_set room len m.byte (omega (arith, before, within))) in
    let left : drop (m.more + 1) (drop at room) ≡ drop (at + (m.more + 1)) (set room len m.byte)
    = drop-drop (m.more + 1) at room ∙ sym (drop-set-lt (at + (m.more + 1)) room len m.byte (omega (arith, before))) in
    h ∙ ap (with_bytes (take len room)) (read_one after (drop at room) m e) ∙ with_more (take len room) m.byte (read_from m.percent 0 (drop (m.more + 1) (drop at room)))
    ∙ ap (λ l. with_bytes l (read_from m.percent 0 (drop (m.more + 1) (drop at room)))) last
    ∙ ap (λ l. with_bytes (take (len + 1) (set room len m.byte)) (read_from m.percent 0 l)) left
