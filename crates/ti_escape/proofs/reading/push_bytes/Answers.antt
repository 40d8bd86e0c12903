use Rattle.std.proofs.Common.{◌≡◌, ◌<◌, ◌≤◌, ◌-◌, ◌+◌, ◌∙◌, ◌++◌, [], ◌∷◌, Ok, length, take, drop, ap, sym, append_assoc, append-nil, arith, vec_len}
use Rattle.std.proofs.lemmas.Grind.{common_steps}
use Rattle.std.proofs.lemmas.List.{length-drop, take_all}
use Rattle.ti_escape.specs.Reading.{placed, read_from, with_bytes}
use Rattle.ti_escape.proofs.ReadingLemmas.{read_fault, read_none, read_one, with_more}
use Rattle.ti_escape.proofs.reading.push_bytes.Goals as goal

pub characters-preserved : goal.characters-preserved
characters-preserved g c =
    let meant = c.in-Ok.meant in
    let left = c.characters.left.now in
    let kept = c.characters.invariant in
    let rest : take (length left - (meant.more + 1)) (drop (meant.more + 1) left) ≡ drop (meant.more + 1) left
    = take_all (length left - (meant.more + 1)) (drop (meant.more + 1) left) (omega (arith, length-drop (meant.more + 1) left)) in
    let shorter : length (take (length left - (meant.more + 1)) (drop (meant.more + 1) left)) ≤ length c.args.notation.now
    = omega (arith, ap length rest, length-drop (meant.more + 1) left, kept.0) in
    let longer : vec_len c.push.new.self ≡ vec_len c.characters.out + 1 = grind (arith, common_steps) in
    let grown : c.push.new.self.items ≡ c.characters.out.items ++ meant.byte ∷ [] = grind (arith, common_steps) in (
      shorter,
      (
        kept.1.0 ++ meant.byte ∷ [],
        grown ∙ ap (λ l. l ++ meant.byte ∷ []) kept.1.1 ∙ append_assoc c.args.out.now.items kept.1.0 (meant.byte ∷ []),
        kept.1.2 ∙ ap (with_bytes kept.1.0) (read_one c.characters.after_percent left meant (sym c.meaning.ensures.meant ∙ c.in-Ok.is))
            ∙ with_more kept.1.0 meant.byte (read_from meant.percent 0 (drop (meant.more + 1) left))
            ∙ ap (λ r. with_bytes (kept.1.0 ++ meant.byte ∷ []) (read_from meant.percent 0 r)) (sym rest),
      ),
      λ room. omega (arith, kept.2 room, longer, c.push.ensures.capacity, ap length rest, length-drop (meant.more + 1) left),
    )

pub returns-in-Err-clause-refused : goal.returns-in-Err-clause-refused
returns-in-Err-clause-refused g c =
    let kept = c.characters.invariant in
    let some : 0 < length c.characters.left.now = grind (arith, common_steps) in
    ap (placed (length c.args.notation.now)) (kept.1.2 ∙ ap (with_bytes kept.1.0) (read_fault c.characters.after_percent c.characters.left.now c.in-Err.fault some (sym c.meaning.ensures.meant ∙ c.in-Err.is)))

pub returns-clause-text : goal.returns-clause-text
returns-clause-text g c =
    let kept = c.characters.invariant in
    let none : c.characters.left.now ≡ [] = grind (arith, common_steps) in
    let whole : read_from c.characters.after_percent 0 c.characters.left.now ≡ Ok [] = ap (read_from c.characters.after_percent 0) none ∙ read_none c.characters.after_percent in
    (kept.1.0, ap (placed (length c.args.notation.now)) (kept.1.2 ∙ ap (with_bytes kept.1.0) whole ∙ ap Ok (append-nil kept.1.0)), kept.1.1)
