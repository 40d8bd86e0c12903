use Rattle.std.proofs.Common.{◌≡◌, ◌≤◌, ◌<◌, ◌+◌, ◌-◌, ◌∙◌, ℕ, List, [], Ok, Err, ap, append-nil, arith, drop, length, sym, take}
use Rattle.std.proofs.lemmas.List.{drop_all, length-drop, length-set, take_all}
use Rattle.std.specs.Prelude.{Result}
use Rattle.ti_escape.specs.declared.reading.NotationFault.{NotationFault}
use Rattle.ti_escape.specs.declared.reading.NotationRefused.{NotationRefused}
use Rattle.ti_escape.specs.Reading.{meant_at, placed, read_from, with_bytes}
use Rattle.ti_escape.proofs.ReadingLemmas.{put_one, read_fault, read_none}
use Rattle.ti_escape.proofs.in_place.read_in_place.Goals as goal

pub characters-preserved : goal.characters-preserved
characters-preserved c =
    let kept = c.characters.invariant in
    let room = c.characters.room in
    let at = c.characters.at in
    let meant = c.in-Ok.meant in
    let left : take (length room - at) (drop at room) ≡ drop at room = take_all (length room - at) (drop at room) (omega (arith, length-drop at room)) in
    let means : meant_at c.characters.after_percent (drop at room) ≡ Ok meant = ap (meant_at c.characters.after_percent) (sym left) ∙ sym c.meaning.ensures.meant ∙ c.in-Ok.is in
    let within : at + (meant.more + 1) ≤ length room = omega (arith, c.in-Ok.ensures.within, ap length left, length-drop at room, c.characters-test.true) in
    record {
      text = put_one c.characters.after_percent room _ c.characters.len at meant kept.before within means kept.text;
      before = omega (arith, kept.before);
      within = omega (arith, within, length-set room c.characters.len meant.byte);
      all = length-set room c.characters.len meant.byte ∙ kept.all;
    }

abbrev refused_at : NotationFault → ℕ → Result (List ℕ) NotationRefused
refused_at fault place = Err (record { fault = fault; place = place })

pub returns-in-Err-clause-refused : goal.returns-in-Err-clause-refused
returns-in-Err-clause-refused c =
    let kept = c.characters.invariant in
    let room = c.characters.room in
    let at = c.characters.at in
    let left : take (length room - at) (drop at room) ≡ drop at room = take_all (length room - at) (drop at room) (omega (arith, length-drop at room)) in
    let some : 0 < length (drop at room) = omega (arith, length-drop at room, c.characters-test.true) in
    let fault = read_fault c.characters.after_percent (drop at room) c.in-Err.fault some (ap (meant_at c.characters.after_percent) (sym left) ∙ sym c.meaning.ensures.meant ∙ c.in-Err.is) in
    let place : length c.args.room.now - length (drop at room) ≡ at = omega (arith, length-drop at room, kept.all, c.characters-test.true) in
    ap (placed (length c.args.room.now)) (kept.text ∙ ap (with_bytes (take c.characters.len room)) fault)
    ∙ ap (refused_at c.in-Err.fault) place

pub returns-clause-text : goal.returns-clause-text
returns-clause-text c =
    let kept = c.characters.invariant in
    let none : drop c.characters.at c.characters.room ≡ [] = drop_all c.characters.at c.characters.room (omega (arith, c.characters-test.false)) in
    let whole : read_from c.characters.after_percent 0 (drop c.characters.at c.characters.room) ≡ Ok [] = ap (read_from c.characters.after_percent 0) none ∙ read_none c.characters.after_percent in
    ap (placed (length c.args.room.now)) (kept.text ∙ ap (with_bytes (take c.characters.len c.characters.room)) whole ∙ ap Ok (append-nil (take c.characters.len c.characters.room)))
