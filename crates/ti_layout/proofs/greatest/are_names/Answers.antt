use Rattle.std.proofs.Common.{◌+◌, ◌*◌, ◌<◌, length, refl, arith}
use Rattle.std.proofs.lemmas.Bool.{ltb-true, le-ltb, lt-ltb}
use Rattle.ti_words.specs.Word.{unsigned_at}
use Rattle.ti_layout.specs.Checks.{name_place_checks}
use Rattle.ti_layout.proofs.WordLemmas.{unsigned_fits}
use Rattle.ti_layout.proofs.WholeSectionLemmas.{all_pass_each}
use Rattle.ti_layout.proofs.greatest.are_names.Goals as goal

pub returns : goal.returns
returns c = λ t.
    let bytes = c.args.bytes.now in
    let table = c.args.table.now in
    let low : c.args.base + c.from.result < c.min.result = ltb-true _ _ t in
    all_pass_each (name_place_checks bytes table.bytes.now c.args.base table.end) (length bytes) c.args.from 2 c.args.count (λ i lt.
    let u = unsigned_at 2 bytes (c.args.from + 2 * i) in
    let small : u < 65536 = unsigned_fits 2 bytes (c.args.from + 2 * i) (λ i. omega (arith, c.type_inv.bytes i)) in
    let at = c.greatest_word-greatest.ensures i lt in
    rw (c.requires.last_nul (c.args.base + u), le-ltb (length bytes) table.end c.requires.there, lt-ltb (c.args.base + u) (length table.bytes.now) (omega arith), lt-ltb (c.args.base + u) table.after_last_nul (omega arith)) refl)
