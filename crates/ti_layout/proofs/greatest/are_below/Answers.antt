use Rattle.std.proofs.Common.{◌+◌, ◌*◌, ◌<◌, arith}
use Rattle.std.proofs.lemmas.Bool.{ltb-true}
use Rattle.ti_words.specs.Word.{unsigned_at}
use Rattle.ti_layout.proofs.WordLemmas.{unsigned_fits}
use Rattle.ti_layout.proofs.WholeSectionLemmas.{offset_below}
use Rattle.ti_layout.proofs.greatest.are_below.Goals as goal

pub returns : goal.returns
returns c = λ t i lt.
    let p = c.args.from + 2 * i in
    let low : c.from.result < c.min.result + 2 = ltb-true _ _ t in
    offset_below (unsigned_at 2 c.args.bytes.now p) c.args.limit c.greatest_word.result (unsigned_fits 2 c.args.bytes.now p (λ k. omega (arith, c.type_inv.bytes k))) (c.greatest_word.ensures i lt) (omega arith) (omega arith)
