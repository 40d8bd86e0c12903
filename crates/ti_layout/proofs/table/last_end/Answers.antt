use Rattle.std.proofs.Common.{◌∙◌, ◌+◌, ◌*◌, ◌-◌, ap, max, sym}
use Rattle.ti_words.specs.Word.{word_at}
use Rattle.ti_layout.specs.Layout.{places}
use Rattle.ti_layout.specs.Table.{end_at, last_end}
use Rattle.ti_layout.proofs.LastEndLemmas.{max_assoc, max_is, places_next}
use Rattle.ti_layout.proofs.table.last_end.Goals as goal

pub texts-preserved : goal.texts-preserved
texts-preserved c =
    let bytes = c.args.bytes.now in
    let table = c.args.table.now in
    let last = c.texts.last in
    let end = end_at table (word_at 2 bytes (c.args.from + 2 * c.texts.i)) in
    let rest = last_end bytes table (places (c.args.from + 2 * (c.texts.i + 1)) 2 (c.args.count - (c.texts.i + 1))) in
    let step = ap (last_end bytes table) (places_next c.args.from c.args.count c.texts.i c.texts-test.true) in
    let next = c.max-last.ensures ∙ max_is last c.end_at.result ∙ ap (max last) c.end_at.ensures in
    ap (λ n. max n rest) next ∙ max_assoc last end rest ∙ ap (max last) (sym step) ∙ c.texts.invariant
