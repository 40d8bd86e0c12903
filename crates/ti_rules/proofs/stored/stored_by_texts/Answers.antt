use Rattle.std.proofs.Common.{◌+◌, arith, drop, get_or, map}
use Rattle.std.proofs.lemmas.List.{drop_all, length-map}
use Rattle.ti_rules.specs.inner.Held.{text_held}
use Rattle.ti_rules.proofs.ReportsLemmas.{one_more, no_text}
use Rattle.ti_rules.proofs.StoredLemmas.{stored_all, stored_more}
use Rattle.ti_rules.proofs.stored.stored_by_texts.Goals as goal

pub texts-preserved : goal.texts-preserved
texts-preserved c =
    let texts = c.args.texts.now in
    let all = map text_held texts in
    let i = c.texts.text-index in
    stored_more all (drop i all) (drop (i + 1) all) (text_held (get_or texts i no_text)) c.texts.stored c.stored_as.result c.union-stored.result
    (one_more text_held texts i no_text c.texts-test.true) c.texts.invariant c.stored_as.ensures.exact c.union-stored.ensures.exact
    (c.union-stored.ensures.only c.texts.invariant.only c.stored_as.ensures.only)

pub returns : goal.returns
returns c =
    let all = map text_held c.args.texts.now in
    (c.texts.invariant.only, stored_all all (drop c.texts.text-index all) c.texts.stored (drop_all c.texts.text-index all (omega (arith, c.texts-test.false, length-map c.args.texts.now text_held))) c.texts.invariant)
