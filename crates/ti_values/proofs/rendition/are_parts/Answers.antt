use Rattle.std.proofs.Common.{◌∙◌, ap, sym}
use Rattle.ti_values.specs.Renditions.{are_parts}
use Rattle.ti_values.proofs.RenditionLemmas.{parts_end, parts_next, parts_stop}
use Rattle.ti_values.proofs.rendition.are_parts.Goals as goal

pub returns-then-len-eq0 : goal.returns-then-len-eq0
returns-then-len-eq0 c =
    sym (parts_stop c.parts.rest.now (sym c.is_empty.ensures ∙ c.parts-test.true) (sym c.part_len-len.ensures ∙ c.if-len-eq0.true)) ∙ c.parts.invariant

pub parts-preserved : goal.parts-preserved
parts-preserved c =
    ap are_parts c.past-rest.ensures
    ∙ sym (parts_next c.parts.rest.now c.part_len-len.result (sym c.is_empty.ensures ∙ c.parts-test.true) (sym c.part_len-len.ensures) c.if-len-eq0.false)
    ∙ c.parts.invariant

pub returns : goal.returns
returns c = sym (parts_end c.parts.rest.now (sym c.is_empty.ensures ∙ c.parts-test.false)) ∙ c.parts.invariant
