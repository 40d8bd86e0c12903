use Rattle.std.proofs.Common.{[], inl, inr, refl, subst, sym}
use Rattle.ti_tool.specs.Voice.{IsPage}
use Rattle.ti_tool.proofs.explained.run_explanation.Goals as goal

pub returns-in-Some-clause-ends : goal.returns-in-Some-clause-ends
returns-in-Some-clause-ends g c = λ left0 left1.
    let ending = c.line_alone-ending in
    let page = subst IsPage (sym ending.ensures.line) c.as_slice.ensures in
    (ending.result.bytes.now, ending.result.line.now, ending.result.status, inr (inl (ending.ensures.nothing, page, ending.ensures.status)), c.deliver_last.ensures.delivered)

pub returns-in-Ok-clause-ends : goal.returns-in-Ok-clause-ends
returns-in-Ok-clause-ends g c = λ left0 left1.
    let page = subst IsPage (sym c.as_slice-in-Ok.ensures.value) c.in-Ok.ensures.printable in
    (c.as_slice-in-Ok.result.now, [], 0, inl (page, refl, refl), c.deliver_last-in-Ok.ensures.delivered)
