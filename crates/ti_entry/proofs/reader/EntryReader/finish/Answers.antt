use Rattle.std.proofs.Common.{◌∙◌, ap, sym, subst, List, ℕ}
use Rattle.ti_layout.specs.Stages.{Stands}
use Rattle.ti_entry.specs.Reading.{IsReadOf, Reading, answer_for, final_answer, final_answer_under}
use Rattle.ti_entry.proofs.reader.EntryReader.finish.Goals as goal

pub entry_at-requires-clause-stands : goal.entry_at-requires-clause-stands
entry_at-requires-clause-stands c =
    subst (λ (k : List ℕ). Stands k c.self.inside.stage) (sym c.as_slice.ensures.value) (c.self.invariant.stands c.in_default.is)

pub returns-clause-read : goal.returns-clause-read
returns-clause-read c = λ none.
    subst (λ (k : List ℕ). IsReadOf k c.entry_at.result) (c.as_slice.ensures.value ∙ ap (λ (r : Reading). r.kept) c.self.view_is) c.entry_at.ensures.read

pub returns-clause-answer : goal.returns-clause-answer
returns-clause-answer c =
    c.entry_at.ensures.read.answer
    ∙ ap answer_for c.as_slice.ensures.value
    ∙ ap (λ o. final_answer_under o c.self.inside.kept.items) (sym c.in_default.is)
    ∙ ap final_answer c.self.view_is
