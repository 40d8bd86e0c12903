use Rattle.std.proofs.Common.{◌∙◌, ◌∷◌, ap, rules, sym}
use Rattle.ti_line.proofs.IsLabelLemmas.{none_after_word, none_without_word}
use Rattle.ti_line.proofs.label.text_of_label.Goals as goal

pub returns-in-Some-clause-none : goal.returns-in-Some-clause-none
returns-in-Some-clause-none c = none_after_word c.index_of_label.result c.args.name.now c.in-Some.label.now
    (c.in-Some.ensures.cases.1.1 ∙ ap (λ t. 116 ∷ 101 ∷ 120 ∷ 116 ∷ t) (sym c.in-Some.ensures.cases.2)) c.index_of_label.ensures.none

pub returns-in-None-clause-none : goal.returns-in-None-clause-none
returns-in-None-clause-none c = search (none_without_word, rules)
