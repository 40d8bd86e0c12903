use Rattle.std.proofs.Common.{◌∙◌, ◌∷◌, ap, inl, sym}
use Rattle.ti_line.proofs.AreParamsLemmas.{none_given}
use Rattle.ti_line.proofs.given.ParamFromWord.from_word.Goals as goal

pub returns-in-Some-strip_prefix-clause-none : goal.returns-in-Some-strip_prefix-clause-none
returns-in-Some-strip_prefix-clause-none c =
    let text = c.in-Some-strip_prefix.field-0.now in
    none_given c.args.word.now (text, inl (c.in-Some-strip_prefix.ensures.cases.1.1 ∙ ap (λ t. 110 ∷ 58 ∷ t) (sym c.in-Some-strip_prefix.ensures.cases.2))) c.in-None.ensures.none
