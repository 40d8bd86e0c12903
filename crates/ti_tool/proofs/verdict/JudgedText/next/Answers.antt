use Rattle.std.proofs.Common.{◌∙◌, subst, sym}
use Rattle.std.proofs.lemmas.Slice.Eq.{bytes_eq-Decides}
use Rattle.ti_json.specs.Rows.{content_value}
use Rattle.ti_tool.specs.Verdicts.{IsJudged}
use Rattle.ti_tool.proofs.verdict.JudgedText.next.Goals as goal

pub returns-then-eq-clause-content : goal.returns-then-eq-clause-content
returns-then-eq-clause-content c =
    subst (λ text. IsJudged text (content_value c.args.self.content)) (sym ((bytes_eq-Decides c.args.text.now c.args.self.text.now).0 (sym c.eq.ensures ∙ c.if-eq.true))) c.requires
