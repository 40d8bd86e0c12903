use Rattle.std.proofs.Common.{inr, refl, subst, sym}
use Rattle.ti_json.specs.Rows.{content_value}
use Rattle.ti_tool.specs.Verdicts.{IsJudged}
use Rattle.ti_tool.proofs.RowsLemmas.{sound_judged}
use Rattle.ti_tool.proofs.verdict.judge.Goals.{in-Ok, in-Err}
use Rattle.ti_tool.proofs.verdict.judge.Goals as goal

pub returns-clause-content : goal.returns-clause-content
returns-clause-content c = elim c.match-parse.branch [
  | in-Ok w ↦ subst (λ content. IsJudged c.args.text.now (content_value content)) (sym w.content-is)
      (sound_judged c.args.text.now w.in-Ok.capability w.depth.result w.bound.result w.in-Ok.ensures.value w.in-Ok.ensures.accepted w.depth.ensures.exact w.bound.ensures.exact)
  | in-Err w ↦ subst (λ content. IsJudged c.args.text.now (content_value content)) (sym w.content-is) (inr (_, w.in-Err.ensures.refused, refl))
]
