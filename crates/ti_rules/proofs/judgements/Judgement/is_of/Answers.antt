use Rattle.std.proofs.Common.{◌≡◌, ◌∙◌, List, ℕ, subst, sym}
use Rattle.std.specs.Cmp.Lexicographic.{bytes_decides}
use Rattle.ti_rules.specs.declared.usage.Usage.{Usage}
use Rattle.ti_rules.specs.Remarks.{TextRemark}
use Rattle.ti_rules.specs.Texts.{IsJudged}
use Rattle.ti_rules.proofs.UsageLemmas.{same_usage}
use Rattle.ti_rules.proofs.judgements.Judgement.is_of.Goals as goal

pub returns-then-eq : goal.returns-then-eq
returns-then-eq g c = λ same.
    let usage : c.self.inside.usage ≡ c.args.usage = same_usage c.self.inside.usage c.args.usage (sym c.eq.ensures ∙ c.if-eq.true) in
    let text : c.self.inside.text.now ≡ c.args.text.now = (bytes_decides c.self.inside.text.now c.args.text.now).0 (sym c.eq-then-eq.ensures ∙ same) in
    let P : Usage → Type 0 = λ u. IsJudged u c.args.text.now c.self.inside.remarks in
    let Q : List ℕ → Type 0 = λ t. IsJudged c.self.inside.usage t c.self.inside.remarks in
    let R : Usage × List ℕ × List TextRemark → Type 0 = λ v. IsJudged c.args.usage c.args.text.now v.2 in
    subst R c.self.view_is (subst P usage (subst Q text c.self.invariant))
