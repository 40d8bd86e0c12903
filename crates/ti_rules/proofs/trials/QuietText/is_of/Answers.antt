use Rattle.std.proofs.Common.{◌≡◌, ◌∙◌, Bool, List, ℕ, arith, subst, sym}
use Rattle.std.proofs.lemmas.Grind.{common_steps}
use Rattle.std.specs.Cmp.Lexicographic.{bytes_decides}
use Rattle.ti_values.specs.declared.range.Range.{Range}
use Rattle.ti_rules.specs.Trials.{IsQuiet}
use Rattle.ti_rules.proofs.trials.QuietText.is_of.Goals as goal

pub returns : goal.returns
returns g c = λ same.
    let ansi : c.self.inside.ansi ≡ c.args.ansi = grind (arith, common_steps) in
    let range : c.self.inside.range ≡ c.args.range = grind (arith, common_steps) in
    let text : c.self.inside.text.items ≡ c.args.text.now = sym c.as_slice.ensures.value ∙ (bytes_decides c.as_slice.result.now c.args.text.now).0 (sym c.eq.ensures ∙ same) in
    let P : Bool → Type 0 = λ a. IsQuiet a c.args.text.now c.args.range in
    let Q : Range → Type 0 = λ r. IsQuiet c.self.inside.ansi c.args.text.now r in
    let R : List ℕ → Type 0 = λ t. IsQuiet c.self.inside.ansi t c.self.inside.range in
    subst P ansi (subst Q range (subst R text c.self.invariant))
