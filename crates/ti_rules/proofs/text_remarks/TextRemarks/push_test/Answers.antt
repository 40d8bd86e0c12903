use Rattle.std.proofs.Common.{◌≡◌, [], ap, inl, inr, refl, rules, sym, ◌∙◌, ◌∷◌, ◌++◌, List, ℕ}
use Rattle.std.proofs.lemmas.List.{append-nil}
use Rattle.std.specs.Int.{cast_signed, cast_unsigned, w32}
use Rattle.std.specs.Prelude.{ℤ}
use Rattle.std.proofs.lemmas.Int.{to_z-of_z}
use Rattle.ti_expand.specs.Constants.{value_of}
use Rattle.ti_lint.specs.declared.token_finding.TokenFinding.TheVariants.{ConstantCondition}
use Rattle.ti_rules.specs.declared.finding.Finding.TheVariants as findings
use Rattle.ti_rules.specs.Remarks.{TextRemark, Value, placed}
use Rattle.ti_rules.proofs.text_remarks.TextRemarks.push_test.Goals as goal

pub returns-in_default : goal.returns-in_default
returns-in_default g c = ([], inr (c.in_default.ensures.none, refl), sym (append-nil c.args.self.now))

pub returns : goal.returns
returns g c =
    let out = c.args.self.now in
    let (found, then, same) = c.in-Some.ensures.test in
    let told : List ℕ → ℤ → List TextRemark = λ places value. out ++ placed places (findings.Token ConstantCondition) (Value value) in
    let value = c.in_ok-value.value in
    let place = c.args.place ∷ [] in
    let is : c.push_at.new.self ≡ told c.push.new.self.items (cast_signed w32 (cast_unsigned w32 value)) = c.in_ok-push_at.ensures in (
      placed place (findings.Token ConstantCondition) (Value (value_of found.test)),
      inl (found, then, refl),
      is ∙ ap (λ places. told places (cast_signed w32 (cast_unsigned w32 value))) (c.in_ok-push.ensures.items ∙ ap (λ l. l ++ place) c.new-places.ensures.items)
          ∙ ap (told place) (to_z-of_z w32 value (search rules) ∙ c.in_ok-value.ensures.exact ∙ ap value_of (sym same)),
    )
