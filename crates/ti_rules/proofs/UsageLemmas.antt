-- The derived `==` of uses tells them apart.
use Rattle.std.proofs.Common.{◌≡◌, ◌∙◌, ◌&&◌, Bool, rules, true, false, ap, refl, sym, true≢false}
use Rattle.std.specs.Bool.{Decides}
use Rattle.std.specs.Cmp.{booleans_Decides}
use Rattle.ti_names.specs.declared.class.Class.{Class}
use Rattle.ti_names.specs.contracts.class.ClassPartialEq as class_eq
use Rattle.ti_lint.specs.declared.expected.TextParameters.{TextParameters}
use Rattle.ti_lint.specs.contracts.expected.TextParametersPartialEq as texts_eq
use Rattle.ti_lint.specs.declared.variables.Variables.{Variables}
use Rattle.ti_lint.specs.contracts.variables.VariablesPartialEq as variables_eq
use Rattle.ti_rules.specs.declared.usage.Usage.{Usage}
use Rattle.ti_rules.specs.contracts.usage.UsagePartialEq as usage_eq

both : (a b : Bool) → (a && b) ≡ true → (a ≡ true) × (b ≡ true)
both true b e = (refl, e)
both false b e = absurd (true≢false (sym e))

class : (a b : Class) → Decides ((class_eq.TheImpl.eq-value).it a b) (a ≡ b)
class a b = search rules

texts : (a b : TextParameters) → Decides ((texts_eq.TheImpl.eq-value).it a b) (a ≡ b)
texts a b = search rules

variables : (a b : Variables) → Decides ((variables_eq.TheImpl.eq-value).it a b) (a ≡ b)
variables a b = search rules

one_usage : (a b : Usage) → a.class ≡ b.class → a.texts ≡ b.texts → a.stored ≡ b.stored → a.may_leave_out ≡ b.may_leave_out → a.has_column ≡ b.has_column → a.has_pairs ≡ b.has_pairs → a ≡ b
one_usage a b c t s m k p =
    ap (λ v. record a { class = v }) c
    ∙ ap (λ v. record a { class = b.class; texts = v }) t
    ∙ ap (λ v. record b { stored = v; may_leave_out = a.may_leave_out; has_column = a.has_column; has_pairs = a.has_pairs }) s
    ∙ ap (λ v. record b { may_leave_out = v; has_column = a.has_column; has_pairs = a.has_pairs }) m
    ∙ ap (λ v. record b { has_column = v; has_pairs = a.has_pairs }) k
    ∙ ap (λ v. record b { has_pairs = v }) p

pub same_usage : (a b : Usage) → (usage_eq.TheImpl.eq-value).it a b ≡ true → a ≡ b
same_usage a b e =
    let of_class = (class_eq.TheImpl.eq-value).it a.class b.class in
    let of_texts = (texts_eq.TheImpl.eq-value).it a.texts b.texts in
    let of_stored = (variables_eq.TheImpl.eq-value).it a.stored b.stored in
    let of_may = booleans_Decides a.may_leave_out b.may_leave_out in
    let of_column = booleans_Decides a.has_column b.has_column in
    let of_pairs = booleans_Decides a.has_pairs b.has_pairs in
    let (c, f) = both of_class _ e in
    let (t, g) = both of_texts _ f in
    let (s, h) = both of_stored _ g in
    let (m, i) = both _ _ h in
    let (k, p) = both _ _ i in
    one_usage a b ((class a.class b.class).0 c) ((texts a.texts b.texts).0 t) ((variables a.stored b.stored).0 s) (of_may.0 m) (of_column.0 k) (of_pairs.0 p)
