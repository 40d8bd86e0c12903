use Rattle.std.proofs.Common.{ℕ, List, subst, sym}
use Rattle.ti_rules.specs.Controls.{Keeps, Sending}
use Rattle.ti_rules.specs.inner.Held.{sending_as}
use Rattle.ti_rules.proofs.harmless.Harmless.keep.Goals as goal

pub invariant_of-kept : goal.invariant_of-kept
invariant_of-kept g c =
    let parts = c.parts_of-is_expanded.result in
    let same_name = c.in_ok-to_vec.ensures.items_if_clones_equal (λ x y same. same) in
    let same_text = c.in_ok-to_vec-2.ensures.items_if_clones_equal (λ x y same. same) in
    let Sent : Sending → Type 0 = λ s. Keeps c.args.name.now s in
    let Of : List ℕ → Type 0 = λ t. Keeps c.args.name.now (sending_as parts.1 t) in
    let Named : List ℕ → Type 0 = λ n. Keeps n (sending_as parts.1 c.in_ok-to_vec-2.field-0.items) in
    subst Named (sym same_name) (subst Of (sym same_text) (subst Sent c.parts_of-is_expanded.ensures c.requires))
