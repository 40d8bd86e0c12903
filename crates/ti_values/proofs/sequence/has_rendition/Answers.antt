use Rattle.std.proofs.Common.{◌<◌, ◌≤◌, ◌⊎◌, inl, inr, ℕ, List, arith, length, nat_eq, subst, IsTrue}
use Rattle.std.specs.List.{starts_with}
use Rattle.std.proofs.lemmas.List.{drop_all}
use Rattle.ti_values.specs.Sequences.{IsRendition, introducer}
use Rattle.ti_values.proofs.sequence.has_rendition.Goals as goal

none_after : (bytes : List ℕ) (place : ℕ) → length bytes ≤ place → ¬ IsRendition bytes place
none_after bytes place past at =
    let P : List ℕ → Type 0 = λ rest. IsTrue (starts_with nat_eq rest introducer) in
    cc (subst P (drop_all place bytes past) at.0)

apart : (a b : ℕ) → (a < b) ⊎ (b ≤ a)
apart a b = grind arith

pub returns : goal.returns
returns c = record {
  exact = (
    λ is. cc is,
    λ has. absurd (elim (apart has.0 (length c.args.bytes.now)) [
      | inl within ↦ c.bytes.invariant has.0 (omega (arith, within, c.bytes-test.false)) has.1
      | inr past ↦ none_after c.args.bytes.now has.0 past has.1
    ]),
  );
}
