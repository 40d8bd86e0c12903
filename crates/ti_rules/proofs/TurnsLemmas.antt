-- Remarks of one kind, and then of another.
use Rattle.std.proofs.Common.{◌≡◌, ◌∙◌, List, ◌++◌, ap, append_assoc, refl, subst}
use Rattle.ti_rules.specs.Lines.{Adds, InTurn}
use Rattle.ti_rules.specs.Remarks.{Remark}
use Rattle.ti_rules.specs.inner.Growing.{Examined, Gains, GainsThese, Report}

pub in_turn : {Y : Type 0} (Are AreMore : List Y → Type 0) (old new last : List Y) → Adds Are old new → Adds AreMore new last → Adds (InTurn Are AreMore) old last
in_turn Are AreMore old new last (one, are, is) (more, are_more, ends) =
    (one ++ more, (one, more, are, are_more, refl), ends ∙ ap (λ l. l ++ more) is ∙ append_assoc old one more)

-- the same of a report, by what it is on
pub then : (Are AreMore : Examined → List Remark → Type 0) (old new last : Report) → Gains (Are old.on) old new → Gains (AreMore new.on) new last → Gains (InTurn (Are old.on) (AreMore old.on)) old last
then Are AreMore old new last (kept, are) (also, more) =
    (also ∙ kept, in_turn (Are old.on) (AreMore old.on) old.remarks new.remarks last.remarks are (subst (λ on. Adds (AreMore on) new.remarks last.remarks) kept more))

-- these, as a kind
pub these : (remarks : List Remark) (old new : Report) → GainsThese remarks old new → Gains (λ all. all ≡ remarks) old new
these remarks old new (kept, is) = (kept, (remarks, refl, is))
