-- The capability that writes the text keeps to the table, so the text does.
use Rattle.std.proofs.Common.{◌≡◌, ◌∙◌, ℕ, List, subst}
use Rattle.ti_allow.specs.Harmless.{OnlyTableAlways}
use Rattle.ti_allow.specs.Plain.{doubled}
use Rattle.ti_allow.specs.declared.allowed.TheConstants.{ALLOWED}
use Rattle.ti_cap.specs.Capability.{IsWellFormed}
use Rattle.ti_allow.proofs.PlainLemmas.{plain_only}
use Rattle.ti_allow.proofs.plain.plain_beyond_table.Goals as goal

pub returns-in-Ok-clause-only_table : goal.returns-in-Ok-clause-only_table
returns-in-Ok-clause-only_table g c = λ silent.
    let name = c.args.name.now in
    let text = c.args.text.now in
    let is : c.as_slice.result.now ≡ doubled text = c.as_slice.ensures.value ∙ c.in_ok-bytes.ensures.all in
    let parsed : c.in-Ok.capability ≡ doubled text = c.in-Ok.ensures.value ∙ is in
    let Only : List ℕ → Type 0 = λ bytes. OnlyTableAlways ALLOWED name bytes in
    plain_only ALLOWED name text (subst IsWellFormed is c.in-Ok.ensures.tree)
    (subst Only parsed (c.in_ok-found-in-Ok.ensures.only_table silent))
