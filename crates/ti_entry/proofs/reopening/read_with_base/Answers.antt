use Rattle.std.proofs.Common.{◌≡◌, ◌∙◌, ap, sym}
use Rattle.std.proofs.lemmas.Result.{err_from_is_err_and}
use Rattle.ti_entry.specs.Reading.{base_of_names}
use Rattle.ti_entry.proofs.ReadLemmas.{has_failed}
use Rattle.ti_entry.proofs.SpelledExtendedLemmas.{only}
use Rattle.ti_entry.proofs.WholeStageLemmas.{stands_new}
use Rattle.ti_entry.proofs.reopening.read_with_base.Goals as goal

pub advance-requires : goal.advance-requires
advance-requires c = rw c.new-stage.ensures (stands_new c.args.bytes.now)

pub returns-in_err-advance-clause-only : goal.returns-in_err-advance-clause-only
returns-in_err-advance-clause-only c = λ v s.
    absurd ((has_failed c.args.bytes.now c.in_err-advance.field-0.0 c.in_err-advance.ensures.failed).only v s)

pub returns-in_err-advance-clause-refused : goal.returns-in_err-advance-clause-refused
returns-in_err-advance-clause-refused c =
    let p = err_from_is_err_and c.from_residual.result c.from_residual.ensures.1 in
    rw (p.1, p.2) (has_failed c.args.bytes.now c.in_err-advance.field-0.0 c.in_err-advance.ensures.failed).refused

pub returns-in_err-entry-clause-only : goal.returns-in_err-entry-clause-only
returns-in_err-entry-clause-only c = λ v s. absurd (c.in_err-entry.ensures.read.only v s)

pub returns-clause-only : goal.returns-clause-only
returns-clause-only c = λ v s. c.in_ok-entry.ensures.read.only v s

pub returns-clause-base : goal.returns-clause-base
returns-clause-base c =
    let same : c.in_ok-entry.entry ≡ _ = (only c.args.bytes.now c.in_ok-entry.entry c.in_ok-entry.ensures.read.found).same in
    c.base.ensures ∙ c.in_ok-entry.ensures.base ∙ ap base_of_names (sym same)
