use Rattle.std.proofs.Common.{◌∙◌, ap, inl, subst}
use Rattle.ti_words.specs.Value.{EntryValue}
use Rattle.ti_entry.specs.Reading.{base_of_names}
use Rattle.ti_c.specs.Entries.{AreCountsOf}
use Rattle.ti_c.proofs.NumbersLemmas.{not_read}
use Rattle.ti_c.proofs.OneFaultLemmas.{none_spelled_refused}
use Rattle.ti_c.proofs.view.ti_open.Goals as goal

pub returns-in-Err-clause-only : goal.returns-in-Err-clause-only
returns-in-Err-clause-only c = λ some. absurd (c.in-Err.ensures.only some.0 some.1)

pub returns-in-Err-clause-opened : goal.returns-in-Err-clause-opened
returns-in-Err-clause-opened c = λ is. absurd (not_read c.in-Err.refused.fault c.entry_number.result c.entry_number.ensures (inl is))

pub returns-in-Err-clause-told : goal.returns-in-Err-clause-told
returns-in-Err-clause-told c = λ is. absurd (not_read c.in-Err.refused.fault c.entry_number.result c.entry_number.ensures (inl is))

pub returns-clause-refused : goal.returns-clause-refused
returns-clause-refused c = λ number place refused.
    absurd (none_spelled_refused c.args.bytes.now c.in-Ok.found.0 number place c.in-Ok.ensures.found refused)

pub returns-clause-opened : goal.returns-clause-opened
returns-clause-opened c = λ _ v spelled. (spelled, c.in-Ok.ensures.base ∙ ap base_of_names (c.in-Ok.ensures.only v spelled))

pub returns-clause-told : goal.returns-clause-told
returns-clause-told c = λ _ v spelled.
    let P : EntryValue → Type 0 = λ x. AreCountsOf c.put_counts.new.counts x in
    subst P (c.in-Ok.ensures.only v spelled) c.put_counts.ensures.told
