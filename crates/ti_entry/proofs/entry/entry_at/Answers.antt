use Rattle.std.proofs.Common.{subst, sym, arith}
use Rattle.std.specs.Prelude.{Ok}
use Rattle.ti_words.specs.Value.{EntryValue}
use Rattle.ti_entry.specs.Reading.{IsReadOf}
use Rattle.ti_entry.proofs.ReadLemmas.{ends_early, is_entry}
use Rattle.ti_entry.proofs.WholeStageLemmas.{ends_as, whole_is_view}
use Rattle.ti_entry.proofs.entry.entry_at.Goals as goal

pub returns-then-not-is_whole-clause-read : goal.returns-then-not-is_whole-clause-read
returns-then-not-is_whole-clause-read c = ends_early c.args.bytes.now (ends_as c.requires.waits c.is_whole.ensures c.if-not-is_whole.true)

pub entry_of-requires-clause-standard : goal.entry_of-requires-clause-standard
entry_of-requires-clause-standard c = rw c.standard.ensures (whole_is_view c.requires.waits c.requires.stands c.is_whole.ensures c.if-not-is_whole.false).is_standard

pub entry_of-requires-clause-extended : goal.entry_of-requires-clause-extended
entry_of-requires-clause-extended c = rw (c.extended.ensures, c.base.ensures) (whole_is_view c.requires.waits c.requires.stands c.is_whole.ensures c.if-not-is_whole.false).is_extended

pub returns-clause-read : goal.returns-clause-read
returns-clause-read c =
    let bytes = c.args.bytes.now in
    let view = whole_is_view c.requires.waits c.requires.stands c.is_whole.ensures c.if-not-is_whole.false in
    let read = is_entry bytes (λ i. omega (arith, c.type_inv.bytes i)) (ends_as c.requires.waits c.is_whole.ensures c.if-not-is_whole.false) in
    rw (c.entry_of.ensures, c.standard.ensures, c.extended.ensures, c.base.ensures) (subst (λ (v : EntryValue). IsReadOf bytes (Ok v)) (sym view.shows) read)

pub returns-clause-base : goal.returns-clause-base
returns-clause-base c = (whole_is_view c.requires.waits c.requires.stands c.is_whole.ensures c.if-not-is_whole.false).counted
