-- The set is what the texts so far store into.
use Rattle.std.proofs.Common.{drop}
use Rattle.ti_rules.specs.inner.Held.{texts_held}
use Rattle.ti_rules.proofs.StoredLemmas.{AreStoredBeside}
use Rattle.ti_rules.proofs.stored.stored_by_texts.Given as goal

abbrev pub invariant-texts : goal.invariant-texts
invariant-texts l = AreStoredBeside (texts_held l.texts) (drop l.text-index (texts_held l.texts)) l.stored
