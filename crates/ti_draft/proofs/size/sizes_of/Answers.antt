use Rattle.std.proofs.Common.{arith, append-nil}
use Rattle.std.proofs.lemmas.List.{length-append}
use Rattle.ti_draft.proofs.LengthLemmas.{texts_table_append}
use Rattle.ti_draft.proofs.size.sizes_of.Goals as goal

pub entry_len-requires-clause-extended_table : goal.entry_len-requires-clause-extended_table
entry_len-requires-clause-extended_table g c = simp (texts_table_append, length-append) (omega (arith, c.texts_len.ensures, c.texts_len-2.ensures))

pub returns : goal.returns
returns g c = record {
  table = rw append-nil c.texts_len-table.ensures;
  extended_table = simp (texts_table_append, length-append) (omega (arith, c.texts_len.ensures, c.texts_len-2.ensures));
  entry = c.entry_len.ensures;
}
