use Rattle.std.proofs.Common.{◌≡◌, ap, length, arith, append-nil}
use Rattle.ti_draft.specs.Canonical.{standard_strings, texts_table}
use Rattle.ti_draft.proofs.EncodeFaultLemmas.{few_standard}
use Rattle.ti_draft.proofs.LengthLemmas.{length_standard}
use Rattle.ti_draft.proofs.encoding.put_standard.Goals as goal

pub put_counts-counts_end-requires-clause-numbers : goal.put_counts-counts_end-requires-clause-numbers
put_counts-counts_end-requires-clause-numbers g c = (few_standard (g.S.Source.entry c.args.source.now) c.requires.fit).part.numbers

pub put_counts-counts_end-requires-clause-texts : goal.put_counts-counts_end-requires-clause-texts
put_counts-counts_end-requires-clause-texts g c = (few_standard (g.S.Source.entry c.args.source.now) c.requires.fit).part.texts

pub put_items-items_end-requires-clause-table : goal.put_items-items_end-requires-clause-table
put_items-items_end-requires-clause-table g c =
    omega (arith, simp append-nil at (few_standard (g.S.Source.entry c.args.source.now) c.requires.fit).part.table)

pub put_items-items_end-requires-clause-room : goal.put_items-items_end-requires-clause-room
put_items-items_end-requires-clause-room g c =
    let v = g.S.Source.entry c.args.source.now in
    omega (arith, length_standard v, c.requires.room, ap length c.names-names.ensures, c.flag_count.ensures, c.put_bytes-nul_end.ensures.end, c.put_bytes-names_end.ensures.end, c.put_count-header_end.ensures.end, c.put_counts-counts_end.ensures.end, c.put_count-size_end.ensures.end, c.put_count-magic_end.ensures.end)

pub put_texts-requires : goal.put_texts-requires
put_texts-requires g c =
    let v = g.S.Source.entry c.args.source.now in
    let table : length (standard_strings v).table ≡ length (texts_table v.standard.texts) = simp append-nil in
    omega (arith, length_standard v, table, c.requires.room, ap length c.names-names.ensures, c.flag_count.ensures, c.put_items-items_end.ensures.end, c.put_bytes-nul_end.ensures.end, c.put_bytes-names_end.ensures.end, c.put_count-header_end.ensures.end, c.put_counts-counts_end.ensures.end, c.put_count-size_end.ensures.end, c.put_count-magic_end.ensures.end)

pub returns-clause-end : goal.returns-clause-end
returns-clause-end g c =
    let v = g.S.Source.entry c.args.source.now in
    rw (length_standard v, append-nil) (omega (arith, ap length c.names-names.ensures, c.flag_count.ensures, c.put_texts.ensures.end, c.put_items-items_end.ensures.end, c.put_bytes-nul_end.ensures.end, c.put_bytes-names_end.ensures.end, c.put_count-header_end.ensures.end, c.put_counts-counts_end.ensures.end, c.put_count-size_end.ensures.end, c.put_count-magic_end.ensures.end))
