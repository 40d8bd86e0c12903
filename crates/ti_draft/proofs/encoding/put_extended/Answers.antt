use Rattle.std.proofs.Common.{◌≡◌, ◌∙◌, ◌+◌, ◌++◌, take, sym, length, map, arith, append_assoc, append-nil}
use Rattle.std.proofs.lemmas.List.{length-append, length-map, take_all}
use Rattle.ti_words.specs.Texts.{TextOf}
use Rattle.ti_words.specs.Spelling.{part_names, without_names}
use Rattle.ti_draft.specs.Canonical.{texts_table, standard_strings, extended_strings, extended_bytes, items_of}
use Rattle.ti_draft.proofs.EncodeFaultLemmas.{few_standard, few_extended}
use Rattle.ti_draft.proofs.LengthLemmas.{length_extended, texts_table_append}
use Rattle.ti_draft.proofs.encoding.put_extended.Goals as goal

pub put_counts-counts_end-requires-clause-numbers : goal.put_counts-counts_end-requires-clause-numbers
put_counts-counts_end-requires-clause-numbers g c =
    (few_extended (g.S.Source.entry c.args.source.now) c.requires.fit c.requires.extended).numbers

pub put_counts-counts_end-requires-clause-texts : goal.put_counts-counts_end-requires-clause-texts
put_counts-counts_end-requires-clause-texts g c =
    (few_extended (g.S.Source.entry c.args.source.now) c.requires.fit c.requires.extended).texts

pub overflow_add-present_count : goal.overflow_add-present_count
overflow_add-present_count g c =
    let few = few_extended (g.S.Source.entry c.args.source.now) c.requires.fit c.requires.extended in
    omega (arith, few.items, c.present_count.ensures.value, c.text_count-names.ensures)

pub put_count-items_count_end-requires-clause-low : goal.put_count-items_count_end-requires-clause-low
put_count-items_count_end-requires-clause-low g c =
    let few = few_extended (g.S.Source.entry c.args.source.now) c.requires.fit c.requires.extended in
    omega (arith, few.items, c.present_count.ensures.value, c.text_count-names.ensures)

pub put_items-items_end-requires-clause-table : goal.put_items-items_end-requires-clause-table
put_items-items_end-requires-clause-table g c =
    let few = few_extended (g.S.Source.entry c.args.source.now) c.requires.fit c.requires.extended in
    omega (arith, simp (texts_table_append, length-append) at few.table)

pub put_items-items_end-requires-clause-room : goal.put_items-items_end-requires-clause-room
put_items-items_end-requires-clause-room g c =
    let v = g.S.Source.entry c.args.source.now in
    omega (arith, length_extended v, c.requires.room, c.requires.sizes.table, (few_standard v c.requires.fit).part.table, c.flag_count-flags_end.ensures, c.put_count-header_end.ensures.end, c.put_count-items_count_end.ensures.end, c.put_counts-counts_end.ensures.end, c.put_pad-pad_end.ensures.end)

pub put_text_words-words_end-requires-clause-low : goal.put_text_words-words_end-requires-clause-low
put_text_words-words_end-requires-clause-low g c =
    let few = few_extended (g.S.Source.entry c.args.source.now) c.requires.fit c.requires.extended in
    omega (arith, simp (texts_table_append, length-append) at few.table)

pub put_text_words-words_end-requires-clause-room : goal.put_text_words-words_end-requires-clause-room
put_text_words-words_end-requires-clause-room g c =
    let v = g.S.Source.entry c.args.source.now in
    omega (arith, length_extended v, c.requires.room, c.requires.sizes.table, (few_standard v c.requires.fit).part.table, c.flag_count-flags_end.ensures, c.put_items-items_end.ensures.end, c.put_count-header_end.ensures.end, c.put_count-items_count_end.ensures.end, c.put_counts-counts_end.ensures.end, c.put_pad-pad_end.ensures.end)

pub put_texts-texts_end-requires : goal.put_texts-texts_end-requires
put_texts-texts_end-requires g c =
    let v = g.S.Source.entry c.args.source.now in
    let both : length (extended_strings v).table ≡ length (texts_table (without_names v.extended).texts) + length (texts_table (map TextOf (part_names v.extended))) = simp (texts_table_append, length-append) in
    omega (arith, both, length_extended v, c.requires.room, c.requires.sizes.table, (few_standard v c.requires.fit).part.table, c.flag_count-flags_end.ensures, c.put_text_words-words_end.ensures.end, c.put_items-items_end.ensures.end, c.put_count-header_end.ensures.end, c.put_count-items_count_end.ensures.end, c.put_counts-counts_end.ensures.end, c.put_pad-pad_end.ensures.end)

pub put_texts-requires : goal.put_texts-requires
put_texts-requires g c =
    let v = g.S.Source.entry c.args.source.now in
    let both : length (extended_strings v).table ≡ length (texts_table (without_names v.extended).texts) + length (texts_table (map TextOf (part_names v.extended))) = simp (texts_table_append, length-append) in
    omega (arith, both, length_extended v, c.requires.room, c.requires.sizes.table, (few_standard v c.requires.fit).part.table, c.flag_count-flags_end.ensures, c.put_texts-texts_end.ensures.end, c.put_text_words-words_end.ensures.end, c.put_items-items_end.ensures.end, c.put_count-header_end.ensures.end, c.put_count-items_count_end.ensures.end, c.put_counts-counts_end.ensures.end, c.put_pad-pad_end.ensures.end)

pub returns : goal.returns
returns g c =
    let v = g.S.Source.entry c.args.source.now in
    let few = few_extended v c.requires.fit c.requires.extended in
    let table : c.args.sizes.now.table ≡ length (standard_strings v).table = omega (arith, (few_standard v c.requires.fit).part.table, c.requires.sizes.table) in
    let extended_table : c.args.sizes.now.extended_table ≡ length (extended_strings v).table = omega (arith, few.table, c.requires.sizes.extended_table) in
    let both : length (extended_strings v).table ≡ length (texts_table (without_names v.extended).texts) + length (texts_table (map TextOf (part_names v.extended))) = simp (texts_table_append, length-append) in
    let items : c.present_count.result + c.text_count-names.result ≡ items_of v.extended = rw (c.present_count.ensures.value, c.text_count-names.ensures) (simp length-map) in
    let written : take c.put_texts.result c.put_texts.new.out ≡ take c.args.at c.args.out.now ++ extended_bytes v =
    rw (
      c.put_texts.ensures.written,
      c.put_texts-texts_end.ensures.written,
      c.put_text_words-words_end.ensures.written,
      c.put_items-items_end.ensures.written,
      c.put_count-header_end.ensures.written,
      c.put_count-items_count_end.ensures.written,
      c.put_counts-counts_end.ensures.written,
      c.put_pad-pad_end.ensures.written,
      c.flag_count-flags_end.ensures,
      table,
      extended_table,
      items,
      texts_table_append (without_names v.extended).texts (map TextOf (part_names v.extended)),
    ) (simp (append_assoc, append-nil)) in
    sym (take_all c.put_texts.result c.put_texts.new.out
    (omega (arith, both, length_extended v, c.requires.room, table, c.flag_count-flags_end.ensures, c.put_texts.ensures.end, c.put_texts-texts_end.ensures.end, c.put_text_words-words_end.ensures.end, c.put_items-items_end.ensures.end, c.put_count-header_end.ensures.end, c.put_count-items_count_end.ensures.end, c.put_counts-counts_end.ensures.end, c.put_pad-pad_end.ensures.end)))
    ∙ written
