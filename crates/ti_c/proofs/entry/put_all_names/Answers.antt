use Rattle.std.proofs.Common.{◌≡◌, ◌+◌, ◌++◌, length, arith}
use Rattle.std.proofs.lemmas.List.{length-append, length-map}
use Rattle.ti_words.specs.declared.Kind.TheVariants as kinds
use Rattle.ti_words.specs.Spelling.{name_in}
use Rattle.ti_entry.specs.Finding.{names_of}
use Rattle.ti_c.specs.Entries.{bytes_held}
use Rattle.ti_c.proofs.StartsWithLemmas.{starts_on}
use Rattle.ti_c.proofs.entry.put_all_names.Goals as goal

pub returns : goal.returns
returns c =
    let p = c.args.extended.now in
    let flags = names_of p kinds.Flag in
    let numbers = names_of p kinds.Number in
    let texts = names_of p kinds.Text in
    let before = c.args.names.now in
    let numbers_from = c.flag_count-numbers_from.result in
    let texts_from = numbers_from + c.number_count.result in
    let after_flags : numbers_from ≡ length flags = omega (arith, c.flag_count-numbers_from.ensures, length-map p.flags name_in) in
    let after_numbers : texts_from ≡ length (flags ++ numbers) = omega (arith, after_flags, c.number_count.ensures, length-map p.numbers name_in, length-append flags numbers) in
    let two = starts_on bytes_held before c.put_names.new.names c.put_names-2.new.names flags numbers numbers_from c.put_names.ensures after_flags c.put_names-2.ensures in
    starts_on bytes_held before c.put_names-2.new.names c.put_names-3.new.names (flags ++ numbers) texts texts_from two after_numbers c.put_names-3.ensures
