use Rattle.std.proofs.Common.{◌≡◌, ◌++◌, ◌∙◌, ap, length, map, subst, arith}
use Rattle.std.proofs.lemmas.List.{length-map}
use Rattle.ti_words.specs.Marks.{word_of_number}
use Rattle.ti_words.specs.Spelling.{without_names}
use Rattle.ti_words.specs.Value.{PartValue}
use Rattle.ti_c.specs.Entries.{flag_mark, text_shown, text_held, itself, StartsWith}
use Rattle.ti_c.proofs.StartsWithLemmas.{starts_on}
use Rattle.ti_c.proofs.entry.fill.Goals as goal

pub returns-clause-flags : goal.returns-clause-flags
returns-clause-flags c =
    let before = c.args.arrays.now.flags.now in
    let standard = map flag_mark c.standard-standard.result.flags in
    let extended_part = map flag_mark c.without_names-extended_part.result.flags in
    let at : c.flag_count.result ≡ length standard = omega (arith, length-map c.standard-standard.result.flags flag_mark) in
    let P : PartValue → Type 0 = λ p. StartsWith itself before c.put_flags-2.new.flags (map flag_mark p.flags ++ extended_part) in
    let Q : PartValue → Type 0 = λ p. StartsWith itself before c.put_flags-2.new.flags (map flag_mark c.args.entry.now.standard.flags ++ map flag_mark p.flags) in
    subst Q (c.without_names-extended_part.ensures ∙ ap without_names c.requires.same)
    (subst P c.standard-standard.ensures (starts_on itself before c.put_flags.new.flags c.put_flags-2.new.flags standard extended_part c.flag_count.result c.put_flags.ensures at c.put_flags-2.ensures))

pub returns-clause-numbers : goal.returns-clause-numbers
returns-clause-numbers c =
    let before = c.args.arrays.now.numbers.now in
    let standard = map word_of_number c.standard-standard.result.numbers in
    let extended_part = map word_of_number c.without_names-extended_part.result.numbers in
    let at : c.number_count.result ≡ length standard = omega (arith, length-map c.standard-standard.result.numbers word_of_number) in
    let P : PartValue → Type 0 = λ p. StartsWith itself before c.put_numbers-2.new.numbers (map word_of_number p.numbers ++ extended_part) in
    let Q : PartValue → Type 0 = λ p. StartsWith itself before c.put_numbers-2.new.numbers (map word_of_number c.args.entry.now.standard.numbers ++ map word_of_number p.numbers) in
    subst Q (c.without_names-extended_part.ensures ∙ ap without_names c.requires.same)
    (subst P c.standard-standard.ensures (starts_on itself before c.put_numbers.new.numbers c.put_numbers-2.new.numbers standard extended_part c.number_count.result c.put_numbers.ensures at c.put_numbers-2.ensures))

pub returns-clause-texts : goal.returns-clause-texts
returns-clause-texts c =
    let before = c.args.arrays.now.texts.now in
    let standard = map text_shown c.standard-standard.result.texts in
    let extended_part = map text_shown c.without_names-extended_part.result.texts in
    let at : c.text_count.result ≡ length standard = omega (arith, length-map c.standard-standard.result.texts text_shown) in
    let P : PartValue → Type 0 = λ p. StartsWith text_held before c.put_texts-2.new.texts (map text_shown p.texts ++ extended_part) in
    let Q : PartValue → Type 0 = λ p. StartsWith text_held before c.put_texts-2.new.texts (map text_shown c.args.entry.now.standard.texts ++ map text_shown p.texts) in
    subst Q (c.without_names-extended_part.ensures ∙ ap without_names c.requires.same)
    (subst P c.standard-standard.ensures (starts_on text_held before c.put_texts.new.texts c.put_texts-2.new.texts standard extended_part c.text_count.result c.put_texts.ensures at c.put_texts-2.ensures))
