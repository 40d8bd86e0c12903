use Rattle.std.proofs.Common.{◌≡◌, ◌∙◌, ◌+◌, ◌*◌, get_or, sym, arith}
use Rattle.std.proofs.lemmas.Bool.{ltb-true}
use Rattle.ti_words.specs.Widths.{number_size}
use Rattle.ti_words.specs.Word.{unsigned_at, word_at}
use Rattle.ti_layout.proofs.WordLemmas.{unsigned_fits}
use Rattle.ti_layout.proofs.WholeSectionLemmas.{items_pass, no_nul, is_flag, not_negative, wide_number, number}
use Rattle.ti_layout.proofs.section.SectionItems.all_pass.Goals as goal

pub returns-in-Sign : goal.returns-in-Sign
returns-in-Sign c = λ t. items_pass c.args.bytes.now c.args.self c.args.count c.requires (λ i lt.
    let p = c.args.self.at + 2 * i in
    let fits = unsigned_fits 2 c.args.bytes.now p (λ k. omega (arith, c.type_inv.bytes k)) in
    rw c.in-Sign.is (not_negative (unsigned_at 2 c.args.bytes.now p) c.greatest_word.result fits (c.greatest_word.ensures i lt) (ltb-true _ _ t)))

pub returns-in-Name : goal.returns-in-Name
returns-in-Name c = λ t. items_pass c.args.bytes.now c.args.self c.args.count c.requires (λ i lt.
    let p = c.args.self.at + 1 * i in
    rw c.in-Name.is (no_nul (get_or c.args.bytes.now p 0) c.greatest_byte.result (omega (arith, c.type_inv.bytes p)) (c.greatest_byte.ensures i lt) (ltb-true _ _ t)))

pub returns-in-Flag : goal.returns-in-Flag
returns-in-Flag c = λ t. items_pass c.args.bytes.now c.args.self c.args.count c.requires (λ i lt.
    let p = c.args.self.at + 1 * i in
    rw c.in-Flag.is (is_flag (get_or c.args.bytes.now p 0) c.greatest_byte-in-Flag.result (omega (arith, c.type_inv.bytes p)) (c.greatest_byte-in-Flag.ensures i lt) (ltb-true _ _ t)))

pub returns-in-2 : goal.returns-in-2
returns-in-2 c = λ t. items_pass c.args.bytes.now c.args.self c.args.count c.requires (λ i lt.
    let size : number_size c.in-Number.width ≡ 2 = sym c.number_size.ensures ∙ c.in-2.is in
    rw (c.in-Number.is, size) (number _ (word_at 2 c.args.bytes.now (c.args.self.at + 2 * i)) (c.are_below.ensures t i lt)))

pub returns-in_default : goal.returns-in_default
returns-in_default c = λ t. items_pass c.args.bytes.now c.args.self c.args.count c.requires (λ i lt.
    let p = c.args.self.at + 4 * i in
    let fits = unsigned_fits 4 c.args.bytes.now p (λ k. omega (arith, c.type_inv.bytes k)) in
    let size : number_size c.in-Number.width ≡ 4 = grind arith in
    rw (c.in-Number.is, size) (wide_number (unsigned_at 4 c.args.bytes.now p) c.greatest_wide_word.result fits (c.greatest_wide_word.ensures i lt) (ltb-true _ _ t)))

pub returns-in-Offset : goal.returns-in-Offset
returns-in-Offset c = λ t. items_pass c.args.bytes.now c.args.self c.args.count c.requires (λ i lt. rw c.in-Offset.is (c.are_below-in-Offset.ensures t i lt))
