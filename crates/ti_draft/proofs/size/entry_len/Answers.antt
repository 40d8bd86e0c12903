use Rattle.std.proofs.Common.{◌≡◌, ℕ, ◌+◌, ◌%◌, ◌≤◌, ◌==◌, true, false, List, length, ap, sym, ◌∙◌, arith}
use Rattle.std.proofs.lemmas.List.{length-map}
use Rattle.ti_words.specs.Texts.{TextOf}
use Rattle.ti_words.specs.Spelling.{part_names}
use Rattle.ti_draft.specs.Lengths.{capped_count}
use Rattle.ti_draft.specs.Canonical.{standard_strings}
use Rattle.ti_draft.proofs.LengthLemmas.{standard_bytes, length_standard, length_extended, length_parts}
use Rattle.ti_draft.proofs.size.entry_len.Goals as goal

-- the pad of a sum that stopped may be wrong, but then the whole has stopped too
padded : (t p x : ℕ) → x ≡ capped_count t → t ≤ p → capped_count (capped_count p + x % 2) ≡ capped_count (p + t % 2)
padded t p x h le = grind arith

pub returns-then-names-eq0 : goal.returns-then-names-eq0
returns-then-names-eq0 g c =
    let v = g.S.Source.entry c.args.source.now in
    let none : length (part_names v.extended) ≡ 0 = sym (length-map (part_names v.extended) (λ (n : List ℕ). TextOf n)) ∙ sym c.text_count-names.ensures ∙ c.if-names-eq0.true in
    c.standard_len-standard.ensures ∙ ap capped_count (omega (arith, length_parts v true (ap (λ n. n == 0) none)))

pub returns : goal.returns
returns g c =
    let v = g.S.Source.entry c.args.source.now in
    let first = padded (length (standard_strings v).table) (length (standard_bytes v)) c.args.table c.requires.table (omega (arith, length_standard v)) in
    let some : (length (part_names v.extended) == 0) ≡ false = grind (arith, length-map (part_names v.extended) (λ (n : List ℕ). TextOf n)) in
    rw (length_parts v false some, length_extended v) (omega (arith, first, c.part_len.ensures, c.items_len.ensures, c.text_count-names.ensures, c.flag_count.ensures, c.standard_len-standard.ensures, c.requires.extended_table))
