use Rattle.std.proofs.Common.{◌≡◌, ◌++◌, map, length, get_or, sym, ap, ◌∙◌, arith, append_assoc}
use Rattle.std.proofs.lemmas.List.{map-append, length-map}
use Rattle.std.proofs.lemmas.Simd.{map-map}
use Rattle.ti_words.specs.Texts.{text_value, TextOf, AbsentText}
use Rattle.ti_words.specs.Spelling.{part_names}
use Rattle.ti_draft.proofs.NamedLemmas.{in_second, in_third}
use Rattle.ti_draft.proofs.draft.Draft.name.Goals as goal

pub returns-then-index-numbers : goal.returns-then-index-numbers
returns-then-index-numbers g c =
    let flags = c.names-flags.result.now in
    let numbers = c.names-numbers.result.now in
    let texts = c.names-texts.result.now in
    let whole : map text_value flags ++ (map text_value numbers ++ map text_value texts) ≡ map TextOf (part_names c.args.self.now.extended) =
    rw (c.names-flags.ensures, c.names-numbers.ensures, c.names-texts.ensures, ← c.self.view_is) (simp (map-append, map-map, append_assoc)) in
    c.text_at-then-index-numbers.ensures
    ∙ sym (in_second (map text_value flags) (map text_value numbers) (map text_value texts) c.args.index (length flags) AbsentText (length-map flags text_value) (omega (arith, c.if-index-flags.false)) (omega (arith, c.if-index-numbers.true, length-map numbers text_value)))
    ∙ ap (λ l. get_or l c.args.index AbsentText) whole

pub returns : goal.returns
returns g c =
    let flags = c.names-flags.result.now in
    let numbers = c.names-numbers.result.now in
    let texts = c.names-texts.result.now in
    let whole : map text_value flags ++ (map text_value numbers ++ map text_value texts) ≡ map TextOf (part_names c.args.self.now.extended) =
    rw (c.names-flags.ensures, c.names-numbers.ensures, c.names-texts.ensures, ← c.self.view_is) (simp (map-append, map-map, append_assoc)) in
    c.text_at-2.ensures
    ∙ sym (in_third (map text_value flags) (map text_value numbers) (map text_value texts) c.args.index (length flags) (length numbers) AbsentText (length-map flags text_value) (length-map numbers text_value) (omega (arith, c.if-index-flags.false)) (omega (arith, c.if-index-numbers.false)))
    ∙ ap (λ l. get_or l c.args.index AbsentText) whole
