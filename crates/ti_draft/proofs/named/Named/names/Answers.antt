use Rattle.std.proofs.Common.{map, sym, ap, ◌∙◌}
use Rattle.ti_words.specs.Texts.{text_value, TextOf}
use Rattle.ti_words.specs.Spelling.{name_in}
use Rattle.ti_draft.specs.Lists.{name_of}
use Rattle.ti_draft.proofs.NamedLemmas.{firsts}
use Rattle.ti_draft.proofs.named.Named.names.Goals as goal

pub returns : goal.returns
returns g c =
    let n = c.self.inside in
    ap (map text_value) c.as_slice.ensures.value ∙ c.self.invariant.1
    ∙ ap (map TextOf) (sym (firsts name_of n.names.items n.marks.items c.self.invariant.0) ∙ ap (map name_in) c.self.view_is)
