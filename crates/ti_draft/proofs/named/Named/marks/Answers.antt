use Rattle.std.proofs.Common.{map, sym, ap, ◌∙◌}
use Rattle.ti_words.specs.Spelling.{mark_in}
use Rattle.ti_draft.specs.Lists.{name_of}
use Rattle.ti_draft.proofs.NamedLemmas.{seconds}
use Rattle.ti_draft.proofs.named.Named.marks.Goals as goal

pub returns : goal.returns
returns g c =
    let n = c.self.inside in
    c.as_slice.ensures.value ∙ sym (seconds name_of n.names.items n.marks.items c.self.invariant.0) ∙ ap (map mark_in) c.self.view_is
