use Rattle.std.proofs.Common.{◌++◌, ◌∷◌, [], ap, ◌∙◌}
use Rattle.ti_words.specs.declared.Text.TheVariants.{Value}
use Rattle.ti_draft.specs.Lists.{name_of}
use Rattle.ti_draft.proofs.NamedLemmas.{zip_push}
use Rattle.ti_draft.proofs.named.Named.push.Goals as goal

pub returns-in-Ok-clause-added : goal.returns-in-Ok-clause-added
returns-in-Ok-clause-added g c =
    rw (c.in-Ok.ensures.items, c.in_ok-push.ensures.items) (zip_push name_of c.self.inside.names.items c.self.inside.marks.items (Value c.args.name) c.args.mark c.self.invariant.0
    ∙ ap (λ l. l ++ (c.args.name.now, c.args.mark) ∷ []) c.self.view_is)
