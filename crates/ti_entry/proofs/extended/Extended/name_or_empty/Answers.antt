use Rattle.std.proofs.Common.{◌∙◌, [], sym, ap}
use Rattle.std.specs.Prelude.{unwrap_or}
use Rattle.std.proofs.lemmas.Option.{get_or_from_slice_get, unwrap_or-slice_get}
use Rattle.ti_entry.specs.Finding.{names_of}
use Rattle.ti_entry.proofs.extended.Extended.name_or_empty.Goals as goal

pub returns-in-Some : goal.returns-in-Some
returns-in-Some c = sym (get_or_from_slice_get (names_of c.args.self.now c.args.kind) c.args.i c.in-Some.name.now [] (sym c.in-Some.ensures))

pub returns-in-None : goal.returns-in-None
returns-in-None c = ap (λ o. unwrap_or o []) c.in-None.ensures ∙ unwrap_or-slice_get (names_of c.args.self.now c.args.kind) c.args.i []
