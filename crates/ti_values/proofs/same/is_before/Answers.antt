-- Of two as long the order of bytes decides.
use Rattle.std.proofs.Common.{◌∙◌, ap, is_lt, sym}
use Rattle.ti_values.proofs.SameLemmas.{before_by_bytes}
use Rattle.ti_values.proofs.same.is_before.Goals as goal

pub returns-in-Equal : goal.returns-in-Equal
returns-in-Equal c = before_by_bytes c.args.one.now c.args.other.now c.is_lt.result (sym c.in-Equal.is ∙ c.cmp.ensures) (c.is_lt.ensures ∙ ap is_lt c.cmp-in-Equal.ensures)
