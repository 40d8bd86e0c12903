-- The list has what is sent for the values so far.
use Rattle.std.proofs.Common.{take}
use Rattle.ti_values.specs.Sent.{AreSent, texts_of}
use Rattle.ti_values.proofs.sent.sent_for.Given as goal

abbrev pub invariant-values : goal.invariant-values
invariant-values g l = AreSent l.capability (take l.value-index l.values) (texts_of l.list.items)
