use Rattle.std.proofs.Common.{[], refl}
use Rattle.std.proofs.KnownBytes.{Consumes-nil}
use Rattle.ti_tool.specs.FileRuns.{Unread}
use Rattle.ti_tool.proofs.call.answer_of_input.Goals as goal

pub returns-in-Capability-clause-answered : goal.returns-in-Capability-clause-answered
returns-in-Capability-clause-answered g c = rw c.in-Capability.is c.answer_of_bytes.ensures.answered

pub returns-in-Source-clause-answered : goal.returns-in-Source-clause-answered
returns-in-Source-clause-answered g c = rw c.in-Source.is c.answer_of_notation.ensures.answered

pub returns-in-Entry-clause-answered : goal.returns-in-Entry-clause-answered
returns-in-Entry-clause-answered g c = rw c.in-Entry.is c.answer_of_kept.ensures.answered

pub returns-in-Difference-clause-answered : goal.returns-in-Difference-clause-answered
returns-in-Difference-clause-answered g c = rw c.in-Difference.is (Unread, ([], Consumes-nil _), refl)
