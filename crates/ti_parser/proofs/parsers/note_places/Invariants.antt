use Rattle.std.proofs.Common.{◌≡◌, length}
use Rattle.ti_parser.specs.inner.Receivers.{CoverMore}
use Rattle.ti_parser.proofs.parsers.note_places.Given as goal

abbrev pub invariant-loop-parser : goal.invariant-loop-parser
invariant-loop-parser l = record { more : CoverMore l.fn.parsers l.parsers; len : length l.parsers ≡ length l.fn.parsers }
