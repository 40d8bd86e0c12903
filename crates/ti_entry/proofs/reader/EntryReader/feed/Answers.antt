use Rattle.std.proofs.Common.{◌∙◌, ap}
use Rattle.ti_layout.specs.Refusal.{failure}
use Rattle.ti_entry.specs.Reading.{Reading, reading_after}
use Rattle.ti_entry.proofs.reader.EntryReader.feed.Goals.{else-piece-gt1-via-then-piece-gt1+else-take_at_once, else-piece-gt1-via-else-piece-gt1}
use Rattle.ti_entry.proofs.reader.EntryReader.feed.Goals as goal

-- a piece that was not taken at once has left the reader as it was
pub take_each-requires-clause-none_failed : goal.take_each-requires-clause-none_failed
take_each-requires-clause-none_failed c =
    elim c.else-piece-gt1.branch [
      | else-piece-gt1-via-then-piece-gt1+else-take_at_once w ↦ ap (λ (r : Reading). failure r.kept) (w.self-is ∙ w.take_at_once.ensures.same w.if-take_at_once.false) ∙ c.refusal.ensures.none_failed
      | else-piece-gt1-via-else-piece-gt1 w ↦ ap (λ (r : Reading). failure r.kept) w.self-is ∙ c.refusal.ensures.none_failed
    ]

pub returns-clause-fed : goal.returns-clause-fed
returns-clause-fed c =
    elim c.else-piece-gt1.branch [
      | else-piece-gt1-via-then-piece-gt1+else-take_at_once w ↦ c.take_each.ensures.fed ∙ ap (λ (r : Reading). reading_after r c.args.piece.now) (w.self-is ∙ w.take_at_once.ensures.same w.if-take_at_once.false)
      | else-piece-gt1-via-else-piece-gt1 w ↦ c.take_each.ensures.fed ∙ ap (λ (r : Reading). reading_after r c.args.piece.now) w.self-is
    ]
