use Rattle.std.proofs.Common.{◌<◌, ◌∙◌, length, sym, subst, arith}
use Rattle.std.proofs.lemmas.List.{length-set}
use Rattle.ti_parser.specs.inner.Receivers.{CoversMoment, Moment}
use Rattle.ti_parser.specs.declared.receiver.Receiver.{Receiver}
use Rattle.ti_parser.proofs.SetLemmas.{cover_set}
use Rattle.ti_parser.proofs.parsers.note_places.Goals as goal

pub loop-parser-preserved : goal.loop-parser-preserved
loop-parser-preserved c =
    let low : c.loop-parser.parser-index < length c.loop-parser.parsers = omega arith in
    let P : Receiver → Type 0 = λ x. (d : Moment) → CoversMoment x d → CoversMoment c.note_place.new.self d in
    record {
      more = λ m h. cover_set c.loop-parser.parsers c.loop-parser.parser-index c.parser-item.result c.note_place.new.self low c.parser-item.is
          (subst P (sym c.parser-item.is) c.note_place.ensures) m (c.loop-parser.invariant.more m h);
      len = length-set c.loop-parser.parsers c.loop-parser.parser-index c.note_place.new.self ∙ c.loop-parser.invariant.len;
    }
