use Rattle.ti_pad.proofs.MarksLieApartLemmas.{marks_lie_apart}
use Rattle.ti_pad.proofs.FindsMarksLemmas.{finds_marks}
use Rattle.ti_pad.proofs.laws.marks_are_found.Goals as goal

pub returns : goal.returns
returns c = record { found = finds_marks; apart = marks_lie_apart }
