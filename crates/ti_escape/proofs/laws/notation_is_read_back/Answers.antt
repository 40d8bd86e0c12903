use Rattle.ti_escape.proofs.BlankEndLemmas.{has_no_blank_end}
use Rattle.ti_escape.proofs.PrintableLemmas.{is_printable_all}
use Rattle.ti_escape.proofs.ReadBackLemmas.{is_read_back, looks_like_no_other, looks_like_no_word}
use Rattle.ti_escape.proofs.laws.notation_is_read_back.Goals as goal

pub returns : goal.returns
returns c = record { back = is_read_back; apart = looks_like_no_other; no_word = looks_like_no_word; printable = is_printable_all; no_blank_end = has_no_blank_end }
