use Rattle.ti_escape.proofs.PrintableLemmas.{has_no_space}
use Rattle.ti_escape.proofs.ReadBackLemmas.{is_label_read_back, label_looks_like_no_other}
use Rattle.ti_escape.proofs.laws.label_is_read_back.Goals as goal

pub returns : goal.returns
returns c = record { back = is_label_read_back; apart = label_looks_like_no_other; no_space = has_no_space }
