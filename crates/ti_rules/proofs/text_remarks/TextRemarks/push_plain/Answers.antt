use Rattle.ti_rules.proofs.TurnsLemmas.{in_turn}
use Rattle.ti_rules.proofs.text_remarks.TextRemarks.push_plain.Goals as goal

pub returns : goal.returns
returns g c = in_turn _ _ _ _ _ c.in_ok-push_escapes.ensures (in_turn _ _ _ _ _ c.in_ok-push_percents.ensures c.in_ok-push_places.ensures)
