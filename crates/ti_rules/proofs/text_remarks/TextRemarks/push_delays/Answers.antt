use Rattle.std.proofs.Common.{◌∙◌, ◌++◌, Option, ℕ, List, ap}
use Rattle.ti_rules.specs.Remarks.{TextRemark}
use Rattle.ti_rules.specs.Texts.{on_delays}
use Rattle.ti_rules.proofs.FirstPlaceLemmas.{long_is}
use Rattle.ti_rules.proofs.text_remarks.TextRemarks.push_delays.Goals as goal

pub returns : goal.returns
returns g c =
    let text = c.args.text.now in
    let old = c.args.self.now in
    let with : Option ℕ → List TextRemark = λ found. old ++ on_delays found text in
    c.in_ok-push_delays_from.ensures ∙ ap with (long_is text c.first_long_delay.result c.first_long_delay.ensures.first)
