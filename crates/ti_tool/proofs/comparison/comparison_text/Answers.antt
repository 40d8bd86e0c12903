use Rattle.std.proofs.lemmas.Result.{IfOk-weaker}
use Rattle.ti_tool.proofs.comparison.comparison_text.Goals as goal

pub returns-in_ok-differing_json-in-Json : goal.returns-in_ok-differing_json-in-Json
returns-in_ok-differing_json-in-Json g c =
    let json = c.in_ok-differing_json-in-Json in
    rw c.in-Json.is (IfOk-weaker c.as_line.result _ _ (λ line is. (json.field-0.items, json.ensures.printable, is)) c.as_line.ensures)
