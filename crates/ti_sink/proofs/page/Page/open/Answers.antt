use Rattle.ti_escape.specs.Colors.{opening}
use Rattle.ti_sink.proofs.PagesLemmas.{added, opening_page}
use Rattle.ti_sink.proofs.page.Page.open.Goals as goal

pub invariant_of-self : goal.invariant_of-self
invariant_of-self g c =
    let color = c.self.inside.color in
    let style = c.args.style in
    added c.push_opening.result color c.self.inside.bytes.items c.push_opening.new.out.items (opening color style) c.self.invariant (opening_page color style) c.push_opening.ensures.text c.push_opening.ensures.kept
