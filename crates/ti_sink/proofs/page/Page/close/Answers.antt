use Rattle.ti_escape.specs.Colors.{closing}
use Rattle.ti_sink.proofs.PagesLemmas.{added, closing_page}
use Rattle.ti_sink.proofs.page.Page.close.Goals as goal

pub invariant_of-self : goal.invariant_of-self
invariant_of-self g c =
    let color = c.self.inside.color in
    added c.push_closing.result color c.self.inside.bytes.items c.push_closing.new.out.items (closing color) c.self.invariant (closing_page color) c.push_closing.ensures.text c.push_closing.ensures.kept
