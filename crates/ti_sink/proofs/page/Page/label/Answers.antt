use Rattle.ti_escape.specs.Notation.{label_notation}
use Rattle.ti_sink.proofs.PagesLemmas.{added, label_page}
use Rattle.ti_sink.proofs.page.Page.label.Goals as goal

pub invariant_of-self : goal.invariant_of-self
invariant_of-self g c =
    let color = c.self.inside.color in
    let name = c.args.name.now in
    added c.push_label.result color c.self.inside.bytes.items c.push_label.new.out.items (label_notation name) c.self.invariant (label_page color name) c.push_label.ensures.text c.push_label.ensures.kept
