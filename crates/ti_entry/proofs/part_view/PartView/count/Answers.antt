use Rattle.std.proofs.Common.{arith, ap}
use Rattle.ti_entry.specs.Items.{count_of}
use Rattle.ti_entry.proofs.NamedItemsLemmas.{part_counts}
use Rattle.ti_entry.proofs.part_view.PartView.count.Goals as goal

pub returns-clause-exact : goal.returns-clause-exact
returns-clause-exact c =
    let n = part_counts c.self.inside.bytes.now c.self.inside.part in
    omega (arith, ap count_of c.self.view_is, c.count.ensures, c.count-2.ensures, c.count-3.ensures, n.of_flags, n.of_numbers, n.of_texts)
