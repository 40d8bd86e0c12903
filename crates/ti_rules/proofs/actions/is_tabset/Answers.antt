use Rattle.ti_rules.proofs.FirstPlaceLemmas.{tabset_is}
use Rattle.ti_rules.proofs.actions.is_tabset.Goals as goal

pub returns : goal.returns
returns c =
    let tabset = c.is_tabset.ensures in
    tabset_is c.args.path.now c.is_tabset.result tabset.below tabset.within tabset.otherwise
