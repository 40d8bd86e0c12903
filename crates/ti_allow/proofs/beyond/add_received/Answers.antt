-- What the pass hands out and where it ends, if nothing is found in either.
use Rattle.std.proofs.Common.{List, subst}
use Rattle.std.specs.List.{AllByRecursion}
use Rattle.ti_allow.specs.Harmless.{AreAllowed, IsClean}
use Rattle.ti_allow.specs.declared.allowed.TheConstants.{ALLOWED}
use Rattle.ti_parser.specs.declared.configuration.Configuration.{Configuration}
use Rattle.ti_parser.specs.declared.function.Function.{Function}
use Rattle.ti_allow.proofs.CoveredLemmas.{only_table}
use Rattle.ti_allow.proofs.beyond.add_received.Goals as goal

pub returns-clause-table : goal.returns-clause-table
returns-clause-table g c = λ silent.
    let name = c.args.name.now in
    let sent = c.in_ok-sent.sent in
    let functions_silent = c.in_ok-add_cut.ensures.before (c.in_ok-add_outcome.ensures.before silent) in
    let Allowed : List Function → Type 0 = λ functions. AreAllowed ALLOWED name functions in
    let Clean : List Configuration → Type 0 = λ ends. AllByRecursion IsClean ends in
    only_table ALLOWED name c.args.reception c.args.capability.now sent.ends.items sent.functions.items
    (c.in_ok-sent.ensures.cover (c.in_ok-add_outcome.ensures.whole silent))
    (subst Allowed c.deref.ensures.value (c.in_ok-add_functions.ensures.allowed functions_silent))
    (subst Clean c.deref-3.ensures.value (c.in_ok-add_outcome.ensures.clean silent))

pub returns-clause-beyond : goal.returns-clause-beyond
returns-clause-beyond g c = λ are.
    let name = c.args.name.now in
    c.in_ok-add_outcome.ensures.beyond name (c.in_ok-add_cut.ensures.beyond name (c.in_ok-add_functions.ensures.beyond are))
