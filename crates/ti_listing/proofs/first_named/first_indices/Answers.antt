use Rattle.std.proofs.Common.{◌∙◌, ◌-◌, ap, arith, length}
use Rattle.ti_entry.specs.Finding.{names_of}
use Rattle.ti_listing.proofs.NamesLemmas.{first_all, first_next, first_none}
use Rattle.ti_listing.proofs.first_named.first_indices.Goals as goal

pub names-init : goal.names-init
names-init g c = first_none (names_of c.args.extended.now c.args.kind) c.count_of-index.result c.new-firsts.result (omega arith) c.new-firsts.ensures.empty

pub names-preserved : goal.names-preserved
names-preserved g c =
    let names = names_of c.args.extended.now c.args.kind in
    first_next names (c.names.index - 1) c.names.index c.key_of.result c.names.firsts c.insert.new.self (omega arith) (omega arith)
    (c.key_of.ensures.length ∙ ap length c.name_or_empty.ensures) (c.key_of.ensures.name ∙ c.name_or_empty.ensures) c.in_ok-insert.ensures.updates c.names.invariant

pub returns : goal.returns
returns g c = first_all (names_of c.args.extended.now c.args.kind) c.names.index c.names.firsts c.names-test.false c.names.invariant
