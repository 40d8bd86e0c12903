use Rattle.std.proofs.Common.{subst, sym}
use Rattle.ti_cap.specs.declared.language.Token.{Token}
use Rattle.ti_cap.specs.Capability.{Spot, Takes, IsFirst}
use Rattle.ti_lint.specs.declared.variables.Variables.{Variables}
use Rattle.ti_lint.proofs.StoredLemmas.{Collects, collects_start, collects_store, collects_other, collected}
use Rattle.ti_lint.proofs.stored.stored_by.Goals as goal

pub loop-token-init : goal.loop-token-init
loop-token-init c =
    let bytes = c.args.capability.now in
    let P : Spot → Type 0 = λ x. Collects bytes x (record { mask = 0 }) in
    subst P (sym c.tape-tape.ensures.start) (collects_start bytes c.tape-tape.ensures.tree)

pub loop-token-preserved-in-Store : goal.loop-token-preserved-in-Store
loop-token-preserved-in-Store c =
    let bytes = c.args.capability.now in
    let l = c.loop-token in
    let e = c.in-Some.ensures in
    let P : Token → Type 0 = λ x. Takes x l.tape c.token.new.self in
    let Q : Token → Type 0 = λ x. IsFirst x l.tape c.token.new.self in
    let R : Variables → Type 0 = λ x. Collects bytes c.token.new.self x in
    subst R (sym c.with-stored.ensures)
    (collects_store bytes l.tape c.token.new.self c.in-Store.letter l.stored l.invariant (subst P c.in-Store.is e.some) (subst Q c.in-Store.is e.order))

pub loop-token-preserved : goal.loop-token-preserved
loop-token-preserved c =
    let e = c.in-Some.ensures in
    collects_other c.args.capability.now c.loop-token.tape c.token.new.self c.in-Some.token c.loop-token.stored c.loop-token.invariant e.some e.order c.in_default-token.not-Store

pub returns-clause-exact : goal.returns-clause-exact
returns-clause-exact c = collected c.args.capability.now c.loop-token.tape c.loop-token.stored c.loop-token.invariant c.in_default.ensures.none.1

pub returns-clause-only : goal.returns-clause-only
returns-clause-only c = c.loop-token.invariant.only
