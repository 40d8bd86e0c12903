use Rattle.std.proofs.Common.{ℕ, List, length, ap, sym, subst, arith, length-append}
use Rattle.ti_cap.specs.declared.gathering.Gathering.{Gathering}
use Rattle.ti_cap.proofs.WrittenLemmas.{spelled_long}
use Rattle.ti_cap.proofs.StandsLemmas.{Stands, stands_start, meets, named_at_end, texts_at_end}
use Rattle.ti_cap.proofs.gathering.parameters_of.Goals as goal

pub loop-token-init : goal.loop-token-init
loop-token-init c =
    let P : Gathering → Type 0 = λ x. Stands c.args.tape.left c.args.tape.left x in
    subst P (sym c.new-gathering.ensures) (stands_start c.args.tape.left c.requires)

pub take-requires-clause-takeable : goal.take-requires-clause-takeable
take-requires-clause-takeable c =
    let m = meets c.args.tape.left c.loop-token.tape.left c.token.new.self.left c.in-Some.token c.loop-token.gathering c.loop-token.invariant c.in-Some.ensures.order c.in-Some.ensures.some.0 c.in-Some.ensures.some.1 in
    m.takeable

pub take-requires-clause-few : goal.take-requires-clause-few
take-requires-clause-few c =
    let m = meets c.args.tape.left c.loop-token.tape.left c.token.new.self.left c.in-Some.token c.loop-token.gathering c.loop-token.invariant c.in-Some.ensures.order c.in-Some.ensures.some.0 c.in-Some.ensures.some.1 in
    m.few

pub loop-token-preserved : goal.loop-token-preserved
loop-token-preserved c =
    let m = meets c.args.tape.left c.loop-token.tape.left c.token.new.self.left c.in-Some.token c.loop-token.gathering c.loop-token.invariant c.in-Some.ensures.order c.in-Some.ensures.some.0 c.in-Some.ensures.some.1 in
    let P : Gathering → Type 0 = λ x. Stands c.args.tape.left c.token.new.self.left x in
    subst P (sym c.take.ensures) m.stands

pub returns-clause-named : goal.returns-clause-named
returns-clause-named c =
    let P : List ℕ → Type 0 = λ x. Stands c.args.tape.left x c.loop-token.gathering in
    named_at_end c.args.tape.left c.loop-token.gathering (subst P c.in_default.ensures.none.1 c.loop-token.invariant)

pub returns-clause-texts : goal.returns-clause-texts
returns-clause-texts c =
    let P : List ℕ → Type 0 = λ x. Stands c.args.tape.left x c.loop-token.gathering in
    texts_at_end c.args.tape.left c.loop-token.gathering (subst P c.in_default.ensures.none.1 c.loop-token.invariant)

pub loop-token-smaller : goal.loop-token-smaller
loop-token-smaller c =
    let e = c.in-Some.ensures.some in
    omega (arith, spelled_long c.in-Some.token e.0 e.1, ap length e.2, length-append e.0 c.token.new.self.left)
