use Rattle.std.proofs.Common.{◌<◌, ◌^◌, sym, subst, arith}
use Rattle.ti_lint.specs.inner.Outlook.{Ahead}
use Rattle.ti_lint.proofs.AheadLemmas.{few_needed}
use Rattle.ti_lint.proofs.backward.outlooks.Goals as goal

pub take-requires-clause-few : goal.take-requires-clause-few
take-requires-clause-few g c =
    let i = c.tokens.invariant in
    let P : Ahead → Type 0 = λ x. x.here.needs < 2 ^ 32 in
    subst P (sym i.2) (few_needed c.args.tokens.now c.tokens.left.now i.0 c.requires.lettered (omega (arith, c.requires.few)) i.1)
