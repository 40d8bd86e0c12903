use Rattle.std.proofs.Common.{List, ℕ, subst}
use Rattle.std.specs.Prelude.{MatchResult, Option}
use Rattle.ti_line.specs.Requests.{AsksToTrace, HasTraceFault}
use Rattle.ti_line.specs.inner.Matches.{given_rows}
use Rattle.ti_line.proofs.actions.trace.Goals as goal

pub returns-in-Some : goal.returns-in-Some
returns-in-Some c =
    let rows = given_rows c.args.given.now in
    let Answers : Option (List ℕ) → Type 0 = λ name. MatchResult c.trace_of.result (AsksToTrace c.args.to rows name) (HasTraceFault c.args.to rows name) in
    subst Answers c.in-Some.ensures c.trace_of.ensures

pub returns-in-None : goal.returns-in-None
returns-in-None c =
    let rows = given_rows c.args.given.now in
    let Answers : Option (List ℕ) → Type 0 = λ name. MatchResult c.trace_input.result (AsksToTrace c.args.to rows name) (HasTraceFault c.args.to rows name) in
    subst Answers c.in-None.ensures c.trace_input.ensures
