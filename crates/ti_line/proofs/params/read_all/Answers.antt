use Rattle.std.proofs.Common.{◌≡◌, ℕ, ◌+◌, rules, subst}
use Rattle.ti_line.specs.Params.{IsFirstBad}
use Rattle.ti_line.specs.Requests.{texts_of}
use Rattle.ti_line.proofs.AreParamsLemmas.{stand_next, bad_here}
use Rattle.ti_line.proofs.params.read_all.Goals as goal

pub returns-in-None-clause-bad : goal.returns-in-None-clause-bad
returns-in-None-clause-bad g c = λ which e.
    let P : ℕ → Type 0 = λ x. IsFirstBad g.V.FromWord.means x (texts_of c.args.words.now) in
    let same : c.loop-i.i + 1 ≡ which = cc (e) in
    subst P same (bad_here _ g.V.FromWord.means c.args.missing c.args.words.now c.loop-i.i _ c.loop-i.values c.loop-i-test.true c.loop-i.invariant.stand c.in-None.ensures.none)

pub loop-i-preserved : goal.loop-i-preserved
loop-i-preserved g c = record {
  stand = stand_next _ g.V.FromWord.means c.args.missing c.args.words.now c.loop-i.i _ c.loop-i.values c.in-Some.value c.loop-i-test.true c.loop-i.invariant.few c.loop-i.invariant.nine c.loop-i.invariant.stand c.in-Some.ensures.some;
  few = c.loop-i.invariant.few;
  nine = search rules;
}
