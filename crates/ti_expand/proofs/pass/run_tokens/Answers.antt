use Rattle.std.proofs.Common.{ℕ, List, ◌++◌, ◌<◌, ◌≤◌, length, arith, refl, subst, ◌∙◌}
use Rattle.std.proofs.lemmas.List.{length-take}
use Rattle.ti_cap.specs.declared.mode.Mode.TheVariants.{Run}
use Rattle.ti_cap.specs.Capability.{HasCount}
use Rattle.ti_expand.specs.State.{State, start}
use Rattle.ti_expand.specs.Steps.{step_state}
use Rattle.ti_expand.specs.inner.Held.{held}
use Rattle.ti_expand.specs.inner.Underway.{IsUnderway}
use Rattle.ti_expand.proofs.AtOnceLemmas.{ran_on}
use Rattle.ti_expand.proofs.CanRunLemmas.{can_run}
use Rattle.ti_expand.proofs.HeightLemmas.{meet_fits, has_run}
use Rattle.ti_expand.proofs.IsExpansionLemmas.{is_expansion, given_back}
use Rattle.ti_expand.proofs.PausedLemmas.{in_place_on}
use Rattle.ti_expand.proofs.UnderwayLemmas.{underway_start, underway_height, underway_output, passed_few, counted}
use Rattle.ti_expand.proofs.WrittenLemmas.{less_left}
use Rattle.ti_expand.proofs.pass.run_tokens.Goals as goal

pub loop-token-init : goal.loop-token-init
loop-token-init c =
    let a = c.args in
    let initial : State = start a.vars.now a.parameters.now in
    let first : IsUnderway a.tape.left initial (length a.stack.now) (length a.out.now) a.tape.left Run initial 0 0 0 =
    underway_start a.tape.left initial (length a.stack.now) (length a.out.now) refl (can_run a.tape.left a.vars.now a.parameters.now (length a.stack.now) (length a.out.now) c.requires.ready c.new-machine.ensures.numbers) in
    let m = c.new-machine.ensures in
    record {
      here = record { ran = 0; underway = rw (m.state, m.highest) first };
      places = m.places;
      room = m.room;
      place = record { vars = refl; out = refl; onward = omega arith; rest = refl };
    }

pub meet-after-requires-clause-height : goal.meet-after-requires-clause-height
meet-after-requires-clause-height c =
    let l = c.loop-token in
    let high : length (step_state Run c.in-Some.token (held l.machine).state).stack ≤ length c.args.stack.now =
    underway_height _ _ _ _ _ _ _ _ _ _ _ _ l.invariant.here.underway c.in-Some.ensures.order in
    meet_fits l.machine c.in-Some.token _ (omega (arith, high, l.invariant.places))

pub meet-after-requires-clause-room : goal.meet-after-requires-clause-room
meet-after-requires-clause-room c =
    let l = c.loop-token in
    let long : length (step_state Run c.in-Some.token (held l.machine).state).output ≤ length c.args.out.now =
    underway_output _ _ _ _ _ _ _ _ _ _ _ _ l.invariant.here.underway c.in-Some.ensures.order in
    omega (arith, long, l.invariant.room)

pub pass_over-requires : goal.pass_over-requires
pass_over-requires c =
    let e = c.meet-after.ensures in
    let m = has_run c.loop-token.machine c.meet-after.new.self c.in-Some.token c.meet-after.result e.mode e.state e.highest e.places e.room in
    record {
      bytes = _;
      initial = _;
      places = _;
      room = _;
      state = _;
      highest = _;
      here = ran_on _ _ _ _ _ _ _ _ _ c.in-Some.ensures.order m.mode_is m.state m.highest _ _ _ _ c.loop-token.invariant.here;
    }

pub loop-token-smaller : goal.loop-token-smaller
loop-token-smaller c =
    let less : length c.pass_over.new.tape.left < length c.loop-token.tape.left =
    omega (arith, less_left _ _ _ c.in-Some.ensures.some, c.pass_over.ensures.forward) in
    less

pub loop-token-preserved : goal.loop-token-preserved
loop-token-preserved c =
    let l = c.loop-token in
    let e = c.meet-after.ensures in
    let m = has_run c.loop-token.machine c.meet-after.new.self c.in-Some.token c.meet-after.result e.mode e.state e.highest e.places e.room in
    record {
      here = c.pass_over.ensures.onward _ _ _ _ _ _ (ran_on _ _ _ _ _ _ _ _ _ c.in-Some.ensures.order m.mode_is m.state m.highest _ _ _ _ l.invariant.here);
      places = m.places ∙ l.invariant.places;
      room = m.room ∙ l.invariant.room;
      place = in_place_on _ _ _ l.invariant.place e.place;
    }

pub overflow_sub-result : goal.overflow_sub-result
overflow_sub-result c =
    let P : List ℕ → Type 0 = λ x. HasCount (x ++ c.args.tape.left) c.token_count-tokens.result in
    passed_few _ _ _ _ _ _ _ _ _ _ c.loop-token.invariant.here (subst P c.requires.start c.token_count-tokens.ensures.exact)

pub returns-clause-expansion : goal.returns-clause-expansion
returns-clause-expansion c =
    let m = c.loop-token.machine in
    let a = c.args in
    let P : List ℕ → Type 0 = λ x. HasCount (x ++ a.tape.left) c.token_count-tokens.result in
    let count : HasCount a.tape.left c.token_count-tokens.result = subst P c.requires.start c.token_count-tokens.ensures.exact in
    let vars = c.loop-token.invariant.place.vars ∙ c.new-machine.ensures.vars in
    let out = c.loop-token.invariant.place.out ∙ c.new-machine.ensures.out in
    given_back _ _ _ _ _ _ _ _ _ (grind (arith, vars)) (grind (arith, out))
    (is_expansion a.tape.left a.vars.now a.parameters.now (length a.stack.now) (length a.out.now) (held m).state _ c.requires.ready c.new-machine.ensures.numbers
    (omega (arith, length-take m.written m.out.now, m.within))
    (λ tree w. rw c.highest.ensures (counted _ _ _ _ _ _ _ _ _ _ c.loop-token.invariant.here c.in_default.ensures.none.1 count tree w)))

pub returns-clause-rest : goal.returns-clause-rest
returns-clause-rest c =
    let out = c.loop-token.invariant.place.out ∙ c.new-machine.ensures.out in
    grind (arith, out, c.loop-token.invariant.place.rest, c.new-machine.ensures.rest)
