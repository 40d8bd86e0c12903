use Rattle.std.proofs.Common.{◌≡◌, ◌+◌, ◌∙◌, true, false, arith, refl, sym}
use Rattle.ti_cap.specs.Pass.{is_running}
use Rattle.ti_expand.proofs.UnderwayLemmas.{underway_few, underway_past, underway_over, underway_count}
use Rattle.ti_expand.proofs.WrittenLemmas.{less_left}
use Rattle.ti_expand.proofs.pass.pass_from.Goals as goal

pub next-mode-requires : goal.next-mode-requires
next-mode-requires c =
    let h = c.loop-mode.invariant.onward c.requires.0 _ _ _ _ _ _ c.requires.1.here in
    omega (arith, underway_count _ _ _ _ _ _ _ _ _ _ h.underway)

pub overflow_add-passed : goal.overflow_add-passed
overflow_add-passed c =
    let h = c.loop-mode.invariant.onward c.requires.0 _ _ _ _ _ _ c.requires.1.here in
    let few = underway_few _ _ _ _ _ _ _ _ _ _ _ _ h.underway c.in-Some.ensures.order in
    omega (arith, few)

pub loop-mode-init : goal.loop-mode-init
loop-mode-init c = record {
  onward = λ passed bytes initial places room s highest h. let none : passed + 0 ≡ passed = omega arith in rw none h;
  forward = omega arith;
}

pub loop-mode-preserved : goal.loop-mode-preserved
loop-mode-preserved c =
    let past : is_running c.loop-mode.mode ≡ false = sym c.is_running.ensures ∙ c.loop-mode-test.true in
    let ends : is_running c.next-mode.result ≡ true = sym c.is_running-in-loop-mode.ensures ∙ c.if-not-is_running.false in
    record {
      onward = λ passed bytes initial places room s highest h.
          let k = c.loop-mode.invariant.onward passed bytes initial places room s highest h in
          record { ran = k.ran + 1; underway = underway_past bytes initial places room _ _ _ _ s _ _ _ _ _ _ k.underway c.in-Some.ensures.order past c.next-mode.ensures (rw ends refl) (rw ends refl) };
      forward = omega (arith, c.loop-mode.invariant.forward, less_left _ _ _ c.in-Some.ensures.some);
    }

pub loop-mode-preserved-then-not-is_running : goal.loop-mode-preserved-then-not-is_running
loop-mode-preserved-then-not-is_running c =
    let past : is_running c.loop-mode.mode ≡ false = sym c.is_running.ensures ∙ c.loop-mode-test.true in
    let stays : is_running c.next-mode.result ≡ false = sym c.is_running-in-loop-mode.ensures ∙ c.if-not-is_running.true in
    record {
      onward = λ passed bytes initial places room s highest h.
          let k = c.loop-mode.invariant.onward passed bytes initial places room s highest h in
          record { ran = k.ran; underway = underway_past bytes initial places room _ _ _ _ s _ _ _ _ _ _ k.underway c.in-Some.ensures.order past c.next-mode.ensures (rw stays refl) (rw stays (omega arith)) };
      forward = omega (arith, c.loop-mode.invariant.forward, less_left _ _ _ c.in-Some.ensures.some);
    }

pub returns-in_default-clause-onward : goal.returns-in_default-clause-onward
returns-in_default-clause-onward c = λ passed bytes initial places room s highest h.
    let k = c.loop-mode.invariant.onward passed bytes initial places room s highest h in
    record { ran = k.ran; underway = rw c.in_default.ensures.none.0 (underway_over bytes initial places room c.loop-mode.tape.left c.loop-mode.mode s _ _ _ k.underway c.in_default.ensures.none.1) }
