use Rattle.std.proofs.Common.{◌≡◌, ◌+◌, true, false, refl, sym, ◌∙◌}
use Rattle.ti_cap.specs.Pass.{is_running}
use Rattle.ti_expand.specs.inner.Held.{held}
use Rattle.ti_expand.proofs.HeightLemmas.{meet_fits, has_run}
use Rattle.ti_expand.proofs.PausedLemmas.{paused_high, paused_long, paused_run, paused_past}
use Rattle.ti_expand.proofs.steps.Steps.step.Goals as goal

pub meet-self-inside-requires-clause-height : goal.meet-self-inside-requires-clause-height
meet-self-inside-requires-clause-height c =
    let i = c.self.inside in
    meet_fits i.machine c.in_ok-token.token _
    (paused_high i.tape.left c.token.new.self.left i.mode c.in_ok-token.token (held i.machine) i.ran i.passed c.self.invariant c.in_ok-token.ensures.order
    (sym c.is_running.ensures ∙ c.if-is_running.true))

pub meet-self-inside-requires-clause-room : goal.meet-self-inside-requires-clause-room
meet-self-inside-requires-clause-room c =
    let i = c.self.inside in
    paused_long i.tape.left c.token.new.self.left i.mode c.in_ok-token.token (held i.machine) i.ran i.passed c.self.invariant c.in_ok-token.ensures.order
    (sym c.is_running.ensures ∙ c.if-is_running.true)

pub invariant_of-self-then-is_running : goal.invariant_of-self-then-is_running
invariant_of-self-then-is_running c =
    let i = c.self.inside in
    let m = c.meet-self-inside in
    paused_run i.tape.left c.token.new.self.left i.mode c.in_ok-token.token (held i.machine) i.ran i.passed c.self.invariant c.in_ok-token.ensures.order
    m.result (held m.new.self) (sym c.is_running.ensures ∙ c.if-is_running.true)
    (has_run i.machine m.new.self c.in_ok-token.token m.result m.ensures.mode m.ensures.state m.ensures.highest m.ensures.places m.ensures.room)

pub invariant_of-self-then-is_running-2 : goal.invariant_of-self-then-is_running-2
invariant_of-self-then-is_running-2 c =
    let i = c.self.inside in
    let past : is_running i.mode ≡ false = sym c.is_running.ensures ∙ c.if-is_running.false in
    let ends : is_running c.next-self-inside.result ≡ true = sym c.is_running-2.ensures ∙ c.if-is_running-2.true in
    paused_past i.tape.left c.token.new.self.left i.mode c.in_ok-token.token (held i.machine) i.ran i.passed c.self.invariant c.in_ok-token.ensures.order
    c.next-self-inside.result (i.ran + 1) i.passed past c.next-self-inside.ensures (rw ends refl) (rw ends refl)

pub invariant_of-self-2 : goal.invariant_of-self-2
invariant_of-self-2 c =
    let i = c.self.inside in
    let past : is_running i.mode ≡ false = sym c.is_running.ensures ∙ c.if-is_running.false in
    let stays : is_running c.next-self-inside.result ≡ false = sym c.is_running-2.ensures ∙ c.if-is_running-2.false in
    paused_past i.tape.left c.token.new.self.left i.mode c.in_ok-token.token (held i.machine) i.ran i.passed c.self.invariant c.in_ok-token.ensures.order
    c.next-self-inside.result i.ran (i.passed + 1) past c.next-self-inside.ensures (rw stays refl) (rw stays refl)

pub returns-then-is_running-clause-peak : goal.returns-then-is_running-clause-peak
returns-then-is_running-clause-peak c =
    let i = c.self.inside in
    let m = c.meet-self-inside in
    let ran = has_run i.machine m.new.self c.in_ok-token.token m.result m.ensures.mode m.ensures.state m.ensures.highest m.ensures.places m.ensures.room in
    rw (← c.self.view_is) ran.highest
