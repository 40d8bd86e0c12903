use Rattle.std.proofs.Common.{inl, inr, length, take}
use Rattle.ti_expand.specs.State.{start}
use Rattle.ti_expand.specs.Meaning.{meaning}
use Rattle.ti_c.specs.Given.{values_given}
use Rattle.ti_c.proofs.SendingLemmas.{after_expansion, none_of_expansion, unsent_given, unsent_made, within_limits}
use Rattle.ti_c.proofs.sending.ti_send.Goals as goal

pub returns-then-fault-ne-DONE-clause-only : goal.returns-then-fault-ne-DONE-clause-only
returns-then-fault-ne-DONE-clause-only c = λ number place due.
    let e = c.ti_expand-fault.ensures in
    let bytes = c.args.capability.now in
    let values = values_given c.args.parameters.now in
    let given = length c.args.parameters.now in
    let room = length c.args.out.now in
    elim (within_limits bytes c.args.terminal.now.variables values given c.args.terminal.now.padding room number place c.in-Some.ensures.within due) [
      | inl f ↦ let told = e.only number place f in (told.0, inr told.1)
      | inr u ↦ elim e.answer [
        | inl none ↦ absurd (c.if-fault-ne-DONE.true none)
        | inr f ↦ absurd (none_of_expansion bytes values given room _ _ u.0 u.1.faultless f)
      ]
    ]

pub returns-then-unsent-ne-DONE-clause-answer : goal.returns-then-unsent-ne-DONE-clause-answer
returns-then-unsent-ne-DONE-clause-answer c =
    let e = c.ti_expand-fault.ensures in
    let none = c.if-fault-ne-DONE.false in
    let p = c.put_padded-unsent in
    elim p.ensures.answer [
      | inl is ↦ inl is
      | inr u ↦ inr (inr (
        c.in-Some.ensures.within,
        inr (
          e.few none,
          record {
            accepted = e.accepted none;
            faultless = e.faultless none;
            unsent = λ tree writes.
                unsent_given _ (meaning tree (start c.args.terminal.now.variables (values_given c.args.parameters.now))).output _ c.args.terminal.now.padding _ (length c.args.out.now) _ _
                ((e.expansion none).output tree writes) c.in-Some.ensures.value c.ti_expand-fault.auto.out u;
          },
        ),
      ))
    ]

pub returns-then-unsent-ne-DONE-clause-only : goal.returns-then-unsent-ne-DONE-clause-only
returns-then-unsent-ne-DONE-clause-only c = λ number place due.
    let e = c.ti_expand-fault.ensures in
    let none = c.if-fault-ne-DONE.false in
    let x = e.expansion none in
    let u = after_expansion c.args.capability.now c.args.terminal.now.variables (values_given c.args.parameters.now) (length c.args.parameters.now)
    c.args.terminal.now.padding (length c.args.out.now) number place c.in-Some.ensures.within (e.few none) (e.faultless none) due in
    let made = unsent_made (take c.ti_expand-fault.new.run.counts.written c.ti_expand-fault.new.out) _ c.in-Some.padding c.args.terminal.now.padding (length c.ti_expand-fault.new.out) (length c.args.out.now) number place
    (x.output x.tree.tree x.tree.writes) c.in-Some.ensures.value c.ti_expand-fault.auto.out (u.unsent x.tree.tree x.tree.writes) in
    let told = c.put_padded-unsent.ensures.only number place made in (told.0, inr (inr told.1))

pub returns-else-unsent-ne-DONE-clause-only : goal.returns-else-unsent-ne-DONE-clause-only
returns-else-unsent-ne-DONE-clause-only c = λ number place due.
    let e = c.ti_expand-fault.ensures in
    let none = c.if-fault-ne-DONE.false in
    let x = e.expansion none in
    let u = after_expansion c.args.capability.now c.args.terminal.now.variables (values_given c.args.parameters.now) (length c.args.parameters.now)
    c.args.terminal.now.padding (length c.args.out.now) number place c.in-Some.ensures.within (e.few none) (e.faultless none) due in
    let made = unsent_made (take c.ti_expand-fault.new.run.counts.written c.ti_expand-fault.new.out) _ c.in-Some.padding c.args.terminal.now.padding (length c.ti_expand-fault.new.out) (length c.args.out.now) number place
    (x.output x.tree.tree x.tree.writes) c.in-Some.ensures.value c.ti_expand-fault.auto.out (u.unsent x.tree.tree x.tree.writes) in
    let told = c.put_padded-unsent.ensures.only number place made in (told.0, inr (inr told.1))

pub returns-else-unsent-ne-DONE-clause-accepted : goal.returns-else-unsent-ne-DONE-clause-accepted
returns-else-unsent-ne-DONE-clause-accepted c = λ _. c.ti_expand-fault.ensures.accepted c.if-fault-ne-DONE.false
