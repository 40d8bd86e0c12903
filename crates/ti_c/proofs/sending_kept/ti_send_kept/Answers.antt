use Rattle.std.proofs.Common.{◌≤◌, inl, inr, length, take, ap, arith}
use Rattle.std.proofs.lemmas.List.{length-take}
use Rattle.ti_expand.specs.State.{start, values_of}
use Rattle.ti_expand.specs.Meaning.{meaning}
use Rattle.ti_kept.specs.Kept.{nine_of}
use Rattle.ti_c.proofs.KeptFaultLemmas.{kept_small, only_small_sent, none_kept}
use Rattle.ti_c.proofs.SendingLemmas.{after_expansion, unsent_given, unsent_made}
use Rattle.ti_c.proofs.sending_kept.ti_send_kept.Goals as goal

pub returns-in_default-expand_kept-clause-answer : goal.returns-in_default-expand_kept-clause-answer
returns-in_default-expand_kept-clause-answer c = λ k.
    let few : length c.args.parameters.now ≤ 9 = omega arith in
    inr (inr (
      c.in-Some.ensures.within,
      inl (kept_small c.args.kept.now k (nine_of c.args.parameters.now) (length c.args.out.now) (length c.args.parameters.now) few c.in_default-expand_kept.ensures.room),
    ))

pub returns-in_default-expand_kept-clause-only : goal.returns-in_default-expand_kept-clause-only
returns-in_default-expand_kept-clause-only c = λ k number place due.
    let few : length c.args.parameters.now ≤ 9 = omega arith in
    let told = only_small_sent c.args.kept.now k (nine_of c.args.parameters.now) (length c.args.out.now) (length c.args.parameters.now) few c.in_default-expand_kept.ensures.room
    c.args.terminal.now.variables c.args.terminal.now.padding c.in-Some.ensures.within number place due in
    (told.0, inr (inr told.1))

pub returns-then-unsent-ne-DONE-clause-answer : goal.returns-then-unsent-ne-DONE-clause-answer
returns-then-unsent-ne-DONE-clause-answer c = λ k.
    let few : length c.args.parameters.now ≤ 9 = omega arith in
    let e = c.in-Some-expand_kept.ensures in
    elim c.put_padded-unsent.ensures.answer [
      | inl is ↦ inl is
      | inr u ↦ inr (inr (
        c.in-Some.ensures.within,
        inr (
          few,
          record {
            accepted = k.accepted;
            faultless = none_kept c.args.kept.now k (nine_of c.args.parameters.now) (length c.args.out.now) (length c.args.parameters.now) e.enough;
            unsent = λ tree writes.
                unsent_given _ (meaning tree (start c.args.terminal.now.variables (values_of (nine_of c.args.parameters.now)))).output _ c.args.terminal.now.padding _ (length c.args.out.now) _ _
                (e.output k tree writes) c.in-Some.ensures.value c.expand_kept.auto.out u;
          },
        ),
      ))
    ]

pub returns-then-unsent-ne-DONE-clause-only : goal.returns-then-unsent-ne-DONE-clause-only
returns-then-unsent-ne-DONE-clause-only c = λ k number place due.
    let few : length c.args.parameters.now ≤ 9 = omega arith in
    let e = c.in-Some-expand_kept.ensures in
    let faultless = none_kept c.args.kept.now k (nine_of c.args.parameters.now) (length c.args.out.now) (length c.args.parameters.now) e.enough in
    let u = after_expansion c.args.kept.now.bytes.now c.args.terminal.now.variables (values_of (nine_of c.args.parameters.now)) (length c.args.parameters.now)
    c.args.terminal.now.padding (length c.args.out.now) number place c.in-Some.ensures.within few faultless due in
    let made = unsent_made (take c.in-Some-expand_kept.written c.expand_kept.new.out) _ c.in-Some.padding c.args.terminal.now.padding (length c.expand_kept.new.out) (length c.args.out.now) number place
    (e.output k k.formed.tree k.formed.writes) c.in-Some.ensures.value c.expand_kept.auto.out (u.unsent k.formed.tree k.formed.writes) in
    let told = c.put_padded-unsent.ensures.only number place made in (told.0, inr (inr told.1))

pub returns-else-unsent-ne-DONE-clause-only : goal.returns-else-unsent-ne-DONE-clause-only
returns-else-unsent-ne-DONE-clause-only c = λ k number place due.
    let few : length c.args.parameters.now ≤ 9 = omega arith in
    let e = c.in-Some-expand_kept.ensures in
    let faultless = none_kept c.args.kept.now k (nine_of c.args.parameters.now) (length c.args.out.now) (length c.args.parameters.now) e.enough in
    let u = after_expansion c.args.kept.now.bytes.now c.args.terminal.now.variables (values_of (nine_of c.args.parameters.now)) (length c.args.parameters.now)
    c.args.terminal.now.padding (length c.args.out.now) number place c.in-Some.ensures.within few faultless due in
    let made = unsent_made (take c.in-Some-expand_kept.written c.expand_kept.new.out) _ c.in-Some.padding c.args.terminal.now.padding (length c.expand_kept.new.out) (length c.args.out.now) number place
    (e.output k k.formed.tree k.formed.writes) c.in-Some.ensures.value c.expand_kept.auto.out (u.unsent k.formed.tree k.formed.writes) in
    let told = c.put_padded-unsent.ensures.only number place made in (told.0, inr (inr told.1))

pub returns-else-unsent-ne-DONE-clause-within : goal.returns-else-unsent-ne-DONE-clause-within
returns-else-unsent-ne-DONE-clause-within c = λ done.
    let e = c.put_padded-unsent.ensures in
    omega (arith, ap length (e.text done), e.len done, length-take c.put_padded-unsent.new.sent.length c.put_padded-unsent.new.out)

pub returns-else-unsent-ne-DONE-clause-accepted : goal.returns-else-unsent-ne-DONE-clause-accepted
returns-else-unsent-ne-DONE-clause-accepted c = λ _ k. k.accepted
