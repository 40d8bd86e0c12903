use Rattle.std.proofs.Common.{Bool, List, ℕ, [], sym, subst, arith}
use Rattle.ti_expand.specs.Printed.{print_of_number}
use Rattle.ti_parser.specs.Covers.{IsOf}
use Rattle.ti_parser.specs.inner.Receivers.{Lead}
use Rattle.ti_parser.specs.inner.Forms.{AreBlanks, sign_of}
use Rattle.ti_parser.specs.declared.receiver.Receiver.{Receiver}
use Rattle.ti_parser.proofs.FormLemmas.{NumberParts, number_parts}
use Rattle.ti_parser.proofs.LeadLemmas.{lead_then}
use Rattle.ti_parser.proofs.PrintLemmas.{lead_number}
use Rattle.ti_parser.proofs.print.print_number.Goals as goal

pub returns-clause-leads : goal.returns-clause-leads
returns-clause-leads g c = λ n.
    let r = c.args.reception in
    let f = c.args.format.now in
    let p : NumberParts f.conversion f n (print_of_number f n) = number_parts f.conversion f n c.requires in
    let s = c.fill.new.sent.items in
    let t = c.sign.new.sent.items in
    let u = c.step_most.new.sent.items in
    let v = c.fill-2.new.sent.items in
    let front = c.in_ok-front.front.items in
    let signed = c.in_ok-signed.signed.items in
    let P : Bool → Type 0 = λ x. AreBlanks x p.before in
    let Q : List Receiver → Type 0 = λ x. Lead r (sign_of f.conversion f n) x t signed in
    let R : List ℕ → Type 0 = λ x. IsOf x p.digits in
    let S : Bool → Type 0 = λ x. AreBlanks x p.after in
    lead_then r [] (print_of_number f n) c.args.here.now c.in_ok-start.start.items c.in_ok-after.after.items c.follow.new.sent.items v c.in_ok-start.ensures.leads
    (λ x h. c.in_ok-after.ensures.kept x (c.in_ok-number.ensures.kept x (c.in_ok-signed.ensures.kept x (c.in_ok-front.ensures.kept x h))))
    (lead_number r f.conversion f n (print_of_number f n) p c.in_ok-start.start.items front signed c.in_ok-number.number.items c.in_ok-after.after.items s t u v
    (c.in_ok-front.ensures.leads p.before (subst P (sym c.is_filled_before.ensures) p.before_of))
    c.in_ok-signed.ensures.kept (subst Q c.deref.ensures.value (c.in_ok-signed.ensures.leads n))
    c.in_ok-number.ensures.kept (c.in_ok-number.ensures.leads p.digits (subst R (sym c.digit_bytes.ensures) p.digits_of) (omega (arith, p.many, c.few_digits.ensures)))
    c.in_ok-after.ensures.kept (c.in_ok-after.ensures.leads p.after (subst S (sym c.is_filled_after.ensures) p.after_of)))
