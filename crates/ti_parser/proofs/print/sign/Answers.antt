use Rattle.std.proofs.Common.{List, ℕ, sym, subst}
use Rattle.ti_cap.specs.declared.language.Conversion.{Conversion}
use Rattle.ti_parser.specs.inner.Receivers.{Lead}
use Rattle.ti_parser.specs.inner.Forms.{sign_of}
use Rattle.ti_parser.proofs.LeadLemmas.{cover_same}
use Rattle.ti_parser.proofs.PrintLemmas.{lead_sign}
use Rattle.ti_parser.proofs.print.sign.Goals as goal

pub returns-in_ok-both-in-Signed-clause-leads : goal.returns-in_ok-both-in-Signed-clause-leads
returns-in_ok-both-in-Signed-clause-leads g c = λ n.
    let here = c.args.here.now in
    let both = c.in_ok-both-in-Signed.both.items in
    let s = c.follow.new.sent.items in
    let t = c.follow-in-Signed.new.sent.items in
    let P : List ℕ → Type 0 = λ x. Lead c.args.reception x here s c.in_ok-positive-in-Signed.positive.items in
    let Q : Conversion → Type 0 = λ x. Lead c.args.reception (sign_of x c.args.format.now n) here t both in
    subst Q (sym c.in-Signed.is)
    (lead_sign c.args.reception c.args.format.now here c.in_ok-positive-in-Signed.positive.items c.in_ok-negative-in-Signed.negative.items both s t
    (subst P c.plus.ensures c.in_ok-positive-in-Signed.ensures.leads) c.in_ok-negative-in-Signed.ensures.kept c.in_ok-negative-in-Signed.ensures.leads
    c.in_ok-both-in-Signed.ensures.left
    (cover_same c.deref.result.now c.in_ok-negative-in-Signed.negative.items both c.deref.ensures.value c.in_ok-both-in-Signed.ensures.right) n)
