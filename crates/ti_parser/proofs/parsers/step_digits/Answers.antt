use Rattle.std.proofs.Common.{List, ◌-◌, ◌≤◌, drop, length, length-drop, take, subst, arith}
use Rattle.ti_parser.specs.inner.Receivers.{EachLeads}
use Rattle.ti_parser.specs.declared.receiver.Receiver.{Receiver}
use Rattle.ti_parser.proofs.ColorLemmas.{each_but, each_parts}
use Rattle.ti_parser.proofs.LeadLemmas.{cover_same, each_more, each_whole}
use Rattle.ti_parser.proofs.parsers.step_digits.Goals as goal

pub returns-clause-leads : goal.returns-clause-leads
returns-clause-leads g c =
    let r = c.args.reception in
    let parsers = c.args.parsers.now in
    let bytes = c.args.bytes.now in
    let n = c.count_hex-count.result in
    let others = c.step_colors.new.others.items in
    let colors = c.in_ok-colors.colors.items in
    let more = c.in_ok-more.more.items in
    let digits = c.in_ok-digits.digits.items in
    let rest = c.in_ok-rest.rest.items in
    let after = c.in_ok-after.after.items in
    let s = c.step_colors.new.sent.items in
    let t = c.step_each.new.sent.items in
    let u = c.step_each-2.new.sent.items in
    let P : List Receiver → Type 0 = λ x. EachLeads r (take n bytes) x t more in
    let front : EachLeads r (take n bytes) others t digits =
    each_more r (take n bytes) others more digits t t (subst P c.deref.ensures.value c.in_ok-more.ensures.leads) (λ f h. h)
    (cover_same c.deref-2.result.now more digits c.deref-2.ensures.value c.in_ok-digits.ensures.right)
    in
    let both : EachLeads r (take n bytes) parsers t digits =
    each_but r (take n bytes) parsers others colors digits s t c.count_hex-count.ensures.hex (c.in_ok-colors.ensures.leads r) c.in_ok-more.ensures.kept c.in_ok-digits.ensures.left front
    in
    let low : length (drop n bytes) ≤ length bytes - n = omega (arith, length-drop n bytes) in
    each_parts r bytes n parsers after u
    (each_more r (take n bytes) parsers digits after t u both c.in_ok-rest.ensures.kept c.in_ok-after.ensures.left)
    (each_more r (drop n bytes) parsers rest after u u (each_whole r (drop n bytes) parsers rest u (length bytes - n) low c.in_ok-rest.ensures.leads) (λ f h. h)
    (cover_same c.deref-3.result.now rest after c.deref-3.ensures.value c.in_ok-after.ensures.right))
