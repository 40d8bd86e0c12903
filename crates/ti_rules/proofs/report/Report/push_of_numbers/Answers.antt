use Rattle.std.proofs.Common.{◌≡◌, Bool, [], arith, length, refl, subst, sym}
use Rattle.std.proofs.lemmas.List.{append-nil}
use Rattle.ti_rules.specs.Trials.{IsQuiet}
use Rattle.ti_rules.specs.Values.{is_ansi_entry}
use Rattle.ti_rules.proofs.TrialsLemmas.{unchanged}
use Rattle.ti_rules.proofs.report.Report.push_of_numbers.Goals as goal

pub keep_quiet-requires : goal.keep_quiet-requires
keep_quiet-requires g c =
    let text = c.args.text.now in
    let old = c.args.self.now in
    let new = c.push_tried_numbers.new.self in
    let same : length new.remarks ≡ length old.remarks = omega (arith, c.count.ensures, c.count-count.ensures, c.if-count.true) in
    let (kept, added) = c.in_ok-push_tried_numbers.ensures in
    let quiet = unchanged (is_ansi_entry old.on.entry) text.subject.name.now text.subject.text.now text.range old.remarks new.remarks added same in
    subst (λ ansi. IsQuiet ansi text.subject.text.now text.range) (sym c.is_ansi-ansi.ensures) quiet

pub returns-then-is_quiet : goal.returns-then-is_quiet
returns-then-is_quiet g c =
    let text = c.args.text.now in
    let P : Bool → Type 0 = λ ansi. IsQuiet ansi text.subject.text.now text.range in
    let quiet = subst P c.is_ansi-ansi.ensures (c.is_quiet.ensures c.if-is_quiet.true) in
    (refl, ([], quiet.silent text.subject.name.now, sym (append-nil c.args.self.now.remarks)))
