-- By the class of a text that is sent.
use Rattle.std.proofs.Common.{Bool, subst, sym}
use Rattle.ti_control.specs.Capabilities.{is_sent}
use Rattle.ti_names.specs.declared.class.Class.{Class}
use Rattle.ti_names.specs.declared.class.Class.TheVariants as classes
use Rattle.ti_words.specs.Texts.{text_value}
use Rattle.ti_rules.specs.Controls.{AreOnLooks, looks_in}
use Rattle.ti_rules.specs.inner.Growing.{Gains}
use Rattle.ti_rules.proofs.report.Report.push_sent_as.Goals as goal

pub returns-in_ok-push_plain-in-true-Plain : goal.returns-in_ok-push_plain-in-true-Plain
returns-in_ok-push_plain-in-true-Plain g c =
    let t = c.args.terminal.now in
    let name = c.args.text.now.subject.name.now in
    let text = c.args.text.now.subject.text.now in
    let Sent : Bool → Type 0 = λ s. Gains (AreOnLooks t.untrusted (looks_in t.untrusted s (text_value t.end) classes.Plain name text)) c.args.self.now c.push_plain.new.self in
    let Of : Class → Type 0 = λ k. Gains (AreOnLooks t.untrusted (looks_in t.untrusted (is_sent name) (text_value t.end) k name text)) c.args.self.now c.push_plain.new.self in
    subst Of (sym c.in-true-Plain.is-1) (subst Sent c.in-true-Plain.ensures.exact c.in_ok-push_plain-in-true-Plain.ensures)

pub returns-in_ok-push_expanded-in-true-Parameterized : goal.returns-in_ok-push_expanded-in-true-Parameterized
returns-in_ok-push_expanded-in-true-Parameterized g c =
    let t = c.args.terminal.now in
    let name = c.args.text.now.subject.name.now in
    let text = c.args.text.now.subject.text.now in
    let class = classes.Parameterized c.in-true-Parameterized.field-0-1 in
    let Sent : Bool → Type 0 = λ s. Gains (AreOnLooks t.untrusted (looks_in t.untrusted s (text_value t.end) class name text)) c.args.self.now c.push_expanded.new.self in
    let Of : Class → Type 0 = λ k. Gains (AreOnLooks t.untrusted (looks_in t.untrusted (is_sent name) (text_value t.end) k name text)) c.args.self.now c.push_expanded.new.self in
    subst Of (sym c.in-true-Parameterized.is-1) (subst Sent c.in-true-Parameterized.ensures.exact c.in_ok-push_expanded-in-true-Parameterized.ensures)
