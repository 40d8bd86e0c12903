use Rattle.std.proofs.Common.{◌≡◌, ◌∙◌, List, ℕ, [], ap, refl, subst, sym}
use Rattle.std.specs.Prelude.{Some, option_map}
use Rattle.std.proofs.lemmas.List.{append-nil}
use Rattle.ti_values.specs.Axes.{numbers_differ}
use Rattle.ti_words.specs.Texts.{TextOf, TextValue, text_value}
use Rattle.ti_words.specs.Value.{EntryValue}
use Rattle.ti_rules.specs.Origins.{IsOriginOf, IsSentAtOrigin, origin_if}
use Rattle.ti_rules.specs.Values.{text_named}
use Rattle.ti_rules.specs.inner.Held.{motion_held}
use Rattle.ti_rules.proofs.report.Report.push_origin.Goals as goal

pub returns-then-not-numbers_differ : goal.returns-then-not-numbers_differ
returns-then-not-numbers_differ g c =
    let cup = motion_held c.args.cup in
    let name : List ℕ = c.args.row.0.now in
    let axes = c.args.row.1 in
    let text : List ℕ = c.in-Value.text.now in
    let none : [] ≡ origin_if (numbers_differ axes cup.sent c.in-Some.sent.items) cup name text =
    ap (λ b. origin_if b cup name text) (sym c.if-not-numbers_differ.true ∙ c.numbers_differ.ensures.exact ∙ ap (numbers_differ axes cup.sent) c.as_slice.ensures.value) in
    let sent : IsSentAtOrigin text (Some c.in-Some.sent.items) = subst (λ found. IsSentAtOrigin text (option_map (λ bytes. bytes.items) found)) c.in-Some.is c.in_ok-sent.ensures in
    let P : TextValue → Type 0 = λ v. IsOriginOf cup name axes v [] in
    let there : TextOf text ≡ text_named c.args.self.now.on.entry name =
    sym (ap text_value c.in-Value.is) ∙ c.text_named.ensures ∙ ap (λ (v : EntryValue). text_named v name) c.entry.ensures in
    (refl, ([], subst P there (Some c.in-Some.sent.items, sent, none), sym (append-nil c.args.self.now.remarks)))
