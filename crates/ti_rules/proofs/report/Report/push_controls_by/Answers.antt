use Rattle.std.proofs.Common.{◌≡◌, ◌∙◌, ◌++◌, ◌-◌, ℕ, List, ap, ap₂, drop, length, refl, subst, take}
use Rattle.std.specs.List.{flat_map}
use Rattle.ti_words.specs.Value.{EntryValue}
use Rattle.ti_rules.specs.Controls.{AreControlsOf, AreUnknownControls, bytes_of_known, bytes_of_unknown, left_remarks, looked_at, name_of_known, name_of_unknown, names_left, on_left, spaced}
use Rattle.ti_rules.specs.Lines.{AreAll, InTurn}
use Rattle.ti_rules.specs.Subjects.{KnownText, UnknownText, known_texts, unknown_texts}
use Rattle.ti_rules.specs.inner.Growing.{Gains, GainsThese}
use Rattle.ti_words.specs.Texts.{TextValue, text_value}
use Rattle.ti_rules.specs.inner.Held.{text_held, unknown_held, unknowns_held}
use Rattle.ti_rules.proofs.FittingLemmas.{rest_held, taken_held}
use Rattle.ti_rules.proofs.TurnsLemmas.{then, these}
use Rattle.ti_rules.proofs.report.Report.push_controls_by.Goals as goal

pub returns : goal.returns
returns g c =
    let old = c.args.self.now in
    let next = c.push_known_controls.new.self in
    let last = c.push_unknown_controls.new.self in
    let end = c.push_left.new.self in
    let v : EntryValue = old.on.entry in
    let untrusted = c.args.terminal.now.untrusted in
    let Each = AreControlsOf untrusted (text_value c.args.terminal.now.end) in
    let known = c.texts-known.result.now in
    let others = c.as_slice-others.result.now in
    let of_others : unknowns_held others ≡ unknown_texts v = ap unknowns_held c.as_slice-others.ensures.value ∙ c.in_ok-unknown.ensures ∙ ap unknown_texts c.entry.ensures in
    let Known : List KnownText → Type 0 = λ texts. Gains (AreAll Each texts) old next in
    let Unknown : List UnknownText → Type 0 = λ texts. Gains (AreAll (AreUnknownControls untrusted) texts) next last in
    let Left : List ℕ → Type 0 = λ names. GainsThese (on_left untrusted names) last end in
    let first = subst Known (taken_held text_held bytes_of_known known (take c.known_fitting-end.result known) (known_texts v) c.known_fitting-end.result c.texts-known.ensures c.known_fitting-end.ensures.count refl)
    c.in_ok-push_known_controls.ensures in
    let second =
    subst Unknown (taken_held unknown_held bytes_of_unknown others (take c.unknown_fitting-others_end.result others) (unknown_texts v) c.unknown_fitting-others_end.result of_others c.unknown_fitting-others_end.ensures.count refl)
    c.in_ok-push_unknown_controls.ensures in
    let known_names =
    ap (flat_map (spaced name_of_known)) (rest_held text_held bytes_of_known known (take (length known - c.known_fitting-end.result) (drop c.known_fitting-end.result known)) (known_texts v) c.known_fitting-end.result c.texts-known.ensures c.known_fitting-end.ensures.count refl) in
    let unknown_names =
    ap (flat_map (spaced name_of_unknown)) (rest_held unknown_held bytes_of_unknown others (take (length others - c.unknown_fitting-others_end.result) (drop c.unknown_fitting-others_end.result others)) (unknown_texts v) c.unknown_fitting-others_end.result of_others c.unknown_fitting-others_end.ensures.count refl) in
    let named : c.as_slice.result.now ≡ names_left v =
    c.as_slice.ensures.value ∙ c.in_ok-names.ensures ∙ ap₂ (λ a b. a ++ b) known_names unknown_names in
    let third = these (left_remarks untrusted v) last end (subst Left named c.in_ok-push_left.ensures) in
    let AreKnown = AreAll Each (looked_at bytes_of_known (known_texts v)) in
    let AreUnknown = AreAll (AreUnknownControls untrusted) (looked_at bytes_of_unknown (unknown_texts v)) in
    let By : TextValue → Type 0 = λ e.
    Gains (InTurn (AreAll (AreControlsOf untrusted e) (looked_at bytes_of_known (known_texts v))) (InTurn AreUnknown (λ all. all ≡ left_remarks untrusted v))) old end in
    subst By c.requires (then (λ on. AreKnown) (λ on. InTurn AreUnknown (λ all. all ≡ left_remarks untrusted v)) old next end first (then (λ on. AreUnknown) (λ on all. all ≡ left_remarks untrusted v) next last end second third))
