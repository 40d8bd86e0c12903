use Rattle.std.proofs.Common.{◌≡◌, ◌∙◌, List, ℕ, ap, map, refl, subst, take}
use Rattle.ti_values.specs.declared.range.Range.{Range}
use Rattle.ti_words.specs.Value.{EntryValue}
use Rattle.ti_rules.specs.Controls.{bytes_of_known, bytes_of_unknown, looked_at}
use Rattle.ti_rules.specs.Crashes.{AreDivisionsOf, AreUnknownDivisions, rows_of}
use Rattle.ti_rules.specs.Lines.{AreAll}
use Rattle.ti_rules.specs.Subjects.{KnownText, UnknownText, known_texts, unknown_texts}
use Rattle.ti_rules.specs.inner.Growing.{Gains}
use Rattle.ti_rules.specs.inner.Held.{text_held, texts_held, unknown_held, unknowns_held}
use Rattle.ti_rules.proofs.FittingLemmas.{taken_held}
use Rattle.ti_rules.proofs.TurnsLemmas.{then}
use Rattle.ti_rules.proofs.report.Report.push_divisions_by.Goals as goal

pub returns : goal.returns
returns g c =
    let old = c.args.self.now in
    let next = c.push_known_divisions.new.self in
    let last = c.push_unknown_divisions.new.self in
    let v : EntryValue = old.on.entry in
    let known = c.texts-known.result.now in
    let others = c.as_slice-others.result.now in
    let of_others : unknowns_held others ≡ unknown_texts v = ap unknowns_held c.as_slice-others.ensures.value ∙ c.in_ok-unknown.ensures ∙ ap unknown_texts c.entry.ensures in
    let Rows : List (List ℕ × Range) → Type 0 = λ rows. Gains (AreAll (AreDivisionsOf rows) (texts_held (take c.known_fitting-end.result known))) old next in
    let Known : List KnownText → Type 0 = λ texts. Gains (AreAll (AreDivisionsOf (rows_of v)) texts) old next in
    let Unknown : List UnknownText → Type 0 = λ texts. Gains (AreAll AreUnknownDivisions texts) next last in
    let first = subst Known (taken_held text_held bytes_of_known known (take c.known_fitting-end.result known) (known_texts v) c.known_fitting-end.result c.texts-known.ensures c.known_fitting-end.ensures.count refl)
    (subst Rows c.requires c.in_ok-push_known_divisions.ensures) in
    let second =
    subst Unknown (taken_held unknown_held bytes_of_unknown others (take c.unknown_fitting-others_end.result others) (unknown_texts v) c.unknown_fitting-others_end.result of_others c.unknown_fitting-others_end.ensures.count refl)
    c.in_ok-push_unknown_divisions.ensures in
    then (λ on. AreAll (AreDivisionsOf (rows_of v)) (looked_at bytes_of_known (known_texts v))) (λ on. AreAll AreUnknownDivisions (looked_at bytes_of_unknown (unknown_texts v))) old next last first second
