use Rattle.std.proofs.Common.{◌≡◌, ◌∙◌, sym}
use Rattle.std.specs.Prelude.{None}
use Rattle.ti_entry.specs.Finding.{standard_place}
use Rattle.ti_entry.specs.declared.finding.Position.TheVariants.{Standard, Extended}
use Rattle.ti_c.proofs.view.ti_view_find.Goals as goal

pub returns-in-Some-clause-found : goal.returns-in-Some-clause-found
returns-in-Some-clause-found c = λ v opened _.
    (Standard c.in-Some.kind c.in-Some.index, sym c.find_short_or_long.ensures ∙ c.in-Some.is, (c.find_standard.ensures.found v opened).1)

pub returns-in-None-clause-found : goal.returns-in-None-clause-found
returns-in-None-clause-found c = λ v opened is.
    let found = c.find_extended.ensures.found v opened is in
    let none : standard_place c.args.name.now ≡ None = sym c.find_short_or_long.ensures ∙ c.in-None.is in
    (Extended found.0.0 found.0.1, (none, found.1), found.2)

pub returns-in-None-clause-none : goal.returns-in-None-clause-none
returns-in-None-clause-none c = λ v opened is. (sym c.find_short_or_long.ensures ∙ c.in-None.is, c.find_extended.ensures.none v opened is)
