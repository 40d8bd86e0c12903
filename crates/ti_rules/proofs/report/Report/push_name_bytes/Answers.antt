use Rattle.std.proofs.Common.{◌≡◌, ◌∙◌, List, ap, subst}
use Rattle.ti_control.specs.Entries.{starts_control}
use Rattle.ti_words.specs.Spelling.{part_names}
use Rattle.ti_rules.specs.Lines.{AreAll, InTurn}
use Rattle.ti_rules.specs.Marks.{first_place}
use Rattle.ti_rules.specs.NameBytes.{IsAliasReport, IsOwnNameReport, IsRepeatedReport, IsUtf8Report, long_names, on_names}
use Rattle.ti_rules.specs.Remarks.{Remark}
use Rattle.ti_rules.specs.declared.finding.Finding.TheVariants.{NamesControl}
use Rattle.ti_rules.specs.inner.Growing.{Examined, GainsThese}
use Rattle.ti_rules.proofs.TurnsLemmas.{then, these}
use Rattle.ti_rules.proofs.report.Report.push_name_bytes.Goals as goal

abbrev Rule : Type 1
Rule = Examined → List Remark → Type 0

abbrev Controls : Rule
Controls on = λ all. all ≡ on_names on.entry.names NamesControl (first_place starts_control on.entry.names)

abbrev Malformed : Rule
Malformed on = IsUtf8Report on.entry.names

abbrev Aliases : Rule
Aliases on = IsAliasReport on.entry.names

abbrev Again : Rule
Again on = IsRepeatedReport on.entry.names

abbrev Long : Rule
Long on = λ all. all ≡ long_names on.entry.names

abbrev Own : Rule
Own on = AreAll IsOwnNameReport (part_names on.entry.extended)

abbrev And : Rule → Rule → Rule
And Are AreMore on = InTurn (Are on) (AreMore on)

pub returns : goal.returns
returns g c =
    let old = c.args.self.now in
    let one = c.push_on_names.new.self in
    let two = c.push_malformed_names.new.self in
    let three = c.push_aliases.new.self in
    let again = c.push_repeated_aliases.new.self in
    let four = c.push_long_names.new.self in
    let last = c.push_all_own_names.new.self in
    let place = c.control_place-control.ensures ∙ ap (first_place starts_control) c.names.ensures in
    let controls = subst (λ found. GainsThese (on_names old.on.entry.names NamesControl found) old one) place c.in_ok-push_on_names.ensures in
    then Controls (And Malformed (And Aliases (And Again (And Long Own)))) old one last (these _ old one controls)
    (then Malformed (And Aliases (And Again (And Long Own))) one two last c.in_ok-push_malformed_names.ensures
    (then Aliases (And Again (And Long Own)) two three last c.in_ok-push_aliases.ensures
    (then Again (And Long Own) three again last c.in_ok-push_repeated_aliases.ensures
    (then Long Own again four last (these _ again four c.in_ok-push_long_names.ensures) c.in_ok-push_all_own_names.ensures))))
