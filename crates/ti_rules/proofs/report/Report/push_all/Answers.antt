use Rattle.std.proofs.Common.{◌≡◌, List}
use Rattle.ti_rules.specs.Actions.{action_remarks}
use Rattle.ti_rules.specs.Crashes.{AreDivisionRemarks}
use Rattle.ti_rules.specs.Keys.{AreKeyRemarks}
use Rattle.ti_rules.specs.Lines.{InTurn}
use Rattle.ti_rules.specs.NameBytes.{AreNameByteRemarks}
use Rattle.ti_rules.specs.Names.{AreNameRemarks}
use Rattle.ti_rules.specs.Origins.{AreOriginRemarks}
use Rattle.ti_rules.specs.Pairs.{all_pair_remarks}
use Rattle.ti_rules.specs.Remarks.{Remark}
use Rattle.ti_rules.specs.Reports.{AreTextRemarks}
use Rattle.ti_rules.specs.Sequences.{AreSequenceRemarks}
use Rattle.ti_rules.specs.Values.{AreValueRemarks}
use Rattle.ti_rules.specs.Whole.{whole_remarks}
use Rattle.ti_rules.specs.inner.Growing.{Examined}
use Rattle.ti_rules.proofs.TurnsLemmas.{then, these}
use Rattle.ti_rules.proofs.report.Report.push_all.Goals as goal

abbrev Rule : Type 1
Rule = Examined → List Remark → Type 0

abbrev Texts : Rule
Texts on = AreTextRemarks on.entry

abbrev Values : Rule
Values on = AreValueRemarks on.entry

abbrev Sequences : Rule
Sequences on = AreSequenceRemarks on.entry

abbrev Pairs : Rule
Pairs on = λ all. all ≡ all_pair_remarks on.entry

abbrev Origins : Rule
Origins on = AreOriginRemarks on.entry

abbrev Keys : Rule
Keys on = AreKeyRemarks on.entry

abbrev Names : Rule
Names on = AreNameRemarks on.entry.extended

abbrev Bytes : Rule
Bytes on = AreNameByteRemarks on.entry

abbrev Actions : Rule
Actions on = λ all. all ≡ action_remarks on.entry

abbrev Whole : Rule
Whole on = λ all. all ≡ whole_remarks on.bytes on.entry

abbrev Divisions : Rule
Divisions on = AreDivisionRemarks on.entry

abbrev And : Rule → Rule → Rule
And Are AreMore on = InTurn (Are on) (AreMore on)

pub returns : goal.returns
returns g c =
    let texts = c.push_texts.new.self in
    let values = c.push_values.new.self in
    let sequences = c.push_sequences.new.self in
    let pairs = c.push_pairs.new.self in
    let origins = c.push_origins.new.self in
    let keys = c.push_keys.new.self in
    let names = c.push_names.new.self in
    let bytes = c.push_name_bytes.new.self in
    let actions = c.push_actions.new.self in
    let whole = c.push_whole.new.self in
    let last = c.push_divisions.new.self in
    then Texts (And Values (And Sequences (And Pairs (And Origins (And Keys (And Names (And Bytes (And Actions (And Whole Divisions))))))))) c.args.self.now texts last c.in_ok-push_texts.ensures
    (then Values (And Sequences (And Pairs (And Origins (And Keys (And Names (And Bytes (And Actions (And Whole Divisions)))))))) texts values last c.in_ok-push_values.ensures
    (then Sequences (And Pairs (And Origins (And Keys (And Names (And Bytes (And Actions (And Whole Divisions))))))) values sequences last c.in_ok-push_sequences.ensures
    (then Pairs (And Origins (And Keys (And Names (And Bytes (And Actions (And Whole Divisions)))))) sequences pairs last (these _ sequences pairs c.in_ok-push_pairs.ensures)
    (then Origins (And Keys (And Names (And Bytes (And Actions (And Whole Divisions))))) pairs origins last c.in_ok-push_origins.ensures
    (then Keys (And Names (And Bytes (And Actions (And Whole Divisions)))) origins keys last c.in_ok-push_keys.ensures
    (then Names (And Bytes (And Actions (And Whole Divisions))) keys names last c.in_ok-push_names.ensures
    (then Bytes (And Actions (And Whole Divisions)) names bytes last c.in_ok-push_name_bytes.ensures
    (then Actions (And Whole Divisions) bytes actions last (these _ bytes actions c.in_ok-push_actions.ensures)
    (then Whole Divisions actions whole last (these _ actions whole c.in_ok-push_whole.ensures) c.in_ok-push_divisions.ensures)))))))))
