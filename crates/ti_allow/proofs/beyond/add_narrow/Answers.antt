-- Two passes stand for all.
use Rattle.std.proofs.Common.{subst}
use Rattle.ti_allow.specs.Harmless.{OnlyTable}
use Rattle.ti_allow.specs.declared.allowed.TheConstants.{ALLOWED}
use Rattle.ti_parser.specs.declared.padding.Marks.TheVariants.{Tputs}
use Rattle.ti_parser.specs.declared.reading.Coding.TheVariants.{Utf8}
use Rattle.ti_parser.specs.declared.reading.FirstCharacter.{FirstCharacter}
use Rattle.ti_parser.specs.declared.reading.Within.TheVariants.{StartsAnew, GoesOn}
use Rattle.ti_allow.proofs.NarrowLemmas.{always}
use Rattle.ti_allow.proofs.beyond.add_narrow.Goals as goal

pub returns-clause-table : goal.returns-clause-table
returns-clause-table g c = λ silent.
    let name = c.args.name.now in
    let bytes = c.args.capability.now in
    let Anew : FirstCharacter → Type 0 = λ f.
    OnlyTable ALLOWED name (record { reading = record { coding = Utf8; within = StartsAnew }; marks = Tputs; first_character = f }) bytes in
    let On : FirstCharacter → Type 0 = λ f.
    OnlyTable ALLOWED name (record { reading = record { coding = Utf8; within = GoesOn }; marks = Tputs; first_character = f }) bytes in
    always ALLOWED name bytes c.requires
    (subst Anew c.first_character.ensures (c.in_ok-add_received.ensures.table (c.in_ok-add_received-2.ensures.before silent)))
    (subst On c.first_character-2.ensures (c.in_ok-add_received-2.ensures.table silent))
