use Rattle.std.proofs.Common.{◌≡◌, ℕ, true, [], ◌∷◌, take}
use Rattle.ti_parser.specs.Covers.{SendMore}
use Rattle.ti_parser.specs.Numbers.{is_hex}
use Rattle.ti_parser.specs.declared.reading.Reception.{Reception}
use Rattle.ti_parser.specs.inner.Colors.{LeadBut}
use Rattle.ti_parser.proofs.parsers.step_colors.Given as goal

abbrev pub invariant-loop-parser : goal.invariant-loop-parser
invariant-loop-parser g l = record {
  kept : SendMore l.fn.sent.items l.sent.items;
  leads : (reception : Reception) (byte : ℕ) → is_hex byte ≡ true
      → LeadBut reception (byte ∷ []) (take l.parser-index l.parsers) l.others.items l.sent.items l.after.items;
}
