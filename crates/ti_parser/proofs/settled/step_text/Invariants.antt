use Rattle.std.proofs.Common.{◌≡◌, ℕ, true, List, [], ◌∷◌, take}
use Rattle.ti_parser.specs.declared.function.Function.{Function}
use Rattle.ti_parser.specs.declared.reading.Reception.{Reception}
use Rattle.ti_parser.specs.inner.Colors.{LeadBut}
use Rattle.ti_parser.specs.inner.Texts.{is_text_byte}
use Rattle.ti_parser.proofs.settled.step_text.Given as goal

abbrev pub invariant-loop-parser : goal.invariant-loop-parser
invariant-loop-parser g l = record {
  leads : (reception : Reception) (byte : ℕ) (sent : List Function) → is_text_byte byte ≡ true
      → LeadBut reception (byte ∷ []) (take l.parser-index l.parsers) l.others.items sent l.after.items;
}
