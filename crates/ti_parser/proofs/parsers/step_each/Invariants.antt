use Rattle.std.proofs.Common.{◌≡◌, ℕ, true, List, [], ◌∷◌, take}
use Rattle.ti_parser.specs.Covers.{SendMore}
use Rattle.ti_parser.specs.declared.function.Function.{Function}
use Rattle.ti_parser.specs.inner.Colors.{LeadBut}
use Rattle.ti_parser.specs.inner.Receivers.{EachLeads}
use Rattle.ti_parser.specs.inner.Texts.{is_text_byte}
use Rattle.ti_parser.proofs.parsers.step_each.Given as goal

abbrev pub invariant-loop-byte : goal.invariant-loop-byte
invariant-loop-byte g l = record {
  kept : SendMore l.fn.sent.items l.sent.items;
  text : (byte : ℕ) (sent : List Function) → is_text_byte byte ≡ true → LeadBut l.reception (byte ∷ []) l.parsers l.others.items sent l.after.items;
  leads : EachLeads l.reception (take l.byte-index l.bytes) l.parsers l.sent.items l.after.items;
}
