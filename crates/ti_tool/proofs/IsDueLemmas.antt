-- What is never due: that a write failed, and that memory was refused.
use Rattle.std.proofs.Common.{ℕ, Bool, true, false, cond, inl, inr, length, List, Ok, Err}
use Rattle.ti_words.specs.Items.{FlagItem, ItemValue, NumberItem, TextItem}
use Rattle.std.specs.Prelude.{Option, Some, None, Result, nat_lt}
use Rattle.ti_escape.specs.Reading.{reading}
use Rattle.ti_escape.specs.declared.reading.NotationRefused.{NotationRefused}
use Rattle.ti_words.specs.Texts.{AbsentText, CancelledText, TextOf}
use Rattle.ti_expand.specs.declared.values.Value.{Value}
use Rattle.ti_pad.specs.Setting.{Setting}
use Rattle.ti_line.specs.declared.request.CapabilityResult.{CapabilityResult}
use Rattle.ti_line.specs.declared.request.CapabilityResult.TheVariants as of_cap
use Rattle.ti_line.specs.declared.options.Output.{Output}
use Rattle.ti_tool.specs.declared.fault.ToolFault.{ToolFault}
use Rattle.ti_tool.specs.declared.fault.ToolFault.TheVariants as fault
use Rattle.ti_line.specs.declared.given.Given.{Given}
use Rattle.ti_line.specs.declared.request.Get.{Get}
use Rattle.ti_line.specs.declared.request.TraceOf.{TraceOf}
use Rattle.ti_tool.specs.Expansions.{IsPadded}
use Rattle.ti_tool.specs.Got.{IsDueBy, IsTextResult, IsValueResult}
use Rattle.ti_tool.specs.Traces.{IsTraced, IsTracedBy, IsTracedValue}
use Rattle.ti_tool.specs.Results.{IsDue, IsOutputOf}
use Rattle.ti_tool.specs.Pasted.{has_name}
use Rattle.ti_tool.specs.Sources.{IsDueForSource, IsDueForText, most_notation_chars, notation_in, text_read, too_long}

-- the faults of a call itself are not due
pub record IsNeverOwn (due : Result (List ℕ) ToolFault → Type 0) : Type 0 where
  pub no_write : (gone : ℕ) → ¬ due (Err (fault.Write gone))
  pub no_memory : ¬ due (Err fault.Memory)

pub text_never : (text : Option (List ℕ)) (parameters : List Value) (setting : Setting) (output : Output) → IsNeverOwn (IsDue text parameters setting output)
text_never None parameters setting output = record { no_write = λ gone d. cc; no_memory = λ d. cc }
text_never (Some text) parameters setting output = record { no_write = λ gone d. d; no_memory = λ d. d }

-- of a capability
pub output_never : (c : CapabilityResult) (parameters : List Value) (input : List ℕ) → IsNeverOwn (IsOutputOf c parameters input)
output_never (of_cap.Cap output) parameters input = record { no_write = λ gone d. d; no_memory = λ d. d }
output_never (of_cap.Trace form) parameters input = record { no_write = λ gone d. d; no_memory = λ d. d }

-- of a text that is read, or of the fault of its notation
text_or_fault_never : (due : List ℕ → Result (List ℕ) ToolFault → Type 0) → ((text : List ℕ) → IsNeverOwn (due text)) → (named long : Bool) (read : Result (List ℕ) NotationRefused)
    → IsNeverOwn (IsDueForText due (cond named (Err fault.HasName) (cond long (Err (fault.Cap too_long)) (text_read read))))
text_or_fault_never due never true long read = record { no_write = λ gone d. cc; no_memory = λ d. cc }
text_or_fault_never due never false true read = record { no_write = λ gone d. cc; no_memory = λ d. cc }
text_or_fault_never due never false false (Ok text) = never text
text_or_fault_never due never false false (Err refused) = record { no_write = λ gone d. cc; no_memory = λ d. cc }

pub source_never : (c : CapabilityResult) (parameters : List Value) (input : List ℕ) → IsNeverOwn (IsDueForSource (IsOutputOf c parameters) input)
source_never c parameters input =
    text_or_fault_never (IsOutputOf c parameters) (output_never c parameters) (has_name input) (nat_lt most_notation_chars (length (notation_in input))) (reading (notation_in input))

-- of a text with parameters that words gave
by_never : (text : List ℕ) (given : Given) (due : List Value → Result (List ℕ) ToolFault → Type 0) → ((parameters : List Value) → IsNeverOwn (due parameters)) → IsNeverOwn (IsDueBy text given due)
by_never text given due never = record { no_write = writes; no_memory = takes }
  where
    writes : (gone : ℕ) → ¬ IsDueBy text given due (Err (fault.Write gone))
    writes gone (inl (refused, why, is)) = absurd (cc)
    writes gone (inr (passed, (parameters, are, d))) = (never parameters).no_write gone d

    takes : ¬ IsDueBy text given due (Err fault.Memory)
    takes (inl (refused, why, is)) = absurd (cc)
    takes (inr (passed, (parameters, are, d))) = (never parameters).no_memory d

-- of a value
result_never : (text : List ℕ) (given : Option Given) (setting : Setting) (output : Output) → IsNeverOwn (IsTextResult text given setting output)
result_never text None setting output = record { no_write = λ gone d. d; no_memory = λ d. d }
result_never text (Some given) setting output =
    by_never text given (λ parameters. IsPadded text parameters setting output) (λ parameters. record { no_write = λ gone d. d; no_memory = λ d. d })

pub value_never : (item : Option ItemValue) (g : Get) (set : Bool) → IsNeverOwn (IsValueResult item g set)
value_never None g set = record { no_write = λ gone d. cc (d.1); no_memory = λ d. cc (d.1) }
value_never (Some (FlagItem flag)) g set = record { no_write = λ gone d. cc (d.1); no_memory = λ d. cc (d.1) }
value_never (Some (NumberItem number)) g set = record { no_write = λ gone d. cc (d.1); no_memory = λ d. cc (d.1) }
value_never (Some (TextItem AbsentText)) g set = record { no_write = λ gone d. cc (d.1); no_memory = λ d. cc (d.1) }
value_never (Some (TextItem CancelledText)) g set = record { no_write = λ gone d. cc (d.1); no_memory = λ d. cc (d.1) }
value_never (Some (TextItem (TextOf text))) g set = record {
  no_write = λ gone d. (result_never text g.given g.padding g.output).no_write gone d.1;
  no_memory = λ d. (result_never text g.given g.padding g.output).no_memory d.1;
}

-- of a trace of a value
pub traced_never : (item : Option ItemValue) (t : TraceOf) → IsNeverOwn (IsTracedValue item t)
traced_never None t = record { no_write = λ gone d. cc; no_memory = λ d. cc }
traced_never (Some (FlagItem flag)) t = record { no_write = λ gone d. cc; no_memory = λ d. cc }
traced_never (Some (NumberItem number)) t = record { no_write = λ gone d. cc; no_memory = λ d. cc }
traced_never (Some (TextItem AbsentText)) t = record { no_write = λ gone d. cc; no_memory = λ d. cc }
traced_never (Some (TextItem CancelledText)) t = record { no_write = λ gone d. cc; no_memory = λ d. cc }
traced_never (Some (TextItem (TextOf text))) t = by (t.given)
  where
    by : (given : Option Given) → IsNeverOwn (IsTracedBy text given t.form)
    by None = record { no_write = λ gone d. d; no_memory = λ d. d }
    by (Some given) = by_never text given (λ parameters. IsTraced parameters t.form text) (λ parameters. record { no_write = λ gone d. d; no_memory = λ d. d })
