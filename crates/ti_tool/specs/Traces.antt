-- What `trace` makes of a capability, and of one of an entry.
use Rattle.std.specs.List.{list_all}
use Rattle.std.specs.Prelude.{◌≡◌, ◌++◌, ℕ, true, List, codes, Option, Some, None, Result, Ok, Err, pos, replicate}
use Rattle.ti_words.specs.Items.{ItemValue, TextItem}
use Rattle.ti_words.specs.Texts.{TextOf}
use Rattle.ti_words.specs.Value.{EntryValue}
use Rattle.ti_cap.specs.Refusal.{IsFaultless}
use Rattle.ti_expand.specs.declared.values.Value.{Value}
use Rattle.ti_expand.specs.declared.values.Value.TheVariants.{Num}
use Rattle.ti_expand.specs.Expands.{IsFirstTooLong}
use Rattle.ti_escape.specs.Laws.{is_printable}
use Rattle.ti_sink.specs.Pages.{is_page}
use Rattle.ti_line.specs.declared.given.Given.{Given}
use Rattle.ti_line.specs.declared.options.TraceForm.{TraceForm}
use Rattle.ti_line.specs.declared.options.TraceForm.TheVariants as forms
use Rattle.ti_line.specs.declared.request.TraceOf.{TraceOf}
use Rattle.ti_tool.specs.Expansions.{IsUnexpanded}
use Rattle.ti_tool.specs.Got.{IsDueBy}
use Rattle.ti_tool.specs.ItemNames.{IsItemCalled}
use Rattle.ti_tool.specs.Unfit.{IsDueIfFit}
use Rattle.ti_tool.specs.declared.item_name.Names.TheVariants.{All}
use Rattle.ti_tool.specs.declared.fault.ToolFault.{ToolFault}
use Rattle.ti_tool.specs.declared.fault.ToolFault.TheVariants as fault

-- the lines of a trace are a page, and a document of JSON is printable, in a line; rows show what they say
abbrev pub IsTraceText : TraceForm → List ℕ → Type 0
IsTraceText (forms.Lines options) out = is_page options.color out ≡ true
IsTraceText forms.Json out = (text : List ℕ) × (list_all is_printable text ≡ true) × (out ≡ text ++ codes "\n")

-- a trace, or the first fault
abbrev pub IsTraced : List Value → TraceForm → List ℕ → Result (List ℕ) ToolFault → Type 0
IsTraced parameters form input (Ok out) =
    IsFaultless input × ((k : ℕ) → ¬ IsFirstTooLong parameters k) × IsTraceText form out
IsTraced parameters form input (Err e) = IsUnexpanded input parameters e

-- the parameters if no word gives one
abbrev pub no_values : List Value
no_values = replicate 9 (Num (pos 0))

-- the trace of a text with the parameters that words gave
abbrev pub IsTracedBy : List ℕ → Option Given → TraceForm → Result (List ℕ) ToolFault → Type 0
IsTracedBy text None form = IsTraced no_values form text
IsTracedBy text (Some given) form = IsDueBy text given (λ parameters. IsTraced parameters form text)

-- that of the text that a value is, if it is one that is there
abbrev pub IsTracedValue : Option ItemValue → TraceOf → Result (List ℕ) ToolFault → Type 0
IsTracedValue (Some (TextItem (TextOf text))) t answer = IsTracedBy text t.given t.form answer
IsTracedValue (Some item) t answer = answer ≡ Err fault.NoSuchText
IsTracedValue None t answer = answer ≡ Err fault.NoSuchName

-- that of the capability of an entry that the name means
abbrev pub IsTracedOf : TraceOf → EntryValue → Result (List ℕ) ToolFault → Type 0
IsTracedOf t v answer =
    (item : Option ItemValue) × IsItemCalled All t.name.now v item
    × IsDueIfFit t.name.now t.given item (IsTracedValue item t) answer
