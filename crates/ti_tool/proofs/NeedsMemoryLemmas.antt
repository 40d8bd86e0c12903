-- Where no fault is due but one that comes after memory was taken.
use Rattle.std.proofs.Common.{◌≡◌, ◌⊎◌, ℕ, ◌<◌, ◌≤◌, List, length, Ok, Err, Some, None, inl, inr, sym, ap, refl, subst, ◌∙◌, arith}
use Rattle.std.specs.Prelude.{Option, Result, IfOk, IfErr, IsErrAnd, MatchResult, ◌↔◌}
use Rattle.ti_base.specs.Limits.{most_padded_bytes}
use Rattle.ti_words.specs.Items.{ItemValue}
use Rattle.ti_words.specs.Value.{EntryValue}
use Rattle.ti_words.specs.Spelling.{Spells}
use Rattle.ti_layout.specs.declared.fault.Refused.{Refused}
use Rattle.ti_layout.specs.Checks.{refusal_of}
use Rattle.ti_layout.specs.Refusal.{refusal}
use Rattle.ti_cap.specs.declared.language.CapRefused.{CapRefused}
use Rattle.ti_cap.specs.Refusal.{IsFaultless, IsRefusal}
use Rattle.ti_expand.specs.declared.values.Value.{Value}
use Rattle.ti_expand.specs.Expands.{IsFirstTooLong}
use Rattle.ti_line.specs.declared.options.TraceForm.{TraceForm}
use Rattle.ti_trace.specs.Faults.{CanBeTraced, IsTraceFault}
use Rattle.ti_trace.specs.declared.fault.TraceFault.{TraceFault}
use Rattle.ti_trace.specs.declared.fault.TraceFault.TheVariants as traces
use Rattle.ti_pad.specs.Setting.{Setting}
use Rattle.ti_pad.specs.Padded.{padded_text}
use Rattle.ti_entry.proofs.SpellsAtMostOneLemmas.{at_most_one}
use Rattle.ti_entry.proofs.SpelledExtendedLemmas.{only}
use Rattle.ti_line.specs.declared.options.Output.{Output}
use Rattle.ti_tool.specs.declared.fault.ToolFault.{ToolFault}
use Rattle.ti_tool.specs.declared.fault.ToolFault.TheVariants as fault
use Rattle.ti_tool.specs.Calls.{FailsAsDue, NeedsMemory, trace_fault}
use Rattle.ti_tool.specs.ItemNames.{IsItemCalled}
use Rattle.ti_tool.specs.declared.item_name.Names.{Names}
use Rattle.ti_line.specs.Options.{output_bytes}
use Rattle.ti_tool.specs.Results.{IsExpansion, IsUnexpanded, IsCappedAs, IsPadded, IsDueFrom, IsTraced}
use Rattle.ti_tool.specs.inner.Dues.{IsExpandable}
use Rattle.ti_tool.proofs.IsItemCalledLemmas.{one_item}

-- ---- capabilities

pub faultless_passes : (bytes : List ℕ) (r : CapRefused) → IsFaultless bytes → ¬ IsRefusal bytes r
faultless_passes bytes r passed (inl (long, is)) = let short = passed.0 in absurd (omega arith)
faultless_passes bytes r passed (inr (short, has, below)) = passed.1 r.fault r.place has

pub expandable : (text : List ℕ) (parameters : List Value) → IsFaultless text → ((k : ℕ) → ¬ IsFirstTooLong parameters k) → IsExpandable text parameters
expandable text parameters passed short (fault.Cap refused) d = faultless_passes text refused passed d
expandable text parameters passed short (fault.TextTooLong k) d = short k d.1
expandable text parameters passed short other d = d

pub capped_needs : (parameters : List Value) (output : Output) (input : List ℕ) → IsExpandable input parameters → NeedsMemory (IsCappedAs parameters output input)
capped_needs parameters output input can e d = absurd (can e d)

pub padded_needs : (text : List ℕ) (parameters : List Value) (setting : Setting) (output : Output) → IsExpandable text parameters → NeedsMemory (IsPadded text parameters setting output)
padded_needs text parameters setting output can (fault.TooMuch need) d = tt
padded_needs text parameters setting output can (fault.Cap refused) d = absurd (can (fault.Cap refused) d)
padded_needs text parameters setting output can (fault.TextTooLong k) d = absurd (can (fault.TextTooLong k) d)
padded_needs text parameters setting output can (fault.Encode unfit) d = tt
padded_needs text parameters setting output can other d = d

traced_needs : (parameters : List Value) (form : TraceForm) (input : List ℕ) → IsExpandable input parameters → NeedsMemory (IsTraced parameters form input)
traced_needs parameters form input can e d = absurd (can e d)

pub traced_memory : (parameters : List Value) (form : TraceForm) (input : List ℕ) → CanBeTraced input parameters → NeedsMemory (IsTraced parameters form input)
traced_memory parameters form input can = traced_needs parameters form input (expandable input parameters can.0 can.1)

-- a trace that is refused fails as is due
pub traced_fails : (parameters : List Value) (form : TraceForm) (input : List ℕ) (why : TraceFault) → IsTraceFault input parameters why → FailsAsDue (IsTraced parameters form input) (trace_fault why)
traced_fails parameters form input traces.Memory can = inl (refl, traced_memory parameters form input can)
traced_fails parameters form input (traces.Cap refused) is = inr is
traced_fails parameters form input (traces.TextTooLong which) is = inr is

-- ---- what the parts of a call answer

-- out of memory is the one fault
pub out_of_memory : {V : Type 0} (r : Result V ToolFault) (bytes_of : V → List ℕ) (due : Result (List ℕ) ToolFault → Type 0) → IsErrAnd r (λ e. e ≡ fault.Memory) → NeedsMemory due
    → MatchResult r (λ v. due (Ok (bytes_of v))) (FailsAsDue due)
out_of_memory (Ok v) bytes_of due fails needs = absurd fails
out_of_memory (Err e) bytes_of due fails needs = inl (fails, needs)

-- the output of a capability in the form that is asked for, or out of memory
pub capped_of : {V : Type 0} (r : Result V ToolFault) (bytes_of : V → List ℕ) (parameters : List Value) (output : Output) (input plain : List ℕ) → IsFaultless input → IsExpansion input parameters plain
    → IfOk r (λ v. bytes_of v ≡ output_bytes output plain) → IfErr r (λ e. e ≡ fault.Memory)
    → MatchResult r (λ v. IsCappedAs parameters output input (Ok (bytes_of v))) (FailsAsDue (IsCappedAs parameters output input))
capped_of (Ok v) bytes_of parameters output input plain passed expansion is fails = (plain, passed, expansion, is)
capped_of (Err e) bytes_of parameters output input plain passed expansion is fails = inl (fails, capped_needs parameters output input (expandable input parameters passed expansion.short))

-- the same of a padded text
pub padded_of : {V : Type 0} (r : Result V ToolFault) (bytes_of : V → List ℕ) (text : List ℕ) (parameters : List Value) (setting : Setting) (output : Output) (plain padded : List ℕ) → IsFaultless text → IsExpansion text parameters plain
    → padded ≡ padded_text plain setting → length (padded_text plain setting) ≤ most_padded_bytes
    → IfOk r (λ v. bytes_of v ≡ output_bytes output padded) → IfErr r (λ e. e ≡ fault.Memory)
    → MatchResult r (λ v. IsPadded text parameters setting output (Ok (bytes_of v))) (FailsAsDue (IsPadded text parameters setting output))
padded_of (Ok v) bytes_of text parameters setting output plain padded passed expansion e short is fails = (plain, passed, expansion, short, is ∙ ap (output_bytes output) e)
padded_of (Err f) bytes_of text parameters setting output plain padded passed expansion e short is fails = inl (fails, padded_needs text parameters setting output (expandable text parameters passed expansion.short))

-- why a text is not expanded is why it is not padded
pub unexpanded_due : (text : List ℕ) (parameters : List Value) (setting : Setting) (output : Output) (e : ToolFault) → ((e ≡ fault.Memory) × IsExpandable text parameters) ⊎ IsUnexpanded text parameters e → FailsAsDue (IsPadded text parameters setting output) e
unexpanded_due text parameters setting output e (inl (is, can)) = inl (is, padded_needs text parameters setting output can)
unexpanded_due text parameters setting output (fault.Cap refused) (inr d) = inr d
unexpanded_due text parameters setting output (fault.TextTooLong k) (inr d) = inr d
unexpanded_due text parameters setting output other (inr d) = absurd d

-- what is not above the limit is at most it
pub within_limit : (n : ℕ) (faults : Type 0) → (faults ↔ (most_padded_bytes < n)) → ¬ faults → n ≤ most_padded_bytes
within_limit n faults h none = at_most n (λ lt. none (h.1 lt))
  where
    at_most : (n : ℕ) → ¬ (most_padded_bytes < n) → n ≤ most_padded_bytes
    at_most n never = omega (arith, never)

-- ---- capabilities

-- what is due for the value is due for the capability that has it
pub called_of : {V : Type 0} (r : Result V ToolFault) (names : Names) (name : List ℕ) (v : EntryValue) (Has : Option ItemValue → V → Type 0) (due : Option ItemValue → Result (List ℕ) ToolFault → Type 0) (item : Option ItemValue)
    → IsItemCalled names name v item → MatchResult r (Has item) (FailsAsDue (due item))
    → MatchResult r (λ w. (i : Option ItemValue) × IsItemCalled names name v i × Has i w) (FailsAsDue (λ answer. (i : Option ItemValue) × IsItemCalled names name v i × due i answer))
called_of (Ok w) names name v Has due item called h = (item, called, h)
called_of (Err e) names name v Has due item called (inr d) = inr (item, called, d)
called_of (Err e) names name v Has due item called (inl (is, needs)) =
    inl (is, λ f (other, again, d). needs f (subst (λ i. due i (Err f)) (one_item names v name other item again called) d))

-- ---- entries

pub unrefused : (input : List ℕ) (v : EntryValue) → Spells input v → refusal input ≡ None
unrefused input v spells = ap (refusal_of (length input)) (only input v spells).passes

pub never_refused : (input : List ℕ) (v : EntryValue) (r : Refused) → Spells input v → refusal input ≡ Some r → ⊥
never_refused input v r spells is = let e : None ≡ Some r = sym (unrefused input v spells) ∙ is in absurd cc

-- what is due for an entry is due for the bytes that spell it
pub due_from : (due : EntryValue → Result (List ℕ) ToolFault → Type 0) (input : List ℕ) (v : EntryValue) (e : ToolFault) → Spells input v → FailsAsDue (due v) e → FailsAsDue (IsDueFrom due input) e
due_from due input v e spells (inl (is, needs)) = inl (is, needs_too)
  where
    needs_too : NeedsMemory (IsDueFrom due input)
    needs_too f (inl (refused, is, same)) = absurd (never_refused input v refused spells is)
    needs_too f (inr (w, other, d)) = needs f (subst (λ x. due x (Err f)) (at_most_one input w v other spells) d)
due_from due input v e spells (inr d) = inr (inr (v, spells, d))
