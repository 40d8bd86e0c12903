-- How a request is answered, from what is read, and what a call has done.
use Rattle.std.proofs.Common.{◌≡◌, ℕ, Bool, ◌⊎◌, inl, inr, List, [], Ok, Err, None, refl, subst, sym, ap, ◌∙◌}
use Rattle.std.specs.Prelude.{Option, Result, IfErr, IfOk, MatchResult, true}
use Rattle.std.specs.Io.KnownBytes.{Consumes, IsAtEnd}
use Rattle.std.proofs.KnownBytes.{Keeps-refl}
use Rattle.ti_tool.specs.declared.fault.ToolFault.{ToolFault}
use Rattle.ti_tool.specs.declared.fault.ToolFault.TheVariants as fault
use Rattle.ti_layout.specs.declared.fault.Refused.{Refused}
use Rattle.ti_words.specs.Spelling.{Spells}
use Rattle.ti_words.specs.Value.{EntryValue}
use Rattle.ti_entry.specs.Reading.{Reading, refusal_after}
use Rattle.ti_entry.specs.declared.source.ReadStop.{ReadStop}
use Rattle.ti_entry.specs.declared.source.ReadStop.TheVariants as stop
use Rattle.ti_entry.proofs.FeedLemmas.{failure_refuses, reading_of-passed}
use Rattle.ti_line.specs.declared.request.Action.{Action}
use Rattle.ti_line.specs.declared.request.Action.TheVariants.{Capability, Difference, Entry, Source}
use Rattle.ti_line.specs.declared.request.EntryAction.{EntryAction}
use Rattle.ti_tool.specs.Calls.{DidCall, DidCheck, FailsAsDue, HasReadEnough, IsEnough, IsFailedWrite, Wrote, stop_fault}
use Rattle.ti_tool.specs.FaultLines.{IsAnswerLine}
use Rattle.ti_tool.specs.FileRuns.{Contents, IsInput, IsOutcomeOfInput, NoMemory, Supply, Unread}
use Rattle.ti_tool.specs.Results.{Finds, IsAnswer, IsDueIn}
use Rattle.ti_tool.specs.Statuses.{status_for}
use Rattle.ti_tool.specs.inner.Answered.{HasFault, HasOutput, IsFed}
use Rattle.ti_tool.proofs.IsDueLemmas.{IsNeverOwn, output_never, source_never}
use Rattle.ti_tool.proofs.NeedsMemoryLemmas.{due_from}
use Rattle.ti_tool.proofs.OneResultLemmas.{entry_never}

failed : (due : Result (List ℕ) ToolFault → Type 0) (held : Option (List ℕ)) (e : ToolFault) → IsNeverOwn due → FailsAsDue due e → Wrote due held held (Err e)
failed due held fault.Read never h = Keeps-refl held
failed due held fault.Memory never (inl (e, needs)) = (needs, Keeps-refl held)
failed due held fault.Memory never (inr d) = absurd (never.no_memory d)
failed due held (fault.Write gone) never (inr d) = absurd (never.no_write gone d)
failed due held other never (inl (e, needs)) = absurd (cc)
failed due held other never (inr d) = (d, Keeps-refl held)

ended : (enough : Type 0) (left : Option (List ℕ)) (answer : Result (Unit {0}) ToolFault) → enough ⊎ IsAtEnd left → HasReadEnough enough left answer
ended enough left (Ok u) h = h
ended enough left (Err fault.Read) h = tt
ended enough left (Err other) h = h

-- a call that found a fault before it wrote
did_fail : (due : List ℕ → Result (List ℕ) ToolFault → Type 0) (enough : List ℕ → Type 0) (left0 left1 held : Option (List ℕ)) (input : List ℕ) (e : ToolFault)
    → Consumes left0 left1 input → enough input ⊎ IsAtEnd left1 → IsNeverOwn (due input) → FailsAsDue (due input) e
    → DidCall due enough left0 left1 held held (Err e)
did_fail due enough left0 left1 held input e read at never h =
    record { input = input; read = read; ended = ended (enough input) left1 (Err e) at; wrote = failed (due input) held e never h }

-- only a failed write leaves a result that is not written whole
wrote_due : (due : Result (List ℕ) ToolFault → Type 0) (out : List ℕ) (held0 held1 : Option (List ℕ)) (answer : Result (Unit {0}) ToolFault) → due (Ok out)
    → Wrote (λ d. d ≡ Ok out) held0 held1 answer → IfErr answer IsFailedWrite → Wrote due held0 held1 answer
wrote_due due out held0 held1 (Ok u) d (x, is, a) fails = (x, (let P : Result (List ℕ) ToolFault → Type 0 = λ r. due r in subst P (sym is) d), a)
wrote_due due out held0 held1 (Err (fault.Write gone)) d (x, is, l, a) fails = (x, (let P : Result (List ℕ) ToolFault → Type 0 = λ r. due r in subst P (sym is) d), l, a)
wrote_due due out held0 held1 (Err other) d w fails = absurd fails

-- a call that wrote what is due
did_write : (due : List ℕ → Result (List ℕ) ToolFault → Type 0) (enough : List ℕ → Type 0) (left0 left1 held0 held1 : Option (List ℕ)) (input out written : List ℕ) (answer : Result (Unit {0}) ToolFault)
    → Consumes left0 left1 input → enough input ⊎ IsAtEnd left1 → due input (Ok out) → written ≡ out → Wrote (λ d. d ≡ Ok written) held0 held1 answer
    → IfErr answer IsFailedWrite → DidCall due enough left0 left1 held0 held1 answer
did_write due enough left0 left1 held0 held1 input out written answer read at d e w fails =
    let P : List ℕ → Type 0 = λ x. due input (Ok x) in
    record { input = input; read = read; ended = ended (enough input) left1 answer at; wrote = wrote_due (due input) written held0 held1 answer (subst P (sym e) d) w fails }

-- all that there was to read is kept, and nothing is refused so far
pub record KeepsAll (before after : Option (List ℕ)) (reading : Reading) : Type 0 where
  pub read : Consumes before after reading.kept
  pub end : IsAtEnd after
  pub unrefused : reading.refusal ≡ None

-- a new reader that read to the end
pub keeps_all : (before after : Option (List ℕ)) (new : Reading) → IsFed before after new → IsAtEnd after → new.refusal ≡ None → KeepsAll before after new
keeps_all before after new (bytes, took, fed) end none =
    let kept : bytes ≡ new.kept = sym (ap (λ r. r.kept) (fed ∙ reading_of-passed bytes (sym (ap (λ r. r.refusal) fed) ∙ none))) in
    record { read = subst (Consumes before after) kept took; end = end; unrefused = none }

-- ---- requests

answer_never : (action : Action) (input : List ℕ) → IsNeverOwn (IsAnswer action true input)
answer_never (Capability c) input = output_never c.result c.parameters.values input
answer_never (Source c) input = source_never c.result c.parameters.values input
answer_never (Entry e) input = entry_never e true input
answer_never (Difference d) input = record { no_write = λ gone d. d; no_memory = λ d. d }

-- a source that stopped gave no entry
pub stopped : (e : EntryAction) (left0 left1 : Option (List ℕ)) (new : Reading) (why : ReadStop) → IsFed left0 left1 new
    → new.refusal ≡ refusal_after why → (supply : Supply) × IsInput (Entry e) left0 left1 supply × HasFault (Entry e) supply (stop_fault why)
stopped e left0 left1 new stop.Io (bytes, took, fed) none = (Unread, (bytes, took), refl)
stopped e left0 left1 new (stop.Refused refused) (bytes, took, fed) some =
    let failed = sym (ap (λ r. r.refusal) fed) ∙ some in
    (Contents bytes, (took, inl (refused, failed)), inr (inl (refused, failure_refuses bytes refused failed, refl)))

-- what is due for an entry is due for the bytes that are kept of it
pub entry_answered : {O : Type 0} (passed : O → Bool) (out : O → List ℕ) (r : Result O ToolFault) (e : EntryAction) (kept bytes : List ℕ) (v : EntryValue) → Spells kept v → bytes ≡ kept
    → IfOk r (λ o. IsDueIn [] e (passed o) bytes v (Ok (out o))) → IfErr r (FailsAsDue (IsDueIn [] e true bytes v))
    → MatchResult r (λ o. HasOutput (Entry e) (Contents kept) (passed o) (out o)) (HasFault (Entry e) (Contents kept))
entry_answered passed out (Ok o) e kept bytes v spells same due fails =
    inr (v, spells, subst (λ (b : List ℕ). IsDueIn [] e (passed o) b v (Ok (out o))) same due)
entry_answered passed out (Err why) e kept bytes v spells same due fails =
    due_from (IsDueIn [] e true kept) kept v why spells (subst (λ (b : List ℕ). FailsAsDue (IsDueIn [] e true b v) why) same fails)

module _ (action : Action) (left0 left1 : Option (List ℕ)) where
  -- a call that was answered with a fault
  pub failed_call : (supply : Supply) (held : Option (List ℕ)) (e : ToolFault) → IsInput action left0 left1 supply → HasFault action supply e
      → DidCheck (IsAnswer action) (IsEnough action) left0 left1 held held (Err e)
  failed_call (Contents bytes) held e (read, at) due = (true, tt, did_fail (IsAnswer action true) (IsEnough action) left0 left1 held bytes e read at (answer_never action bytes) due)
  failed_call Unread held e (bytes, read) is =
      let Did : ToolFault → Type 0 = λ f. DidCall (IsAnswer action true) (IsEnough action) left0 left1 held held (Err f) in
      (true, tt, subst Did (sym is) (record { input = bytes; read = read; ended = tt; wrote = Keeps-refl held }))
  failed_call NoMemory held e none h = absurd none

  -- a call that wrote an output
  pub wrote_call : (supply : Supply) (passed : Bool) (held0 held1 : Option (List ℕ)) (out written : List ℕ) (answer : Result (Unit {0}) ToolFault) → IsInput action left0 left1 supply
      → HasOutput action supply passed out → written ≡ out → Wrote (λ d. d ≡ Ok written) held0 held1 answer → IfErr answer IsFailedWrite
      → DidCall (IsAnswer action passed) (IsEnough action) left0 left1 held0 held1 answer
  wrote_call (Contents bytes) passed held0 held1 out written answer (read, at) due same w fails =
      did_write (IsAnswer action passed) (IsEnough action) left0 left1 held0 held1 bytes out written answer read at due same w fails
  wrote_call Unread passed held0 held1 out written answer read due same w fails = absurd due
  wrote_call NoMemory passed held0 held1 out written answer read due same w fails = absurd due

-- ---- what standard input leads to

module _ (has_advice : Bool) (action : Action) where
  read_told : (why : ToolFault) (told line : List ℕ) → why ≡ fault.Read → IsAnswerLine has_advice action why told → line ≡ told → IsAnswerLine has_advice action fault.Read line
  read_told why told line read is same =
      let Line : ToolFault → List ℕ → Type 0 = λ w l. IsAnswerLine has_advice action w l in
      subst (Line fault.Read) (sym same) (subst (λ w. Line w told) read is)

  pub output_leads : (supply : Supply) (passed : Bool) (out bytes line : List ℕ) (status : ℕ) → HasOutput action supply passed out → Finds action passed → bytes ≡ out → line ≡ [] → status ≡ status_for (Ok passed)
      → IsOutcomeOfInput has_advice action supply bytes line status
  output_leads (Contents input) passed out bytes line status due finds same none is =
      (Ok passed, is, (finds, subst (λ (b : List ℕ). IsAnswer action passed input (Ok b)) (sym same) due, none))
  output_leads Unread passed out bytes line status due finds same none is = absurd due
  output_leads NoMemory passed out bytes line status due finds same none is = absurd due

  pub fault_leads : (supply : Supply) (why : ToolFault) (told bytes line : List ℕ) (status : ℕ) → HasFault action supply why
      → IsAnswerLine has_advice action why told → line ≡ told → bytes ≡ [] → status ≡ status_for (Err why) → IsOutcomeOfInput has_advice action supply bytes line status
  fault_leads (Contents input) why told bytes line status due is_told same none is = (Err why, is, (due, none, (told, is_told, same)))
  fault_leads Unread why told bytes line status read is_told same none is = (none, read_told why told line read is_told same, is ∙ ap (λ w. status_for (Err w)) read)
  fault_leads NoMemory why told bytes line status read is_told same none is = (none, read_told why told line read is_told same, is ∙ ap (λ w. status_for (Err w)) read)
