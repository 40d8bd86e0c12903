-- A request has one verdict, and what is read of standard input leads to one result.
use Rattle.std.proofs.Common.{◌≡◌, ◌≢◌, ◌∙◌, ℕ, Bool, true, List, [], Ok, Err, inl, inr, ap, subst, sym}
use Rattle.std.specs.Prelude.{Option, None, Some, Result}
use Rattle.ti_words.specs.Items.{FlagItem, ItemValue, NumberItem, TextItem}
use Rattle.ti_words.specs.Texts.{AbsentText, CancelledText, TextOf}
use Rattle.ti_words.specs.Value.{EntryValue}
use Rattle.ti_entry.proofs.SpellsAtMostOneLemmas.{at_most_one}
use Rattle.ti_line.specs.declared.request.Action.{Action}
use Rattle.ti_line.specs.declared.request.Action.TheVariants.{Capability, Difference, Entry, Source}
use Rattle.ti_line.specs.declared.request.Get.{Get}
use Rattle.ti_line.specs.declared.request.EntryAction.{EntryAction}
use Rattle.ti_line.specs.declared.request.EntryAction.TheVariants as of_entry
use Rattle.ti_tool.specs.declared.fault.ToolFault.{ToolFault}
use Rattle.ti_tool.specs.FileRuns.{AnswerLeadsTo, Contents, NoMemory, Unread}
use Rattle.ti_tool.specs.Got.{IsValueResult}
use Rattle.ti_tool.specs.Laws.{HasOneVerdict, InputHasOneResult, IsOneOf}
use Rattle.ti_tool.specs.Results.{Finds, IsAnswer, IsDueIn, IsDueOf}
use Rattle.ti_tool.specs.Statuses.{status_for}
use Rattle.ti_tool.specs.Unfit.{IsDueIfFit}
use Rattle.ti_tool.specs.declared.item_name.Names.TheVariants.{All}
use Rattle.ti_tool.proofs.IsItemCalledLemmas.{one_item}
use Rattle.ti_tool.proofs.UnfitLemmas.{fit_output}
use Rattle.ti_tool.proofs.OneResultLemmas.{one_answer, one_verdicts}

-- ---- the verdict

one_set : (item : Option ItemValue) (g : Get) (set as_set : Bool) (r s : Result (List ℕ) ToolFault) → IsValueResult item g set r → IsValueResult item g as_set s → set ≡ as_set
one_set None g set as_set r s d h = d.0 ∙ sym h.0
one_set (Some (FlagItem flag)) g set as_set r s d h = d.0 ∙ sym h.0
one_set (Some (NumberItem number)) g set as_set r s d h = d.0 ∙ sym h.0
one_set (Some (TextItem AbsentText)) g set as_set r s d h = d.0 ∙ sym h.0
one_set (Some (TextItem CancelledText)) g set as_set r s d h = d.0 ∙ sym h.0
one_set (Some (TextItem (TextOf text))) g set as_set r s d h = d.0 ∙ sym h.0

one_in : (before : List ℕ) (e : EntryAction) (input : List ℕ) (v : EntryValue) (out outs : List ℕ) (passed as_passed : Bool) → IsOneOf e → IsDueIn before e passed input v (Ok out)
    → IsDueIn before e as_passed input v (Ok outs) → Finds (Entry e) passed → Finds (Entry e) as_passed → passed ≡ as_passed
one_in before (of_entry.Show options) input v out outs passed as_passed certain d h f g = f ∙ sym g
one_in before (of_entry.Json document) input v out outs passed as_passed certain d h f g = absurd certain
one_in before (of_entry.Check which naming) input v out outs passed as_passed certain d h f g = (one_verdicts which naming v out outs passed as_passed d h).1
one_in before (of_entry.Lint options color) input v out outs passed as_passed certain d h f g = absurd certain
one_in before (of_entry.Expand e) input v out outs passed as_passed certain d h f g = f ∙ sym g
one_in before (of_entry.Convert width) input v out outs passed as_passed certain d h f g = f ∙ sym g
one_in before (of_entry.Trace t) input v out outs passed as_passed certain d h f g = f ∙ sym g
one_in before (of_entry.Get get) input v out outs passed as_passed certain (item, called, d) (other, again, h) f g =
    let same = subst (λ i. IsDueIfFit get.name.now get.given i (IsValueResult i get as_passed) (Ok outs)) (one_item All v get.name.now other item again called) h in
    one_set item get passed as_passed (Ok out) (Ok outs) (fit_output get.name.now get.given item (IsValueResult item get passed) out d) (fit_output get.name.now get.given item (IsValueResult item get as_passed) outs same)

one_sound : (before : List ℕ) (e : EntryAction) (input out outs : List ℕ) (passed as_passed : Bool) → IsOneOf e → IsDueOf before e passed input (Ok out)
    → IsDueOf before e as_passed input (Ok outs) → Finds (Entry e) passed → Finds (Entry e) as_passed → passed ≡ as_passed
one_sound before e input out outs passed as_passed certain (inl (refused, is, same)) h f g = absurd (cc)
one_sound before e input out outs passed as_passed certain (inr found) (inl (refused, is, same)) f g = absurd (cc)
one_sound before e input out outs passed as_passed certain (inr (v, spells, d)) (inr (w, other, h)) f g =
    one_in before e input v out outs passed as_passed certain d (subst (λ x. IsDueIn before e as_passed input x (Ok outs)) (at_most_one input w v other spells) h) f g

pub one_verdict : HasOneVerdict
one_verdict (Capability c) input out outs passed as_passed certain d h f g = f ∙ sym g
one_verdict (Source c) input out outs passed as_passed certain d h f g = f ∙ sym g
one_verdict (Difference c) input out outs passed as_passed certain d h f g = elim d [ ]
one_verdict (Entry e) input out outs passed as_passed certain d h f g = one_sound [] e input out outs passed as_passed certain d h f g

-- ---- standard input

-- contents lead to one result, if what is due for them is one
module _ (has_advice : Bool) (action : Action) (due : Bool → Result (List ℕ) ToolFault → Type 0) (one_due : (passed as_passed : Bool) (r q : Result (List ℕ) ToolFault) → due passed r → due as_passed q → r ≡ q)
    (verdict : (passed as_passed : Bool) (out outs : List ℕ) → due passed (Ok out) → due as_passed (Ok outs) → Finds action passed → Finds action as_passed → passed ≡ as_passed)
    (out outs line lines : List ℕ) (status code : ℕ) (low : status ≢ 6) (high : code ≢ 6) where
  led : (answer other : Result Bool ToolFault) → status ≡ status_for answer → code ≡ status_for other → AnswerLeadsTo due has_advice action (λ told. told) answer out line
      → AnswerLeadsTo due has_advice action (λ told. told) other outs lines → (out ≡ outs) × (status ≡ code)
  led (Ok passed) (Ok as_passed) s t (finds, is, none) (found, too, empty) =
      let one : Ok out ≡ Ok outs = one_due passed as_passed (Ok out) (Ok outs) is too in
      let text : out ≡ outs = cc in
      (text, s ∙ ap (λ b. status_for (Ok b)) (verdict passed as_passed out outs is too finds found) ∙ sym t)
  led (Ok passed) (Err why) s t (finds, is, none) (inl memory, empty, told) = absurd (high (t ∙ ap (λ w. status_for (Err w)) memory.0))
  led (Ok passed) (Err why) s t (finds, is, none) (inr also, empty, told) =
      let one : Ok out ≡ Err why = one_due passed true (Ok out) (Err why) is also in absurd (cc)
  led (Err why) (Ok passed) s t (inl memory, none, told) h = absurd (low (s ∙ ap (λ w. status_for (Err w)) memory.0))
  led (Err why) (Ok passed) s t (inr also, empty, told) (finds, is, none) =
      let one : Ok outs ≡ Err why = one_due passed true (Ok outs) (Err why) is also in absurd (cc)
  led (Err why) (Err other) s t (inl memory, none, told) h = absurd (low (s ∙ ap (λ w. status_for (Err w)) memory.0))
  led (Err why) (Err other) s t d (inl memory, none, told) = absurd (high (t ∙ ap (λ w. status_for (Err w)) memory.0))
  led (Err why) (Err other) s t (inr is, none, told) (inr also, empty, tolds) =
      let one : Err why ≡ Err other = one_due true true (Err why) (Err other) is also in
      let fault_is : why ≡ other = cc in
      (none ∙ sym empty, s ∙ ap (λ w. status_for (Err w)) fault_is ∙ sym t)

pub one_input : InputHasOneResult
one_input has_advice action (Contents bytes) out outs line lines status code certain low high (answer, s, is) (other, t, too) =
    led has_advice action (λ passed. IsAnswer action passed bytes) (λ passed as_passed r q. one_answer action bytes passed as_passed r q certain) (λ passed as_passed out outs. one_verdict action bytes out outs passed as_passed certain)
    out outs line lines status code low high answer other s t is too
one_input has_advice action Unread out outs line lines status code certain low high (none, is, s) (empty, too, t) = (none ∙ sym empty, s ∙ sym t)
one_input has_advice action NoMemory out outs line lines status code certain low high (none, is, s) (empty, too, t) = (none ∙ sym empty, s ∙ sym t)
