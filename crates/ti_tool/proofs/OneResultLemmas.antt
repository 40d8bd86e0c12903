-- For given parameters and bytes at most one result is due, and no fault of a call itself.
use Rattle.std.proofs.Common.{◌≡◌, ◌⊎◌, ℕ, zero, suc, ◌<◌, ◌≤◌, Bool, List, [], ◌∷◌, ◌++◌, length, Ok, Err, Some, None, inl, inr, refl, sym, ap, ap₂, subst, ◌∙◌, arith, pos}
use Rattle.ti_words.specs.Items.{FlagItem, ItemValue, Listed, NumberItem, SubjectValue, TextItem, items, text_in}
use Rattle.ti_escape.specs.declared.form.Form.TheVariants as forms
use Rattle.std.specs.Prelude.{Option, Result, option_and_then, replicate}
use Rattle.ti_words.specs.Texts.{AbsentText, CancelledText, TextOf}
use Rattle.ti_words.specs.Value.{EntryValue}
use Rattle.ti_layout.specs.declared.fault.Refused.{Refused}
use Rattle.ti_draft.specs.declared.fault.EncodeFault.{EncodeFault}
use Rattle.ti_draft.specs.EncodeFaults.{encode_fault}
use Rattle.ti_cap.specs.declared.language.Token.{Token}
use Rattle.ti_cap.specs.declared.language.CapRefused.{CapRefused}
use Rattle.ti_cap.specs.Tree.{Sequence, tokens}
use Rattle.ti_cap.specs.Spelling.{Writes}
use Rattle.ti_cap.specs.Height.{IsGreatest, height, size}
use Rattle.ti_cap.specs.Capability.{HasDepth, HasBound}
use Rattle.ti_cap.specs.Refusal.{IsFaultless, IsRefusal}
use Rattle.ti_cap.proofs.WrittenLemmas.{one_cutting}
use Rattle.ti_cap.proofs.OneTreeLemmas.{one_tree}
use Rattle.ti_cap.proofs.OneRefusalLemmas.{one_refusal}
use Rattle.ti_expand.specs.declared.values.Value.{Value}
use Rattle.ti_expand.specs.State.{start}
use Rattle.ti_expand.specs.Meaning.{meaning}
use Rattle.ti_expand.specs.Expands.{IsFirstTooLong}
use Rattle.ti_pad.specs.Setting.{Setting}
use Rattle.ti_pad.specs.Padded.{padded_text}
use Rattle.ti_base.specs.Limits.{most_padded_bytes}
use Rattle.ti_entry.proofs.SpellsAtMostOneLemmas.{at_most_one}
use Rattle.ti_names.specs.declared.name_table.NameTable.{NameTable}
use Rattle.ti_line.specs.declared.options.Naming.{Naming}
use Rattle.ti_line.specs.declared.options.Output.{Output}
use Rattle.ti_line.specs.declared.request.Action.TheVariants.{Capability, Difference, Entry, Source}
use Rattle.ti_line.specs.declared.request.CapabilityResult.{CapabilityResult}
use Rattle.ti_line.specs.declared.request.CapabilityResult.TheVariants as of_cap
use Rattle.ti_line.specs.declared.request.EntryAction.{EntryAction}
use Rattle.ti_line.specs.declared.request.EntryAction.TheVariants as of_entry
use Rattle.ti_tool.specs.declared.fault.ToolFault.{ToolFault}
use Rattle.ti_tool.specs.declared.fault.ToolFault.TheVariants as fault
use Rattle.ti_tool.specs.Laws.{HasOneAnswer, IsOneOf, IsOneOutput}
use Rattle.ti_line.specs.Options.{output_bytes}
use Rattle.ti_line.specs.declared.options.Document.{Document}
use Rattle.ti_tool.specs.Documents.{IsDocument}
use Rattle.ti_tool.specs.Results.{IsExpansion, IsUnexpanded, IsCappedAs, IsPadded, IsDue, IsDueFor, IsDueFrom, IsDueIn, IsDueOf, IsEncoding, IsJudgement, IsOutputOf, in_width}
use Rattle.ti_tool.specs.Sources.{IsDueForText, text_in_source}
use Rattle.ti_tool.specs.Traces.{IsTracedValue}
use Rattle.ti_json.specs.Rows.{ContentValue, HasFault, HasLimits, RowValue}
use Rattle.ti_json.specs.Rows.{OfCapability as on_capability}
use Rattle.ti_listing.specs.Listing.{row_lines}
use Rattle.ti_line.specs.declared.options.Verdicts.{Verdicts}
use Rattle.ti_tool.specs.Unfit.{IsDueIfFit}
use Rattle.ti_tool.proofs.UnfitLemmas.{fit_never, fit_once}
use Rattle.ti_tool.specs.Verdicts.{AreRows, AreVerdicts, HasRows, IsJudged, are_sound, written}
use Rattle.ti_line.specs.declared.given.Given.{Given}
use Rattle.ti_line.specs.declared.request.Get.{Get}
use Rattle.ti_tool.specs.Got.{IsDueBy, IsGot, IsPaddedAlone, IsTextResult, IsValueResult}
use Rattle.ti_tool.specs.declared.item_name.Names.TheVariants.{Texts, All}
use Rattle.ti_tool.proofs.IsDueLemmas.{IsNeverOwn, text_never, traced_never, value_never}
use Rattle.ti_tool.proofs.IsGotLemmas.{one_taken}
use Rattle.ti_tool.proofs.IsItemCalledLemmas.{one_item}
use Rattle.ti_tool.proofs.NeedsMemoryLemmas.{expandable, faultless_passes, never_refused}

-- at most one result or fault is due
abbrev IsOneResult : (Result (List ℕ) ToolFault → Type 0) → Type 0
IsOneResult due = (one other : Result (List ℕ) ToolFault) → due one → due other → one ≡ other

-- ---- capabilities

tree_once : (s t : Sequence) (bytes : List ℕ) → Writes s bytes → Writes t bytes → s ≡ t
tree_once s t bytes p q = one_tree s t p.formed q.formed (one_cutting (tokens s) (tokens t) bytes p.written q.written)

one_expansion : (text : List ℕ) (parameters : List Value) (out other : List ℕ) → IsExpansion text parameters out → IsExpansion text parameters other → out ≡ other
one_expansion text parameters out other p q =
    p.is ∙ ap (λ (t : Sequence). (meaning t (start (replicate 52 (pos 0)) parameters)).output) (tree_once p.tree q.tree text p.writes q.writes) ∙ sym q.is

-- two numbers are in order, or equal
in_order : (k l : ℕ) → (k < l) ⊎ ((l < k) ⊎ (k ≡ l))
in_order zero zero = inr (inr refl)
in_order zero (suc l) = inl (omega arith)
in_order (suc k) zero = inr (inl (omega arith))
in_order (suc k) (suc l) = one_more (in_order k l)
  where
    one_more : (k < l) ⊎ ((l < k) ⊎ (k ≡ l)) → (suc k < suc l) ⊎ ((suc l < suc k) ⊎ (suc k ≡ suc l))
    one_more (inl lt) = inl (omega arith)
    one_more (inr (inl lt)) = inr (inl (omega arith))
    one_more (inr (inr e)) = inr (inr (ap suc e))

one_too_long : (parameters : List Value) (k l : ℕ) → IsFirstTooLong parameters k → IsFirstTooLong parameters l → k ≡ l
one_too_long parameters k l p q = by_order (in_order k l)
  where
    by_order : (k < l) ⊎ ((l < k) ⊎ (k ≡ l)) → k ≡ l
    by_order (inl lt) = let short = q.lower k lt in let long = p.too_long in absurd (omega arith)
    by_order (inr (inl lt)) = let short = p.lower l lt in let long = q.too_long in absurd (omega arith)
    by_order (inr (inr e)) = e

-- why a capability is not expanded, in two cases
data Unexpanded (text : List ℕ) (parameters : List Value) (e : ToolFault) : Type 0 where
  refused_as : (r : CapRefused) → e ≡ fault.Cap r → IsRefusal text r → Unexpanded text parameters e
  too_long_at : (k : ℕ) → e ≡ fault.TextTooLong k → IsFaultless text → IsFirstTooLong parameters k → Unexpanded text parameters e

unexpanded : (text : List ℕ) (parameters : List Value) (e : ToolFault) → IsUnexpanded text parameters e → Unexpanded text parameters e
unexpanded text parameters (fault.Cap r) d = refused_as r refl d
unexpanded text parameters (fault.TextTooLong k) d = too_long_at k refl d.0 d.1
unexpanded text parameters other d = absurd d

one_of_two : (text : List ℕ) (parameters : List Value) (e f : ToolFault) → Unexpanded text parameters e → Unexpanded text parameters f → e ≡ f
one_of_two text parameters e f (refused_as r is d) (refused_as q same h) = is ∙ ap (λ (x : CapRefused). fault.Cap x) (one_refusal r q text d h) ∙ sym same
one_of_two text parameters e f (refused_as r is d) (too_long_at k same passed long) = absurd (faultless_passes text r passed d)
one_of_two text parameters e f (too_long_at k is passed long) (refused_as q same h) = absurd (faultless_passes text q passed h)
one_of_two text parameters e f (too_long_at k is passed long) (too_long_at l same other longer) = is ∙ ap (λ x. fault.TextTooLong x) (one_too_long parameters k l long longer) ∙ sym same

one_unexpanded : (text : List ℕ) (parameters : List Value) (e f : ToolFault) → IsUnexpanded text parameters e → IsUnexpanded text parameters f → e ≡ f
one_unexpanded text parameters e f d h = one_of_two text parameters e f (unexpanded text parameters e d) (unexpanded text parameters f h)

one_capped : (parameters : List Value) (output : Output) (input : List ℕ) → IsOneResult (IsCappedAs parameters output input)
one_capped parameters output input (Ok a) (Ok b) (plain, passed, p, is) (other, again, q, same) = ap Ok (is ∙ ap (output_bytes output) (one_expansion input parameters plain other p q) ∙ sym same)
one_capped parameters output input (Ok a) (Err e) (plain, passed, p, is) d = absurd (expandable input parameters passed p.short e d)
one_capped parameters output input (Err e) (Ok b) d (plain, passed, p, is) = absurd (expandable input parameters passed p.short e d)
one_capped parameters output input (Err e) (Err f) d h = ap Err (one_unexpanded input parameters e f d h)

-- ---- padded texts

-- why a text is not padded, in two cases
data Unpadded (text : List ℕ) (parameters : List Value) (setting : Setting) (e : ToolFault) : Type 0 where
  not_expanded : IsUnexpanded text parameters e → Unpadded text parameters setting e
  too_much : (need : ℕ) (plain : List ℕ) → e ≡ fault.TooMuch need → IsFaultless text → IsExpansion text parameters plain → need ≡ length (padded_text plain setting) → most_padded_bytes < need
      → Unpadded text parameters setting e

unpadded : (text : List ℕ) (parameters : List Value) (setting : Setting) (output : Output) (e : ToolFault) → IsPadded text parameters setting output (Err e) → Unpadded text parameters setting e
unpadded text parameters setting output (fault.TooMuch need) (plain, passed, p, is, over) = too_much need plain refl passed p is over
unpadded text parameters setting output (fault.Cap r) d = not_expanded d
unpadded text parameters setting output (fault.TextTooLong k) d = not_expanded d
unpadded text parameters setting output other d = absurd d

same_padded : (text : List ℕ) (parameters : List Value) (setting : Setting) (plain other : List ℕ) → IsExpansion text parameters plain → IsExpansion text parameters other → padded_text plain setting ≡ padded_text other setting
same_padded text parameters setting plain other p q = ap (λ x. padded_text x setting) (one_expansion text parameters plain other p q)

one_unpadded : (text : List ℕ) (parameters : List Value) (setting : Setting) (e f : ToolFault) → Unpadded text parameters setting e → Unpadded text parameters setting f → e ≡ f
one_unpadded text parameters setting e f (not_expanded d) (not_expanded h) = one_unexpanded text parameters e f d h
one_unpadded text parameters setting e f (not_expanded d) (too_much need plain is passed p long over) = absurd (expandable text parameters passed p.short e d)
one_unpadded text parameters setting e f (too_much need plain is passed p long over) (not_expanded h) = absurd (expandable text parameters passed p.short f h)
one_unpadded text parameters setting e f (too_much need plain is passed p long over) (too_much needs other same again q longer overs) =
    is ∙ ap (λ x. fault.TooMuch x) (long ∙ ap length (same_padded text parameters setting plain other p q) ∙ sym longer) ∙ sym same

padded_or_not : (text : List ℕ) (parameters : List Value) (setting : Setting) (plain : List ℕ) (e : ToolFault) → IsFaultless text → IsExpansion text parameters plain → length (padded_text plain setting) ≤ most_padded_bytes → Unpadded text parameters setting e → ⊥
padded_or_not text parameters setting plain e passed p short (not_expanded d) = expandable text parameters passed p.short e d
padded_or_not text parameters setting plain e passed p short (too_much need other is again q long over) =
    let same : length (padded_text plain setting) ≡ length (padded_text other setting) = ap length (same_padded text parameters setting plain other p q) in absurd (omega arith)

one_padded : (text : List ℕ) (parameters : List Value) (setting : Setting) (output : Output) → IsOneResult (IsPadded text parameters setting output)
one_padded text parameters setting output (Ok a) (Ok b) (plain, passed, p, short, is) (other, again, q, shorts, same) =
    ap Ok (is ∙ ap (output_bytes output) (same_padded text parameters setting plain other p q) ∙ sym same)
one_padded text parameters setting output (Ok a) (Err e) (plain, passed, p, short, is) d = absurd (padded_or_not text parameters setting plain e passed p short (unpadded text parameters setting output e d))
one_padded text parameters setting output (Err e) (Ok b) d (plain, passed, p, short, is) = absurd (padded_or_not text parameters setting plain e passed p short (unpadded text parameters setting output e d))
one_padded text parameters setting output (Err e) (Err f) d h = ap Err (one_unpadded text parameters setting e f (unpadded text parameters setting output e d) (unpadded text parameters setting output f h))

one_due : (text : Option (List ℕ)) (parameters : List Value) (setting : Setting) (output : Output) → IsOneResult (IsDue text parameters setting output)
one_due None parameters setting output r s d h = d ∙ sym h
one_due (Some text) parameters setting output r s d h = one_padded text parameters setting output r s d h

-- ---- results on entries

-- what is due for bytes is their refusal, or something due for the entry that they spell
pub one_from : (input : List ℕ) (due also : EntryValue → Result (List ℕ) ToolFault → Type 0) → ((v : EntryValue) (r s : Result (List ℕ) ToolFault) → due v r → also v s → r ≡ s)
    → (r s : Result (List ℕ) ToolFault) → IsDueFrom due input r → IsDueFrom also input s → r ≡ s
one_from input due also once r s (inl (a, is, e)) (inl (b, same, f)) =
    let both : Some a ≡ Some b = sym is ∙ same in
    let one : a ≡ b = cc in e ∙ ap (λ (x : Refused). Err (fault.Entry x)) one ∙ sym f
one_from input due also once r s (inl (a, is, e)) (inr (v, spells, d)) = absurd (never_refused input v a spells is)
one_from input due also once r s (inr (v, spells, d)) (inl (b, same, f)) = absurd (never_refused input v b spells same)
one_from input due also once r s (inr (v, spells, d)) (inr (w, other, h)) =
    once v r s d (subst (λ x. also x s) (at_most_one input w v other spells) h)

one_due_for : (names : NameTable) (name : List ℕ) (parameters : List Value) (setting : Setting) (output : Output) (v : EntryValue) → IsOneResult (IsDueFor names name parameters setting output v)
one_due_for names name parameters setting output v r s (item, called, d) (other, again, h) =
    one_due (option_and_then text_in item) parameters setting output r s d (subst (λ i. IsDue (option_and_then text_in i) parameters setting output s) (one_item (Texts names) v name other item again called) h)

encoding_fault : (v : EntryValue) (e : ToolFault) → IsEncoding v (Err e) → (unfit : EncodeFault) × (e ≡ fault.Encode unfit) × (encode_fault v ≡ Some unfit)
encoding_fault v (fault.Encode unfit) d = (unfit, refl, d)
encoding_fault v other d = absurd d

one_encoding : (v : EntryValue) → IsOneResult (IsEncoding v)
one_encoding v (Ok a) (Ok b) (none, is) (neither, same) = ap Ok (is ∙ sym same)
one_encoding v (Ok a) (Err e) (none, is) d = let (unfit, same, why) = encoding_fault v e d in absurd (cc)
one_encoding v (Err e) (Ok b) d (none, is) = let (unfit, same, why) = encoding_fault v e d in absurd (cc)
one_encoding v (Err e) (Err f) d h =
    let (unfit, is, why) = encoding_fault v e d in
    let (other, same, because) = encoding_fault v f h in
    let both : Some unfit ≡ Some other = sym why ∙ because in
    let one : unfit ≡ other = cc in ap Err (is ∙ ap (λ (x : EncodeFault). fault.Encode x) one ∙ sym same)

-- ---- verdicts

greatest_once : (tree : Sequence) (measure : List Token → ℕ) (a b : ℕ) → IsGreatest tree measure a → IsGreatest tree measure b → a ≡ b
greatest_once tree measure a b p q =
    let (path, on, is) = p.reached in
    let (other, there, same) = q.reached in
    let low = q.above_all path on in
    let high = p.above_all other there in omega (arith, is, same, low, high)

one_depth : (text : List ℕ) (a b : ℕ) → HasDepth text a → HasDepth text b → a ≡ b
one_depth text a b (s, p, d) (t, q, e) = greatest_once s height a b d (subst (λ (x : Sequence). IsGreatest x height b) (tree_once t s text q p) e)

one_bound : (text : List ℕ) (a b : ℕ) → HasBound text 0 a → HasBound text 0 b → a ≡ b
one_bound text a b (s, p, d) (t, q, e) = greatest_once s (λ path. size path 0) a b d (subst (λ (x : Sequence). IsGreatest x (λ path. size path 0) b) (tree_once t s text q p) e)

one_judged : (text : List ℕ) (a b : ContentValue) → IsJudged text a → IsJudged text b → a ≡ b
one_judged text a b (inl (depth, bound, passes, deep, big, is)) (inl (depths, bounds, again, deeper, bigger, same)) =
    is ∙ ap₂ (λ d b. HasLimits d b) (one_depth text depth depths deep deeper) (one_bound text bound bounds big bigger) ∙ sym same
one_judged text a b (inl (depth, bound, passes, deep, big, is)) (inr (refused, why, same)) = absurd (faultless_passes text refused passes why)
one_judged text a b (inr (refused, why, is)) (inl (depth, bound, passes, deep, big, same)) = absurd (faultless_passes text refused passes why)
one_judged text a b (inr (refused, why, is)) (inr (refuses, because, same)) = is ∙ ap (λ r. HasFault r) (one_refusal refused refuses text why because) ∙ sym same

has_one : (subject : SubjectValue) (text : Option (List ℕ)) (rows others : List RowValue) → HasRows subject text rows → HasRows subject text others → rows ≡ others
has_one subject None rows others is same = is ∙ sym same
has_one subject (Some text) rows others (a, judged, is) (b, again, same) = is ∙ ap (λ content. (on_capability subject, content) ∷ []) (one_judged text a b judged again) ∙ sym same

are_one : (xs : List Listed) (rows others : List RowValue) → AreRows xs rows → AreRows xs others → rows ≡ others
are_one [] rows others is same = is ∙ sym same
are_one (x ∷ xs) rows others (first, more, has, are, is) (first', more', has', are', same) =
    is ∙ ap₂ (λ a b. a ++ b) (has_one x.0 (text_in x.1) first first' has has') (are_one xs more more' are are') ∙ sym same

pub one_verdicts : (which : Verdicts) (naming : Naming) (v : EntryValue) (lines others : List ℕ) (passed as_passed : Bool) → AreVerdicts which naming v lines passed → AreVerdicts which naming v others as_passed
    → (lines ≡ others) × (passed ≡ as_passed)
one_verdicts which naming v lines others passed as_passed (rows, are, is, s) (again, also, same, t) =
    let one = ap (written which) (are_one (items v) rows again are also) in (is ∙ ap (row_lines (record { naming = naming; form = forms.Notation })) one ∙ sym same, s ∙ ap are_sound one ∙ sym t)

one_judgement : (which : Verdicts) (naming : Naming) (v : EntryValue) (passed as_passed : Bool) (r s : Result (List ℕ) ToolFault) → IsJudgement which naming passed v r → IsJudgement which naming as_passed v s → r ≡ s
one_judgement which naming v passed as_passed (Ok a) (Ok b) d h = ap Ok (one_verdicts which naming v a b passed as_passed d h).0
one_judgement which naming v passed as_passed (Ok a) (Err e) d h = absurd h
one_judgement which naming v passed as_passed (Err e) s d h = absurd d

-- ---- values of capabilities

alone_fault : (text : List ℕ) (setting : Setting) (output : Output) (e : ToolFault) → IsPaddedAlone text setting output (Err e) → (e ≡ fault.TooMuch (length (padded_text text setting))) × (most_padded_bytes < length (padded_text text setting))
alone_fault text setting output (fault.TooMuch need) d = let P : ℕ → Type 0 = λ n. most_padded_bytes < n in (ap (λ n. fault.TooMuch n) d.0, subst P d.0 d.1)
alone_fault text setting output other d = absurd d

one_alone : (text : List ℕ) (setting : Setting) (output : Output) → IsOneResult (IsPaddedAlone text setting output)
one_alone text setting output (Ok a) (Ok b) d h = ap Ok (d.1 ∙ sym h.1)
one_alone text setting output (Ok a) (Err e) d h = let f = alone_fault text setting output e h in absurd (omega (arith, d.0, f.1))
one_alone text setting output (Err e) (Ok b) d h = let f = alone_fault text setting output e d in absurd (omega (arith, h.0, f.1))
one_alone text setting output (Err e) (Err f) d h = ap Err ((alone_fault text setting output e d).0 ∙ sym (alone_fault text setting output f h).0)

one_by : (text : List ℕ) (given : Given) (due : List Value → Result (List ℕ) ToolFault → Type 0) → ((parameters : List Value) → IsOneResult (due parameters)) → IsOneResult (IsDueBy text given due)
one_by text given due once r s (inl (a, why, is)) (inl (b, because, same)) = is ∙ ap (λ (x : CapRefused). Err (fault.Cap x)) (one_refusal a b text why because) ∙ sym same
one_by text given due once r s (inl (a, why, is)) (inr (passed, rest)) = absurd (faultless_passes text a passed why)
one_by text given due once r s (inr (passed, rest)) (inl (b, because, same)) = absurd (faultless_passes text b passed because)
one_by text given due once r s (inr (passed, (ps, are, d))) (inr (again, (qs, also, h))) =
    once ps r s d (subst (λ x. due x s) (one_taken text given.params qs ps also are) h)

one_text : (text : List ℕ) (given : Option Given) (setting : Setting) (output : Output) → IsOneResult (IsTextResult text given setting output)
one_text text None setting output r s d h = one_alone text setting output r s d h
one_text text (Some given) setting output r s d h =
    one_by text given (λ parameters. IsPadded text parameters setting output) (λ parameters. one_padded text parameters setting output) r s d h

one_value : (item : Option ItemValue) (g : Get) (set as_set : Bool) (r s : Result (List ℕ) ToolFault) → IsValueResult item g set r → IsValueResult item g as_set s → r ≡ s
one_value None g set as_set r s d h = d.1 ∙ sym h.1
one_value (Some (FlagItem flag)) g set as_set r s d h = d.1 ∙ sym h.1
one_value (Some (NumberItem number)) g set as_set r s d h = d.1 ∙ sym h.1
one_value (Some (TextItem AbsentText)) g set as_set r s d h = d.1 ∙ sym h.1
one_value (Some (TextItem CancelledText)) g set as_set r s d h = d.1 ∙ sym h.1
one_value (Some (TextItem (TextOf text))) g set as_set r s d h = one_text text g.given g.padding g.output r s d.1 h.1

one_got : (g : Get) (set as_set : Bool) (v : EntryValue) (r s : Result (List ℕ) ToolFault) → IsGot g set v r → IsGot g as_set v s → r ≡ s
one_got g set as_set v r s (item, called, d) (other, again, h) =
    fit_once g.name.now g.given item (IsValueResult item g set) (IsValueResult item g as_set) (one_value item g set as_set) r s d
    (subst (λ i. IsDueIfFit g.name.now g.given i (IsValueResult i g as_set) s) (one_item All v g.name.now other item again called) h)

-- ---- documents

document_never : (document : Document) (passed : Bool) (input : List ℕ) (v : EntryValue) → IsNeverOwn (IsDocument document passed input v)
document_never document passed input v = record { no_write = λ gone d. d; no_memory = λ d. d }

-- ---- requests

one_output : (c : CapabilityResult) (parameters : List Value) (input : List ℕ) → IsOneOutput c → IsOneResult (IsOutputOf c parameters input)
one_output (of_cap.Cap output) parameters input certain = one_capped parameters output input
one_output (of_cap.Trace form) parameters input certain = absurd certain

one_for_text : (c : CapabilityResult) (parameters : List Value) (text : Result (List ℕ) ToolFault) → IsOneOutput c → IsOneResult (IsDueForText (IsOutputOf c parameters) text)
one_for_text c parameters (Ok text) certain = one_output c parameters text certain
one_for_text c parameters (Err e) certain = λ r s d h. d ∙ sym h

one_on : (before : List ℕ) (e : EntryAction) (passed as_passed : Bool) (input : List ℕ) (v : EntryValue) (r s : Result (List ℕ) ToolFault)
    → IsOneOf e → IsDueIn before e passed input v r → IsDueIn before e as_passed input v s → r ≡ s
one_on before (of_entry.Show options) passed as_passed input v r s certain d h = d ∙ sym h
one_on before (of_entry.Json document) passed as_passed input v r s certain d h = absurd certain
one_on before (of_entry.Check which naming) passed as_passed input v r s certain d h = one_judgement which naming v passed as_passed r s d h
one_on before (of_entry.Lint options color) passed as_passed input v r s certain d h = absurd certain
one_on before (of_entry.Expand e) passed as_passed input v r s certain d h = one_due_for e.name.names e.name.name.now e.parameters.values e.padding e.output v r s d h
one_on before (of_entry.Get g) passed as_passed input v r s certain d h = one_got g passed as_passed v r s d h
one_on before (of_entry.Trace t) passed as_passed input v r s certain d h = absurd certain
one_on before (of_entry.Convert width) passed as_passed input v r s certain d h = one_encoding (in_width width v) r s d h

pub one_of : (before : List ℕ) (e : EntryAction) (passed as_passed : Bool) (input : List ℕ) (r s : Result (List ℕ) ToolFault)
    → IsOneOf e → IsDueOf before e passed input r → IsDueOf before e as_passed input s → r ≡ s
one_of before e passed as_passed input r s certain d h =
    one_from input (IsDueIn before e passed input) (IsDueIn before e as_passed input) (λ v p q a b. one_on before e passed as_passed input v p q certain a b) r s d h

pub one_answer : HasOneAnswer
one_answer (Capability c) input passed as_passed r s certain d h = one_output c.result c.parameters.values input certain r s d h
one_answer (Source c) input passed as_passed r s certain d h = one_for_text c.result c.parameters.values (text_in_source input) certain r s d h
one_answer (Difference e) input passed as_passed r s certain d h = elim d [ ]
one_answer (Entry e) input passed as_passed r s certain d h = one_of [] e passed as_passed input r s certain d h

-- ---- the faults of a call itself

on_entry_never : (e : EntryAction) (passed : Bool) (input : List ℕ) (v : EntryValue) → IsNeverOwn (IsDueIn [] e passed input v)
on_entry_never (of_entry.Show options) passed input v = record { no_write = λ gone d. cc; no_memory = λ d. cc }
on_entry_never (of_entry.Json document) passed input v = document_never document passed input v
on_entry_never (of_entry.Check which naming) passed input v = record { no_write = λ gone d. d; no_memory = λ d. d }
on_entry_never (of_entry.Lint options color) passed input v = record { no_write = λ gone d. d; no_memory = λ d. d }
on_entry_never (of_entry.Expand e) passed input v = record {
  no_write = λ gone (item, called, d). (text_never (option_and_then text_in item) e.parameters.values e.padding e.output).no_write gone d;
  no_memory = λ (item, called, d). (text_never (option_and_then text_in item) e.parameters.values e.padding e.output).no_memory d;
}
on_entry_never (of_entry.Convert width) passed input v = record { no_write = λ gone d. d; no_memory = λ d. d }
on_entry_never (of_entry.Get g) passed input v = record {
  no_write = λ gone (item, called, d). (fit_never g.name.now g.given item (IsValueResult item g passed) (value_never item g passed)).no_write gone d;
  no_memory = λ (item, called, d). (fit_never g.name.now g.given item (IsValueResult item g passed) (value_never item g passed)).no_memory d;
}
on_entry_never (of_entry.Trace t) passed input v = record {
  no_write = λ gone (item, called, d). (fit_never t.name.now t.given item (IsTracedValue item t) (traced_never item t)).no_write gone d;
  no_memory = λ (item, called, d). (fit_never t.name.now t.given item (IsTracedValue item t) (traced_never item t)).no_memory d;
}

-- of the bytes of an entry
pub entry_never : (e : EntryAction) (passed : Bool) (input : List ℕ) → IsNeverOwn (IsDueOf [] e passed input)
entry_never e passed input = record { no_write = writes; no_memory = takes }
  where
    writes : (gone : ℕ) → ¬ IsDueOf [] e passed input (Err (fault.Write gone))
    writes gone (inl (refused, is, same)) = absurd (cc)
    writes gone (inr (v, spells, d)) = (on_entry_never e passed input v).no_write gone d

    takes : ¬ IsDueOf [] e passed input (Err fault.Memory)
    takes (inl (refused, is, same)) = absurd (cc)
    takes (inr (v, spells, d)) = (on_entry_never e passed input v).no_memory d
