-- What `get` makes of a value, and that it is one result.
use Rattle.std.proofs.Common.{◌≡◌, ℕ, suc, ◌+◌, ◌<◌, ◌≤◌, true, List, [], ◌∷◌, ◌++◌, length, Ok, Err, Some, inl, inr, refl, sym, ap, ap₂, subst, ◌∙◌, arith, set, take, get_or, add-one}
use Rattle.ti_words.specs.Items.{TextItem}
use Rattle.std.specs.Prelude.{Result, IfOk, IfErr, MatchResult, slice_set}
use Rattle.std.proofs.Math.Seq.{take-suc}
use Rattle.std.proofs.lemmas.List.{length-take-le}
use Rattle.ti_base.specs.Limits.{most_padded_bytes}
use Rattle.ti_words.specs.Texts.{TextOf}
use Rattle.ti_cap.specs.Refusal.{IsFaultless}
use Rattle.ti_expand.specs.declared.values.Value.{Value}
use Rattle.ti_pad.specs.Setting.{Setting}
use Rattle.ti_pad.specs.Padded.{padded_text}
use Rattle.ti_line.specs.declared.given.Given.{Given}
use Rattle.ti_line.specs.declared.given.Param.{Param}
use Rattle.ti_line.specs.declared.given.Param.TheVariants as params
use Rattle.ti_line.specs.declared.options.Output.{Output}
use Rattle.ti_line.specs.declared.request.Get.{Get}
use Rattle.ti_line.specs.Options.{output_bytes}
use Rattle.ti_tool.specs.declared.fault.ToolFault.{ToolFault}
use Rattle.ti_tool.specs.declared.fault.ToolFault.TheVariants as fault
use Rattle.ti_tool.specs.Calls.{FailsAsDue, NeedsMemory}
use Rattle.ti_tool.specs.Expansions.{IsExpansion, IsPadded}
use Rattle.ti_tool.specs.Got.{AreTaken, AreTakenFrom, IsDueBy, IsPaddedAlone, IsTaken, IsTextResult, IsValueResult}
use Rattle.ti_tool.proofs.NeedsMemoryLemmas.{expandable, faultless_passes, padded_needs}

-- ---- parameters

-- one value more
pub taken_next : (capability : List ℕ) (from : ℕ) (params : List Param) (param : Param) (values : List Value) (value : Value) → AreTakenFrom capability from params values → length params < length values
    → IsTaken capability (from + length params) param value → AreTakenFrom capability from (params ++ param ∷ []) (set values (length params) value)
taken_next capability from [] param [] value are h is = absurd (omega arith)
taken_next capability from [] param (v ∷ vs) value are h is =
    let P : ℕ → Type 0 = λ n. IsTaken capability n param value in
    (subst P (omega arith) is, tt)
taken_next capability from (p ∷ ps) param [] value are h is = absurd are
taken_next capability from (p ∷ ps) param (v ∷ vs) value are h is =
    let P : ℕ → Type 0 = λ n. IsTaken capability n param value in
    (are.0, taken_next capability (suc from) ps param vs value are.1 (omega arith) (subst P (omega arith) is))

pub taken_more : (capability : List ℕ) (params : List Param) (i : ℕ) (d : Param) (values : List Value) (value : Value) → i < length params → length values ≡ length params
    → AreTakenFrom capability 1 (take i params) values → IsTaken capability (i + 1) (get_or params i d) value → AreTakenFrom capability 1 (take (i + 1) params) (slice_set values i value)
taken_more capability params i d values value h same are is =
    let n : length (take i params) ≡ i = length-take-le i params (omega arith) in
    let e : take (i + 1) params ≡ take i params ++ get_or params i d ∷ [] = ap (λ x. take x params) (add-one i) ∙ take-suc params i d h in
    let P : List Param → Type 0 = λ x. AreTakenFrom capability 1 x (slice_set values i value) in
    let Q : ℕ → Type 0 = λ x. AreTakenFrom capability 1 (take i params ++ get_or params i d ∷ []) (slice_set values x value) in
    let R : ℕ → Type 0 = λ x. IsTaken capability x (get_or params i d) value in
    subst P (sym e) (subst Q n (taken_next capability 1 (take i params) (get_or params i d) values value are (omega arith) (subst R (omega arith) is)))

taken_once : (capability : List ℕ) (which : ℕ) (param : Param) (a b : Value) → IsTaken capability which param a → IsTaken capability which param b → a ≡ b
taken_once capability which (params.Value taken) a b p q = p ∙ sym q
taken_once capability which (params.Word t) a b p q = p ∙ sym q
taken_once capability which (params.Either z t) a b (inl (text, p)) (inl (also, q)) = p ∙ sym q
taken_once capability which (params.Either z t) a b (inl (text, p)) (inr (none, q)) = absurd (none text)
taken_once capability which (params.Either z t) a b (inr (none, p)) (inl (text, q)) = absurd (none text)
taken_once capability which (params.Either z t) a b (inr (none, p)) (inr (neither, q)) = p ∙ sym q

taken_alike : (capability : List ℕ) (from : ℕ) (ps : List Param) (us vs : List Value) → length us ≡ length ps → length vs ≡ length ps → AreTakenFrom capability from ps us → AreTakenFrom capability from ps vs → us ≡ vs
taken_alike capability from [] [] [] m n p q = refl
taken_alike capability from [] (a ∷ us) vs m n p q = absurd (omega arith)
taken_alike capability from [] [] (b ∷ vs) m n p q = absurd (omega arith)
taken_alike capability from (x ∷ xs) [] vs m n p q = absurd p
taken_alike capability from (x ∷ xs) (a ∷ us) [] m n p q = absurd q
taken_alike capability from (x ∷ xs) (a ∷ us) (b ∷ vs) m n p q =
    ap₂ (λ y ys. y ∷ ys) (taken_once capability from x a b p.0 q.0) (taken_alike capability (suc from) xs us vs (omega arith) (omega arith) p.1 q.1)

pub one_taken : (capability : List ℕ) (ps : List Param) (us vs : List Value) → AreTaken capability ps us → AreTaken capability ps vs → us ≡ vs
one_taken capability ps us vs (m, p) (n, q) = taken_alike capability 1 ps us vs m n p q

-- ---- what needs memory

pub alone_needs : (text : List ℕ) (setting : Setting) (output : Output) → NeedsMemory (IsPaddedAlone text setting output)
alone_needs text setting output (fault.TooMuch need) d = tt
alone_needs text setting output (fault.Entry refused) d = absurd d
alone_needs text setting output (fault.Encode unfit) d = tt
alone_needs text setting output (fault.Cap refused) d = absurd d
alone_needs text setting output (fault.Source refused) d = absurd d
alone_needs text setting output fault.NoSuchText d = absurd d
alone_needs text setting output fault.NoSuchName d = absurd d
alone_needs text setting output fault.HasName d = absurd d
alone_needs text setting output (fault.OnlyNumbers which) d = absurd d
alone_needs text setting output (fault.TextTooLong k) d = absurd d
alone_needs text setting output fault.Read d = absurd d
alone_needs text setting output (fault.Write gone) d = absurd d
alone_needs text setting output fault.Memory d = absurd d

-- a padded text in the form that is asked for, or out of memory
pub alone_of : {V : Type 0} (r : Result V ToolFault) (bytes_of : V → List ℕ) (text : List ℕ) (setting : Setting) (output : Output) (padded : List ℕ) → padded ≡ padded_text text setting
    → length (padded_text text setting) ≤ most_padded_bytes → IfOk r (λ v. bytes_of v ≡ output_bytes output padded) → IfErr r (λ e. e ≡ fault.Memory)
    → MatchResult r (λ v. IsPaddedAlone text setting output (Ok (bytes_of v))) (FailsAsDue (IsPaddedAlone text setting output))
alone_of (Ok v) bytes_of text setting output padded e short is fails = (short, is ∙ ap (output_bytes output) e)
alone_of (Err f) bytes_of text setting output padded e short is fails = inl (fails, alone_needs text setting output)

-- what is due for an expansion as it stands is due for the text
alone_due : (text : List ℕ) (parameters : List Value) (setting : Setting) (output : Output) (plain : List ℕ) (e : ToolFault) → IsFaultless text → IsExpansion text parameters plain
    → IsPaddedAlone plain setting output (Err e) → IsPadded text parameters setting output (Err e)
alone_due text parameters setting output plain (fault.TooMuch need) passed p d = (plain, passed, p, d.0, d.1)
alone_due text parameters setting output plain (fault.Entry refused) passed p d = absurd d
alone_due text parameters setting output plain (fault.Encode unfit) passed p d = absurd d
alone_due text parameters setting output plain (fault.Cap refused) passed p d = absurd d
alone_due text parameters setting output plain (fault.Source refused) passed p d = absurd d
alone_due text parameters setting output plain fault.NoSuchText passed p d = absurd d
alone_due text parameters setting output plain fault.NoSuchName passed p d = absurd d
alone_due text parameters setting output plain fault.HasName passed p d = absurd d
alone_due text parameters setting output plain (fault.OnlyNumbers which) passed p d = absurd d
alone_due text parameters setting output plain (fault.TextTooLong k) passed p d = absurd d
alone_due text parameters setting output plain fault.Read passed p d = absurd d
alone_due text parameters setting output plain (fault.Write gone) passed p d = absurd d
alone_due text parameters setting output plain fault.Memory passed p d = absurd d

pub expanded_of : {V : Type 0} (r : Result V ToolFault) (bytes_of : V → List ℕ) (text : List ℕ) (parameters : List Value) (setting : Setting) (output : Output) (plain : List ℕ) → IsFaultless text → IsExpansion text parameters plain
    → MatchResult r (λ v. IsPaddedAlone plain setting output (Ok (bytes_of v))) (FailsAsDue (IsPaddedAlone plain setting output))
    → MatchResult r (λ v. IsPadded text parameters setting output (Ok (bytes_of v))) (FailsAsDue (IsPadded text parameters setting output))
expanded_of (Ok v) bytes_of text parameters setting output plain passed p h = (plain, passed, p, h.0, h.1)
expanded_of (Err e) bytes_of text parameters setting output plain passed p (inl (is, needs)) = inl (is, padded_needs text parameters setting output (expandable text parameters passed p.short))
expanded_of (Err e) bytes_of text parameters setting output plain passed p (inr d) = inr (alone_due text parameters setting output plain e passed p d)

-- ---- a text with parameters

module _ (text : List ℕ) (given : Given) (due : List Value → Result (List ℕ) ToolFault → Type 0) where
  by_needs : (parameters : List Value) → IsFaultless text → AreTaken text given.params parameters → NeedsMemory (due parameters) → NeedsMemory (IsDueBy text given due)
  by_needs parameters passed are needs e (inl (refused, why, is)) = absurd (faultless_passes text refused passed why)
  by_needs parameters passed are needs e (inr (again, (others, also, d))) = needs e (subst (λ ps. due ps (Err e)) (one_taken text given.params others parameters also are) d)

  pub given_of : {V : Type 0} (r : Result V ToolFault) (bytes_of : V → List ℕ) (parameters : List Value) → IsFaultless text → AreTaken text given.params parameters
      → MatchResult r (λ v. due parameters (Ok (bytes_of v))) (FailsAsDue (due parameters))
      → MatchResult r (λ v. IsDueBy text given due (Ok (bytes_of v))) (FailsAsDue (IsDueBy text given due))
  given_of (Ok v) bytes_of parameters passed are h = inr (passed, (parameters, are, h))
  given_of (Err e) bytes_of parameters passed are (inl (is, needs)) = inl (is, by_needs parameters passed are needs)
  given_of (Err e) bytes_of parameters passed are (inr d) = inr (inr (passed, (parameters, are, d)))

-- ---- a value

-- a text fails as it is due
pub text_fails : (g : Get) (text : List ℕ) (e : ToolFault) → FailsAsDue (IsTextResult text g.given g.padding g.output) e → FailsAsDue (IsValueResult (Some (TextItem (TextOf text))) g true) e
text_fails g text e (inl (is, needs)) = inl (is, λ f d. needs f d.1)
text_fails g text e (inr d) = inr (refl, d)
