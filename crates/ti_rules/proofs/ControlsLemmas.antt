-- What is reported of what strings make a terminal do: if it is nothing, they keep to the table.
use Rattle.std.proofs.Common.{◌≡◌, ◌∙◌, ◌<◌, ◌≤◌, arith, ℕ, Bool, true, false, List, [], ◌∷◌, ◌++◌, ap, ap₂, cond, drop, filter, length, refl, subst, sym, take, true≢false}
use Rattle.std.specs.List.{AllByRecursion, flat_map}
use Rattle.std.specs.Prelude.{◌==◌, codes}
use Rattle.std.proofs.Math.Seq.{drop-append_seam, take-append_seam}
use Rattle.std.proofs.lemmas.List.{append-nil, take-append-drop}
use Rattle.ti_allow.specs.Harmless.{IsSilent}
use Rattle.ti_allow.specs.declared.effect.Effect.TheVariants.{Answer}
use Rattle.ti_words.specs.Texts.{TextValue}
use Rattle.ti_words.specs.Value.{EntryValue}
use Rattle.ti_rules.specs.Controls.{AreControlRemarks, AreControls, AreControlsBy, AreControlsOf, AreOnLooks, AreUnknownControls, HasNoControl, IsControl, KeepsToTable, Look, all_looks, bytes_of_known, bytes_of_unknown, folded, folded_by, folds, is_ecma_entry, looked_at, looked_count, looks_of, name_of_known, name_of_unknown, names_left, on_left, spaced, unknown_looks}
use Rattle.ti_lint.specs.declared.lint_options.LintOptions.{LintOptions}
use Rattle.ti_rules.specs.Findings.{is_control, is_harm}
use Rattle.ti_rules.specs.Lines.{AreAll}
use Rattle.ti_rules.specs.Own.{acting_finding, acting_of, on_acting, own_remarks}
use Rattle.ti_rules.specs.Remarks.{Count, OfEntry, Remark, unmarked}
use Rattle.ti_rules.specs.Reported.{harmful, reported}
use Rattle.ti_rules.specs.Reports.{AreRemarks, IsReport, OnlyTable}
use Rattle.ti_rules.specs.Values.{text_named}
use Rattle.ti_rules.specs.declared.finding.Finding.{Finding}
use Rattle.ti_rules.specs.declared.finding.Finding.TheVariants.{ComputedByte, Control, NotAllTried, NotEcma, NotFollowed, OpenLine, OpenString, CutString, UnknownFunction}
use Rattle.ti_rules.specs.inner.Growing.{Examined, Gains, Report}
use Rattle.ti_rules.proofs.HarmLemmas.{harm_is_reported}
use Rattle.ti_rules.specs.Subjects.{KnownText, UnknownText, known_texts, unknown_texts}

-- ---- lists

pub full : {X : Type 0} (xs : List X) (i : ℕ) → i < length xs → IsSilent xs → ⊥
full [] i within silent = absurd (omega arith)
full (x ∷ xs) i within silent = silent

pub empty : {X : Type 0} (xs : List X) → length xs ≤ 0 → IsSilent xs
empty [] none = tt
empty (x ∷ xs) none = absurd (omega arith)

silent_left : {X : Type 0} (xs ys : List X) → IsSilent (xs ++ ys) → IsSilent xs
silent_left [] ys h = tt
silent_left (x ∷ xs) ys h = h

silent_right : {X : Type 0} (xs ys : List X) → IsSilent (xs ++ ys) → IsSilent ys
silent_right [] ys h = h
silent_right (x ∷ xs) ys h = absurd h

both : {X : Type 0} (P : X → Type 0) (xs ys : List X) → AllByRecursion P xs → AllByRecursion P ys → AllByRecursion P (xs ++ ys)
both P [] ys p q = q
both P (x ∷ xs) ys p q = (p.0, both P xs ys p.1 q)

-- ---- what is reported of all

-- the remarks of the entry of a stranger are controls, and if there is none, these strings keep to the table
pub record Tells (looks : List Look) (remarks : List Remark) : Type 0 where
  pub controls : AllByRecursion IsControl remarks
  pub silent : IsSilent remarks → AllByRecursion KeepsToTable looks

tells : (looks : List Look) (remarks : List Remark) → AreOnLooks true looks remarks → Tells looks remarks
tells looks remarks on = record { controls = on.controls; silent = λ silent. on.silent refl silent }

-- what the rules of its own say of a string is a finding of harm
acting_is : (byte : ℕ) → is_control (acting_finding byte) ≡ true
acting_is byte = by (byte == 0x05)
  where
    by : (b : Bool) → is_control (cond b (Control Answer) UnknownFunction) ≡ true
    by true = refl
    by false = refl

acting_controls : (name text left : List ℕ) → AreControls (on_acting name text left)
acting_controls name text [] = tt
acting_controls name text (byte ∷ rest) = (acting_is byte, tt)

own_controls : (untrusted : Bool) (name text : List ℕ) → AreControls (own_remarks untrusted name text)
own_controls true name text = acting_controls name text (acting_of name text)
own_controls false name text = tt

tells_of : (end : TextValue) (t : KnownText) (remarks : List Remark) → AreControlsOf true end t remarks → Tells (looks_of true end t) remarks
tells_of end t remarks (one, more, on, own, joins) = record {
  controls = subst AreControls (sym joins) (both IsControl one more on.controls (subst AreControls (sym own) (own_controls true t.name t.text)));
  silent = λ silent. on.silent refl (silent_left one more (subst IsSilent joins silent));
}

tells_none : (remarks : List Remark) → remarks ≡ [] → Tells [] remarks
tells_none remarks none = record { controls = subst (AllByRecursion IsControl) (sym none) tt; silent = λ silent. tt }

tells_both : (ls ks : List Look) (one more remarks : List Remark) → Tells ls one → Tells ks more → remarks ≡ one ++ more → Tells (ls ++ ks) remarks
tells_both ls ks one more remarks p q joins = record {
  controls = subst (AllByRecursion IsControl) (sym joins) (both IsControl one more p.controls q.controls);
  silent = λ silent.
      let none = subst IsSilent joins silent in
      both KeepsToTable ls ks (p.silent (silent_left one more none)) (q.silent (silent_right one more none));
}

tells_all : {X : Type 0} (Are : X → List Remark → Type 0) (looks : X → List Look) → ((x : X) (remarks : List Remark) → Are x remarks → Tells (looks x) remarks)
    → (xs : List X) (remarks : List Remark) → AreAll Are xs remarks → Tells (flat_map looks xs) remarks
tells_all Are looks each [] remarks are = tells_none remarks are
tells_all Are looks each (x ∷ xs) remarks (one, more, is, rest, joins) =
    tells_both (looks x) (flat_map looks xs) one more remarks (each x one is) (tells_all Are looks each xs more rest) joins

-- ---- the part of a report

pub folded_gains : (old next last : Report) (untrusted is_ecma : Bool) (first : ℕ) → untrusted ≡ old.on.options.untrusted → is_ecma ≡ is_ecma_entry old.on.entry
    → first ≡ length old.remarks → Gains (AreControlsBy untrusted old.on.entry) old next → last.on ≡ next.on
    → last.remarks ≡ take first next.remarks ++ folded_by next.on.options is_ecma (drop first next.remarks)
    → Gains (AreControlRemarks old.on.options old.on.entry) old last
folded_gains old next last untrusted is_ecma first u e n (kept, (found, by, is)) on are =
    let options = old.on.options in
    let v : EntryValue = old.on.entry in
    let taken : take first next.remarks ≡ old.remarks = ap₂ take n is ∙ take-append_seam old.remarks found in
    let dropped : drop first next.remarks ≡ found = ap₂ drop n is ∙ drop-append_seam old.remarks found in
    let folding : folded_by next.on.options is_ecma (drop first next.remarks) ≡ folded options v found =
    ap (λ (x : Examined). folded_by x.options is_ecma (drop first next.remarks)) kept ∙ ap (folded_by options is_ecma) dropped ∙ ap (λ b. folded_by options b found) e in (
      on ∙ kept,
      (folded options v found, (found, subst (λ b. AreControlsBy b v found) u by, refl), are ∙ ap₂ (λ a b. a ++ b) taken folding),
    )

pub is_report : (options : LintOptions) (bytes : List ℕ) (v : EntryValue) (start all last : Report) (remarks : List Remark)
    → start ≡ record { on = record { bytes = bytes; entry = v; options = options }; remarks = [] } → Gains (AreRemarks start.on.bytes start.on.entry) start all
    → Gains (AreControlRemarks all.on.options all.on.entry) all last → remarks ≡ reported last.on.options.level last.remarks → IsReport options bytes v remarks
is_report options bytes v start all last remarks e (kept, (found, are, is)) (also, (controls, of, joins)) told =
    let at_start = ap (λ (r : Report). r.on) e in
    let at_all = kept ∙ at_start in
    let at_last = also ∙ at_all in (
      controls,
      subst (λ (on : Examined). AreControlRemarks on.options on.entry controls) at_all of,
      (
        found,
        subst (λ (on : Examined). AreRemarks on.bytes on.entry found) at_start are,
        told ∙ ap (λ (on : Examined). reported on.options.level last.remarks) at_last
            ∙ ap (reported options.level) (joins ∙ ap (λ l. l ++ controls) (is ∙ ap (λ (r : Report). r.remarks ++ found) e)),
      ),
    )

-- ---- nothing is left

no_names : {X : Type 0} (name_of : X → List ℕ) (xs : List X) → flat_map (spaced name_of) xs ≡ [] → xs ≡ []
no_names name_of [] e = refl
no_names name_of (x ∷ xs) e = absurd (cc)

all_taken : {X : Type 0} (n : ℕ) (xs : List X) → drop n xs ≡ [] → take n xs ≡ xs
all_taken n xs none = sym (append-nil (take n xs)) ∙ sym (ap (λ l. take n xs ++ l) none) ∙ take-append-drop n xs

first_none : {X : Type 0} (xs ys : List X) → xs ++ ys ≡ [] → xs ≡ []
first_none [] ys e = refl
first_none (x ∷ xs) ys e = absurd (cc)

last_none : {X : Type 0} (xs ys : List X) → xs ++ ys ≡ [] → ys ≡ []
last_none [] ys e = e
last_none (x ∷ xs) ys e = absurd (cc)

none_left : (untrusted : Bool) (names : List ℕ) → IsSilent (on_left untrusted names) → names ≡ []
none_left untrusted [] silent = refl
none_left untrusted (space ∷ names) silent = absurd silent

left_controls : (untrusted : Bool) (names : List ℕ) → AreControls (on_left untrusted names)
left_controls untrusted [] = tt
left_controls untrusted (space ∷ names) = (refl, tt)

-- ---- what is found of all strings of a stranger's entry

tells_by : (v : EntryValue) (found : List Remark) → AreControlsBy true v found → AreControls found × (IsSilent found → AllByRecursion KeepsToTable (all_looks v))
tells_by v found (one, rest, known, (two, three, unknown, are_left, last), joins) =
    let end = text_named v (codes "fsl") in
    let kn = known_texts v in
    let un = unknown_texts v in
    let first = tells_all (AreControlsOf true end) (looks_of true end) (tells_of end) (looked_at bytes_of_known kn) one known in
    let second = tells_all (AreUnknownControls true) (unknown_looks true) (λ u. tells (unknown_looks true u)) (looked_at bytes_of_unknown un) two unknown in (
      subst AreControls (sym joins)
          (both IsControl one rest first.controls (subst AreControls (sym last) (both IsControl two three second.controls (subst AreControls (sym are_left) (left_controls true (names_left v)))))),
      λ silent.
          let rest_silent = silent_right one rest (subst IsSilent joins silent) in
          let parts = subst IsSilent last rest_silent in
          let names = none_left true (names_left v) (subst IsSilent are_left (silent_right two three parts)) in
          let no_known = no_names name_of_known (drop (looked_count bytes_of_known kn) kn) (first_none _ _ names) in
          let no_unknown = no_names name_of_unknown (drop (looked_count bytes_of_unknown un) un) (last_none _ _ names) in
          let Known : List KnownText → Type 0 = λ ts. AllByRecursion KeepsToTable (flat_map (looks_of true end) ts) in
          let Unknown : List UnknownText → Type 0 = λ us. AllByRecursion KeepsToTable (flat_map (unknown_looks true) us) in
          both KeepsToTable (flat_map (looks_of true end) kn) (flat_map (unknown_looks true) un)
          (subst Known (all_taken (looked_count bytes_of_known kn) kn no_known) (first.silent (silent_left one rest (subst IsSilent joins silent))))
          (subst Unknown (all_taken (looked_count bytes_of_unknown un) un no_unknown) (second.silent (silent_left two three parts))),
    )

folded_tells : (b : Bool) (found one : List Remark) → AreControls one → (IsSilent one → ⊥) → AreControls found
    → AreControls (cond b one found) × (IsSilent (cond b one found) → IsSilent found)
folded_tells true found one are full also = (are, λ silent. absurd (full silent))
folded_tells false found one are full also = (also, λ silent. silent)

-- ---- and none of it is hidden

harm : (finding : Finding) → is_control finding ≡ true → is_harm finding ≡ true
harm (Control effect) e = refl
harm OpenLine e = refl
harm UnknownFunction e = refl
harm ComputedByte e = refl
harm OpenString e = refl
harm CutString e = refl
harm NotFollowed e = refl
harm NotEcma e = refl
harm NotAllTried e = refl
harm finding e = absurd (true≢false (sym e))

no_control_filtered : (p : Remark → Bool) (xs : List Remark) → HasNoControl xs → HasNoControl (filter p xs)
no_control_filtered p [] none = tt
no_control_filtered p (x ∷ xs) none = by (p x) (no_control_filtered p xs none.1)
  where
    by : (b : Bool) → HasNoControl (filter p xs) → HasNoControl (cond b (x ∷ filter p xs) (filter p xs))
    by true rest = (none.0, rest)
    by false rest = rest

-- of controls none is hidden, so if none is there, there were none
none_hidden : (xs controls : List Remark) → AreControls controls → HasNoControl (harmful (xs ++ controls)) → IsSilent controls
none_hidden [] [] are none = tt
none_hidden [] (c ∷ controls) are none = absurd (true≢false (sym are.0 ∙ (subst (λ b. HasNoControl (cond b (c ∷ harmful controls) (harmful controls))) (harm c.finding are.0) none).0))
none_hidden (x ∷ xs) controls are none = by (is_harm x.finding) (none_hidden xs controls are) none
  where
    by : (b : Bool) → (HasNoControl (harmful (xs ++ controls)) → IsSilent controls)
        → HasNoControl (cond b (x ∷ harmful (xs ++ controls)) (harmful (xs ++ controls))) → IsSilent controls
    by true rest h = rest h.1
    by false rest h = rest h

pub only_table : OnlyTable
only_table options bytes v remarks untrusted (controls, (found, by, folds_to), (others, are, told)) none =
    let tells = tells_by v found (subst (λ b. AreControlsBy b v found) untrusted by) in
    let one : List Remark = unmarked OfEntry NotEcma (Count (length found)) in
    let folding = folded_tells (folds options (is_ecma_entry v) (length found)) found one (refl, tt) (λ h. h) tells.0 in
    let all_controls = subst AreControls (sym folds_to) folding.0 in
    let kept : HasNoControl (harmful (others ++ controls)) =
    subst HasNoControl (ap harmful told ∙ harm_is_reported options.level (others ++ controls)) (no_control_filtered (λ r. is_harm r.finding) remarks none) in
    tells.1 (folding.1 (subst IsSilent folds_to (none_hidden others controls all_controls kept)))
