-- An entry has one report.
use Rattle.std.proofs.Common.{◌≡◌, ◌∙◌, ◌⊎◌, ◌↔◌, ◌++◌, ℕ, suc, Bool, true, false, List, [], ◌∷◌, Option, Some, None, ap, ap₂, arith, inl, inr, map, refl, subst, sym, take}
use Rattle.std.specs.Prelude.{codes}
use Rattle.ti_cap.specs.declared.language.CapRefused.{CapRefused}
use Rattle.ti_cap.specs.Refusal.{IsFaultless, IsRefusal}
use Rattle.ti_cap.proofs.OneRefusalLemmas.{one_refusal}
use Rattle.ti_lint.specs.declared.token_finding.TokenFinding.{TokenFinding}
use Rattle.ti_lint.specs.declared.placed_finding.PlacedFinding.{PlacedFinding}
use Rattle.ti_lint.specs.declared.variables.Variables.{Variables}
use Rattle.ti_lint.proofs.OneFoundLemmas.{one_found}
use Rattle.ti_lint.proofs.OneSetLemmas.{one_parameter_set, one_variables}
use Rattle.ti_names.specs.declared.class.Class.{Class}
use Rattle.ti_names.specs.declared.class.Class.TheVariants as classes
use Rattle.ti_values.specs.declared.range.Range.{Range}
use Rattle.ti_values.specs.declared.range.Range.TheVariants as ranges
use Rattle.ti_values.specs.declared.axes.Axes.{Axes}
use Rattle.ti_values.specs.declared.axes.Axes.TheVariants.{Both, Line, Column, Lines}
use Rattle.ti_values.specs.declared.tried.Tried.{Tried}
use Rattle.ti_values.specs.declared.tried.Tried.TheVariants.{Number}
use Rattle.ti_values.specs.Ranges.{parameters_of, values}
use Rattle.ti_values.specs.Sent.{AreSent}
use Rattle.ti_control.specs.Capabilities.{is_sent}
use Rattle.ti_values.proofs.OneSentLemmas.{one_first_of, one_first_same, one_sends, one_sent}
use Rattle.ti_words.specs.Texts.{AbsentText, CancelledText, TextOf, TextValue}
use Rattle.ti_words.specs.Value.{EntryValue, NamedPart}
use Rattle.ti_rules.specs.declared.marks.Sought.{Sought}
use Rattle.ti_rules.specs.declared.marks.Sought.TheVariants.{FalseMark, Mark, Percents}
use Rattle.ti_rules.specs.declared.usage.Usage.{Usage}
use Rattle.ti_rules.specs.declared.finding.Finding.{Finding}
use Rattle.ti_rules.specs.declared.finding.Finding.TheVariants as findings
use Rattle.ti_rules.specs.Actions.{action_remarks}
use Rattle.ti_rules.specs.Controls.{bytes_of_known, bytes_of_unknown, looked_at}
use Rattle.ti_rules.specs.Crashes.{AreDivisionRemarks, AreDivisionsIf, AreDivisionsIn, AreDivisionsOf, AreUnknownDivisions, range_in, rows_of}
use Rattle.ti_rules.specs.Keys.{AreKeyRemarks, entry_keys}
use Rattle.ti_rules.specs.Lines.{AreAll, AreReports, InTurn}
use Rattle.ti_rules.specs.NameBytes.{AreAliases, IsRepeatedReport, parted, AreNameByteRemarks, IsAliasReport, IsOwnNameReport, IsUtf8Report, alias_remarks, long_names, on_names}
use Rattle.ti_rules.specs.Marks.{first_place}
use Rattle.ti_control.specs.Entries.{starts_control}
use Rattle.ti_words.specs.Spelling.{part_names}
use Rattle.ti_rules.proofs.CrashesLemmas.{one_crashes}
use Rattle.ti_rules.proofs.NameBytesLemmas.{one_end}
use Rattle.ti_rules.specs.Names.{AreNameRemarks, IsNameReport}
use Rattle.ti_rules.specs.declared.names.NameKind.TheVariants.{Alias}
use Rattle.ti_rules.specs.Remarks.{Evidence, NoEvidence, Remark, TextRemark, placed, with_name}
use Rattle.ti_rules.specs.Reports.{AreRemarks, AreTextRemarks, HasOneReport, IsTextReport}
use Rattle.ti_rules.specs.Origins.{AreOriginRemarks, AreOriginsBeside, AreOriginsIn, AreOriginsOf, IsOriginOf, IsOriginReport, IsSentAtOrigin, IsSentIfShort, Motion, origin_remarks}
use Rattle.ti_rules.specs.Pairs.{all_pair_remarks}
use Rattle.ti_rules.specs.Reported.{reported}
use Rattle.ti_rules.specs.Sequences.{AreSequenceRemarks, IsSequenceIn, IsSequenceOf}
use Rattle.ti_rules.specs.Subjects.{KnownText, known_texts, unknown_texts}
use Rattle.ti_rules.specs.Texts.{IsCapabilityReport, IsEscapeReport, IsFindingReport, IsFindingsReport, IsJudged, IsJudgedAs, IsKeyReport, IsPercentReport, IsPlacesReport, IsPlainReport, IsUnusedReport, all_findings, empty_key, evidence_of, expected_in, unused_remarks, usage_of}
use Rattle.ti_rules.specs.Values.{AreAttributesRemarks, AreNumbersRemarks, AreValueRemarks, IsNamedTriedReport, IsNumbersReport, IsRangeReport, IsShortReport, IsRemarkOf, IsTriedReport, IsTriedReportOf, IsUnendedReport, Trial, is_ansi_entry, remark_of, sent_evidence, text_named, unended_finding}
use Rattle.ti_rules.specs.Whole.{whole_remarks}
use Rattle.ti_rules.proofs.OneKeysLemmas.{one_keys}
use Rattle.ti_rules.proofs.OnePlacesLemmas.{one_marked, one_places_from, one_places_of, one_tests}

-- at most one list is so
abbrev IsOne : {Y : Type 0} → (List Y → Type 0) → Type 0
IsOne {Y} Are = (one other : List Y) → Are one → Are other → one ≡ other

-- what decides the same is decided alike
both_ways : {A B C : Type 0} → A ↔ C → B ↔ C → A ↔ B
both_ways p q = ((λ a. q.1 (p.0 a)), (λ b. p.1 (q.0 b)))

-- ---- of items in order

in_turn : {Y : Type 0} (Are AreMore : List Y → Type 0) → IsOne Are → IsOne AreMore → IsOne (InTurn Are AreMore)
in_turn Are AreMore first then r s (a, x, is, more, e) (b, y, too, other, f) = e ∙ ap₂ (λ u w. u ++ w) (first a b is too) (then x y more other) ∙ sym f

all : {X Y : Type 0} (L : X → List Y → Type 0) → ((x : X) → IsOne (L x)) → (xs : List X) → IsOne (AreAll L xs)
all L each [] r s d h = d ∙ sym h
all L each (x ∷ xs) r s (a, u, is, are, e) (b, w, too, also, f) = e ∙ ap₂ (λ p q. p ++ q) (each x a b is too) (all L each xs u w are also) ∙ sym f

reports : {X Y : Type 0} (L : ℕ → X → List Y → Type 0) → ((i : ℕ) (x : X) → IsOne (L i x)) → (i : ℕ) (xs : List X) → IsOne (AreReports L i xs)
reports L each i [] r s d h = d ∙ sym h
reports L each i (x ∷ xs) r s (a, u, is, are, e) (b, w, too, also, f) = e ∙ ap₂ (λ p q. p ++ q) (each i x a b is too) (reports L each (suc i) xs u w are also) ∙ sym f

-- it is so, or it is not
either : {Y : Type 0} (Holds : Type 0) (these those : List Y) → IsOne (λ r. (Holds × (r ≡ these)) ⊎ ((¬ Holds) × (r ≡ those)))
either Holds these those r s (inl a) (inl b) = a.1 ∙ sym b.1
either Holds these those r s (inl a) (inr b) = absurd (b.0 a.0)
either Holds these those r s (inr a) (inl b) = absurd (a.0 b.0)
either Holds these those r s (inr a) (inr b) = a.1 ∙ sym b.1

-- ---- texts

-- what has no fault is not refused
pub passes : (text : List ℕ) (refused : CapRefused) → IsFaultless text → ¬ IsRefusal text refused
passes text refused sound (inl (long, is)) = let short = sound.0 in absurd (omega arith)
passes text refused sound (inr (short, has, below)) = sound.1 refused.fault refused.place has

refused_or : {Y : Type 0} (text : List ℕ) (of : CapRefused → List Y) (Are : List Y → Type 0) → IsOne Are
    → IsOne (λ r. ((refused : CapRefused) × IsRefusal text refused × (r ≡ of refused)) ⊎ (IsFaultless text × Are r))
refused_or text of Are one r s (inl (a, why, e)) (inl (b, because, f)) = e ∙ ap of (one_refusal a b text why because) ∙ sym f
refused_or text of Are one r s (inl (a, why, e)) (inr (sound, is)) = absurd (passes text a sound why)
refused_or text of Are one r s (inr (sound, is)) (inl (b, because, f)) = absurd (passes text b sound because)
refused_or text of Are one r s (inr (sound, is)) (inr (again, too)) = one r s is too

one_finding : (text : List ℕ) (parameters : ℕ) (founds : List PlacedFinding) (i : ℕ) (finding : TokenFinding) → IsOne (IsFindingReport text parameters founds i finding)
one_finding text parameters founds i finding r s (inl a) (inl b) = one_tests text r s a.1 b.1
one_finding text parameters founds i finding r s (inl a) (inr b) = absurd (b.0 a.0)
one_finding text parameters founds i finding r s (inr a) (inl b) = absurd (a.0 b.0)
one_finding text parameters founds i finding r s (inr (other, ps, are, e)) (inr (too, qs, also, f)) =
    e ∙ ap (λ places. placed places (findings.Token finding) (evidence_of finding parameters)) (one_places_of finding founds ps qs are also) ∙ sym f

one_unused : (usage : Usage) (text : List ℕ) (parameters : ℕ) (founds : List PlacedFinding) → IsOne (IsUnusedReport usage text parameters founds)
one_unused usage text parameters founds r s (set, ps, are, places, e) (other, qs, also, too, f) =
    e ∙ ap₂ (λ x ys. unused_remarks usage x ys) (one_parameter_set set other (λ which. both_ways (are which) (also which))) (one_places_of _ founds ps qs places too) ∙ sym f

findings_once : (usage : Usage) (parameters : ℕ) (text : List ℕ) → IsOne (IsFindingsReport usage parameters text)
findings_once usage parameters text r s (founds, are, d) (others, also, h) =
    let L : List PlacedFinding → List TextRemark → Type 0 = λ list. InTurn (AreReports (IsFindingReport text parameters list) 0 all_findings) (IsUnusedReport usage text parameters list) in
    in_turn _ _ (reports _ (one_finding text parameters founds) 0 all_findings) (one_unused usage text parameters founds) r s d
    (subst (λ list. L list s) (one_found text (expected_in usage parameters) others founds also.exact also.order are.exact are.order) h)

one_capability : (usage : Usage) (parameters : ℕ) (text : List ℕ) → IsOne (IsCapabilityReport usage parameters text)
one_capability usage parameters text = refused_or text _ _ (findings_once usage parameters text)

one_at : (sought : Sought) (finding : Finding) (text : List ℕ) → IsOne (IsPlacesReport sought finding text)
one_at sought finding text r s (ps, are, e) (qs, also, f) = e ∙ ap (λ places. placed places finding NoEvidence) (one_places_from _ 0 ps qs are also) ∙ sym f

one_escapes : (text : List ℕ) → IsOne (IsEscapeReport text)
one_escapes text r s (ps, are, e) (qs, also, f) =
    e ∙ ap (λ places. placed places findings.UninterpretedEscape NoEvidence) (refused_or text (λ refused. []) _ (one_marked _ text) ps qs are also) ∙ sym f

one_percent : (text : List ℕ) → IsOne (IsPercentReport text)
one_percent text = one_at Percents findings.UninterpretedPercent text

one_plain : (text : List ℕ) → IsOne (IsPlainReport text)
one_plain text =
    in_turn (IsEscapeReport text) _ (one_escapes text) (in_turn (IsPercentReport text) _ (one_percent text) (one_at FalseMark findings.FalseMark text))

one_key : (text : List ℕ) → IsOne (IsKeyReport text)
one_key text =
    in_turn (λ all. all ≡ empty_key text) _ (λ x y p q. p ∙ sym q) (in_turn (IsPercentReport text) _ (one_percent text) (one_at Mark findings.MarkInKey text))

one_as : (class : Class) (usage : Usage) (text : List ℕ) → IsOne (IsJudgedAs class usage text)
one_as (classes.Parameterized parameters) usage text = in_turn _ _ (one_capability usage parameters text) (λ x y p q. p ∙ sym q)
one_as classes.Plain usage text = in_turn _ _ (one_plain text) (λ x y p q. p ∙ sym q)
one_as classes.Key usage text = one_key text
one_as classes.List usage text = λ r s d h. d ∙ sym h
one_as class usage text = λ r s d h. d ∙ sym h

pub one_judgement : (usage : Usage) (text : List ℕ) → IsOne (IsJudged usage text)
one_judgement usage text = one_as usage.class usage text

one_text : (stored : Variables) (t : KnownText) → IsOne (IsTextReport stored t)
one_text stored t r s (judgement, is, e) (other, too, f) =
    e ∙ ap (map (with_name t.name t.text)) (one_judgement (usage_of stored t.name t.class) t.text judgement other is too) ∙ sym f

-- ---- texts by their values

one_remark : {X : Type 0} (IsFound : Option X → Type 0) (finding : Finding) (evidence : X → Evidence) (t : Trial) → ((a b : Option X) → IsFound a → IsFound b → a ≡ b) → IsOne (IsRemarkOf IsFound finding evidence t)
one_remark IsFound finding evidence t once r s (a, found, e) (b, also, f) = e ∙ ap (remark_of t finding evidence) (once a b found also) ∙ sym f

one_unended : (ansi : Bool) (t : Trial) → IsOne (IsUnendedReport ansi t)
one_unended false t r s d h = d ∙ sym h
one_unended true t r s (a, found, e) (b, also, f) =
    e ∙ ap (λ k. remark_of t (unended_finding t k) (sent_evidence t) k) (one_first_of _ a b found also) ∙ sym f

one_of_numbers : (ansi : Bool) (t : Trial) → IsOne (AreNumbersRemarks ansi t)
one_of_numbers ansi t =
    in_turn _ _ (one_remark _ _ _ t (one_first_of _)) (in_turn _ _ (one_remark _ _ _ t (one_first_same t.sent)) (in_turn _ _ (one_remark _ _ _ t (one_first_of _)) (one_unended ansi t)))

one_of_attributes : (v : EntryValue) (t : Trial) → IsOne (AreAttributesRemarks v t)
one_of_attributes v t =
    in_turn _ _ (λ r s d h. d ∙ sym h) (in_turn _ _ (λ r s d h. d ∙ sym h) (in_turn _ _ (one_remark _ _ _ t (one_first_of _))
    (in_turn _ _ (one_remark _ _ _ t (one_first_of _)) (one_unended (is_ansi_entry v) t))))

-- what is sent is one
one_by_sent : (text : List ℕ) (tried : List Tried) (Are : List (List ℕ) → List Remark → Type 0) → ((sent : List (List ℕ)) → IsOne (Are sent)) → IsOne (λ r. (sent : List (List ℕ)) × AreSent text tried sent × Are sent r)
one_by_sent text tried Are once r s (a, sent, is) (b, also, too) = once a r s is (subst (λ x. Are x s) (one_sent text tried b a also sent) too)

abbrev trial : List ℕ → List ℕ → Range → List (List ℕ) → Trial
trial name text range sent = record { name = name; text = text; tried = values range; sent = sent }

one_numbers : (ansi : Bool) (name text : List ℕ) (range : Range) → IsOne (IsNumbersReport ansi name text range)
one_numbers ansi name text range = one_by_sent text (values range) (λ sent. AreNumbersRemarks ansi (trial name text range sent)) (λ sent. one_of_numbers ansi (trial name text range sent))

one_range : (v : EntryValue) (name text : List ℕ) (range : Range) → IsOne (IsRangeReport v name text range)
one_range v name text ranges.Attributes =
    one_by_sent text (values ranges.Attributes) (λ sent. AreAttributesRemarks v (trial name text ranges.Attributes sent)) (λ sent. one_of_attributes v (trial name text ranges.Attributes sent))
one_range v name text (ranges.Numbers from end) = one_numbers (is_ansi_entry v) name text (ranges.Numbers from end)
one_range v name text (ranges.Places lines columns) = one_numbers (is_ansi_entry v) name text (ranges.Places lines columns)
one_range v name text (ranges.Regions lines) = one_numbers (is_ansi_entry v) name text (ranges.Regions lines)

one_short : (v : EntryValue) (name text : List ℕ) (range : Range) → IsOne (IsShortReport v name text range)
one_short v name text range r s (inl a) (inl b) = a.1 ∙ sym b.1
one_short v name text range r s (inl a) (inr b) = absurd (a.0 b.0)
one_short v name text range r s (inr a) (inl b) = absurd (b.0 a.0)
one_short v name text range r s (inr a) (inr b) = one_range v name text range r s a.1 b.1

one_tried : (v : EntryValue) (name text : List ℕ) (range : Range) → IsOne (IsTriedReport v name text range)
one_tried v name text range = refused_or text (λ refused. []) _ (one_short v name text range)

one_tried_of : (v : EntryValue) (name : List ℕ) (text : TextValue) (range : Range) → IsOne (IsTriedReportOf v name text range)
one_tried_of v name (TextOf text) range = one_tried v name text range
one_tried_of v name AbsentText range = λ r s d h. d ∙ sym h
one_tried_of v name CancelledText range = λ r s d h. d ∙ sym h

one_named : (v : EntryValue) (i : ℕ) (row : List ℕ × Range) → IsOne (IsNamedTriedReport v i row)
one_named v i (name, range) = one_tried_of v name (text_named v name) range

one_of_values : (v : EntryValue) → IsOne (AreValueRemarks v)
one_of_values v = reports _ (one_named v) 0 _

-- ---- control sequences, pairs and names

one_sequence : (ansi standard : Bool) (class : Class) (name text : List ℕ) → IsOne (IsSequenceIn ansi standard class name text)
one_sequence true true classes.Plain name text = either _ _ _
one_sequence ansi standard class name text = λ r s d h. d ∙ sym h

one_sequences : (v : EntryValue) → IsOne (AreSequenceRemarks v)
one_sequences v = all (IsSequenceOf (is_ansi_entry v)) (λ t. one_sequence _ t.standard t.class t.name t.text) (known_texts v)

one_names : (part : NamedPart) → IsOne (AreNameRemarks part)
one_names part = reports _ (λ i name. either _ _ _) 0 _

one_aliases : (names : List ℕ) → IsOne (IsAliasReport names)
one_aliases names r s (aliases, (end, is, a), e) (others, (other, too, b), f) =
    e ∙ ap (alias_remarks names) (a ∙ ap (λ n. take n names) (one_end names end other is too) ∙ sym b) ∙ sym f

same_aliases : (names aliases others : List ℕ) → AreAliases names aliases → AreAliases names others → aliases ≡ others
same_aliases names aliases others (end, is, a) (other, too, b) = a ∙ ap (λ n. take n names) (one_end names end other is too) ∙ sym b

one_repeated : (names : List ℕ) → IsOne (IsRepeatedReport names)
one_repeated names r s (aliases, are, told) (others, also, too) =
    let P : List ℕ → Type 0 = λ l. AreReports (IsNameReport Alias (parted [] l)) 0 (parted [] l) s in
    reports (IsNameReport Alias (parted [] aliases)) (λ i name. either _ _ _) 0 (parted [] aliases) r s told (subst P (same_aliases names others aliases also are) too)

-- ---- motions beside `cup`

one_if_short : (text : List ℕ) (one other : Option (List ℕ)) → IsSentIfShort text one → IsSentIfShort text other → one ≡ other
one_if_short text None None p q = refl
one_if_short text None (Some sent) p q = absurd (p q.0)
one_if_short text (Some sent) None p q = absurd (q p.0)
one_if_short text (Some sent) (Some other) p q = ap (λ x. Some x) (one_sends text (parameters_of (Number 0)) sent other p.1 q.1)

one_at_origin : (text : List ℕ) (one other : Option (List ℕ)) → IsSentAtOrigin text one → IsSentAtOrigin text other → one ≡ other
one_at_origin text one other (inl (a, why, e)) (inl (b, because, f)) = e ∙ sym f
one_at_origin text one other (inl (a, why, e)) (inr (sound, is)) = absurd (passes text a sound why)
one_at_origin text one other (inr (sound, is)) (inl (b, because, f)) = absurd (passes text b sound because)
one_at_origin text one other (inr (sound, is)) (inr (again, too)) = one_if_short text one other is too

one_origin_of : (cup : Motion) (name : List ℕ) (axes : Axes) (text : TextValue) → IsOne (IsOriginOf cup name axes text)
one_origin_of cup name axes (TextOf text) r s (a, is, e) (b, too, f) = e ∙ ap (origin_remarks cup name text axes) (one_at_origin text a b is too) ∙ sym f
one_origin_of cup name axes AbsentText r s d h = d ∙ sym h
one_origin_of cup name axes CancelledText r s d h = d ∙ sym h

one_origin : (v : EntryValue) (cup : Motion) (row : List ℕ × Axes) → IsOne (IsOriginReport v cup row)
one_origin v cup (name, axes) = one_origin_of cup name axes (text_named v name)

one_beside : (v : EntryValue) (cup : Motion) → IsOne (AreOriginsBeside v cup)
one_beside v cup =
    in_turn _ _ (one_origin v cup (codes "home", Both)) (in_turn _ _ (one_origin v cup (codes "vpa", Line))
    (in_turn _ _ (one_origin v cup (codes "hpa", Column)) (one_origin v cup (codes "csr", Lines))))

one_origins_of : (v : EntryValue) (text : List ℕ) (sent : Option (List ℕ)) → IsOne (AreOriginsOf v text sent)
one_origins_of v text None = λ r s d h. d ∙ sym h
one_origins_of v text (Some sent) = one_beside v (record { name = codes "cup"; text = text; sent = sent })

one_origins_in : (v : EntryValue) (text : TextValue) → IsOne (AreOriginsIn v text)
one_origins_in v (TextOf text) r s (a, is, d) (b, too, h) =
    one_origins_of v text a r s d (subst (λ x. AreOriginsOf v text x s) (one_at_origin text b a too is) h)
one_origins_in v AbsentText r s d h = d ∙ sym h
one_origins_in v CancelledText r s d h = d ∙ sym h

-- ---- divisions

one_divisions_if : (range : Option Range) (name text : List ℕ) → IsOne (AreDivisionsIf range name text)
one_divisions_if range name text = refused_or text (λ refused. []) _ (one_crashes range name text)

one_divisions_in : (sent : Bool) (rows : List (List ℕ × Range)) (class : Class) (name text : List ℕ) → IsOne (AreDivisionsIn sent rows class name text)
one_divisions_in true rows (classes.Parameterized parameters) name text = one_divisions_if (range_in rows name) name text
one_divisions_in sent rows class name text = λ x y p q. p ∙ sym q

one_divisions : (v : EntryValue) → IsOne (AreDivisionRemarks v)
one_divisions v =
    let known = looked_at bytes_of_known (known_texts v) in
    let unknown = looked_at bytes_of_unknown (unknown_texts v) in
    in_turn (AreAll (AreDivisionsOf (rows_of v)) known) _
    (all (AreDivisionsOf (rows_of v)) (λ k. one_divisions_in (is_sent k.name) (rows_of v) k.class k.name k.text) known)
    (all AreUnknownDivisions (λ u. one_divisions_if None u.name u.text) unknown)

-- ---- an entry

one_of_texts : (v : EntryValue) → IsOne (AreTextRemarks v)
one_of_texts v r s (stored, are, d) (other, also, h) =
    let Texts : Variables → List Remark → Type 0 = λ variables. AreAll (IsTextReport variables) (known_texts v) in
    all (IsTextReport stored) (one_text stored) (known_texts v) r s d
    (subst (λ variables. Texts variables s) (one_variables other stored also.0 are.0 (λ which. both_ways (also.1 which) (are.1 which))) h)

one_bytes : (v : EntryValue) → IsOne (AreNameByteRemarks v)
one_bytes v =
    in_turn (λ all. all ≡ on_names v.names findings.NamesControl (first_place starts_control v.names)) _ (λ x y p q. p ∙ sym q)
    (in_turn (IsUtf8Report v.names) _ (either _ _ _) (in_turn (IsAliasReport v.names) _ (one_aliases v.names)
    (in_turn (IsRepeatedReport v.names) _ (one_repeated v.names)
    (in_turn (λ all. all ≡ long_names v.names) _ (λ x y p q. p ∙ sym q) (all IsOwnNameReport (λ name. either _ _ _) (part_names v.extended))))))

one_found_list : (bytes : List ℕ) (v : EntryValue) → IsOne (AreRemarks bytes v)
one_found_list bytes v =
    in_turn (AreTextRemarks v) _ (one_of_texts v) (in_turn (AreValueRemarks v) _ (one_of_values v) (in_turn (AreSequenceRemarks v) _ (one_sequences v)
    (in_turn (λ all. all ≡ all_pair_remarks v) _ (λ x y p q. p ∙ sym q) (in_turn (AreOriginRemarks v) _ (one_origins_in v _) (in_turn (AreKeyRemarks v) _ (one_keys (entry_keys v))
    (in_turn (AreNameRemarks v.extended) _ (one_names v.extended) (in_turn (AreNameByteRemarks v) _ (one_bytes v)
    (in_turn (λ all. all ≡ action_remarks v) _ (λ x y p q. p ∙ sym q)
    (in_turn (λ all. all ≡ whole_remarks bytes v) _ (λ x y p q. p ∙ sym q) (one_divisions v))))))))))

pub one_report : HasOneReport
one_report controls options bytes v r s (found, are, d) (other, also, h) =
    d ∙ ap (λ l. reported options.level (l ++ controls)) (one_found_list bytes v found other are also) ∙ sym h
