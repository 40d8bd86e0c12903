-- Results under `--escape` and documents of JSON are pages.
use Rattle.std.proofs.Common.{◌≡◌, ◌∙◌, ℕ, Bool, true, false, List, [], ◌∷◌, ◌++◌, Some, inl, inr, refl, sym, ap, subst}
use Rattle.ti_words.specs.Items.{ExtendedSubject, FlagItem, ItemValue, NumberItem, StandardSubject, SubjectValue, TextItem, text_in}
use Rattle.std.specs.Prelude.{Option, None, Ok, option_and_then, ◌==◌, codes, decimal, if◌then◌else◌}
use Rattle.std.specs.List.{list_all}
use Rattle.std.specs.Fmt.{signed_decimal}
use Rattle.std.proofs.lemmas.Bool.{and_from, and_parts}
use Rattle.std.proofs.lemmas.List.Folds.{list_all-append}
use Rattle.ti_words.specs.declared.Kind.TheVariants as kinds
use Rattle.ti_words.specs.Texts.{AbsentText, CancelledText, TextOf}
use Rattle.ti_words.specs.Value.{EntryValue}
use Rattle.ti_cap.specs.FaultNames.{cap_fault_word}
use Rattle.ti_escape.specs.Laws.{is_printable}
use Rattle.ti_escape.specs.Notation.{label_notation, notation}
use Rattle.ti_escape.specs.Forms.{shown}
use Rattle.ti_escape.specs.declared.form.Form.{Form}
use Rattle.ti_escape.specs.declared.form.Form.TheVariants as forms
use Rattle.ti_escape.proofs.PrintableLemmas.{has_no_space, is_printable_all, label_chars_printable}
use Rattle.ti_pad.specs.Padded.{padded_text}
use Rattle.ti_sink.specs.Pages.{is_plain}
use Rattle.ti_line.specs.CommandLine.{is_minus}
use Rattle.ti_line.specs.declared.options.ListOptions.{ListOptions}
use Rattle.ti_line.specs.declared.options.NameForm.{NameForm}
use Rattle.ti_line.specs.declared.options.Naming.{Naming}
use Rattle.ti_line.specs.declared.options.NameForm.TheVariants as name_forms
use Rattle.ti_line.specs.declared.given.Given.{Given}
use Rattle.ti_line.specs.declared.options.Output.{Output}
use Rattle.ti_line.specs.declared.options.Output.TheVariants as outputs
use Rattle.ti_line.specs.declared.request.EntryAction.{EntryAction}
use Rattle.ti_line.specs.declared.request.EntryAction.TheVariants as of_entry
use Rattle.ti_line.specs.declared.request.Get.{Get}
use Rattle.ti_pad.specs.Setting.{Setting}
use Rattle.ti_tool.proofs.UnfitLemmas.{fit_output}
use Rattle.ti_tool.specs.Got.{IsTextResult, IsValueResult, number_or_none}
use Rattle.ti_listing.specs.Labels.{extended_label, names_in_form, subject_label, subject_word}
use Rattle.ti_json.specs.Rows.{ContentValue, HasFault, HasFormat, HasLimits, HasNames, HasNumber, HasText, InState, IsSet, OfCapability, OfFormat, OfNames, RowValue, TopicValue, entry_rows, is_absent}
use Rattle.ti_listing.specs.Listing.{content_words, entry_lines, row_line, row_lines, topic_label}
use Rattle.ti_tool.specs.Verdicts.{written}
use Rattle.ti_json.proofs.TextLemmas.{IsText, both, decimal_text, fault_text, format, label_text, signed_text, state_text}
use Rattle.ti_line.specs.declared.options.Document.{Document}
use Rattle.ti_line.specs.declared.options.Document.TheVariants as documents
use Rattle.ti_tool.specs.Documents.{IsInObject, IsTextOf}
use Rattle.ti_tool.specs.Files.{IsOneOfSeveral, before_findings, each_line, shown_file}
use Rattle.ti_tool.specs.Results.{IsDue, IsDueIn}
use Rattle.ti_tool.specs.Printable.{CapabilitiesArePages, EntriesArePages, IsEscaped}
use Rattle.ti_tool.specs.Voice.{IsPage}

-- ---- joining

page_of : (text : List ℕ) → IsText text → IsPage text
page_of [] is = refl
page_of (char ∷ chars) is = let (first, more) = and_parts (is_printable char) (list_all is_printable chars) is in rw first (page_of chars more)

joined : (a b : List ℕ) → IsPage a → IsPage b → IsPage (a ++ b)
joined a b of_a of_b = list_all-append is_plain a b ∙ and_from (list_all is_plain a) (list_all is_plain b) of_a of_b

pub line : (text : List ℕ) → IsText text → IsPage (text ++ codes "\n")
line text is = joined text (codes "\n") (page_of text is) refl

pub same_page : (out page : List ℕ) → out ≡ page → IsPage page → IsPage out
same_page out page is of_page = ap (list_all is_plain) is ∙ of_page

-- ---- labels

names_text : (form : NameForm) (names : List ℕ) → form ≡ name_forms.Notation → IsText (names_in_form form names)
names_text name_forms.Raw names e = absurd cc
names_text name_forms.Notation names e = is_printable_all names

word_text : (subject : SubjectValue) → IsText (subject_word subject)
word_text (StandardSubject kinds.Flag index) = refl
word_text (StandardSubject kinds.Number index) = refl
word_text (StandardSubject kinds.Text index) = refl
word_text (ExtendedSubject kinds.Flag name) = refl
word_text (ExtendedSubject kinds.Number name) = refl
word_text (ExtendedSubject kinds.Text name) = refl

subject_text : (naming : Naming) (subject : SubjectValue) → naming.form ≡ name_forms.Notation → IsText (subject_label naming subject)
subject_text naming (StandardSubject kind index) e = label_text naming.table kind index
subject_text naming (ExtendedSubject kind name) e =
    subst (λ form. IsText (extended_label form name)) (sym e) (label_chars_printable (label_notation name) (has_no_space name))

topic_text : (naming : Naming) (topic : TopicValue) → naming.form ≡ name_forms.Notation → IsText (topic_label naming topic)
topic_text naming OfFormat e = refl
topic_text naming OfNames e = refl
topic_text naming (OfCapability subject) e = both (subject_word subject) (subject_label naming subject) (word_text subject) (subject_text naming subject e)

-- ---- rows

shown_text : (form : Form) (text : List ℕ) → form ≡ forms.Notation → IsText (shown form text)
shown_text forms.Hex text e = absurd cc
shown_text forms.Notation [] e = refl
shown_text forms.Notation (byte ∷ bytes) e = is_printable_all (byte ∷ bytes)

content_text : (options : ListOptions) (content : ContentValue) → options.form ≡ forms.Notation → options.naming.form ≡ name_forms.Notation → IsText (content_words options content)
content_text options (InState state) e n = state_text state
content_text options IsSet e n = refl
content_text options (HasNumber z) e n = signed_text z
content_text options (HasFormat width) e n = format width
content_text options (HasNames names) e n = names_text options.naming.form names n
content_text options (HasText text) e n = shown_text options.form text e
content_text options (HasLimits depth bound) e n =
    both (codes " ok depth " ++ decimal depth ++ codes " bound ") (decimal bound) (both (codes " ok depth " ++ decimal depth) (codes " bound ") (both (codes " ok depth ") (decimal depth) refl (decimal_text depth)) refl) (decimal_text bound)
content_text options (HasFault refused) e n =
    both (codes " fault " ++ cap_fault_word refused.fault ++ codes " at ") (decimal refused.place)
    (both (codes " fault " ++ cap_fault_word refused.fault) (codes " at ") (both (codes " fault ") (cap_fault_word refused.fault) refl (fault_text refused.fault)) refl) (decimal_text refused.place)

module _ (options : ListOptions) (e : options.form ≡ forms.Notation) (n : options.naming.form ≡ name_forms.Notation) where
  row_page : (row : RowValue) → IsPage (row_line options [] row)
  row_page (topic, content) = go (is_absent content)
    where
      text : List ℕ
      text = topic_label options.naming topic ++ content_words options content

      go : (b : Bool) → IsPage (if b then [] else text ++ codes "\n")
      go true = refl
      go false = line text (both (topic_label options.naming topic) (content_words options content) (topic_text options.naming topic n) (content_text options content e n))

  rows_page : (rows : List RowValue) → IsPage (row_lines options rows)
  rows_page [] = refl
  rows_page (row ∷ rows) = joined (row_line options [] row) (row_lines options rows) (row_page row) (rows_page rows)

-- ---- documents

text_is_text : (document : Document) (passed : Bool) (input : List ℕ) (v : EntryValue) (text : List ℕ) → IsTextOf document passed input v text → IsText text
text_is_text documents.Listing passed input v text (verdict, printable) = printable
text_is_text (documents.Verdicts which) passed input v text (verdict, printable) = printable
text_is_text (documents.Findings options) passed input v text is = is.printable

of_several_page : (document : Document) (name plain out : List ℕ) → IsInObject document name plain out → IsPage out
of_several_page documents.Listing name plain out page = page
of_several_page (documents.Verdicts which) name plain out page = page
of_several_page (documents.Findings options) name plain out stands = stands.page

-- ---- outputs

got_page : (text : List ℕ) (given : Option Given) (setting : Setting) (output : Output) (out : List ℕ) → output ≡ outputs.Line forms.Notation → IsTextResult text given setting output (Ok out) → IsPage out
got_page text given setting output out e due = go given (let P : Output → Type 0 = λ o. IsTextResult text given setting o (Ok out) in subst P e due)
  where
    go : (given : Option Given) → IsTextResult text given setting (outputs.Line forms.Notation) (Ok out) → IsPage out
    go None (short, is) = same_page out _ is (line (notation (padded_text text setting)) (is_printable_all (padded_text text setting)))
    go (Some given) (inl (refused, r, same)) = absurd cc
    go (Some given) (inr (faultless, (parameters, taken, (plain, passes, expansion, short, is)))) =
        same_page out _ is (line (notation (padded_text plain setting)) (is_printable_all (padded_text plain setting)))

value_page : (g : Get) (set : Bool) (out : List ℕ) (item : Option ItemValue) → g.output ≡ outputs.Line forms.Notation → IsValueResult item g set (Ok out) → IsPage out
value_page g set out None e (s, same) = absurd cc
value_page g set out (Some (FlagItem flag)) e (s, same) = let is : out ≡ [] = cc in same_page out [] is refl
value_page g set out (Some (NumberItem number)) e (s, same) =
    let is : out ≡ signed_decimal (number_or_none number) ++ codes "\n" = cc in same_page out _ is (line (signed_decimal (number_or_none number)) (signed_text (number_or_none number)))
value_page g set out (Some (TextItem AbsentText)) e (s, same) = absurd cc
value_page g set out (Some (TextItem CancelledText)) e (s, same) = absurd cc
value_page g set out (Some (TextItem (TextOf text))) e (s, due) = got_page text g.given g.padding g.output out e due

expanded_page : (text : Option (List ℕ)) (setting : Setting) (output : Output) (parameters : List _) (out : List ℕ) → output ≡ outputs.Line forms.Notation → IsDue text parameters setting output (Ok out) → IsPage out
expanded_page text setting output parameters out e due = go text (let P : Output → Type 0 = λ o. IsDue text parameters setting o (Ok out) in subst P e due)
  where
    go : (text : Option (List ℕ)) → IsDue text parameters setting (outputs.Line forms.Notation) (Ok out) → IsPage out
    go None same = absurd cc
    go (Some text) (plain, faultless, expansion, short, is) = same_page out _ is (line (notation (padded_text plain setting)) (is_printable_all (padded_text plain setting)))

pub capabilities : CapabilitiesArePages
capabilities parameters input out (plain, faultless, expansion, is) = same_page out _ is (line (notation plain) (is_printable_all plain))

-- ---- files

file_text : (form : NameForm) (name : List ℕ) → form ≡ name_forms.Notation → IsText (shown_file form name)
file_text name_forms.Raw name e = absurd (cc (e))
file_text name_forms.Notation name e = text (is_minus name)
  where
    text : (minus : Bool) → IsText (if minus then codes "-" else notation name)
    text true = refl
    text false = is_printable_all name

each_page : (before : List ℕ) → IsPage before → (at_start : Bool) (out : List ℕ) → IsPage out → IsPage (each_line before at_start out)
each_page before of_before at_start [] is = refl
each_page before of_before true (b ∷ bs) is =
    let (first, more) = and_parts (is_plain b) (list_all is_plain bs) is in
    joined before (b ∷ each_line before (b == 10) bs) of_before (and_from (is_plain b) (list_all is_plain (each_line before (b == 10) bs)) first (each_page before of_before (b == 10) bs more))
each_page before of_before false (b ∷ bs) is =
    let (first, more) = and_parts (is_plain b) (list_all is_plain bs) is in
    and_from (is_plain b) (list_all is_plain (each_line before (b == 10) bs)) first (each_page before of_before (b == 10) bs more)

-- alone, and as one of several
due_page : (before : List ℕ) (action : EntryAction) (name : List ℕ) (passed : Bool) (input : List ℕ) (v : EntryValue) (plain : List ℕ) → IsEscaped action → IsDueIn before action passed input v (Ok plain)
    → IsPage plain × ((out : List ℕ) → IsOneOfSeveral action name plain out → IsPage out)
due_page before (of_entry.Show options) name passed input v plain (e, n) listed =
    let is : plain ≡ entry_lines options v = cc in
    let page = same_page plain _ is (rows_page options e n (entry_rows v)) in
    let head = codes "file: " ++ shown_file options.naming.form name in
    let all = joined (head ++ codes "\n") plain (line head (both (codes "file: ") (shown_file options.naming.form name) refl (file_text options.naming.form name n))) page in
    (page, λ out one. same_page out _ one all)
due_page before (of_entry.Json document) name passed input v plain e (text, of, is) =
    (same_page plain _ is (line text (text_is_text document passed input v text of)), λ out one. of_several_page document name plain out one)
due_page before (of_entry.Check which naming) name passed input v plain n (rows, are, is, s) =
    let page = same_page plain _ is (rows_page (record { naming = naming; form = forms.Notation }) refl n (written which rows)) in
    let before = shown_file naming.form name ++ codes ": " in
    let all = each_page before (page_of before (both (shown_file naming.form name) (codes ": ") (file_text naming.form name n) refl)) true plain page in
    (page, λ out one. same_page out _ one all)
due_page before (of_entry.Expand x) name passed input v plain e (item, called, due) =
    let page = expanded_page (option_and_then text_in item) x.padding x.output x.parameters.values plain e due in (page, λ out one. same_page out _ one page)
due_page before (of_entry.Get g) name passed input v plain e (item, called, due) =
    let page = value_page g passed plain item e (fit_output g.name.now g.given item (IsValueResult item g passed) plain due) in (page, λ out one. same_page out _ one page)
due_page before action name passed input v plain escaped due = absurd escaped

pub entries : EntriesArePages
entries several action name passed contents out escaped (plain, inl (refused, is, same), result) = absurd cc
entries true action name passed contents out escaped (plain, inr (v, spells, due), result) =
    (due_page (before_findings true name) action name passed contents v plain escaped due).1 out result
entries false action name passed contents out escaped (plain, inr (v, spells, due), result) =
    same_page out _ result (due_page (before_findings false name) action name passed contents v plain escaped due).0
