-- Rows on texts, one after another.
use Rattle.std.proofs.Common.{rules, ◌≡◌, ◌∙◌, ◌++◌, ◌∷◌, ◌&&◌, ℕ, Bool, true, false, List, [], Some, None, inl, ap, ap₂, append_assoc, refl, subst, sym}
use Rattle.std.specs.List.{flat_map}
use Rattle.std.specs.Prelude.{Option, if◌then◌else◌}
use Rattle.std.proofs.lemmas.Grind.{flat_map-append}
use Rattle.std.proofs.lemmas.List.{append-nil}
use Rattle.std.proofs.lemmas.List.Elements.{filter-append}
use Rattle.std.proofs.lemmas.List.Folds.{list_all-append}
use Rattle.ti_words.specs.Items.{Listed, SubjectValue, text_in}
use Rattle.ti_cap.specs.Capability.{HasBound, HasDepth}
use Rattle.ti_cap.specs.Refusal.{IsFaultless}
use Rattle.ti_json.specs.Rows.{ContentValue, HasLimits, OfCapability, RowValue}
use Rattle.ti_line.specs.declared.options.Verdicts.{Verdicts}
use Rattle.ti_tool.specs.Verdicts.{AreRows, HasRows, IsJudged, are_sound, is_sound, is_written, written}

-- these rows go on to the rows of the whole, whatever the rows of the capabilities that are left are
abbrev pub GoesOn : List Listed → List Listed → List RowValue → Type 0
GoesOn all left rows = (more : List RowValue) → AreRows left more → AreRows all (rows ++ more)

pub goes_first : (all : List Listed) → GoesOn all all []
goes_first all more are = are

pub goes_next : (all left rest : List Listed) (x : Listed) (rows first : List RowValue) → left ≡ x ∷ rest → HasRows x.0 (text_in x.1) first → GoesOn all left rows → GoesOn all rest (rows ++ first)
goes_next all left rest x rows first is has goes more are =
    subst (AreRows all) (sym (append_assoc rows first more)) (goes (first ++ more) (subst (λ l. AreRows l (first ++ more)) (sym is) (first, more, has, are, refl)))

pub goes_skip : (all left rest : List Listed) (x : Listed) (rows : List RowValue) → left ≡ x ∷ rest → HasRows x.0 (text_in x.1) [] → GoesOn all left rows → GoesOn all rest rows
goes_skip all left rest x rows is has goes = subst (GoesOn all rest) (append-nil rows) (goes_next all left rest x rows [] is has goes)

pub goes_end : (all left : List Listed) (rows : List RowValue) → left ≡ [] → GoesOn all left rows → AreRows all rows
goes_end all left rows is goes = subst (AreRows all) (append-nil rows) (goes [] (subst (λ l. AreRows l []) (sym is) refl))

-- the row on a text that is there, and none on what is no text
pub one_row : (subject : SubjectValue) (found : Option (List ℕ)) (text : List ℕ) (content : ContentValue) → Some text ≡ found → IsJudged text content → HasRows subject found ((OfCapability subject, content) ∷ [])
one_row subject found text content is judged = subst (λ f. HasRows subject f ((OfCapability subject, content) ∷ [])) is (content, judged, refl)

pub no_row : (subject : SubjectValue) (found : Option (List ℕ)) → None ≡ found → HasRows subject found []
no_row subject found is = subst (λ f. HasRows subject f []) is refl

pub one_more_sound : (rows : List RowValue) (subject : SubjectValue) (content : ContentValue) (passed one : Bool) → passed ≡ are_sound rows → one ≡ is_sound content → (passed && one) ≡ are_sound (rows ++ (OfCapability subject, content) ∷ [])
one_more_sound rows subject content passed one s o =
    ap₂ (λ a b. a && b) s o ∙ ap (λ b. are_sound rows && b) (sym (and_true (is_sound content))) ∙ sym (list_all-append (λ row. is_sound row.1) rows ((OfCapability subject, content) ∷ []))
  where
    and_true : (b : Bool) → (b && true) ≡ b
    and_true b = grind rules

-- what is made of one more row comes after what is made of those before
pub one_more_made : {Y : Type 0} (make : RowValue → List Y) (rows : List RowValue) (row : RowValue) (before out new : List Y) → out ≡ before ++ flat_map make rows → new ≡ out ++ make row → new ≡ before ++ flat_map make (rows ++ row ∷ [])
one_more_made make rows row before out new is added =
    added ∙ ap (λ l. l ++ make row) is ∙ append_assoc before (flat_map make rows) (make row) ∙ ap (λ l. before ++ (flat_map make rows ++ l)) (sym (append-nil (make row))) ∙ ap (λ l. before ++ l) (sym (flat_map-append make rows (row ∷ [])))

-- one more row is written after those before, or is not
pub one_written : (which : Verdicts) (rows : List RowValue) (row : RowValue) → true ≡ is_written which row → written which (rows ++ row ∷ []) ≡ written which rows ++ row ∷ []
one_written which rows row is = filter-append (is_written which) rows (row ∷ []) ∙ ap (λ b. written which rows ++ (if b then row ∷ [] else [])) (sym is)

pub none_written : (which : Verdicts) (rows : List RowValue) (row : RowValue) → false ≡ is_written which row → written which (rows ++ row ∷ []) ≡ written which rows
none_written which rows row is = filter-append (is_written which) rows (row ∷ []) ∙ ap (λ b. written which rows ++ (if b then row ∷ [] else [])) (sym is) ∙ append-nil (written which rows)

-- a text that parsing accepted
pub sound_judged : (text capability : List ℕ) (depth bound : ℕ) → capability ≡ text → IsFaultless text → HasDepth capability depth → HasBound capability 0 bound → IsJudged text (HasLimits depth bound)
sound_judged text capability depth bound e faultless d b =
    let P : List ℕ → Type 0 = λ x. HasDepth x depth in
    let Q : List ℕ → Type 0 = λ x. HasBound x 0 bound in
    inl (depth, bound, faultless, subst P e d, subst Q e b, refl)
