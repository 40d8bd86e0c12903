-- Words that mean values, read one after another.
use Rattle.std.proofs.Common.{◌≡◌, ◌==◌, ℕ, false, true≢false, suc, ◌+◌, ◌-◌, ◌<◌, ◌≤◌, inl, inr, List, [], ◌∷◌, ◌++◌, length, refl, sym, ◌∙◌, ap, subst, arith, set, take, drop, get_or, Bor, add-one, drop-cons}
use Rattle.std.specs.Prelude.{◌↔◌, slice_set, Result, Ok, Err, IfOk, MatchResult, Some, codes}
use Rattle.std.specs.List.{AllByRecursion}
use Rattle.std.proofs.lemmas.Bool.{cases_lt}
use Rattle.std.proofs.Math.Seq.{take-suc}
use Rattle.std.proofs.lemmas.List.{map-append, length-map, length-take-le, take-append-drop}
use Rattle.ti_line.specs.declared.params.WordFault.{WordFault}
use Rattle.ti_line.specs.declared.params.WordFault.TheVariants.{TooMany, BadWord}
use Rattle.ti_line.specs.Requests.{texts_of}
use Rattle.ti_expand.specs.declared.values.Value.{Value}
use Rattle.ti_expand.specs.declared.values.Value.TheVariants.{Text}
use Rattle.ti_line.specs.declared.given.Given.{Given}
use Rattle.ti_line.specs.declared.given.Param.{Param}
use Rattle.ti_line.specs.declared.given.Param.TheVariants as params
use Rattle.ti_line.specs.Params.{AreNine, AreGiven, IsFirstBad, IsGiven, IsGivenBy, IsMarked, IsParam, IsWordFault, Stand}

-- how many of the words there are, and one among them

texts_of-take : (words : List (Bor (List ℕ))) (i : ℕ) → i ≤ length words → length (texts_of (take i words)) ≡ i
texts_of-take words i h = length-map (take i words) (λ w. w.now) ∙ length-take-le i words h

texts_of-split : (words : List (Bor (List ℕ))) (i : ℕ) (d : Bor (List ℕ)) → i < length words
    → texts_of words ≡ texts_of (take i words) ++ (get_or words i d).now ∷ texts_of (drop (suc i) words)
texts_of-split words i d h =
    ap (λ x. texts_of x) (sym (take-append-drop i words) ∙ ap (λ x. take i words ++ x) (drop-cons words i d h))
    ∙ map-append (λ w. w.now) (take i words) (get_or words i d ∷ drop (suc i) words)

-- what a word means, and the missing value
module _ (V : Type 0) (Means : List ℕ → V → Type 0) (missing : V) where
  -- the first words stand for the first values, and the values after them are missing
  stand_more : (words : List (List ℕ)) (word : List ℕ) (values : List V) (value : V) → Stand Means missing words values → length words < length values → Means word value
      → Stand Means missing (words ++ word ∷ []) (set values (length words) value)
  stand_more [] word [] value s h w = absurd (omega arith)
  stand_more [] word (v ∷ vs) value s h w = (w, s.1)
  stand_more (x ∷ words) word [] value s h w = absurd s
  stand_more (x ∷ words) word (v ∷ vs) value s h w = (s.0, stand_more words word vs value s.1 (omega arith) w)

  -- each of the words means something
  abbrev AllStand : List (List ℕ) → Type 0
  AllStand words = AllByRecursion (λ word. (value : V) × Means word value) words

  stand_all : (words : List (List ℕ)) (values : List V) → Stand Means missing words values → AllStand words
  stand_all [] values s = tt
  stand_all (x ∷ words) [] s = absurd s
  stand_all (x ∷ words) (v ∷ vs) s = ((v, s.0), stand_all words vs s.1)

  bad_first : (words : List (List ℕ)) (word : List ℕ) (later : List (List ℕ)) → AllStand words → ((value : V) → ¬ Means word value)
      → IsFirstBad Means (length words + 1) (words ++ word ∷ later)
  bad_first [] word later s none = inl (refl, none)
  bad_first (x ∷ words) word later s none =
      let P : ℕ → Type 0 = λ n. IsFirstBad Means n (words ++ word ∷ later) in
      inr (omega arith, s.0, subst P (omega arith) (bad_first words word later s.1 none))

  pub stand_next : (words : List (Bor (List ℕ))) (i : ℕ) (d : Bor (List ℕ)) (values : List V) (value : V) → i < length words → length words ≤ 9 → length values ≡ 9
      → Stand Means missing (texts_of (take i words)) values → Means (get_or words i d).now value → Stand Means missing (texts_of (take (i + 1) words)) (slice_set values i value)
  stand_next words i d values value h few nine s w =
      let n : length (texts_of (take i words)) ≡ i = texts_of-take words i (omega arith) in
      let e : texts_of (take (i + 1) words) ≡ texts_of (take i words) ++ (get_or words i d).now ∷ [] =
      ap (λ x. texts_of (take x words)) (add-one i) ∙ ap (λ x. texts_of x) (take-suc words i d h) ∙ map-append (λ w. w.now) (take i words) (get_or words i d ∷ []) in
      let P : List (List ℕ) → Type 0 = λ x. Stand Means missing x (slice_set values i value) in
      let Q : ℕ → Type 0 = λ x. Stand Means missing (texts_of (take i words) ++ (get_or words i d).now ∷ []) (slice_set values x value) in
      subst P (sym e) (subst Q n (stand_more (texts_of (take i words)) (get_or words i d).now values value s (omega arith) w))

  pub bad_here : (words : List (Bor (List ℕ))) (i : ℕ) (d : Bor (List ℕ)) (values : List V) → i < length words → Stand Means missing (texts_of (take i words)) values
      → ((value : V) → ¬ Means (get_or words i d).now value) → IsFirstBad Means (i + 1) (texts_of words)
  bad_here words i d values h s none =
      let P : List (List ℕ) → Type 0 = λ x. IsFirstBad Means (i + 1) x in
      let Q : ℕ → Type 0 = λ x. IsFirstBad Means (x + 1) (texts_of (take i words) ++ (get_or words i d).now ∷ texts_of (drop (suc i) words)) in
      subst P (sym (texts_of-split words i d h)) (subst Q (texts_of-take words i (omega arith))
      (bad_first (texts_of (take i words)) (get_or words i d).now (texts_of (drop (suc i) words)) (stand_all (texts_of (take i words)) values s) none))

  stand_few : (words : List (List ℕ)) (values : List V) → Stand Means missing words values → length words ≤ length values
  stand_few [] values s = omega arith
  stand_few (x ∷ words) [] s = absurd s
  stand_few (x ∷ words) (v ∷ vs) s = omega (arith, stand_few words vs s.1)

  bad_none : (which : ℕ) (words : List (List ℕ)) (values : List V) → IsFirstBad Means which words → ¬ Stand Means missing words values
  bad_none which [] values b s = b
  bad_none which (x ∷ words) [] b s = s
  bad_none which (x ∷ words) (v ∷ vs) (inl (e, none)) s = none v s.0
  bad_none which (x ∷ words) (v ∷ vs) (inr (more, some, b)) s = bad_none (which - 1) words vs b s.1

  -- words that are refused stand for no parameters
  no_params : {R : Type 0} (ws : List (List ℕ)) (fault : WordFault) (r : Result R WordFault) → r ≡ Err fault → (r ≡ Err TooMany → 9 < length ws)
      → ((which : ℕ) → r ≡ Err (BadWord which) → IsFirstBad Means which ws) → (values : List V) → ¬ AreNine Means missing ws values
  no_params ws TooMany r e many bad values p = omega (arith, many e, stand_few ws values p.1)
  no_params ws (BadWord which) r e many bad values p = bad_none which ws values (bad which e) p.1

  -- why they are refused
  params_refused : {R : Type 0} (ws : List (Bor (List ℕ))) (fault : WordFault) (r : Result R WordFault) → r ≡ Err fault → (r ≡ Err TooMany → 9 < length ws) → (9 < length ws → r ≡ Err TooMany)
      → ((which : ℕ) → r ≡ Err (BadWord which) → IsFirstBad Means which (texts_of ws)) → IsWordFault Means (texts_of ws) fault
  params_refused ws TooMany r e many few bad = omega (arith, many e, length-map ws (λ w. w.now))
  params_refused ws (BadWord which) r e many few bad = elim (cases_lt 9 (length ws)) [
    | inl past ↦ absurd (cc (few past, e))
    | inr within ↦ (omega (arith, length-map ws (λ w. w.now)), bad which e)
  ]

  -- the words stand for parameters, or for none
  pub params_or_none : {R : Type 0} (Are : List (List ℕ) → R → Type 0) (ws : List (Bor (List ℕ))) (r : Result R WordFault) → IfOk r (Are (texts_of ws)) → (r ≡ Err TooMany) ↔ (9 < length ws)
      → ((which : ℕ) → r ≡ Err (BadWord which) → IsFirstBad Means which (texts_of ws))
      → MatchResult r (Are (texts_of ws)) (λ why. IsWordFault Means (texts_of ws) why × ((values : List V) → ¬ AreNine Means missing (texts_of ws) values))
  params_or_none Are ws (Ok values) are many bad = are
  params_or_none Are ws (Err why) are many bad = (
    params_refused ws why (Err why) refl many.0 many.1 bad,
    no_params (texts_of ws) why (Err why) refl (λ e. omega (arith, length-map ws (λ w. w.now), many.0 e)) bad,
  )

pub some_words : (words : List (Bor (List ℕ))) → (length words == 0) ≡ false → 0 < length (texts_of words)
some_words [] e = absurd (true≢false e)
some_words (w ∷ ws) e = omega arith

-- words of which there is one at least give what they give
pub given_by : (ws : List (List ℕ)) (given : Given) → 0 < length ws → AreGiven ws given.params → IsGivenBy ws (Some given)
given_by [] given some are = absurd (omega arith)
given_by (w ∷ ws) given some are = (given, refl, are)

-- a word that means nothing and has no mark of a number has no mark
pub no_mark : (word : List ℕ) → ((value : Value) → ¬ IsParam word value) → ((text : List ℕ) → ¬ (word ≡ codes "n:" ++ text)) → ¬ IsMarked word
no_mark word none not_number (text, inl is) = not_number text is
no_mark word none not_number (text, inr is) = none (Text (record { ref_ptr = (0, 0); now = text })) is

-- a word with a mark that means nothing gives nothing
pub none_given : (word : List ℕ) → IsMarked word → ((value : Value) → ¬ IsParam word value) → (param : Param) → ¬ IsGiven word param
none_given word marked none (params.Value value) is = none value is
none_given word marked none (params.Either z t) (plain, number, same) = plain marked
none_given word marked none (params.Word t) (plain, number, same) = plain marked
