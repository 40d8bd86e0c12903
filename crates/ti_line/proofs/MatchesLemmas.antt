-- What the getters of `clap`'s matches read is what the rows hold.
use Rattle.std.proofs.Common.{◌≡◌, ◌∙◌, ◌^◌, ◌&&◌, ℕ, Bool, true, false, refl, sym, ap, subst, List, [], ◌∷◌, ◌++◌, map, length, nat_lt, lt-ltb, ltb-true}
use Rattle.std.specs.Prelude.{IsErrAnd, MatchResult, Option, Some, None, Result, Ok, Err, option_map, unwrap_or, codes}
use Rattle.std.specs.Borrow.{Bor}
use Rattle.std.specs.List.{list_all}
use Rattle.std.specs.Option.{option_map_or}
use Rattle.std.specs.Str.{bytes_eq}
use Rattle.std.specs.Char.{digit_value}
use Rattle.std.specs.Str.Parse.{AllDigits, ParsesBool, ParsesUnsigned, digits_value, without_leading_plus}
use Rattle.std.proofs.lemmas.List.{map-append}
use Rattle.std.proofs.lemmas.Slice.Eq.{bytes_eq-Decides}
use Rattle.std.specs.Bool.{Decides}
use Rattle.clap.specs.Words.{Row, Text, ReadsOne, matched_of, one_text, raw_values, rows_of}
use Rattle.clap.specs.declared.parser.matches.Found.{Found}
use Rattle.clap.proofs.WalkLemmas.{both, one_text-rows, raw_values-rows}
use Rattle.ti_line.specs.CommandLine.{files_in, flag_in, number_in, number_or, is_input, named_files, words_in}

decided_no : {P : Type 0} (b : Bool) → Decides b P → (P → ⊥) → b ≡ false
decided_no true d never = absurd (never (d.0 refl))
decided_no false d never = refl

flag_from : (E : Type 0) (o : Option Text) (r : Option Bool) → (o ≡ None → r ≡ None)
    → ((t : Text) → o ≡ Some t → ReadsOne {E = E} ParsesBool t r) → unwrap_or r false ≡ option_map_or (λ t. bytes_eq t (codes "true")) o false
flag_from E None r none some = rw (none refl) refl
flag_from E (Some t) (Some true) none some = let e : t ≡ codes "true" = some t refl in rw e refl
flag_from E (Some t) (Some false) none some = let e : t ≡ codes "false" = some t refl in rw e refl
flag_from E (Some t) None none some = sym (decided_no (bytes_eq t (codes "true")) (bytes_eq-Decides t (codes "true")) (some t refl).1.0)

pub flag_read : (E : Type 0) (f : Found) (id : Text) (r : Option Bool) → (one_text f id ≡ None → r ≡ None)
    → ((t : Text) → one_text f id ≡ Some t → ReadsOne {E = E} ParsesBool t r) → unwrap_or r false ≡ flag_in id (rows_of f)
flag_read E f id r none some =
    flag_from E (one_text f id) r none some ∙ ap (λ (o : Option Text). option_map_or (λ t. bytes_eq t (codes "true")) o false) (one_text-rows f id)

digits_pass : (ds : List ℕ) → AllDigits 10 ds → list_all (λ d. nat_lt (digit_value d) 10) ds ≡ true
digits_pass [] h = refl
digits_pass (d ∷ ds) h = rw (lt-ltb (digit_value d) 10 h.0) (digits_pass ds h.1)

digits_from : (ds : List ℕ) → list_all (λ d. nat_lt (digit_value d) 10) ds ≡ true → AllDigits 10 ds
digits_from [] e = tt
digits_from (d ∷ ds) e =
    let parts = both _ _ e in
    (ltb-true _ _ parts.0, digits_from ds parts.1)

abbrev is_number : List ℕ → Bool
is_number ds = nat_lt 0 (length ds) && list_all (λ d. nat_lt (digit_value d) 10) ds && nat_lt (digits_value 10 ds) (2 ^ 32)

number_ok : (E : Type 0) (default : ℕ) (text : Text) (n : ℕ) → ParsesUnsigned {E = E} 32 10 text (Ok n) → n ≡ number_or default text
number_ok E default text n h =
    let ds = without_leading_plus text in
    rw (lt-ltb 0 (length ds) h.0.0.0, digits_pass ds h.0.0.1, lt-ltb (digits_value 10 ds) (2 ^ 32) h.0.1) h.1

number_err : {E : Type 0} (default : ℕ) (text : Text) (e : E) → ParsesUnsigned {E = E} 32 10 text (Err e) → default ≡ number_or default text
number_err default text e h = go (is_number (without_leading_plus text)) refl
  where
    go : (b : Bool) → is_number (without_leading_plus text) ≡ b → default ≡ number_or default text
    go false t = rw t refl
    go true t =
        let outer = both _ _ t in
        let inner = both _ _ outer.0 in
        absurd (h ((ltb-true _ _ inner.0, digits_from (without_leading_plus text) inner.1), ltb-true _ _ outer.1))

number_from : (E : Type 0) (G : Text → Result ℕ E → Type 0) → ((t : Text) (r : Result ℕ E) → G t r → ParsesUnsigned 32 10 t r)
    → (default : ℕ) (o : Option Text) (r : Option ℕ) → (o ≡ None → r ≡ None)
    → ((t : Text) → o ≡ Some t → ReadsOne G t r) → unwrap_or r default ≡ option_map_or (number_or default) o default
number_from E G parses default None r none some = rw (none refl) refl
number_from E G parses default (Some t) (Some n) none some = number_ok E default t n (parses t (Ok n) (some t refl))
number_from E G parses default (Some t) None none some =
    let (e, gives) = some t refl in
    number_err default t e (parses t (Err e) gives)

pub number_read : (E : Type 0) (G : Text → Result ℕ E → Type 0) → ((t : Text) (r : Result ℕ E) → G t r → ParsesUnsigned 32 10 t r)
    → (f : Found) (id : Text) (default : ℕ) (r : Option ℕ) → (one_text f id ≡ None → r ≡ None)
    → ((t : Text) → one_text f id ≡ Some t → ReadsOne G t r) → unwrap_or r default ≡ number_in id default (rows_of f)
number_read E G parses f id default r none some =
    number_from E G parses default (one_text f id) r none some ∙ ap (λ (o : Option Text). option_map_or (number_or default) o default) (one_text-rows f id)

words_from : (o : Option (List Text)) (r : Option (Bor (List (Bor Text)))) (d : Bor (List (Bor Text))) → d.now ≡ [] → option_map (λ s. map (λ v. v.now) s.now) r ≡ o
    → map (λ v. v.now) (unwrap_or r d).now ≡ unwrap_or o []
words_from o None d empty e = rw (← e, empty) refl
words_from o (Some s) d empty e = rw (← e) refl

pub words_read : (f : Found) (id : Text) (r : Option (Bor (List (Bor Text)))) (d : Bor (List (Bor Text))) → d.now ≡ []
    → option_map (λ s. map (λ v. v.now) s.now) r ≡ option_map raw_values (matched_of f id)
    → map (λ v. v.now) (unwrap_or r d).now ≡ words_in id (rows_of f)
words_read f id r d empty e = words_from _ r d empty (e ∙ raw_values-rows f id)

pub no_files : (words names files : List Text) → words ≡ names → is_input words ≡ true → files ≡ [] → files ≡ named_files names
no_files words names files e input none = rw (← e, input) none

pub all_files : (words names files : List Text) → words ≡ names → is_input words ≡ false → files ≡ words → files ≡ named_files names
all_files words names files e input all = rw (← e, input) all

-- the files of both arguments
pub all_read : (rows : List Row) (entry words all : List (Bor Text)) → all ≡ ([] ++ entry) ++ words → map (λ v. v.now) entry ≡ words_in (codes "ENTRY") rows → map (λ v. v.now) words ≡ words_in (codes "FILE") rows
    → map (λ v. v.now) all ≡ files_in rows
all_read rows entry words all is given named = ap (map (λ v. v.now)) is ∙ map-append (λ v. v.now) entry words ∙ ap (λ l. l ++ map (λ v. v.now) words) given ∙ ap (λ l. words_in (codes "ENTRY") rows ++ l) named

-- an error that is handed on says what it said
pub refused_by : {T E : Type 0} (r : Result T E) (Good : T → Type 0) (Bad : E → Type 0) (why : E) → IsErrAnd r (λ x. x ≡ why) → Bad why → MatchResult r Good Bad
refused_by (Ok x) Good Bad why is h = elim is [ ]
refused_by (Err x) Good Bad why is h = subst Bad (sym is) h
