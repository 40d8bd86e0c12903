-- Why no format is read.
use Rattle.std.proofs.Common.{◌≡◌, ◌≢◌, ℕ, ◌+◌, ◌≤◌, inl, inr, List, [], ◌∷◌, ◌++◌, length, refl, sym, ◌∙◌, ap, arith, Err, nat_eq, nat_lt, cond, Bool, true, append_assoc}
use Rattle.std.specs.Prelude.{Option, Some, None}
use Rattle.std.proofs.lemmas.Grind.{common_steps}
use Rattle.std.proofs.lemmas.Bool.{eqb-true}
use Rattle.std.proofs.lemmas.List.{append-nil}
use Rattle.ti_base.specs.Limits.{greatest_width}
use Rattle.ti_cap.specs.declared.language.Format.{Format}
use Rattle.ti_cap.specs.declared.language.Conversion.{Conversion}
use Rattle.ti_cap.specs.declared.language.Conversion.TheVariants.{Signed}
use Rattle.ti_cap.specs.declared.language.CapFault.{CapFault}
use Rattle.ti_cap.specs.declared.language.CapFault.TheVariants.{CutShort, BadFormat}
use Rattle.ti_cap.specs.Spelling.{number_of, AreFlags, SpellsWidth, SpellsPrecision, SpellsFormat}
use Rattle.ti_cap.specs.inner.Lexer.{Lexeme, front, rest, is_digit, is_plain_flag, is_flag, is_colon, conversion_of, with_conversion, with_flags, letter_read, precision_read, width_read, format_read}
use Rattle.ti_cap.proofs.ChoiceLemmas.{chosen, still}
use Rattle.ti_cap.proofs.FrontLemmas.{front_and_rest, front_passes, rest_ends, front_more, rest_more, front_grows}
use Rattle.ti_cap.proofs.DigitsReadLemmas.{number_from-ge, number_from-append}
use Rattle.ti_cap.proofs.FormatPartsLemmas.{with_width, fits, NoZero, flags_follow, plain_flag_other, flag_other, width_spelled, passes_digits, passes_plain_flags, passes_flags}

-- an error other than the end stays, whatever follows
letter_final : (f : Format) (n : ℕ) (bytes more : List ℕ) (fault : CapFault) → fault ≢ CutShort → letter_read f n bytes ≡ Err fault → letter_read f n (bytes ++ more) ≡ Err fault
letter_final f n [] more fault uncut e = absurd (uncut (cc))
letter_final f n (c ∷ cs) more fault uncut e = e

-- an error after a front stays, as the front stays
front_final : (p : ℕ → Bool) (go : List ℕ → List ℕ → Lexeme) (bytes more : List ℕ) (fault : CapFault) → fault ≢ CutShort
    → ((ds : List ℕ) → go ds [] ≡ Err CutShort) → ((ds left : List ℕ) → go ds left ≡ Err fault → go ds (left ++ more) ≡ Err fault)
    → go (front p bytes) (rest p bytes) ≡ Err fault
    → (front p (bytes ++ more) ≡ front p bytes) × (go (front p bytes) (rest p (bytes ++ more)) ≡ Err fault)
front_final p go bytes more fault uncut ends keeps e =
    elim (rest_ends p bytes) [
      | inl none ↦
          let end : go (front p bytes) (rest p bytes) ≡ Err CutShort = ap (λ x. go (front p bytes) x) none ∙ ends (front p bytes) in
          absurd (uncut (cc))
      | inr h ↦ (front_more p bytes more h, ap (λ x. go (front p bytes) x) (rest_more p bytes more h) ∙ keeps (front p bytes) (rest p bytes) e)
    ]

-- a number that is too large stays so
large_more : (bytes more : List ℕ) → nat_lt greatest_width (number_of (front is_digit bytes)) ≡ true → nat_lt greatest_width (number_of (front is_digit (bytes ++ more))) ≡ true
large_more bytes more large =
    let g : (longer : List ℕ) × (front is_digit (bytes ++ more) ≡ front is_digit bytes ++ longer) = front_grows is_digit bytes more in
    grown (number_of (front is_digit bytes)) (number_of (front is_digit (bytes ++ more))) large
    (omega (
      arith,
      ap number_of g.1,
      number_from-append 0 (front is_digit bytes) g.0,
      number_from-ge (number_of (front is_digit bytes)) g.0,
    ))
  where
    grown : (m n : ℕ) → nat_lt greatest_width m ≡ true → m ≤ n → nat_lt greatest_width n ≡ true
    grown m n h le = grind (arith, common_steps, h, le)

-- a number, and what is read after it
abbrev numbered : (List ℕ → List ℕ → Lexeme) → List ℕ → Lexeme
numbered go bytes = cond (nat_lt greatest_width (number_of (front is_digit bytes))) (Err BadFormat) (go (front is_digit bytes) (rest is_digit bytes))

numbered_final : (go : List ℕ → List ℕ → Lexeme) (bytes more : List ℕ) (fault : CapFault) → fault ≢ CutShort
    → ((ds : List ℕ) → go ds [] ≡ Err CutShort) → ((ds left : List ℕ) → go ds left ≡ Err fault → go ds (left ++ more) ≡ Err fault)
    → numbered go bytes ≡ Err fault → numbered go (bytes ++ more) ≡ Err fault
numbered_final go bytes more fault uncut ends keeps e =
    elim (chosen (nat_lt greatest_width (number_of (front is_digit bytes))) e) [
      | inl (large, e) ↦ ap (λ b. cond b (Err BadFormat) (go (front is_digit (bytes ++ more)) (rest is_digit (bytes ++ more)))) (large_more bytes more large) ∙ e
      | inr (le, e) ↦
          let r : (front is_digit (bytes ++ more) ≡ front is_digit bytes) × (go (front is_digit bytes) (rest is_digit (bytes ++ more)) ≡ Err fault) =
          front_final is_digit go bytes more fault uncut ends keeps e in
          ap (λ x. cond (nat_lt greatest_width (number_of x)) (Err BadFormat) (go x (rest is_digit (bytes ++ more)))) r.0
          ∙ ap (λ b. cond b (Err BadFormat) (go (front is_digit bytes) (rest is_digit (bytes ++ more)))) le
          ∙ r.1
    ]

precision_final : (f : Format) (n : ℕ) (bytes more : List ℕ) (fault : CapFault) → fault ≢ CutShort → precision_read f n bytes ≡ Err fault → precision_read f n (bytes ++ more) ≡ Err fault
precision_final f n [] more fault uncut e = absurd (uncut (cc))
precision_final f n (c ∷ cs) more fault uncut e =
    still (nat_eq c 46) _ _ _ _ fault
    (numbered_final go cs more fault uncut (λ ds. refl) (λ ds left. letter_final (record f { precision = Some (number_of ds) }) (n + 1 + length ds) left more fault uncut))
    (λ e. e) e
  where
    go : List ℕ → List ℕ → Lexeme
    go ds left = letter_read (record f { precision = Some (number_of ds) }) (n + 1 + length ds) left

width_final : (f : Format) (n : ℕ) (bytes more : List ℕ) (fault : CapFault) → fault ≢ CutShort → width_read f n bytes ≡ Err fault → width_read f n (bytes ++ more) ≡ Err fault
width_final f n bytes more fault uncut e =
    numbered_final go bytes more fault uncut (λ ds. refl) (λ ds left. precision_final (record f { width = number_of ds }) (n + length ds) left more fault uncut) e
  where
    go : List ℕ → List ℕ → Lexeme
    go ds left = precision_read (record f { width = number_of ds }) (n + length ds) left

-- what is read after `k` bytes and the flags at the front
flags_final : (p : ℕ → Bool) (k : ℕ) (bytes more : List ℕ) (fault : CapFault) → fault ≢ CutShort
    → width_read (with_flags (front p bytes)) (k + length (front p bytes)) (rest p bytes) ≡ Err fault
    → width_read (with_flags (front p (bytes ++ more))) (k + length (front p (bytes ++ more))) (rest p (bytes ++ more)) ≡ Err fault
flags_final p k bytes more fault uncut e =
    let r : (front p (bytes ++ more) ≡ front p bytes) × (go (front p bytes) (rest p (bytes ++ more)) ≡ Err fault) =
    front_final p go bytes more fault uncut (λ ds. refl) (λ ds left. width_final (with_flags ds) (k + length ds) left more fault uncut) e in
    ap (λ x. go x (rest p (bytes ++ more))) r.0 ∙ r.1
  where
    go : List ℕ → List ℕ → Lexeme
    go ds left = width_read (with_flags ds) (k + length ds) left

pub format_final : (bytes more : List ℕ) (fault : CapFault) → fault ≢ CutShort → format_read bytes ≡ Err fault → format_read (bytes ++ more) ≡ Err fault
unfolding format_read
format_final [] more fault uncut e = absurd (uncut (cc))
format_final (c ∷ cs) more fault uncut e =
    still (is_colon c) _ _ _ _ fault (flags_final is_flag 2 cs more fault uncut) (flags_final is_plain_flag 1 (c ∷ cs) more fault uncut) e

-- if reading stops at the end, a letter completes the format
letter_cut : (f : Format) (n : ℕ) (bytes : List ℕ) → letter_read f n bytes ≡ Err CutShort → bytes ≡ []
letter_cut f n [] e = refl
letter_cut f n (c ∷ cs) e = absurd (never (conversion_of c) e)
  where
    never : (o : Option Conversion) → with_conversion f (n + 1) o ≡ Err CutShort → ⊥
    never None e = cc
    never (Some k) e = cc

precision_cut : (f : Format) (n : ℕ) (bytes : List ℕ) → precision_read f n bytes ≡ Err CutShort → (o : Option ℕ) × SpellsPrecision o bytes
precision_cut f n [] e = (None, refl)
precision_cut f n (c ∷ cs) e =
    elim (chosen (nat_eq c 46) e) [
      | inl (t, e) ↦ elim (chosen (nat_lt greatest_width (number_of (front is_digit cs))) e) [
        | inl (large, e) ↦ absurd (cc)
        | inr (le, e) ↦
            let none : rest is_digit cs ≡ [] = letter_cut (record f { precision = Some (number_of (front is_digit cs)) }) (n + 1 + length (front is_digit cs)) (rest is_digit cs) e in
            let all : cs ≡ front is_digit cs = front_and_rest is_digit cs ∙ ap (λ x. front is_digit cs ++ x) none ∙ append-nil (front is_digit cs) in (
              Some (number_of (front is_digit cs)),
              (
                front is_digit cs,
                passes_digits (front is_digit cs) (front_passes is_digit cs),
                refl,
                fits (number_of (front is_digit cs)) le,
                ap (λ x. x ∷ cs) (eqb-true c 46 t) ∙ ap (λ x. 46 ∷ x) all,
              ),
            )
      ]
      | inr (t, e) ↦ let none : c ∷ cs ≡ [] = letter_cut f n (c ∷ cs) e in absurd (cc)
    ]

-- a front of a spelling, as far as a width and a precision go
record WidthCut (bytes : List ℕ) : Type 0 where
  size : ℕ
  width : List ℕ
  precision : Option ℕ
  spelling : List ℕ
  spells_width : SpellsWidth size width
  spells : SpellsPrecision precision spelling
  splits : bytes ≡ width ++ spelling

width_cut : (f : Format) (n : ℕ) (bytes : List ℕ) → NoZero bytes → width_read f n bytes ≡ Err CutShort → WidthCut bytes
width_cut f n bytes other e =
    let w : ℕ = number_of (front is_digit bytes) in
    elim (chosen (nat_lt greatest_width (number_of (front is_digit bytes))) e) [
      | inl (large, e) ↦ absurd (cc)
      | inr (le, e) ↦
          let p : (o : Option ℕ) × SpellsPrecision o (rest is_digit bytes) = precision_cut (record f { width = w }) (n + length (front is_digit bytes)) (rest is_digit bytes) e in
          record {
            size = w;
            width = front is_digit bytes;
            precision = p.0;
            spelling = rest is_digit bytes;
            spells_width = width_spelled bytes other (fits w le);
            spells = p.1;
            splits = front_and_rest is_digit bytes;
          }
    ]

flags_cut : (bytes flags more : List ℕ) → AreFlags flags → bytes ≡ flags ++ more → WidthCut more → (f : Format) × SpellsFormat f (bytes ++ 100 ∷ [])
flags_cut bytes flags more are splits l = (
  with_width (with_flags flags) l.size l.precision Signed,
  (
    flags,
    l.width,
    l.spelling,
    are,
    (refl, refl, refl, refl, refl),
    l.spells_width,
    l.spells,
    ap (λ x. x ++ 100 ∷ []) (splits ∙ ap (λ x. flags ++ x) l.splits ∙ sym (append_assoc flags l.width l.spelling)),
  ),
)

pub format_cut : (bytes : List ℕ) → format_read bytes ≡ Err CutShort → (f : Format) × SpellsFormat f (bytes ++ 100 ∷ [])
unfolding format_read
format_cut [] e = flags_cut [] [] [] (inl tt) refl (record { size = 0; width = []; precision = None; spelling = []; spells_width = refl; spells = refl; splits = refl })
format_cut (c ∷ cs) e =
    elim (chosen (is_colon c) e) [
      | inl (t, e) ↦
          let fl : List ℕ = front is_flag cs in
          flags_cut (c ∷ cs) (58 ∷ fl) (rest is_flag cs) (inr (fl, passes_flags fl (front_passes is_flag cs), refl))
          (ap (λ x. x ∷ cs) (eqb-true c 58 t) ∙ ap (λ x. 58 ∷ x) (front_and_rest is_flag cs))
          (width_cut (with_flags fl) (2 + length fl) (rest is_flag cs) (flags_follow is_flag flag_other cs) e)
      | inr (t, e) ↦
          let fl : List ℕ = front is_plain_flag (c ∷ cs) in
          flags_cut (c ∷ cs) fl (rest is_plain_flag (c ∷ cs)) (inl (passes_plain_flags fl (front_passes is_plain_flag (c ∷ cs))))
          (front_and_rest is_plain_flag (c ∷ cs))
          (width_cut (with_flags fl) (1 + length fl) (rest is_plain_flag (c ∷ cs)) (flags_follow is_plain_flag plain_flag_other (c ∷ cs)) e)
    ]

-- a format that does not end short is at fault in one way
pub format_fault : (bytes : List ℕ) (fault : CapFault) → fault ≢ CutShort → format_read bytes ≡ Err fault → fault ≡ BadFormat
unfolding format_read
format_fault [] fault uncut e = absurd (uncut (cc))
format_fault (c ∷ cs) fault uncut e =
    elim (chosen (is_colon c) e) [
      | inl (t, e) ↦ width_fault (with_flags (front is_flag cs)) (2 + length (front is_flag cs)) (rest is_flag cs) e
      | inr (t, e) ↦ width_fault (with_flags (front is_plain_flag (c ∷ cs))) (1 + length (front is_plain_flag (c ∷ cs))) (rest is_plain_flag (c ∷ cs)) e
    ]
  where
    letter_fault : (f : Format) (n : ℕ) (bytes : List ℕ) → letter_read f n bytes ≡ Err fault → fault ≡ BadFormat
    letter_fault f n [] e = absurd (uncut (cc))
    letter_fault f n (x ∷ xs) e = by_letter (conversion_of x) e
      where
        by_letter : (o : Option Conversion) → with_conversion f (n + 1) o ≡ Err fault → fault ≡ BadFormat
        by_letter None e = cc
        by_letter (Some k) e = absurd (cc)

    precision_fault : (f : Format) (n : ℕ) (bytes : List ℕ) → precision_read f n bytes ≡ Err fault → fault ≡ BadFormat
    precision_fault f n [] e = absurd (uncut (cc))
    precision_fault f n (x ∷ xs) e =
        elim (chosen (nat_eq x 46) e) [
          | inl (t, e) ↦ elim (chosen (nat_lt greatest_width (number_of (front is_digit xs))) e) [
            | inl (large, e) ↦ cc
            | inr (le, e) ↦ letter_fault (record f { precision = Some (number_of (front is_digit xs)) }) (n + 1 + length (front is_digit xs)) (rest is_digit xs) e
          ]
          | inr (t, e) ↦ letter_fault f n (x ∷ xs) e
        ]

    width_fault : (f : Format) (n : ℕ) (bytes : List ℕ) → width_read f n bytes ≡ Err fault → fault ≡ BadFormat
    width_fault f n bytes e =
        elim (chosen (nat_lt greatest_width (number_of (front is_digit bytes))) e) [
          | inl (large, e) ↦ cc
          | inr (le, e) ↦ precision_fault (record f { width = number_of (front is_digit bytes) }) (n + length (front is_digit bytes)) (rest is_digit bytes) e
        ]
