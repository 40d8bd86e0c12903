-- Why no token is read.
use Rattle.std.proofs.Common.{◌≡◌, ℕ, ◌+◌, ◌≤◌, ◌≢◌, ◌⊎◌, inl, inr, pos, List, [], ◌∷◌, ◌++◌, length, refl, sym, ◌∙◌, ap, subst, arith, Ok, Err, nat_eq, nat_le, nat_lt, ◌&&◌, ◌||◌, cond, Bool, true, false}
use Rattle.std.specs.Prelude.{Option, Some, None, is_some}
use Rattle.std.proofs.lemmas.List.{append-nil}
use Rattle.std.proofs.lemmas.Grind.{common_steps}
use Rattle.std.proofs.lemmas.Bool.{eqb-true}
use Rattle.std.specs.List.{AllByRecursion}
use Rattle.ti_base.specs.Limits.{greatest_constant}
use Rattle.ti_cap.specs.declared.language.Token.{Token}
use Rattle.ti_cap.specs.declared.language.Token.TheVariants.{Byte, Param, Constant, Store, Load, Print}
use Rattle.ti_cap.specs.declared.language.Format.{Format}
use Rattle.ti_cap.specs.declared.language.Conversion.{Conversion}
use Rattle.ti_cap.specs.declared.language.Conversion.TheVariants.{Signed, Octal, LowerHex, UpperHex, Text}
use Rattle.ti_cap.specs.declared.language.CapFault.{CapFault}
use Rattle.ti_cap.specs.declared.language.CapFault.TheVariants.{CutShort, UnknownEscape, BadParameter, BadVariable, BadConstant, BadFormat}
use Rattle.ti_cap.specs.Spelling.{IsDigit, IsLetter, number_from, number_of, conversion_letter, SpellsEscape, SpellsFormat, with_digit}
use Rattle.ti_cap.specs.inner.Lexer.{Lexeme, token_read, escape_read, parameter_read, is_letter, variable_of, variable_read, quoted_read, digits_read, conversions, conversion_of, begins_format, format_read, lone_of, lone_or}
use Rattle.ti_cap.specs.Refusal.{IsCut, IsNext, IsUnreadable, escape_fault, opens_format}
use Rattle.ti_cap.proofs.ChoiceLemmas.{chosen, apart, letter_found}
use Rattle.ti_cap.proofs.FormatUnreadLemmas.{format_cut, format_fault}
use Rattle.ti_cap.proofs.SpellsLemmas.{token_again, token_final, AreBytes}

-- these bytes after a `%` begin an escape and are not the whole of it
IsEscapeCut : List ℕ → Type 0
IsEscapeCut bytes = (token : Token) × (b : ℕ) × (more : List ℕ) × SpellsEscape token (bytes ++ b ∷ more)

digits_cut : (n i : ℕ) (cs : List ℕ) → n ≤ greatest_constant → digits_read n i cs ≡ Err CutShort → AllByRecursion IsDigit cs × (number_from n cs ≤ greatest_constant)
unfolding digits_read
digits_cut n i [] small e = (tt, small)
digits_cut n i (c ∷ cs) small e =
    elim (chosen (nat_le 48 c && nat_le c 57) e) [
      | inl (d, e) ↦ elim (chosen (nat_le (with_digit n c) greatest_constant) e) [
        | inl (l, e) ↦
            let r : AllByRecursion IsDigit cs × (number_from (with_digit n c) cs ≤ greatest_constant) = digits_cut (with_digit n c) (i + 1) cs (grind (arith, common_steps, l)) e in
            (((grind (arith, common_steps, d), grind (arith, common_steps, d)), r.0), r.1)
        | inr (l, e) ↦ absurd (cc)
      ]
      | inr (d, e) ↦ elim (chosen (nat_eq c 125 && nat_lt 0 i) e) [ inl (b, e) ↦ absurd (cc) | inr (b, e) ↦ absurd (cc) ]
    ]

braced_cut : (cs : List ℕ) → digits_read 0 0 cs ≡ Err CutShort → IsEscapeCut (123 ∷ cs)
unfolding IsEscapeCut
braced_cut [] e = (Constant (pos 0), 48, 125 ∷ [], (0, refl, inr (48 ∷ [], ((omega arith, omega arith), tt), omega arith, refl, omega arith, refl)))
braced_cut (c ∷ cs) e =
    let r : AllByRecursion IsDigit (c ∷ cs) × (number_from 0 (c ∷ cs) ≤ greatest_constant) = digits_cut 0 0 (c ∷ cs) (omega arith) e in
    (Constant (pos (number_of (c ∷ cs))), 125, [], (number_of (c ∷ cs), refl, inr (c ∷ cs, r.0, omega arith, refl, r.1, refl)))

quoted_cut : (cs : List ℕ) → AreBytes cs → quoted_read cs ≡ Err CutShort → IsEscapeCut (39 ∷ cs)
unfolding IsEscapeCut
quoted_cut [] fits e = (Constant (pos 0), 0, 39 ∷ [], (0, refl, inl (omega arith, refl)))
quoted_cut (n ∷ []) fits e = (Constant (pos n), 39, [], (n, refl, inl (fits.0, refl)))
quoted_cut (n ∷ q ∷ cs) fits e = elim (chosen (nat_eq q 39) e) [ inl (b, e) ↦ absurd (cc) | inr (b, e) ↦ absurd (cc) ]

parameter_cut : (cs : List ℕ) → parameter_read cs ≡ Err CutShort → IsEscapeCut (112 ∷ cs)
unfolding IsEscapeCut
parameter_cut [] e = (Param 1, 49, [], (omega arith, omega arith, refl))
parameter_cut (d ∷ ds) e = elim (chosen (nat_le 49 d && nat_le d 57) e) [ inl (b, e) ↦ absurd (cc) | inr (b, e) ↦ absurd (cc) ]

variable_cut : (make : ℕ → Token) (d : ℕ) (cs : List ℕ) → ((v : ℕ) → IsLetter v → SpellsEscape (make v) (d ∷ v ∷ []))
    → variable_read make (variable_of cs) ≡ Err CutShort → IsEscapeCut (d ∷ cs)
unfolding IsEscapeCut
variable_cut make d [] spell e = (make 65, 65, [], spell 65 (inl (omega arith, omega arith)))
variable_cut make d (v ∷ vs) spell e = absurd (by_test (is_letter v) e)
  where
    by_test : (b : Bool) → variable_read make (cond b (Ok v) (Err BadVariable)) ≡ Err CutShort → ⊥
    by_test true e = cc
    by_test false e = cc

print_cut : (bytes : List ℕ) → format_read bytes ≡ Err CutShort → IsEscapeCut bytes
unfolding IsEscapeCut
print_cut bytes e = let f : (f : Format) × SpellsFormat f (bytes ++ 100 ∷ []) = format_cut bytes e in (Print f.0, 100, [], f.1)

other_cut : (c : ℕ) (cs : List ℕ) (o : Option Token) → lone_or o (cond (begins_format c) (format_read (c ∷ cs)) (Err UnknownEscape)) ≡ Err CutShort → IsEscapeCut (c ∷ cs)
other_cut c cs (Some k) e = absurd (cc)
other_cut c cs None e =
    elim (chosen (begins_format c) e) [
      | inl (t, e) ↦ print_cut (c ∷ cs) e
      | inr (t, e) ↦ absurd (cc)
    ]

escape_cut : (bs : List ℕ) → AreBytes bs → escape_read bs ≡ Err CutShort → IsEscapeCut bs
escape_cut [] fits e = unfold IsEscapeCut in (Byte 37, 37, [], (refl, refl))
escape_cut (c ∷ cs) fits e =
    elim (chosen (nat_eq c 112) e) [
      | inl (t, e) ↦ at 112 t (parameter_cut cs e)
      | inr (t, e) ↦ elim (chosen (nat_eq c 80) e) [
        | inl (t, e) ↦ at 80 t (variable_cut (λ v. Store v) 80 cs (λ v h. (h, refl)) e)
        | inr (t, e) ↦ elim (chosen (nat_eq c 103) e) [
          | inl (t, e) ↦ at 103 t (variable_cut (λ v. Load v) 103 cs (λ v h. (h, refl)) e)
          | inr (t, e) ↦ elim (chosen (nat_eq c 39) e) [
            | inl (t, e) ↦ at 39 t (quoted_cut cs fits.1 e)
            | inr (t, e) ↦ elim (chosen (nat_eq c 123) e) [
              | inl (t, e) ↦ at 123 t (braced_cut cs e)
              | inr (t, e) ↦ other_cut c cs (lone_of c) e
            ]
          ]
        ]
      ]
    ]
  where
    at : (d : ℕ) → nat_eq c d ≡ true → IsEscapeCut (d ∷ cs) → IsEscapeCut (c ∷ cs)
    at d t f = let P : ℕ → Type 0 = λ x. IsEscapeCut (x ∷ cs) in subst P (sym (eqb-true c d t)) f

-- if the reading stops at the end, the bytes are cut
pub token_cut : (bytes : List ℕ) → AreBytes bytes → bytes ≢ [] → token_read bytes ≡ Err CutShort → IsCut bytes
token_cut [] fits some e = absurd (some refl)
token_cut (b ∷ bs) fits some e =
    elim (chosen (nat_eq b 37) e) [
      | inl (t, e) ↦
          let f : IsEscapeCut bs = escape_cut bs fits.1 e in
          unfold IsEscapeCut in
          (f.0, 37 ∷ (bs ++ f.1 ∷ f.2), f.1, f.2, inr (bs ++ f.1 ∷ f.2, f.3, refl), ap (λ x. x ∷ (bs ++ f.1 ∷ f.2)) (sym (eqb-true b 37 t)))
      | inr (t, e) ↦ absurd (cc)
    ]

-- a conversion without more is read
letter_read_on : (k : Conversion) (cs : List ℕ) (f : CapFault) → format_read (conversion_letter k ∷ cs) ≡ Err f → ⊥
unfolding format_read
letter_read_on Signed cs f e = cc
letter_read_on Octal cs f e = cc
letter_read_on LowerHex cs f e = cc
letter_read_on UpperHex cs f e = cc
letter_read_on Text cs f e = cc

-- a byte that opens a format
opened : (c : ℕ) → opens_format c ≡ true → BadFormat ≡ escape_fault c
opened c h = chain (nat_eq c 112) (nat_eq c 80) (nat_eq c 103) (nat_eq c 39) (nat_eq c 123) (opens_format c)
    (apart opens_format c 112 h refl) (apart opens_format c 80 h refl) (apart opens_format c 103 h refl) (apart opens_format c 39 h refl) (apart opens_format c 123 h refl) h
  where
    chain : (x1 x2 x3 x4 x5 x6 : Bool) → x1 ≡ false → x2 ≡ false → x3 ≡ false → x4 ≡ false → x5 ≡ false → x6 ≡ true
        → BadFormat ≡ cond x1 BadParameter (cond (x2 || x3) BadVariable (cond (x4 || x5) BadConstant (cond x6 BadFormat UnknownEscape)))
    chain x1 x2 x3 x4 x5 x6 e1 e2 e3 e4 e5 e6 = rw (e1, e2, e3, e4, e5, e6) refl

-- a byte that begins no escape
unknown : (c : ℕ) → nat_eq c 112 ≡ false → nat_eq c 80 ≡ false → nat_eq c 103 ≡ false → nat_eq c 39 ≡ false → nat_eq c 123 ≡ false → opens_format c ≡ false
    → UnknownEscape ≡ escape_fault c
unknown c e1 e2 e3 e4 e5 e6 = chain (nat_eq c 112) (nat_eq c 80) (nat_eq c 103) (nat_eq c 39) (nat_eq c 123) (opens_format c) e1 e2 e3 e4 e5 e6
  where
    chain : (x1 x2 x3 x4 x5 x6 : Bool) → x1 ≡ false → x2 ≡ false → x3 ≡ false → x4 ≡ false → x5 ≡ false → x6 ≡ false
        → UnknownEscape ≡ cond x1 BadParameter (cond (x2 || x3) BadVariable (cond (x4 || x5) BadConstant (cond x6 BadFormat UnknownEscape)))
    chain x1 x2 x3 x4 x5 x6 e1 e2 e3 e4 e5 e6 = rw (e1, e2, e3, e4, e5, e6) refl

-- a format at fault begins with a byte that opens one
format_named : (c : ℕ) (cs : List ℕ) (f : CapFault) → f ≢ CutShort → begins_format c ≡ true → format_read (c ∷ cs) ≡ Err f → f ≡ escape_fault c
format_named c cs f uncut h e = by_test (opens_format c) refl
  where
    by_letter : (o : Option Conversion) → conversion_of c ≡ o → opens_format c || is_some o ≡ true → opens_format c ≡ false → ⊥
    by_letter None found h closed = let q : opens_format c || false ≡ true = h in absurd (grind (arith, common_steps, q, closed))
    by_letter (Some k) found h closed =
        letter_read_on k cs f (ap (λ x. format_read (x ∷ cs)) (sym (letter_found conversion_letter conversions c k found)) ∙ e)

    by_test : (b : Bool) → opens_format c ≡ b → f ≡ escape_fault c
    by_test true t = format_fault (c ∷ cs) f uncut e ∙ opened c t
    by_test false t = absurd (by_letter (conversion_of c) refl h t)

-- the fault is named by the byte after the `%`
named : (c : ℕ) (cs : List ℕ) (f : CapFault) → f ≢ CutShort → escape_read (c ∷ cs) ≡ Err f → f ≡ escape_fault c
unfolding digits_read
named c cs f uncut e =
    elim (chosen (nat_eq c 112) e) [
      | inl (t, e) ↦ at 112 t (parameter cs e)
      | inr (t1, e) ↦ elim (chosen (nat_eq c 80) e) [
        | inl (t, e) ↦ at 80 t (variable (λ v. Store v) cs e)
        | inr (t2, e) ↦ elim (chosen (nat_eq c 103) e) [
          | inl (t, e) ↦ at 103 t (variable (λ v. Load v) cs e)
          | inr (t3, e) ↦ elim (chosen (nat_eq c 39) e) [
            | inl (t, e) ↦ at 39 t (quoted cs e)
            | inr (t4, e) ↦ elim (chosen (nat_eq c 123) e) [
              | inl (t, e) ↦ at 123 t (braced 0 0 cs e)
              | inr (t5, e) ↦ other (lone_of c) t1 t2 t3 t4 t5 e
            ]
          ]
        ]
      ]
    ]
  where
    at : (d : ℕ) → nat_eq c d ≡ true → f ≡ escape_fault d → f ≡ escape_fault c
    at d t g = let P : ℕ → Type 0 = λ x. f ≡ escape_fault x in subst P (sym (eqb-true c d t)) g

    parameter : (cs : List ℕ) → parameter_read cs ≡ Err f → f ≡ BadParameter
    parameter [] e = absurd (uncut (cc))
    parameter (d ∷ ds) e = elim (chosen (nat_le 49 d && nat_le d 57) e) [ inl (t, e) ↦ absurd (cc) | inr (t, e) ↦ cc ]

    variable : (make : ℕ → Token) (cs : List ℕ) → variable_read make (variable_of cs) ≡ Err f → f ≡ BadVariable
    variable make [] e = absurd (uncut (cc))
    variable make (v ∷ vs) e = by_test (is_letter v) e
      where
        by_test : (b : Bool) → variable_read make (cond b (Ok v) (Err BadVariable)) ≡ Err f → f ≡ BadVariable
        by_test true e = absurd (cc)
        by_test false e = cc

    quoted : (cs : List ℕ) → quoted_read cs ≡ Err f → f ≡ BadConstant
    quoted [] e = absurd (uncut (cc))
    quoted (n ∷ []) e = absurd (uncut (cc))
    quoted (n ∷ q ∷ cs) e = elim (chosen (nat_eq q 39) e) [ inl (t, e) ↦ absurd (cc) | inr (t, e) ↦ cc ]

    braced : (n i : ℕ) (cs : List ℕ) → digits_read n i cs ≡ Err f → f ≡ BadConstant
    braced n i [] e = absurd (uncut (cc))
    braced n i (c ∷ cs) e =
        elim (chosen (nat_le 48 c && nat_le c 57) e) [
          | inl (d, e) ↦ elim (chosen (nat_le (with_digit n c) greatest_constant) e) [ inl (l, e) ↦ braced (with_digit n c) (i + 1) cs e | inr (l, e) ↦ cc ]
          | inr (d, e) ↦ elim (chosen (nat_eq c 125 && nat_lt 0 i) e) [ inl (b, e) ↦ absurd (cc) | inr (b, e) ↦ cc ]
        ]

    closed : begins_format c ≡ false → opens_format c ≡ false
    closed h = grind (arith, common_steps, h)

    other : (o : Option Token) → nat_eq c 112 ≡ false → nat_eq c 80 ≡ false → nat_eq c 103 ≡ false → nat_eq c 39 ≡ false → nat_eq c 123 ≡ false
        → lone_or o (cond (begins_format c) (format_read (c ∷ cs)) (Err UnknownEscape)) ≡ Err f → f ≡ escape_fault c
    other (Some k) t1 t2 t3 t4 t5 e = absurd (cc)
    other None t1 t2 t3 t4 t5 e =
        elim (chosen (begins_format c) e) [
          | inl (t, e) ↦ format_named c cs f uncut t e
          | inr (t, e) ↦ let is : f ≡ UnknownEscape = cc in is ∙ unknown c t1 t2 t3 t4 t5 (closed t)
        ]

-- what is next is read
pub next_read : (bytes : List ℕ) (token : Token) (f : CapFault) → token_read bytes ≡ Err f → ¬ IsNext token bytes
next_read bytes token f e (s, tail, spelled, is) =
    let r : token_read (s ++ tail) ≡ Ok (token, length s) = token_again token s tail spelled in
    let q : token_read bytes ≡ token_read (s ++ tail) = ap token_read is in
    absurd (cc)

-- another error than the end comes however the bytes go on
pub final_uncut : (bytes : List ℕ) (f : CapFault) → f ≢ CutShort → token_read bytes ≡ Err f → ¬ IsCut bytes
final_uncut bytes f uncut e (token, s, b, more, spelled, is) =
    next_read s token f (ap token_read is ∙ token_final bytes (b ∷ more) f uncut e) (s, [], spelled, sym (append-nil s))

is_cut : (f : CapFault) → (f ≡ CutShort) ⊎ (f ≢ CutShort)
is_cut CutShort = inl refl
is_cut _ = inr (λ h. absurd (cc))

-- the `%` of an escape that is at fault
faulty : (bytes : List ℕ) (f : CapFault) → f ≢ CutShort → token_read bytes ≡ Err f → (c : ℕ) × (tail : List ℕ) × (bytes ≡ 37 ∷ c ∷ tail) × (f ≡ escape_fault c)
faulty [] f uncut e = absurd (uncut (cc))
faulty (b ∷ []) f uncut e =
    elim (chosen (nat_eq b 37) e) [ inl (t, e) ↦ absurd (uncut (cc)) | inr (t, e) ↦ absurd (cc) ]
faulty (b ∷ c ∷ cs) f uncut e =
    elim (chosen (nat_eq b 37) e) [
      | inl (t, e) ↦ (c, cs, ap (λ x. x ∷ c ∷ cs) (eqb-true b 37 t), named c cs f uncut e)
      | inr (t, e) ↦ absurd (cc)
    ]

-- what is not read is unreadable, and this is why
pub unreadable : (bytes : List ℕ) (f : CapFault) → AreBytes bytes → bytes ≢ [] → token_read bytes ≡ Err f → IsUnreadable bytes f
unreadable bytes f fits some e =
    record {
      no_token = λ token. next_read bytes token f e;
      why = elim (is_cut f) [
        | inl h ↦ inl (h, token_cut bytes fits some (e ∙ ap (λ x. failed x) h))
        | inr h ↦ let r : (c : ℕ) × (tail : List ℕ) × (bytes ≡ 37 ∷ c ∷ tail) × (f ≡ escape_fault c) = faulty bytes f h e in
            inr (r.0, r.1, r.2, final_uncut bytes f h e, r.3)
      ];
    }
  where
    failed : CapFault → Lexeme
    failed f = Err f
