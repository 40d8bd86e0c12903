-- Reading the token at the front and its spelling.
use Rattle.std.proofs.Common.{◌≡◌, ℕ, suc, ◌+◌, ◌-◌, ◌<◌, ◌≤◌, ◌≢◌, inl, inr, pos, List, [], ◌∷◌, ◌++◌, length, refl, sym, ◌∙◌, ap, subst, arith, Ok, Err, nat_eq, nat_le, nat_lt, ◌&&◌, cond, Bool, true, false, append_assoc, length-append}
use Rattle.std.specs.Prelude.{Option, Some, None}
use Rattle.std.proofs.lemmas.Grind.{common_steps}
use Rattle.std.proofs.lemmas.Bool.{eqb-true}
use Rattle.std.specs.List.{AllByRecursion}
use Rattle.ti_base.specs.Limits.{greatest_constant}
use Rattle.ti_cap.specs.declared.language.Token.{Token}
use Rattle.ti_cap.specs.declared.language.Token.TheVariants.{Byte, Param, Constant, Store, Load, Compute, Print}
use Rattle.ti_cap.specs.declared.language.Op.{Op}
use Rattle.ti_cap.specs.declared.language.Op.TheVariants.{Add, Sub, Mul, Div, Rem, BitAnd, BitOr, BitXor, Equal, Greater, Less, And, Or, Not, BitNot}
use Rattle.ti_cap.specs.declared.language.Format.{Format}
use Rattle.ti_cap.specs.declared.language.Conversion.{Conversion}
use Rattle.ti_cap.specs.declared.language.Conversion.TheVariants.{Signed, Octal, LowerHex, UpperHex, Text}
use Rattle.ti_cap.specs.declared.language.CapFault.{CapFault}
use Rattle.ti_cap.specs.declared.language.CapFault.TheVariants.{CutShort, UnknownEscape, BadVariable}
use Rattle.ti_cap.specs.Spelling.{IsDigit, IsLetter, IsPlainFlag, AreFlags, number_from, number_of, op_letter, conversion_letter, Spells, SpellsEscape, SpellsConstant, SpellsFormat, SpellsWidth, SpellsPrecision, with_digit}
use Rattle.ti_cap.specs.inner.Lexer.{Lexeme, token_read, escape_read, parameter_read, is_letter, variable_of, variable_read, quoted_read, digits_read, begins_format, format_read, lone_letter, lone_tokens, lone_of, lone_or}
use Rattle.ti_cap.proofs.ChoiceLemmas.{chosen, still, letter_found, letter_holds, letter_missed, apart, pair_of}
use Rattle.ti_cap.proofs.DigitsReadLemmas.{number_from-ge, digit_step, brace_step}
use Rattle.ti_cap.proofs.SpellsFormatLemmas.{format_again}
use Rattle.ti_cap.proofs.FormatReadLemmas.{FormatFront, format_sound}
use Rattle.ti_cap.proofs.FormatUnreadLemmas.{format_final}

-- digits and a brace are read as their number
pub digits_again : (n i : ℕ) (ds t : List ℕ) → AllByRecursion IsDigit ds → number_from n ds ≤ greatest_constant → 0 < i + length ds
    → digits_read n i (ds ++ 125 ∷ t) ≡ Ok (Constant (pos (number_from n ds)), i + length ds + 3)
digits_again n i [] t all small some =
    brace_step n i 125 t refl (omega arith) ∙ ap (λ m. Ok (Constant (pos n), m + 3)) (omega arith)
digits_again n i (c ∷ cs) t all small some =
    let ge : with_digit n c ≤ number_from (with_digit n c) cs = number_from-ge (with_digit n c) cs in
    digit_step n i c (cs ++ 125 ∷ t) all.0.0 all.0.1 (omega arith)
    ∙ digits_again (with_digit n c) (i + 1) cs t all.1 small (omega arith)
    ∙ ap (λ m. Ok (Constant (pos (number_from (with_digit n c) cs)), m + 3)) (omega arith)

abbrev pub read_as : Token → ℕ → Lexeme
read_as token n = Ok (token, n)

lengths : (ds : List ℕ) → 0 + length ds + 3 ≡ suc (suc (length (ds ++ 125 ∷ [])))
lengths ds = omega (arith, length-append ds (125 ∷ []))

parameter_again : (p : ℕ) (t : List ℕ) → 1 ≤ p → p ≤ 9 → parameter_read ((48 + p) ∷ t) ≡ Ok (Param p, 3)
parameter_again p t low high = grind (arith, common_steps)

constant_again : (n : ℕ) (e t : List ℕ) → SpellsConstant n e → escape_read (e ++ t) ≡ Ok (Constant (pos n), suc (length e))
constant_again n e t (inl (small, is)) = rw is refl
constant_again n e t (inr (ds, all, some, value, small, is)) =
    rw is (rw append_assoc (digits_again 0 0 ds t all (omega arith) (omega arith)
    ∙ cc (value, ap (λ m. read_as (Constant (pos n)) m) (lengths ds))))

variable_again : (make : ℕ → Token) (v : ℕ) (t : List ℕ) → IsLetter v → variable_read make (variable_of (v ∷ t)) ≡ Ok (make v, 3)
variable_again make v t h = ap (λ b. variable_read make (cond b (Ok v) (Err BadVariable))) (letter v h)
  where
    letter : (v : ℕ) → IsLetter v → is_letter v ≡ true
    letter v (inl (low, high)) = grind (arith, common_steps, low, high)
    letter v (inr (low, high)) = grind (arith, common_steps, low, high)

-- no byte of these begins a format
none_begins : AllByRecursion (λ token. begins_format (lone_letter token) ≡ false) lone_tokens
none_begins = (refl, (refl, (refl, (refl, (refl, (refl, (refl, (refl, (refl, (refl, (refl, (refl, (refl, (refl, (refl, (refl, (refl, (refl, (refl, (refl, (refl, (refl, (refl, tt)))))))))))))))))))))))

-- where a format begins, one is read
pub format_escape : (c : ℕ) (cs : List ℕ) → begins_format c ≡ true → escape_read (c ∷ cs) ≡ format_read (c ∷ cs)
unfolding lone_of
format_escape c cs h =
    let p : nat_eq c 112 ≡ false = apart begins_format c 112 h refl in
    let s : nat_eq c 80 ≡ false = apart begins_format c 80 h refl in
    let l : nat_eq c 103 ≡ false = apart begins_format c 103 h refl in
    let q : nat_eq c 39 ≡ false = apart begins_format c 39 h refl in
    let d : nat_eq c 123 ≡ false = apart begins_format c 123 h refl in
    let o : lone_of c ≡ None = letter_missed lone_letter begins_format lone_tokens c h none_begins in
    chain (nat_eq c 112) (nat_eq c 80) (nat_eq c 103) (nat_eq c 39) (nat_eq c 123) (lone_of c) (begins_format c) p s l q d o h
  where
    chain : (x1 x2 x3 x4 x5 : Bool) (x6 : Option Token) (x7 : Bool) → x1 ≡ false → x2 ≡ false → x3 ≡ false → x4 ≡ false → x5 ≡ false → x6 ≡ None → x7 ≡ true
        → cond x1 (parameter_read cs) (cond x2 (variable_read (λ v. Store v) (variable_of cs)) (cond x3 (variable_read (λ v. Load v) (variable_of cs))
        (cond x4 (quoted_read cs) (cond x5 (digits_read 0 0 cs) (lone_or x6 (cond x7 (format_read (c ∷ cs)) (Err UnknownEscape))))))) ≡ format_read (c ∷ cs)
    chain x1 x2 x3 x4 x5 x6 x7 e1 e2 e3 e4 e5 e6 e7 = rw (e1, e2, e3, e4, e5, e6, e7) refl

-- the first byte of a format begins one
format_first : (o : Option ℕ) (w : ℕ) (c : Conversion) (flags width pr : List ℕ) → AreFlags flags → SpellsWidth w width → SpellsPrecision o pr
    → (b : ℕ) × (bs : List ℕ) × (flags ++ width ++ pr ++ conversion_letter c ∷ [] ≡ b ∷ bs) × (begins_format b ≡ true)
format_first o w c (b ∷ fl) width pr (inl plain) sw sp = (b, fl ++ width ++ pr ++ conversion_letter c ∷ [], refl, plain_begins b plain.0)
  where
    plain_begins : (b : ℕ) → IsPlainFlag b → begins_format b ≡ true
    plain_begins b (inl e) = rw e refl
    plain_begins b (inr (inl e)) = rw e refl
    plain_begins b (inr (inr e)) = rw e refl
format_first o w c (b ∷ fl) width pr (inr (flags, all, is)) sw sp =
    (58, flags ++ width ++ pr ++ conversion_letter c ∷ [], ap (λ x. x ++ width ++ pr ++ conversion_letter c ∷ []) is, refl)
format_first o w c [] (b ∷ bs) pr are sw sp = (b, bs ++ pr ++ conversion_letter c ∷ [], refl, digit_begins b sw.1.0.0 sw.1.0.1)
  where
    digit_begins : (b : ℕ) → 48 ≤ b → b ≤ 57 → begins_format b ≡ true
    digit_begins b low high = grind (arith, common_steps, low, high)
format_first None w c [] [] pr are sw sp = (conversion_letter c, [], ap (λ x. x ++ conversion_letter c ∷ []) sp, letter_begins c)
  where
    letter_begins : (c : Conversion) → begins_format (conversion_letter c) ≡ true
    letter_begins Signed = refl
    letter_begins Octal = refl
    letter_begins LowerHex = refl
    letter_begins UpperHex = refl
    letter_begins Text = refl
format_first (Some n) w c [] [] pr are sw (digits, all, value, le, is) =
    (46, digits ++ conversion_letter c ∷ [], ap (λ x. x ++ conversion_letter c ∷ []) is, refl)

print_again : (f : Format) (e t : List ℕ) → SpellsFormat f e → escape_read (e ++ t) ≡ Ok (Print f, suc (length e))
print_again f e t (flags, width, pr, are, has, sw, sp, is) =
    let b : (b : ℕ) × (bs : List ℕ) × (flags ++ width ++ pr ++ conversion_letter f.conversion ∷ [] ≡ b ∷ bs) × (begins_format b ≡ true) =
    format_first f.precision f.width f.conversion flags width pr are sw sp in
    let first : e ++ t ≡ b.0 ∷ (b.1 ++ t) = ap (λ x. x ++ t) (is ∙ b.2) in
    ap escape_read first ∙ format_escape b.0 (b.1 ++ t) b.3 ∙ ap format_read (sym first ∙ ap (λ x. x ++ t) is ∙ row)
    ∙ format_again f flags width pr t are has sw sp
    ∙ ap (λ m. read_as (Print f) m) (omega (arith, ap length is, length-append (flags ++ width ++ pr) (conversion_letter f.conversion ∷ []), length-append (flags ++ width) pr, length-append flags width))
  where
    row : (((flags ++ width) ++ pr) ++ conversion_letter f.conversion ∷ []) ++ t ≡ flags ++ (width ++ (pr ++ conversion_letter f.conversion ∷ t))
    row = simp append_assoc

compute_again : (op : Op) (t : List ℕ) → escape_read (op_letter op ∷ t) ≡ Ok (Compute op, 2)
unfolding lone_of
compute_again Add t = refl
compute_again Sub t = refl
compute_again Mul t = refl
compute_again Div t = refl
compute_again Rem t = refl
compute_again BitAnd t = refl
compute_again BitOr t = refl
compute_again BitXor t = refl
compute_again Equal t = refl
compute_again Greater t = refl
compute_again Less t = refl
compute_again And t = refl
compute_again Or t = refl
compute_again Not t = refl
compute_again BitNot t = refl

escape_again : (token : Token) (e t : List ℕ) → SpellsEscape token e → escape_read (e ++ t) ≡ Ok (token, suc (length e))
unfolding lone_of
escape_again (Byte b) e t (is, spelled) = rw (is, spelled) refl
escape_again (Param p) e t (low, high, spelled) = rw spelled (parameter_again p t low high)
escape_again (Constant z) e t (n, is, spelled) = rw is (constant_again n e t spelled)
escape_again (Store v) e t (letter, spelled) = rw spelled (variable_again (λ x. Store x) v t letter)
escape_again (Load v) e t (letter, spelled) = rw spelled (variable_again (λ x. Load x) v t letter)
escape_again (Compute op) e t spelled = rw spelled (compute_again op t)
escape_again (Print f) e t spelled = print_again f e t spelled
escape_again _ e t spelled = rw spelled refl

plain_again : (b : ℕ) (t : List ℕ) → b ≢ 37 → token_read (b ∷ t) ≡ Ok (Byte b, 1)
plain_again b t other = grind (arith, common_steps)

-- what is spelled is read again, whatever follows
pub token_again : (token : Token) (s t : List ℕ) → Spells token s → token_read (s ++ t) ≡ Ok (token, length s)
token_again token s t (inl (b, is, other, spelled)) = rw (is, spelled) (plain_again b t other)
token_again token s t (inr (e, spelled, is)) = rw is (escape_again token e t spelled)

-- a spelling and the bytes after it
pub record Front (bytes : List ℕ) (token : Token) (n : ℕ) : Type 0 where
  pub spelling : List ℕ
  pub tail : List ℕ
  pub spells : Spells token spelling
  pub splits : bytes ≡ spelling ++ tail
  pub long : n ≡ length spelling

-- the same after a `%`
pub record EscapeFront (bytes : List ℕ) (token : Token) (n : ℕ) : Type 0 where
  pub spelling : List ℕ
  pub tail : List ℕ
  pub spells : SpellsEscape token spelling
  pub splits : bytes ≡ spelling ++ tail
  pub long : n ≡ suc (length spelling)

pub record DigitsFront (n i : ℕ) (bytes : List ℕ) (token : Token) (len : ℕ) : Type 0 where
  pub digits : List ℕ
  pub tail : List ℕ
  pub all : AllByRecursion IsDigit digits
  pub small : number_from n digits ≤ greatest_constant
  pub some : 0 < i + length digits
  pub splits : bytes ≡ digits ++ 125 ∷ tail
  pub is : token ≡ Constant (pos (number_from n digits))
  pub long : len ≡ i + length digits + 3

-- each is a byte
abbrev pub AreBytes : List ℕ → Type 0
AreBytes bytes = AllByRecursion (λ b. b < 256) bytes

-- the parts of a reading
pub read_token_is : (k l : Token) (m n : ℕ) → read_as k m ≡ read_as l n → k ≡ l
read_token_is k l m n e = ap (λ p. p.0) (pair_of (k, m) (l, n) _ _ refl refl e)

pub read_length_is : (k l : Token) (m n : ℕ) → read_as k m ≡ read_as l n → m ≡ n
read_length_is k l m n e = ap (λ p. p.1) (pair_of (k, m) (l, n) _ _ refl refl e)

digits_sound : (n i : ℕ) (bytes : List ℕ) (token : Token) (len : ℕ) → n ≤ greatest_constant → digits_read n i bytes ≡ Ok (token, len) → DigitsFront n i bytes token len
unfolding digits_read
digits_sound n i [] token len small e = absurd (cc)
digits_sound n i (c ∷ cs) token len small e =
    elim (chosen (nat_le 48 c && nat_le c 57) e) [
      | inl (d, e) ↦ elim (chosen (nat_le (with_digit n c) greatest_constant) e) [
        | inl (l, e) ↦
            let r : DigitsFront (with_digit n c) (i + 1) cs token len = digits_sound (with_digit n c) (i + 1) cs token len (grind (arith, common_steps, l)) e in
            record {
              digits = c ∷ r.digits;
              tail = r.tail;
              all = ((grind (arith, common_steps, d), grind (arith, common_steps, d)), r.all);
              small = r.small;
              some = omega arith;
              splits = ap (λ x. c ∷ x) r.splits;
              is = r.is;
              long = r.long ∙ omega arith;
            }
        | inr (l, e) ↦ absurd (cc)
      ]
      | inr (d, e) ↦ elim (chosen (nat_eq c 125 && nat_lt 0 i) e) [
        | inl (b, e) ↦ record { digits = []; tail = cs; all = tt; small = small; some = grind (arith, common_steps, b); splits = ap (λ x. x ∷ cs) (grind (arith, common_steps, b)); is = sym (read_token_is _ _ _ _ e); long = sym (read_length_is _ _ _ _ e) ∙ omega arith }
        | inr (b, e) ↦ absurd (cc)
      ]
    ]

as_escape : (bytes : List ℕ) (k l : Token) (m n : ℕ) → read_as k m ≡ read_as l n → EscapeFront bytes k m → EscapeFront bytes l n
as_escape bytes k l m n e f = record { spelling = f.spelling; tail = f.tail; spells = let P : Token → Type 0 = λ x. SpellsEscape x f.spelling in subst P (read_token_is _ _ _ _ e) f.spells; splits = f.splits; long = sym (read_length_is _ _ _ _ e) ∙ f.long }

parameter_sound : (cs : List ℕ) (token : Token) (len : ℕ) → parameter_read cs ≡ Ok (token, len) → EscapeFront (112 ∷ cs) token len
parameter_sound [] token len e = absurd (cc)
parameter_sound (d ∷ ds) token len e =
    elim (chosen (nat_le 49 d && nat_le d 57) e) [
      | inl (t, e) ↦ as_escape _ _ _ _ _ e (record { spelling = 112 ∷ d ∷ []; tail = ds; spells = (grind (arith, common_steps, t), grind (arith, common_steps, t), ap (λ x. 112 ∷ x ∷ []) (digit_is d t)); splits = refl; long = refl })
      | inr (t, e) ↦ absurd (cc)
    ]
  where
    digit_is : (d : ℕ) → nat_le 49 d && nat_le d 57 ≡ true → d ≡ 48 + (d - 48)
    digit_is d t = grind (arith, common_steps, t)

quoted_sound : (cs : List ℕ) (token : Token) (len : ℕ) → AreBytes cs → quoted_read cs ≡ Ok (token, len) → EscapeFront (39 ∷ cs) token len
quoted_sound [] token len fits e = absurd (cc)
quoted_sound (n ∷ []) token len fits e = absurd (cc)
quoted_sound (n ∷ q ∷ cs) token len fits e =
    elim (chosen (nat_eq q 39) e) [
      | inl (t, e) ↦ as_escape _ _ _ _ _ e (record { spelling = 39 ∷ n ∷ 39 ∷ []; tail = cs; spells = (n, refl, inl (fits.0, refl)); splits = ap (λ x. 39 ∷ n ∷ x ∷ cs) (eqb-true q 39 t); long = refl })
      | inr (t, e) ↦ absurd (cc)
    ]

braced_sound : (cs : List ℕ) (token : Token) (len : ℕ) → digits_read 0 0 cs ≡ Ok (token, len) → EscapeFront (123 ∷ cs) token len
braced_sound cs token len e =
    let f : DigitsFront 0 0 cs token len = digits_sound 0 0 cs token len (omega arith) e in
    record {
      spelling = 123 ∷ (f.digits ++ 125 ∷ []);
      tail = f.tail;
      spells = let P : Token → Type 0 = λ x. SpellsEscape x (123 ∷ (f.digits ++ 125 ∷ [])) in
          subst P (sym f.is) (number_of f.digits, refl, inr (f.digits, f.all, omega arith, refl, f.small, refl));
      splits = ap (λ x. 123 ∷ x) (f.splits ∙ sym (append_assoc f.digits (125 ∷ []) f.tail));
      long = f.long ∙ lengths f.digits;
    }

variable_sound : (make : ℕ → Token) (d : ℕ) (cs : List ℕ) (token : Token) (len : ℕ) → ((v : ℕ) → IsLetter v → SpellsEscape (make v) (d ∷ v ∷ []))
    → variable_read make (variable_of cs) ≡ Ok (token, len) → EscapeFront (d ∷ cs) token len
variable_sound make d [] token len spell e = absurd (cc)
variable_sound make d (v ∷ vs) token len spell e = by_test (is_letter v) refl e
  where
    letter : (v : ℕ) → is_letter v ≡ true → IsLetter v
    letter v t = grind (arith, common_steps, t)

    by_test : (b : Bool) → is_letter v ≡ b → variable_read make (cond b (Ok v) (Err BadVariable)) ≡ Ok (token, len) → EscapeFront (d ∷ v ∷ vs) token len
    by_test true t e = as_escape _ _ _ _ _ e (record { spelling = d ∷ v ∷ []; tail = vs; spells = spell v (letter v t); splits = refl; long = refl })
    by_test false t e = absurd (cc)

-- each of these is spelled by its letter
lone_spelled : AllByRecursion (λ token. SpellsEscape token (lone_letter token ∷ [])) lone_tokens
lone_spelled = ((refl, refl), (refl, (refl, (refl, (refl, (refl, (refl, (refl, (refl, (refl, (refl, (refl, (refl, (refl, (refl, (refl, (refl, (refl, (refl, (refl, (refl, (refl, (refl, tt)))))))))))))))))))))))

lone_sound : (c : ℕ) (cs : List ℕ) (token : Token) → lone_of c ≡ Some token → EscapeFront (c ∷ cs) token 2
unfolding lone_of
lone_sound c cs token found =
    let spelled : SpellsEscape token (lone_letter token ∷ []) = letter_holds lone_letter (λ x. SpellsEscape x (lone_letter x ∷ [])) lone_tokens c token lone_spelled found in
    record { spelling = lone_letter token ∷ []; tail = cs; spells = spelled; splits = ap (λ x. x ∷ cs) (letter_found lone_letter lone_tokens c token found); long = refl }

print_sound : (bytes : List ℕ) (token : Token) (len : ℕ) → format_read bytes ≡ Ok (token, len) → EscapeFront bytes token len
print_sound bytes token len e =
    let f : FormatFront bytes token len = format_sound bytes token len e in
    record { spelling = f.spelling; tail = f.tail; spells = let P : Token → Type 0 = λ x. SpellsEscape x f.spelling in subst P (sym f.is) f.spells; splits = f.splits; long = f.long }

-- a byte that begins no escape with more to it than one letter or a format
other_sound : (c : ℕ) (cs : List ℕ) (token : Token) (len : ℕ) (o : Option Token) → lone_of c ≡ o
    → lone_or o (cond (begins_format c) (format_read (c ∷ cs)) (Err UnknownEscape)) ≡ Ok (token, len) → EscapeFront (c ∷ cs) token len
other_sound c cs token len (Some k) found e = as_escape _ _ _ _ _ e (lone_sound c cs k found)
other_sound c cs token len None found e =
    elim (chosen (begins_format c) e) [
      | inl (t, e) ↦ print_sound (c ∷ cs) token len e
      | inr (t, e) ↦ absurd (cc)
    ]

escape_sound : (bytes : List ℕ) (token : Token) (len : ℕ) → AreBytes bytes → escape_read bytes ≡ Ok (token, len) → EscapeFront bytes token len
escape_sound [] token len fits e = absurd (cc)
escape_sound (c ∷ cs) token len fits e =
    elim (chosen (nat_eq c 112) e) [
      | inl (t, e) ↦ at c 112 t (parameter_sound cs token len e)
      | inr (t, e) ↦ elim (chosen (nat_eq c 80) e) [
        | inl (t, e) ↦ at c 80 t (variable_sound (λ v. Store v) 80 cs token len (λ v h. (h, refl)) e)
        | inr (t, e) ↦ elim (chosen (nat_eq c 103) e) [
          | inl (t, e) ↦ at c 103 t (variable_sound (λ v. Load v) 103 cs token len (λ v h. (h, refl)) e)
          | inr (t, e) ↦ elim (chosen (nat_eq c 39) e) [
            | inl (t, e) ↦ at c 39 t (quoted_sound cs token len fits.1 e)
            | inr (t, e) ↦ elim (chosen (nat_eq c 123) e) [
              | inl (t, e) ↦ at c 123 t (braced_sound cs token len e)
              | inr (t, e) ↦ other_sound c cs token len (lone_of c) refl e
            ]
          ]
        ]
      ]
    ]
  where
    at : (c d : ℕ) → nat_eq c d ≡ true → EscapeFront (d ∷ cs) token len → EscapeFront (c ∷ cs) token len
    at c d t f = let P : ℕ → Type 0 = λ x. EscapeFront (x ∷ cs) token len in subst P (sym (eqb-true c d t)) f

-- what is read is spelled so
pub token_sound : (bytes : List ℕ) (token : Token) (len : ℕ) → AreBytes bytes → token_read bytes ≡ Ok (token, len) → Front bytes token len
token_sound [] token len fits e = absurd (cc)
token_sound (b ∷ bs) token len fits e =
    elim (chosen (nat_eq b 37) e) [
      | inl (t, e) ↦
          let f : EscapeFront bs token len = escape_sound bs token len fits.1 e in
          record { spelling = 37 ∷ f.spelling; tail = f.tail; spells = inr (f.spelling, f.spells, refl); splits = cons_at b 37 bs _ (eqb-true b 37 t) f.splits; long = f.long }
      | inr (t, e) ↦
          let k : Byte b ≡ token = read_token_is (Byte b) token 1 len e in
          record { spelling = b ∷ []; tail = bs; spells = inl (b, sym k, (λ is. absurd (grind (arith, common_steps, t, is))), refl); splits = refl; long = sym (read_length_is (Byte b) token 1 len e) }
    ]
  where
    cons_at : (x y : ℕ) (xs ys : List ℕ) → x ≡ y → xs ≡ ys → x ∷ xs ≡ y ∷ ys
    cons_at x y xs ys p q = cc

-- an error other than the end stays, whatever follows
digits_final : (n i : ℕ) (cs more : List ℕ) (f : CapFault) → f ≢ CutShort → digits_read n i cs ≡ Err f → digits_read n i (cs ++ more) ≡ Err f
unfolding digits_read
digits_final n i [] more f uncut e = absurd (uncut (cc))
digits_final n i (c ∷ cs) more f uncut e =
    still (nat_le 48 c && nat_le c 57) _ _ _ _ f
    (still (nat_le (with_digit n c) greatest_constant) _ _ _ _ f (digits_final (with_digit n c) (i + 1) cs more f uncut) (λ e. e))
    (λ e. e) e

parameter_final : (cs more : List ℕ) (f : CapFault) → f ≢ CutShort → parameter_read cs ≡ Err f → parameter_read (cs ++ more) ≡ Err f
parameter_final [] more f uncut e = absurd (uncut (cc))
parameter_final (d ∷ ds) more f uncut e = e

quoted_final : (cs more : List ℕ) (f : CapFault) → f ≢ CutShort → quoted_read cs ≡ Err f → quoted_read (cs ++ more) ≡ Err f
quoted_final [] more f uncut e = absurd (uncut (cc))
quoted_final (n ∷ []) more f uncut e = absurd (uncut (cc))
quoted_final (n ∷ q ∷ cs) more f uncut e = e

variable_final : (make : ℕ → Token) (cs more : List ℕ) (f : CapFault) → f ≢ CutShort → variable_read make (variable_of cs) ≡ Err f → variable_read make (variable_of (cs ++ more)) ≡ Err f
variable_final make [] more f uncut e = absurd (uncut (cc))
variable_final make (v ∷ vs) more f uncut e = e

still_lone : (o : Option Token) (x x' : Lexeme) (f : CapFault) → (x ≡ Err f → x' ≡ Err f) → lone_or o x ≡ Err f → lone_or o x' ≡ Err f
still_lone (Some k) x x' f p e = e
still_lone None x x' f p e = p e

escape_final : (bs more : List ℕ) (f : CapFault) → f ≢ CutShort → escape_read bs ≡ Err f → escape_read (bs ++ more) ≡ Err f
escape_final [] more f uncut e = absurd (uncut (cc))
escape_final (c ∷ cs) more f uncut e =
    still (nat_eq c 112) _ _ _ _ f (parameter_final cs more f uncut)
    (still (nat_eq c 80) _ _ _ _ f (variable_final (λ v. Store v) cs more f uncut)
    (still (nat_eq c 103) _ _ _ _ f (variable_final (λ v. Load v) cs more f uncut)
    (still (nat_eq c 39) _ _ _ _ f (quoted_final cs more f uncut)
    (still (nat_eq c 123) _ _ _ _ f (digits_final 0 0 cs more f uncut)
    (still_lone (lone_of c) _ _ f
    (still (begins_format c) _ _ _ _ f (format_final (c ∷ cs) more f uncut) (λ e. e))))))) e

pub token_final : (bytes more : List ℕ) (f : CapFault) → f ≢ CutShort → token_read bytes ≡ Err f → token_read (bytes ++ more) ≡ Err f
token_final [] more f uncut e = absurd (uncut (cc))
token_final (b ∷ bs) more f uncut e = still (nat_eq b 37) _ _ _ _ f (escape_final bs more f uncut) (λ e. e) e
