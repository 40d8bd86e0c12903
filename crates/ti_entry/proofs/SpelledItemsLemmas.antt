-- Bytes that have a section of a spelled entry at a place: its items pass their checks, and are read as what they are.
use Rattle.std.proofs.Common.{◌≡◌, ℕ, zero, suc, ◌+◌, ◌-◌, ◌*◌, ◌/◌, ◌%◌, ◌^◌, ◌<◌, ◌≤◌, ℤ, pos, negsuc, Bool, true, false, not, ◌||◌, eqb, ltb, List, [], ◌∷◌, ◌++◌, map, length, get_or, drop, Some, refl, sym, ap, subst, ◌∙◌, arith, append_assoc}
use Rattle.std.proofs.Math.Nat.{mod-eq_of_lt, pow-suc}
use Rattle.std.proofs.lemmas.List.{drop-drop, drop_at, get_or-drop, length-append, length-drop, take-append-drop}
use Rattle.std.proofs.lemmas.Bool.{le-ltb, lt-ltb, ne_eqb}
use Rattle.std.proofs.lemmas.List.Sums.{take_while-cons}
use Rattle.std.specs.List.{flat_map, AllByRecursion, list_any}
use Rattle.std.specs.Prelude.{unwrap_or}
use Rattle.ti_words.specs.declared.Flag.{Flag}
use Rattle.ti_words.specs.declared.Flag.TheVariants as flags
use Rattle.ti_words.specs.declared.Number.{Number}
use Rattle.ti_words.specs.declared.Number.TheVariants as numbers
use Rattle.ti_words.specs.declared.Width.{Width}
use Rattle.ti_words.specs.Marks.{byte_of_flag, word_of_number, flag_of_byte, number_of_word}
use Rattle.ti_words.specs.Texts.{TextValue, AbsentText, CancelledText, TextOf, is_nul}
use Rattle.ti_words.specs.Word.{unsigned_at, word_at, word, signed, low_bytes}
use Rattle.ti_words.specs.Widths.{number_size}
use Rattle.ti_layout.specs.declared.section.SectionItem.TheVariants as item
use Rattle.ti_layout.specs.Refusal.{item_check}
use Rattle.ti_layout.specs.declared.fault.Fault.{Fault}
use Rattle.ti_layout.specs.Layout.{places}
use Rattle.ti_layout.specs.Table.{text_of_word, until_nul}
use Rattle.ti_layout.specs.Checks.{Check, Passes, verdict, is_not_negative, is_number_word, is_offset_below, is_ended}
use Rattle.ti_words.specs.Spelling.{HasNoNul, FitsWidth, IsText, Has, Each, count_word}
use Rattle.ti_layout.proofs.WordLemmas.{below, above}
use Rattle.ti_draft.proofs.LengthLemmas.{length_word}
use Rattle.ti_layout.proofs.SectionReadLemmas.{Passed, one_by_one}

-- ---- the bytes from a place on

pub record HasFrom (bytes : List ℕ) (p : ℕ) (s : List ℕ) : Type 0 where
  pub room : length bytes ≡ p + length s
  pub is : drop p bytes ≡ s

-- what follows the first of them
pub after : (bytes s t : List ℕ) (p n q : ℕ) → length s ≡ n → p + n ≡ q → HasFrom bytes p (s ++ t) → HasFrom bytes q t
after bytes s t p n q size at h = record {
  room = omega (arith, length-append s t);
  is = ap (λ k. drop k bytes) (sym at) ∙ sym (drop-drop n p bytes) ∙ ap (drop n) h.is ∙ drop_at s t n size;
}

-- a byte, and room for it
pub record ByteAt (bytes : List ℕ) (p b : ℕ) : Type 0 where
  pub room : p + 1 ≤ length bytes
  pub is : get_or bytes p 0 ≡ b

pub byte_at : (bytes t : List ℕ) (p b : ℕ) → HasFrom bytes p (b ∷ t) → ByteAt bytes p b
byte_at bytes t p b h =
    let at : p ≡ p + 0 = omega arith in
    record { room = omega arith; is = ap (λ k. get_or bytes k 0) at ∙ sym (get_or-drop p bytes 0 0) ∙ ap (λ s. get_or s 0 0) h.is }

-- the number that some bytes are without a sign
unsigned_is : (size n : ℕ) (bytes t : List ℕ) (p : ℕ) → n < 256 ^ size → HasFrom bytes p (low_bytes size n ++ t) → unsigned_at size bytes p ≡ n
unsigned_is zero n bytes t p lt h = omega arith
unsigned_is (suc size) n bytes t p lt h =
    let more = low_bytes size (n / 256) ++ t in
    let power = pow-suc 256 size in
    let first = byte_at bytes more p (n % 256) h in
    let rest : unsigned_at size bytes (p + 1) ≡ n / 256 = unsigned_is size (n / 256) bytes t (p + 1) (omega arith) (after bytes (n % 256 ∷ []) more p 1 (p + 1) refl refl h) in
    let whole : n % 256 + 256 * (n / 256) ≡ n = omega arith in
    ap (λ k. k + 256 * unsigned_at size bytes (p + 1)) first.is ∙ ap (λ k. n % 256 + 256 * k) rest ∙ whole

-- what a word may be that stands in an entry
abbrev pub IsShort : ℕ → ℤ → Type 0
IsShort size (pos n) = 2 * n < 256 ^ size
IsShort size (negsuc n) = 2 * n + 2 ≤ 256 ^ size

-- a word, and room for it
pub record WordAt (size : ℕ) (bytes : List ℕ) (p : ℕ) (z : ℤ) : Type 0 where
  pub room : p + size ≤ length bytes
  pub is : word_at size bytes p ≡ z

pub word_at_is : (size : ℕ) (bytes t : List ℕ) (p : ℕ) (z : ℤ) → IsShort size z → HasFrom bytes p (word size z ++ t) → WordAt size bytes p z
word_at_is size bytes t p z short h = record { room = omega (arith, length-append (word size z) t, length_word size z); is = read z short h }
  where
    read : (z : ℤ) → IsShort size z → HasFrom bytes p (word size z ++ t) → word_at size bytes p ≡ z
    read (pos n) lt h = ap (signed size) (unsigned_is size n bytes t p (omega arith) h) ∙ below size n lt
    read (negsuc n) lt h =
        let same : n % 256 ^ size ≡ n = mod-eq_of_lt (omega arith) in
        let u = 256 ^ size - 1 - n % 256 ^ size in
        ap (signed size) (unsigned_is size u bytes t p (omega arith) h) ∙ above size u n (omega arith) (omega arith)

-- a count, and what follows it
pub record CountAt (bytes : List ℕ) (p n : ℕ) (t : List ℕ) : Type 0 where
  pub is : unsigned_at 2 bytes p ≡ n
  pub passed : (fault : Fault) → Passed (length bytes) (item_check bytes (item.Sign fault) p)
  pub next : HasFrom bytes (p + 2) t

pub count_at : (bytes t : List ℕ) (p n : ℕ) → n < 2 ^ 15 → HasFrom bytes p (count_word n ++ t) → CountAt bytes p n t
count_at bytes t p n lt h =
    let is : unsigned_at 2 bytes p ≡ n = unsigned_is 2 n bytes t p (omega arith) h in
    let next = after bytes (count_word n) t p 2 (p + 2) refl refl h in
    record {
      is = is;
      passed = λ fault. record { long = omega (arith, next.room); holds = ap is_not_negative (ap (signed 2) is ∙ below 2 n (omega arith)) };
      next = next;
    }

-- ---- checks that pass

pub passes_one : (len : ℕ) (c : Check) (cs : List Check) → Passed len c → Passes ≡ verdict len cs → Passes ≡ verdict len (c ∷ cs)
passes_one len c cs p h = h ∙ sym (let e : ltb len c.prefix ≡ false = le-ltb _ _ p.long in let k = p.holds in rw (e, k) refl)

pub passes_list : (len : ℕ) (cs : List Check) → AllByRecursion (Passed len) cs → Passes ≡ verdict len cs
passes_list len [] h = refl
passes_list len (c ∷ cs) h = passes_one len c cs h.0 (passes_list len cs h.1)

-- ---- items of one size, one after the other

-- each passes its check, and is read as what it is
pub record SectionRead {Y : Type 0} (bytes : List ℕ) (size : ℕ) (check : ℕ → Check) (item : ℕ → Y) (from : ℕ) (ys : List Y) (t : List ℕ) : Type 0 where
  pub passes : Passes ≡ verdict (length bytes) (map check (places from size (length ys)))
  pub same : map item (places from size (length ys)) ≡ ys
  pub next : HasFrom bytes (from + size * length ys) t

pub items_read : {X Y : Type 0} (bytes : List ℕ) (g : X → List ℕ) (size : ℕ) (R : X → Y → Type 0) (check : ℕ → Check) (item : ℕ → Y)
    → ((x : X) → length (g x) ≡ size)
    → ((p : ℕ) (x : X) (y : Y) (t : List ℕ) → R x y → HasFrom bytes p (g x ++ t) → Passed (length bytes) (check p) × (item p ≡ y))
    → (from : ℕ) (xs : List X) (ys : List Y) (t : List ℕ) → Each R xs ys → HasFrom bytes from (flat_map g xs ++ t) → SectionRead bytes size check item from ys t
items_read bytes g size R check item len one from [] [] t all h =
    let at : from ≡ from + size * 0 = omega arith in
    record { passes = refl; same = refl; next = subst (λ k. HasFrom bytes k t) at h }
items_read bytes g size R check item len one from [] (y ∷ ys) t all h = absurd all
items_read bytes g size R check item len one from (x ∷ xs) [] t all h = absurd all
items_read bytes g size R check item len one from (x ∷ xs) (y ∷ ys) t all h =
    let more = flat_map g xs ++ t in
    let here : HasFrom bytes from (g x ++ more) = subst (HasFrom bytes from) (append_assoc (g x) (flat_map g xs) t) h in
    let first = one from x y more all.0 here in
    let rest = items_read bytes g size R check item len one (from + size) xs ys t all.1 (after bytes (g x) more from size (from + size) (len x) refl here) in
    let at : from + size + size * length ys ≡ from + size * suc (length ys) = omega arith in
    record {
      passes = passes_one (length bytes) (check from) (map check (places (from + size) size (length ys))) first.0 rest.passes;
      same = ap (λ v. v ∷ map item (places (from + size) size (length ys))) first.1 ∙ ap (λ (vs : List _). y ∷ vs) rest.same;
      next = subst (λ k. HasFrom bytes k t) at rest.next;
    }

-- the same list twice
pub each_same : {X : Type 0} (ok : X → Type 0) (xs : List X) → AllByRecursion ok xs → Each (λ x y. (x ≡ y) × ok x) xs xs
each_same ok [] h = tt
each_same ok (x ∷ xs) h = ((refl, h.0), each_same ok xs h.1)

-- items of one byte
pub bytes_read : {X : Type 0} (bytes t : List ℕ) (byte : X → ℕ) (ok : X → Type 0) (check : ℕ → Check) (item : ℕ → X)
    → ((p : ℕ) (x : X) → ok x → ByteAt bytes p (byte x) → Passed (length bytes) (check p) × (item p ≡ x))
    → (from : ℕ) (xs : List X) (s : List ℕ) → map byte xs ≡ s → AllByRecursion ok xs → HasFrom bytes from (s ++ t) → SectionRead bytes 1 check item from xs t
bytes_read bytes t byte ok check item one from xs s is all h =
    items_read bytes (λ x. byte x ∷ []) 1 (λ x y. (x ≡ y) × ok x) check item (λ x. refl)
    (λ p x y t k h. let r = one p x k.1 (byte_at bytes t p (byte x) h) in (r.0, r.1 ∙ k.0))
    from xs xs t (each_same ok xs all) (subst (λ l. HasFrom bytes from (l ++ t)) (sym (one_by_one byte xs ∙ is)) h)

-- ---- texts

clean_until : (text rest : List ℕ) → HasNoNul text → until_nul (text ++ (0 ∷ rest)) ≡ text
clean_until [] rest h = take_while-cons (λ b. not (is_nul b)) 0 rest
clean_until (x ∷ xs) rest h =
    let no : eqb x 0 ≡ false = ne_eqb x 0 h.0 in
    take_while-cons (λ b. not (is_nul b)) x (xs ++ (0 ∷ rest)) ∙ rw no (ap (λ (t : List ℕ). x ∷ t) (clean_until xs rest h.1))

or_true : (b : Bool) → (b || true) ≡ true
or_true true = refl
or_true false = refl

any_here : (text rest : List ℕ) → list_any is_nul (text ++ (0 ∷ rest)) ≡ true
any_here [] rest = refl
any_here (x ∷ xs) rest = ap (λ b. is_nul x || b) (any_here xs rest) ∙ or_true (is_nul x)

-- what an offset of a spelled entry says
pub record IsGood (table : List ℕ) (z : ℤ) : Type 0 where
  pub short : IsShort 2 z
  pub below_size : is_offset_below (length table) z ≡ true
  pub ended : is_ended table z ≡ true

pub placed : (table : List ℕ) (place : ℕ) (text : List ℕ) → length table < 2 ^ 15 → HasNoNul text → Has table place (text ++ 0 ∷ []) → IsGood table (pos place) × (text_of_word table (pos place) ≡ TextOf text)
placed table place text small clean has =
    let k = length (text ++ 0 ∷ []) in
    let rest = drop k (drop place table) in
    let split : drop place table ≡ text ++ (0 ∷ rest) = sym (take-append-drop k (drop place table)) ∙ ap (λ t. t ++ rest) has.found ∙ append_assoc text (0 ∷ []) rest in
    let n : length (drop place table) ≡ length text + suc (length rest) = ap length split ∙ length-append text (0 ∷ rest) in
    let there : place < length table = omega (arith, length-drop place table) in (
      record {
        short = omega arith;
        below_size = lt-ltb place (length table) there;
        ended = ap (list_any is_nul) split ∙ any_here text rest;
      },
      ap TextOf (ap until_nul split ∙ clean_until text rest clean),
    )

pub good : (table : List ℕ) (z : ℤ) (t : TextValue) → length table < 2 ^ 15 → IsText table z t → IsGood table z × (text_of_word table z ≡ t)
good table z AbsentText small h = rw h (record { short = omega arith; below_size = refl; ended = refl }, refl)
good table z CancelledText small h = rw h (record { short = omega arith; below_size = refl; ended = refl }, refl)
good table z (TextOf text) small h = let e = h.1 in rw e (placed table h.0 text small h.2 h.3)

-- ---- flags and numbers

pub short_number : (w : Width) (n : Number) → FitsWidth w n → IsShort (number_size w) (word_of_number n)
short_number w numbers.Absent h = grind arith
short_number w numbers.Cancelled h = grind arith
short_number w (numbers.Value (pos x)) h = h
short_number w (numbers.Value (negsuc x)) h = absurd h

pub read_again : (w : Width) (n : Number) → FitsWidth w n → unwrap_or (number_of_word (word_of_number n)) numbers.Absent ≡ n
read_again w numbers.Absent h = refl
read_again w numbers.Cancelled h = refl
read_again w (numbers.Value (pos x)) h = refl
read_again w (numbers.Value (negsuc x)) h = absurd h

pub is_number : (w : Width) (n : Number) → FitsWidth w n → is_number_word (word_of_number n) ≡ true
is_number w n h = grind arith

pub flag_read : (f : Flag) → flag_of_byte (byte_of_flag f) ≡ Some f
flag_read flags.No = refl
flag_read flags.Yes = refl
flag_read flags.Cancelled = refl
flag_read flags.Missing = refl
