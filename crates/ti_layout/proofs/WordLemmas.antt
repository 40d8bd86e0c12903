-- A word's bytes and its number determine each other.
use Rattle.std.proofs.Common.{◌≡◌, ℕ, zero, suc, ◌+◌, ◌*◌, ◌/◌, ◌%◌, ◌-◌, ◌^◌, ◌<◌, ◌≤◌, ℤ, pos, negsuc, true, List, [], ◌∷◌, length, get_or, take, drop, inl, inr, refl, sym, ap, ◌∙◌, arith}
use Rattle.std.proofs.lemmas.Bool.Decides.{nat_tests}
use Rattle.std.proofs.Math.Nat.{mod-eq_of_lt, pow-suc}
use Rattle.std.proofs.lemmas.Bool.{cases_lt, le-ltb, lt-ltb}
use Rattle.std.proofs.lemmas.Int.{ints}
use Rattle.std.proofs.lemmas.List.{drop_more}
use Rattle.ti_words.specs.declared.Number.TheVariants as numbers
use Rattle.ti_words.specs.declared.Width.{Width}
use Rattle.ti_words.specs.Marks.{number_of_word, word_of_number}
use Rattle.std.specs.Prelude.{unwrap_or}
use Rattle.ti_words.specs.Word.{unsigned_at, signed, word_at, word, low_bytes}
use Rattle.ti_words.specs.Widths.{number_size}
use Rattle.ti_layout.specs.Checks.{is_number_word}
use Rattle.ti_words.specs.Spelling.{FitsWidth}

abbrev pub IsBytes : List ℕ → Type 0
IsBytes bytes = (i : ℕ) → get_or bytes i 0 < 256

pub below : (size u : ℕ) → 2 * u < 256 ^ size → signed size u ≡ pos u
below size u lt = rw (lt-ltb (2 * u) (256 ^ size) lt) refl

pub above : (size u k : ℕ) → u + k + 1 ≡ 256 ^ size → 256 ^ size ≤ 2 * u → signed size u ≡ negsuc k
above size u k e le = rw (le-ltb (2 * u) (256 ^ size) le) (omega (arith, ints))

-- bytes of an input are the lowest bytes of the number that they are without a sign
pub bytes_again : (size : ℕ) (bytes : List ℕ) (p : ℕ) → IsBytes bytes → p + size ≤ length bytes → take size (drop p bytes) ≡ low_bytes size (unsigned_at size bytes p)
bytes_again zero bytes p fits le = refl
bytes_again (suc size) bytes p fits le =
    let b = get_or bytes p 0 in
    let u = unsigned_at size bytes (p + 1) in
    let small = fits p in
    let split : drop p bytes ≡ b ∷ drop (p + 1) bytes = drop_more bytes p 0 (omega arith) in
    let first : (b + 256 * u) % 256 ≡ b = omega arith in
    let rest : (b + 256 * u) / 256 ≡ u = omega arith in
    ap (take (suc size)) split ∙ rw (first, rest) (ap (λ (t : List ℕ). b ∷ t) (bytes_again size bytes (p + 1) fits (omega arith)))

-- a number of these bytes is below their power
pub unsigned_fits : (size : ℕ) (bytes : List ℕ) (p : ℕ) → IsBytes bytes → unsigned_at size bytes p < 256 ^ size
unsigned_fits zero bytes p fits = omega arith
unsigned_fits (suc size) bytes p fits = omega (arith, pow-suc 256 size, fits p, unsigned_fits size bytes (p + 1) fits)

-- the word of what bytes stand for is the bytes
signed_again : (size u : ℕ) → u < 256 ^ size → word size (signed size u) ≡ low_bytes size u
signed_again size u fits =
    let k = 256 ^ size - 1 - u in
    let same : k % 256 ^ size ≡ k = mod-eq_of_lt (omega arith) in
    elim (cases_lt (2 * u) (256 ^ size)) [
      | inl lt ↦ ap (word size) (below size u lt)
      | inr ge ↦ ap (word size) (above size u k (omega arith) ge) ∙ rw same (ap (low_bytes size) (omega arith))
    ]

-- what the bytes of a number stand for
pub reads_count : (n : ℕ) → n < 2 ^ 15 → n % 256 + 256 * (n / 256 % 256 + 256 * 0) ≡ n
reads_count n lt = omega arith

pub one_byte : (bytes : List ℕ) (p : ℕ) → p + 1 ≤ length bytes → take 1 (drop p bytes) ≡ get_or bytes p 0 ∷ []
one_byte bytes p le = ap (take 1) (drop_more bytes p 0 (omega arith))

-- bytes of an input are the word that is read there
pub word_is : (size : ℕ) (bytes : List ℕ) (p : ℕ) → IsBytes bytes → p + size ≤ length bytes → take size (drop p bytes) ≡ word size (word_at size bytes p)
word_is size bytes p fits le = bytes_again size bytes p fits le ∙ sym (signed_again size (unsigned_at size bytes p) (unsigned_fits size bytes p fits))

-- a word that is a number or a mark is the word of what it is read as
pub number_again : (z : ℤ) → is_number_word z ≡ true → word_of_number (unwrap_or (number_of_word z) numbers.Absent) ≡ z
number_again z h = grind (arith, nat_tests)

pub has_word : (w : Width) (u : ℕ) → u < 256 ^ number_size w → FitsWidth w (unwrap_or (number_of_word (signed (number_size w) u)) numbers.Absent)
has_word w u fits = grind (arith, ints, nat_tests)
