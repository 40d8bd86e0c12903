-- A section of each kind whose checks pass: its bytes are those of what it is read as.
use Rattle.std.proofs.Common.{◌≡◌, ℕ, ◌+◌, ◌-◌, ◌*◌, ◌%◌, ◌^◌, ◌<◌, ◌≤◌, pos, true, false, List, [], ◌∷◌, map, length, get_or, take, drop, replicate, inl, inr, sym, ap, ◌∙◌, arith}
use Rattle.std.proofs.lemmas.Bool.{cases_lt, eqb-true}
use Rattle.std.specs.List.{AllByRecursion}
use Rattle.ti_words.specs.declared.Width.{Width}
use Rattle.ti_words.specs.Marks.{byte_of_flag, word_of_number}
use Rattle.ti_layout.specs.declared.section.SectionItem.TheVariants as item
use Rattle.ti_layout.specs.Refusal.{item_check, items, items_checks}
use Rattle.ti_layout.specs.declared.fault.Fault.{Fault}
use Rattle.ti_layout.specs.declared.fault.Fault.TheVariants.{BadPad}
use Rattle.ti_words.specs.Word.{unsigned_at, word_at, word}
use Rattle.ti_words.specs.Widths.{number_size}
use Rattle.ti_layout.specs.Layout.{places}
use Rattle.ti_words.specs.Spelling.{pad_len, FitsWidth, IsText, Each, count_word, words_of, numbers_of, flags_of, pad}
use Rattle.ti_layout.specs.Checks.{Passes, verdict, is_not_negative, nul_check, pad_checks, ending_check, ending_checks, table_check}
use Rattle.ti_layout.specs.Content.{flag_at, number_at, text_at}
use Rattle.ti_layout.proofs.PassesLemmas.{first_passes}
use Rattle.ti_layout.proofs.WordLemmas.{IsBytes, below, above, unsigned_fits, word_is, one_byte, number_again, has_word}
use Rattle.ti_layout.proofs.TextLemmas.{is_text}
use Rattle.ti_layout.proofs.SectionReadLemmas.{Passed, each_passed, items_are, each_item, all_items, flag_again, one_by_one, nul_byte, zeros}

-- a word that is not negative is a place
pub is_place : (bytes : List ℕ) (p : ℕ) → IsBytes bytes → is_not_negative (word_at 2 bytes p) ≡ true → (2 * unsigned_at 2 bytes p < 65536) × (word_at 2 bytes p ≡ pos (unsigned_at 2 bytes p))
is_place bytes p fits h =
    let u = unsigned_at 2 bytes p in
    elim (cases_lt (2 * u) 65536) [
      | inl lt ↦ (lt, below 2 u lt)
      | inr ge ↦
          let b0 : get_or bytes p 0 < 256 = fits p in
          let b1 : get_or bytes (p + 1) 0 < 256 = fits (p + 1) in
          let e : is_not_negative (word_at 2 bytes p) ≡ false = ap is_not_negative (above 2 u (65535 - u) (omega arith) ge) in
          absurd (let f : true ≡ false = sym h ∙ e in cc)
    ]

-- a word that is a count
pub record IsCount (bytes : List ℕ) (p : ℕ) : Type 0 where
  pub small : unsigned_at 2 bytes p < 2 ^ 15
  pub bytes_are : take 2 (drop p bytes) ≡ count_word (unsigned_at 2 bytes p)

pub count_is : (bytes : List ℕ) (fault : Fault) (p : ℕ) → IsBytes bytes → Passed (length bytes) (item_check bytes (item.Sign fault) p) → IsCount bytes p
count_is bytes fault p fits h =
    let k = is_place bytes p fits h.holds in
    record { small = omega (arith, k.0); bytes_are = word_is 2 bytes p fits h.long ∙ ap (word 2) k.1 }

pub flags_are : (bytes : List ℕ) (from count : ℕ) → Passes ≡ verdict (length bytes) (items_checks bytes (items item.Flag from count))
    → take count (drop from bytes) ≡ flags_of (map (flag_at bytes) (places from 1 count))
flags_are bytes from count h =
    let all = each_passed (item_check bytes item.Flag) (length bytes) from 1 count h in
    ap (λ k. take k (drop from bytes)) (let one : count ≡ 1 * count = omega arith in one)
    ∙ items_are bytes (λ x. byte_of_flag x ∷ []) (flag_at bytes) from 1 count (λ i lt. let p = all i lt in one_byte bytes (from + 1 * i) p.long ∙ ap (λ (x : ℕ). x ∷ []) (sym (flag_again (get_or bytes (from + 1 * i) 0) p.holds)))
    ∙ one_by_one byte_of_flag (map (flag_at bytes) (places from 1 count))

pub pad_is : (bytes : List ℕ) (place n : ℕ) → place % 2 ≡ pad_len n → Passes ≡ verdict (length bytes) (pad_checks bytes place) → take (pad_len n) (drop place bytes) ≡ pad n
pad_is bytes place n even h =
    let all = each_passed (nul_check bytes BadPad) (length bytes) place 1 (place % 2) h in
    let count : pad_len n ≡ 1 * (place % 2) = omega arith in
    ap (λ k. take k (drop place bytes)) count
    ∙ items_are bytes nul_byte (λ p. p) place 1 (place % 2) (λ i lt. let p = all i lt in one_byte bytes (place + 1 * i) p.long ∙ ap (λ (x : ℕ). x ∷ []) (eqb-true _ _ p.holds))
    ∙ zeros (λ p. p) place (place % 2) ∙ ap (λ k. replicate k 0) even

pub numbers_are : (w : Width) (bytes : List ℕ) (from count : ℕ) → IsBytes bytes → Passes ≡ verdict (length bytes) (items_checks bytes (items (item.Number w) from count))
    → take (number_size w * count) (drop from bytes) ≡ numbers_of w (map (number_at (number_size w) bytes) (places from (number_size w) count))
numbers_are w bytes from count fits h =
    let size = number_size w in
    let all = each_passed (item_check bytes (item.Number w)) (length bytes) from size count h in
    items_are bytes (λ n. word size (word_of_number n)) (number_at size bytes) from size count
    (λ i lt. let p = all i lt in word_is size bytes (from + size * i) fits p.long ∙ ap (word size) (sym (number_again (word_at size bytes (from + size * i)) p.holds)))

pub numbers_fit : (w : Width) (bytes : List ℕ) (from count : ℕ) → IsBytes bytes → AllByRecursion (FitsWidth w) (map (number_at (number_size w) bytes) (places from (number_size w) count))
numbers_fit w bytes from count fits =
    let size = number_size w in
    all_items (FitsWidth w) (number_at size bytes) from size count
    (λ i lt. has_word w (unsigned_at size bytes (from + size * i)) (unsigned_fits size bytes (from + size * i) fits))

pub words_are : (bytes : List ℕ) (from count : ℕ) → IsBytes bytes → from + 2 * count ≤ length bytes → take (2 * count) (drop from bytes) ≡ words_of (map (word_at 2 bytes) (places from 2 count))
words_are bytes from count fits le =
    items_are bytes (word 2) (word_at 2 bytes) from 2 count (λ i lt. word_is 2 bytes (from + 2 * i) fits (omega arith))

pub texts_are : (bytes table : List ℕ) (end from count : ℕ) → Passes ≡ verdict (length bytes) (items_checks bytes (items (item.Offset (length table)) from count)) → Passes ≡ verdict (length bytes) (ending_checks bytes table end from count)
    → Each (IsText table) (map (word_at 2 bytes) (places from 2 count)) (map (text_at table bytes) (places from 2 count))
texts_are bytes table end from count h k =
    let all = each_passed (item_check bytes (item.Offset (length table))) (length bytes) from 2 count h in
    let last = first_passes (length bytes) (table_check end) (map (ending_check bytes table end) (places from 2 count)) k in
    let ended = each_passed (ending_check bytes table end) (length bytes) from 2 count last.rest in
    each_item (IsText table) (word_at 2 bytes) (text_at table bytes) from 2 count (λ i lt. is_text table (word_at 2 bytes (from + 2 * i)) (all i lt).holds (ended i lt).holds)
