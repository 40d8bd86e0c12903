-- A section of each kind that is spelled: its checks pass, and it is read as what it spells.
use Rattle.std.proofs.Common.{◌≡◌, ℕ, zero, suc, ◌+◌, ◌*◌, ◌%◌, ◌^◌, ◌<◌, ℤ, pos, List, [], ◌∷◌, ◌++◌, map, length, get_or, replicate, refl, sym, ap, subst, ◌∙◌, arith}
use Rattle.std.proofs.lemmas.List.{length-replicate, map-id}
use Rattle.std.proofs.lemmas.Bool.{ltb-true}
use Rattle.std.specs.List.{flat_map, AllByRecursion}
use Rattle.std.specs.Prelude.{unwrap_or, is_some}
use Rattle.ti_words.specs.declared.Flag.{Flag}
use Rattle.ti_words.specs.declared.Flag.TheVariants as flags
use Rattle.ti_words.specs.declared.Number.{Number}
use Rattle.ti_words.specs.declared.Number.TheVariants as numbers
use Rattle.ti_words.specs.declared.Width.{Width}
use Rattle.ti_words.specs.Marks.{byte_of_flag, word_of_number, flag_of_byte, number_of_word}
use Rattle.ti_words.specs.Texts.{TextValue, TextOf, is_nul}
use Rattle.ti_layout.specs.declared.section.SectionItem.TheVariants as item
use Rattle.ti_layout.specs.Refusal.{item_check}
use Rattle.ti_layout.specs.declared.fault.Fault.TheVariants.{BadPad}
use Rattle.ti_words.specs.Word.{unsigned_at, word}
use Rattle.ti_words.specs.Widths.{number_size}
use Rattle.ti_layout.specs.Layout.{places}
use Rattle.ti_words.specs.Spelling.{pad_len, FitsWidth, IsText, IsName, Each, words_of, numbers_of, flags_of, pad}
use Rattle.ti_layout.specs.Table.{text_from, text_of_word}
use Rattle.ti_layout.specs.Checks.{Check, Passes, verdict, is_number_word, nul_check, pad_checks}
use Rattle.ti_layout.specs.Content.{flag_at, number_at, text_at}
use Rattle.ti_layout.proofs.PassesLemmas.{first_passes}
use Rattle.ti_layout.proofs.SectionReadLemmas.{Passed}
use Rattle.ti_layout.proofs.VerdictLemmas.{then, verdict_append}
use Rattle.ti_draft.proofs.LengthLemmas.{length_word}
use Rattle.ti_entry.proofs.SpelledItemsLemmas.{HasFrom, WordAt, word_at_is, CountAt, count_at, passes_one, SectionRead, items_read, each_same, bytes_read, IsGood, placed, good, short_number, read_again, is_number, flag_read}

pub append_pass : (len : ℕ) (xs ys : List Check) → Passes ≡ verdict len xs → Passes ≡ verdict len ys → Passes ≡ verdict len (xs ++ ys)
append_pass len xs ys p q = q ∙ ap (λ v. then v (verdict len ys)) p ∙ sym (verdict_append len xs ys)

-- two checks of each item
pub passes_both : (f g : ℕ → Check) (len : ℕ) (ps : List ℕ) → Passes ≡ verdict len (map f ps) → Passes ≡ verdict len (map g ps) → Passes ≡ verdict len (flat_map (λ p. f p ∷ g p ∷ []) ps)
passes_both f g len [] h k = refl
passes_both f g len (p ∷ ps) h k =
    let a = first_passes len (f p) (map f ps) h in
    let b = first_passes len (g p) (map g ps) k in
    let rest = flat_map (λ p. f p ∷ g p ∷ []) ps in
    passes_one len (f p) (g p ∷ rest) (record { long = a.long; holds = a.holds })
    (passes_one len (g p) rest (record { long = b.long; holds = b.holds }) (passes_both f g len ps a.rest b.rest))

-- ---- flags and pads

all_units : (fs : List Flag) → AllByRecursion (λ f. Unit {0}) fs
all_units [] = tt
all_units (f ∷ fs) = (tt, all_units fs)

pub flags_read : (bytes t : List ℕ) (from : ℕ) (fs : List Flag) → HasFrom bytes from (flags_of fs ++ t) → SectionRead bytes 1 (item_check bytes item.Flag) (flag_at bytes) from fs t
flags_read bytes t from fs h =
    bytes_read bytes t byte_of_flag (λ f. Unit {0}) (item_check bytes item.Flag) (flag_at bytes)
    (λ p f ok b. (
      record { long = b.room; holds = ap (λ k. is_some (flag_of_byte k)) b.is ∙ ap is_some (flag_read f) },
      ap (λ k. unwrap_or (flag_of_byte k) flags.No) b.is ∙ ap (λ o. unwrap_or o flags.No) (flag_read f),
    ))
    from fs (flags_of fs) refl (all_units fs) h

abbrev pub IsNul : ℕ → Type 0
IsNul b = b ≡ 0

all_zero : (k : ℕ) → AllByRecursion IsNul (replicate k 0)
all_zero zero = tt
all_zero (suc k) = (refl, all_zero k)

pub pad_read : (bytes t : List ℕ) (from n : ℕ) → from % 2 ≡ pad_len n → HasFrom bytes from (pad n ++ t) → (Passes ≡ verdict (length bytes) (pad_checks bytes from)) × HasFrom bytes (from + from % 2) t
pad_read bytes t from n even h =
    let read = bytes_read bytes t (λ b. b) IsNul (nul_check bytes BadPad) (λ p. get_or bytes p 0) (λ p b nul k. (record { long = k.room; holds = ap is_nul (k.is ∙ nul) }, k.is)) from (pad n) (pad n) (map-id (pad n)) (all_zero (pad_len n)) h in
    let count : length (pad n) ≡ from % 2 = length-replicate (pad_len n) 0 ∙ sym even in
    let end : from + 1 * length (pad n) ≡ from + from % 2 = omega arith in
    (read.passes ∙ ap (λ k. verdict (length bytes) (map (nul_check bytes BadPad) (places from 1 k))) count, subst (λ k. HasFrom bytes k t) end read.next)

-- ---- numbers, texts and names

pub numbers_read : (w : Width) (bytes t : List ℕ) (from : ℕ) (ns : List Number) → AllByRecursion (FitsWidth w) ns → HasFrom bytes from (numbers_of w ns ++ t)
    → SectionRead bytes (number_size w) (item_check bytes (item.Number w)) (number_at (number_size w) bytes) from ns t
numbers_read w bytes t from ns fit h =
    let size = number_size w in
    items_read bytes (λ n. word size (word_of_number n)) size (λ m n. (m ≡ n) × FitsWidth w m) (item_check bytes (item.Number w)) (number_at size bytes) (λ n. length_word size (word_of_number n))
    (λ p m n t k h. let z = word_at_is size bytes t p (word_of_number m) (short_number w m k.1) h in (
      record { long = z.room; holds = ap is_number_word z.is ∙ is_number w m k.1 },
      ap (λ z. unwrap_or (number_of_word z) numbers.Absent) z.is ∙ read_again w m k.1 ∙ k.0,
    ))
    from ns ns t (each_same (FitsWidth w) ns fit) h

-- the texts, under a check that their offsets pass
pub texts_read : (bytes table t : List ℕ) (from : ℕ) (zs : List ℤ) (ts : List TextValue) (check : ℕ → Check)
    → ((p : ℕ) (z : ℤ) → WordAt 2 bytes p z → IsGood table z → Passed (length bytes) (check p))
    → length table < 2 ^ 15 → Each (IsText table) zs ts → HasFrom bytes from (words_of zs ++ t) → SectionRead bytes 2 check (text_at table bytes) from ts t
texts_read bytes table t from zs ts check one small texts h =
    items_read bytes (word 2) 2 (IsText table) check (text_at table bytes) (length_word 2)
    (λ p z text t is h.
    let k = good table z text small is in
    let w = word_at_is 2 bytes t p z k.0.short h in
    (one p z w k.0, ap (text_of_word table) w.is ∙ k.1))
    from zs ts t texts h

text_again : (s t : List ℕ) → TextOf s ≡ TextOf t → s ≡ t
text_again s t e = cc

-- the names, whose offsets are counted from a base, under a check that they pass
pub names_read : (bytes table t : List ℕ) (base from : ℕ) (zs : List ℤ) (names : List (List ℕ)) (check : ℕ → Check)
    → ((p n : ℕ) (t : List ℕ) → CountAt bytes p n t → IsGood table (pos (base + n)) → Passed (length bytes) (check p))
    → length table < 2 ^ 15 → Each (IsName table base) zs names → HasFrom bytes from (words_of zs ++ t) → SectionRead bytes 2 check (λ p. text_from table (base + unsigned_at 2 bytes p)) from names t
names_read bytes table t base from zs names check one small are h =
    items_read bytes (word 2) 2 (IsName table base) check (λ p. text_from table (base + unsigned_at 2 bytes p)) (length_word 2)
    (λ p z name t is h.
    let n = is.0 in
    let k = placed table (base + n) name small is.2 is.3 in
    let below = ltb-true (base + n) (length table) k.0.below_size in
    let c = count_at bytes t p n (omega arith) (subst (λ z. HasFrom bytes p (word 2 z ++ t)) is.1 h) in
    (one p n t c k.0, ap (λ m. text_from table (base + m)) c.is ∙ text_again _ _ k.1))
    from zs names t are h
