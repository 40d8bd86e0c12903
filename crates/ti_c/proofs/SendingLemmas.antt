-- Why an output is not sent.
use Rattle.std.proofs.Common.{◌≡◌, ◌≤◌, ◌<◌, ◌+◌, ◌-◌, ◌*◌, ◌%◌, ◌^◌, ◌↔◌, ◌∙◌, ℕ, suc, ℤ, Bool, true, false, List, [], ◌∷◌, Result, Err, length, take, map, get_or, inl, inr, ◌⊎◌, refl, ap, sym, subst, arith, eqb, cond, bit_and, zero-add, length-take-le}
use Rattle.std.proofs.lemmas.Bool.{OnTrue_from, eqb-true}
use Rattle.std.proofs.lemmas.List.{get_or-map, get_or-take}
use Rattle.std.proofs.lemmas.Nat.Bits.{bit_at-zero}
use Rattle.std.proofs.lemmas.Simd.{bit_mask_l, get_or-chunk, length-chunk}
use Rattle.std.specs.Bool.{OnTrue}
use Rattle.std.specs.Int.{bit_at}
use Rattle.std.specs.Simd.Lanes.{chunk, mask_l}
use Rattle.memchr.proofs.lemmas.BitLemmas.{bit_at_low_kept, shl_one}
use Rattle.memchr.specs.Find.{Nowhere, Passes, is_byte}
use Rattle.ti_expand.specs.Expands.{IsBytesFault}
use Rattle.ti_expand.specs.declared.fault.BytesFault.{BytesFault}
use Rattle.ti_expand.specs.declared.values.Value.{Value}
use Rattle.ti_base.specs.Limits.{most_padded_bytes}
use Rattle.ti_pad.specs.Into.{IsPadIntoFault}
use Rattle.ti_pad.proofs.PaddedTextLemmas.{padded_text-nil, padded_text-literal, mark_at-plain}
use Rattle.ti_pad.specs.Padded.{padded_text}
use Rattle.ti_pad.specs.Setting.{Setting}
use Rattle.ti_pad.specs.declared.slice.PadIntoFault.{PadIntoFault}
use Rattle.ti_pad.specs.declared.slice.PadIntoFault.TheVariants.{TooMuch, OutTooSmall}
use Rattle.ti_c.specs.declared.padding.GivenPadding.{GivenPadding}
use Rattle.ti_c.specs.Given.{IsExpansionFault}
use Rattle.ti_c.specs.Numbers.{out_too_small, too_much}
use Rattle.ti_c.specs.Padding.{is_within_limits, padded_as_given, setting_given, told_length}
use Rattle.ti_c.specs.Sending.{IsSendingFault, IsUnsent, IsUnsentOutput}

-- ---- the faults of the padded text, in the room that the output leaves

module _ (output padded : List ℕ) (room written : ℕ) (is : length output ≡ written) (within : written ≤ room) where
  pub too_much_unsent : (need : ℕ) → IsPadIntoFault padded (room - written) (TooMuch need) → IsUnsent output padded room too_much (told_length need)
  too_much_unsent need h = inl (h.1, refl, ap told_length h.0)

  pub too_small_unsent : (need : ℕ) → IsPadIntoFault padded (room - written) (OutTooSmall need) → IsUnsent output padded room out_too_small (written + need)
  too_small_unsent need h = inr (h.1, omega (arith, h.2), refl, omega (arith, h.0))

  -- one that is not sent has one of them
  pub only_unsent : (r : Result ℕ PadIntoFault) (number need : ℕ) → ((fault : PadIntoFault) → (r ≡ Err fault) ↔ IsPadIntoFault padded (room - written) fault)
      → IsUnsent output padded room number need
      → ((r ≡ Err (TooMuch (length padded))) × (number ≡ too_much) × (need ≡ told_length (length padded)))
      ⊎ ((r ≡ Err (OutTooSmall (length padded))) × (number ≡ out_too_small) × (need ≡ written + length padded))
  only_unsent r number need faults (inl (above, n, m)) = inl ((faults (TooMuch (length padded))).1 (refl, above), n, m)
  only_unsent r number need faults (inr (low, small, n, m)) =
      inr ((faults (OutTooSmall (length padded))).1 (refl, low, omega (arith, small, within, is)), n, omega (arith, m, is))

-- ---- what is said of the output that was made is said of the one that is meant

pub unsent_given : (made output : List ℕ) (s : Setting) (p : GivenPadding) (long room number need : ℕ) → made ≡ output → s ≡ setting_given p → long ≡ room
    → IsUnsent made (padded_text made s) long number need → IsUnsent output (padded_as_given output p) room number need
unsent_given made output s p long room number need is setting same h =
    subst (λ (o : List ℕ). IsUnsent o (padded_as_given o p) room number need) is
    (subst (λ (t : Setting). IsUnsent made (padded_text made t) room number need) setting
    (subst (λ (n : ℕ). IsUnsent made (padded_text made s) n number need) same h))

pub unsent_made : (made output : List ℕ) (s : Setting) (p : GivenPadding) (long room number need : ℕ) → made ≡ output → s ≡ setting_given p → long ≡ room
    → IsUnsent output (padded_as_given output p) room number need → IsUnsent made (padded_text made s) long number need
unsent_made made output s p long room number need is setting same h =
    subst (λ (n : ℕ). IsUnsent made (padded_text made s) n number need) (sym same)
    (subst (λ (t : Setting). IsUnsent made (padded_text made t) room number need) (sym setting)
    (subst (λ (o : List ℕ). IsUnsent o (padded_as_given o p) room number need) (sym is) h))

-- ---- one fault

-- what is expanded without a fault has none
pub none_of_expansion : (bytes : List ℕ) (values : List Value) (given room number place : ℕ) → given ≤ 9
    → ((fault : BytesFault) → ¬ IsBytesFault bytes values room fault) → ¬ IsExpansionFault bytes values given room number place
none_of_expansion bytes values given room number place few none (inl (many, n)) = omega (arith, many)
none_of_expansion bytes values given room number place few none (inr (low, fault, told, is)) = none fault is

-- within the limits a fault of what is sent is one of the expansion, or of the padded text
pub within_limits : (bytes : List ℕ) (before : List ℤ) (values : List Value) (given : ℕ) (p : GivenPadding) (room number place : ℕ) → is_within_limits p ≡ true
    → IsSendingFault bytes before values given p room number place
    → IsExpansionFault bytes values given room number place ⊎ ((given ≤ 9) × IsUnsentOutput bytes before values p room number place)
within_limits bytes before values given p room number place within (inl over) = absurd (cc (within, over.0))
within_limits bytes before values given p room number place within (inr (w, due)) = due

-- after an expansion it is one of the padded text
pub after_expansion : (bytes : List ℕ) (before : List ℤ) (values : List Value) (given : ℕ) (p : GivenPadding) (room number place : ℕ) → is_within_limits p ≡ true
    → given ≤ 9 → ((fault : BytesFault) → ¬ IsBytesFault bytes values room fault)
    → IsSendingFault bytes before values given p room number place → IsUnsentOutput bytes before values p room number place
after_expansion bytes before values given p room number place within few none due = elim (within_limits bytes before values given p room number place within due) [
  | inl e ↦ absurd (none_of_expansion bytes values given room number place few none e)
  | inr u ↦ u.1
]

-- ---- a text without a mark

is_false : (b : Bool) → ¬ (b ≡ true) → b ≡ false
is_false true isnt = absurd (isnt refl)
is_false false isnt = refl

-- with no `$` the padded text is the text
pub unmarked : (text : List ℕ) (s : Setting) → Nowhere (Passes (is_byte 36) text) 0 (length text) → padded_text text s ≡ text
unmarked [] s none = padded_text-nil s
unmarked (byte ∷ rest) s none =
    let first : eqb byte 36 ≡ false = is_false (eqb byte 36) (none 0 (omega arith) (omega arith)) in
    let later : Nowhere (Passes (is_byte 36) rest) 0 (length rest) = λ k low high. none (suc k) (omega arith) (omega (arith, high)) in
    padded_text-literal byte rest s (mark_at-plain byte rest first) ∙ ap (λ (l : List ℕ). byte ∷ l) (unmarked rest s later)

-- such an output is sent if there is room for it twice
pub unmarked_sent : (output padded : List ℕ) (room number need : ℕ) → padded ≡ output → length output + length output ≤ room → length output ≤ most_padded_bytes
    → ¬ IsUnsent output padded room number need
unmarked_sent output padded room number need same enough few (inl (above, n, m)) = omega (arith, above, few, ap length same)
unmarked_sent output padded room number need same enough few (inr (low, small, n, m)) = omega (arith, small, enough, ap length same)

-- ---- a short text at the front of a room

-- a bit that is not set
unset : (b : Bool) → ◌≡◌ {A = ℕ} (cond b 1 0) 0 → b ≡ false
unset true set = absurd (omega arith)
unset false clear = refl

-- if there is no `$` before its end
unmarked_front : (room : List ℕ) (end : ℕ) (s : Setting) → end ≤ length room → ((k : ℕ) → k < end → is_byte 36 (get_or room k 0) ≡ false) → padded_text (take end room) s ≡ take end room
unmarked_front room end s within none =
    unmarked (take end room) s (λ k low high here.
    let near : k < end = omega (arith, high, length-take-le end room within) in
    absurd (cc (here, ap (is_byte 36) (get_or-take end room k 0 near), none k near)))

-- bit k of the mask of the first bytes is set if byte k is a `$`
bit_of_dollar : (room : List ℕ) (size k : ℕ) → size ≤ length room → k < size → bit_at (mask_l (map (is_byte 36) (chunk 0 size room))) k ≡ cond (is_byte 36 (get_or room k 0)) 1 0
bit_of_dollar room size k within near =
    let front = chunk 0 size room in
    let there : k < length front = omega (arith, length-chunk 0 size room (omega arith)) in
    let byte : get_or front k 0 ≡ get_or room k 0 = get_or-chunk 0 size room k 0 near ∙ ap (λ j. get_or room j 0) (zero-add k) in
    bit_mask_l (map (is_byte 36) front) k ∙ ap (λ b. cond b 1 0) (get_or-map (is_byte 36) front k 0 false there ∙ ap (is_byte 36) byte)

-- if no bit of it is set before the end of the text, by the test in the code
pub unmarked_by_mask : (room : List ℕ) (size end mask : ℕ) → size ≤ length room → size < 64 → end ≤ size → mask ≡ mask_l (map (is_byte 36) (chunk 0 size room))
    → OnTrue (eqb (bit_and mask (1 * 2 ^ end % 2 ^ 64 - 1)) 0) ((s : Setting) → padded_text (take end room) s ≡ take end room)
unmarked_by_mask room size end mask within most few is =
    let P : Type 0 = (s : Setting) → padded_text (take end room) s ≡ take end room in
    let one = shl_one end (omega arith) in
    OnTrue_from (eqb (bit_and mask (1 * 2 ^ end % 2 ^ 64 - 1)) 0) P (λ none s.
    let low : bit_and mask (2 ^ end - 1) ≡ 0 = ap (λ x. bit_and mask (x - 1)) (sym one) ∙ eqb-true _ _ none in
    unmarked_front room end s (omega arith) (λ k near.
    unset (is_byte 36 (get_or room k 0))
    (sym (bit_of_dollar room size k within (omega arith)) ∙ ap (λ m. bit_at m k) (sym is) ∙ sym (bit_at_low_kept mask end k near) ∙ ap (λ m. bit_at m k) low ∙ bit_at-zero k)))
