-- What is left shows exactly if all does.
use Rattle.std.proofs.Common.{◌≡◌, ◌≢◌, ◌∙◌, ℕ, zero, suc, List, [], ◌∷◌, ◌||◌, ap, arith, true, false, cond, drop, length, nat_eq, refl}
use Rattle.ti_values.specs.Sequences.{escape_len, is_printable, shows_after}

shows_past : (k : ℕ) (bytes : List ℕ) → shows_after k bytes ≡ shows_after 0 (drop k bytes)
unfolding shows_after
shows_past zero bytes = refl
shows_past (suc k) [] = refl
shows_past (suc k) (byte ∷ rest) = shows_past k rest

is_escape : (byte : ℕ) → byte ≡ 0x1b → nat_eq byte 0x1b ≡ true
is_escape byte e = grind arith

is_none : (byte : ℕ) → byte ≢ 0x1b → nat_eq byte 0x1b ≡ false
is_none byte e = grind arith

pub shows_sequence : (bytes : List ℕ) (byte : ℕ) (rest : List ℕ) → bytes ≡ byte ∷ rest → byte ≡ 0x1b
    → shows_after 0 bytes ≡ shows_after 0 (drop (escape_len rest) rest)
unfolding shows_after
shows_sequence bytes byte rest all escape =
    ap (shows_after 0) all
    ∙ ap (λ b. cond b (shows_after (escape_len rest) rest) (is_printable byte || shows_after 0 rest)) (is_escape byte escape)
    ∙ shows_past (escape_len rest) rest

pub shows_byte : (bytes : List ℕ) (byte : ℕ) (rest : List ℕ) → bytes ≡ byte ∷ rest → byte ≢ 0x1b
    → shows_after 0 bytes ≡ is_printable byte || shows_after 0 rest
unfolding shows_after
shows_byte bytes byte rest all other =
    ap (shows_after 0) all
    ∙ ap (λ b. cond b (shows_after (escape_len rest) rest) (is_printable byte || shows_after 0 rest)) (is_none byte other)

pub shows_nothing : (bytes : List ℕ) → length bytes ≡ 0 → shows_after 0 bytes ≡ false
unfolding shows_after
shows_nothing [] none = refl
shows_nothing (byte ∷ rest) none = absurd (omega (arith, none))
