-- Texts, and keys with what they send, as the code lends them.
use Rattle.std.specs.Borrow.{Bor}
use Rattle.std.specs.Prelude.{ℕ, List, map}
use Rattle.ti_rules.specs.Keys.{Key}

abbrev pub texts_lent : List (Bor (List ℕ)) → List (List ℕ)
texts_lent texts = map (λ text. text.now) texts

abbrev pub key_lent : Bor (List ℕ) × Bor (List ℕ) → Key
key_lent (text, name) = (text.now, name.now)

abbrev pub keys_lent : List (Bor (List ℕ) × Bor (List ℕ)) → List Key
keys_lent keys = map key_lent keys
