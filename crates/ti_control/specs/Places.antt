-- The first place of some bytes where something stands.
use Rattle.std.specs.Prelude.{◌≡◌, ◌<◌, ℕ, Bool, true, false, List, Option, Some, None, drop, length}

-- the place is the first from which the bytes pass a test, or they pass it from none
abbrev pub IsFirstPlace : (List ℕ → Bool) → List ℕ → Option ℕ → Type 0
IsFirstPlace test bytes None = (k : ℕ) → k < length bytes → test (drop k bytes) ≡ false
IsFirstPlace test bytes (Some at) =
    (at < length bytes) × (test (drop at bytes) ≡ true) × ((k : ℕ) → k < at → test (drop k bytes) ≡ false)
