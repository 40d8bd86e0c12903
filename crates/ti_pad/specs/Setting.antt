-- What padding depends on.
use Rattle.std.specs.Prelude.{ℕ, Bool}

-- the rate in bytes per second, the affected lines, whether the terminal holds the sender back by
-- xon, and the pad byte
pub record Setting : Type 0 where
  pub rate : ℕ
  pub lines : ℕ
  pub xon : Bool
  pub pad : ℕ
