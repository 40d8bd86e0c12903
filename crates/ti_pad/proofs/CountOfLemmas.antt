-- The smallest count of pad bytes that takes a time.
use Rattle.std.proofs.Common.{◌+◌, ◌*◌, ◌/◌, ◌≤◌, ℕ, arith}
use Rattle.ti_pad.specs.Padded.{lines_of, tenths}
use Rattle.ti_pad.specs.Laws.{CountsEnough, CountsLeast, PassesOver}

rounded_up-enough : (n : ℕ) → n ≤ 10000 * ((n + 9999) / 10000)
rounded_up-enough n = omega arith

rounded_up-least : (n count : ℕ) → n ≤ 10000 * count → (n + 9999) / 10000 ≤ count
rounded_up-least n count h = omega arith

pub passes_over : PassesOver
passes_over s m e = rw e

pub counts_enough : CountsEnough
counts_enough s m e = rw e (rounded_up-enough (tenths m * lines_of s m * s.rate))

pub counts_least : CountsLeast
counts_least s m count e h = rw e (rounded_up-least (tenths m * lines_of s m * s.rate) count h)
