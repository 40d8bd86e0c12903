-- What a spelled token writes at most.
use Rattle.std.proofs.Common.{◌≡◌, ℕ, ◌+◌, ◌<◌, ◌≤◌, ◌^◌, max, inl, inr, List, [], ◌∷◌, ap, arith, if◌then◌else◌, Bool, true, false}
use Rattle.std.specs.Prelude.{Option, Some, None, unwrap_or}
use Rattle.ti_base.specs.Limits.{greatest_width}
use Rattle.ti_cap.specs.declared.language.Token.{Token}
use Rattle.ti_cap.specs.declared.language.Token.TheVariants.{Byte, Param, Constant, Char, Print}
use Rattle.ti_cap.specs.declared.language.Format.{Format}
use Rattle.ti_cap.specs.declared.language.Conversion.{Conversion}
use Rattle.ti_cap.specs.declared.language.Conversion.TheVariants.{Signed, Octal, LowerHex, UpperHex, Text}
use Rattle.ti_cap.specs.Sizes.{printed_text_size, token_size}
use Rattle.ti_cap.specs.Spelling.{Spells, SpellsWidth, SpellsPrecision}

width_small : (w : ℕ) (s : List ℕ) → SpellsWidth w s → w ≤ greatest_width
width_small w [] h = omega arith
width_small w (c ∷ cs) h = h.3

precision_small : (o : Option ℕ) (s : List ℕ) → SpellsPrecision o s → unwrap_or o 0 ≤ greatest_width
precision_small None s h = omega arith
precision_small (Some p) s (digits, all, value, le, is) = le

hex_small : (b : Bool) (p : ℕ) → p ≤ greatest_width → (if b then 2 else 0) + max 8 p ≤ 65535
hex_small true p h = omega arith
hex_small false p h = omega arith

text_small : (c : Conversion) (f : Format) (longest : ℕ) → longest < 2 ^ 16 → unwrap_or f.precision 0 ≤ greatest_width → printed_text_size c f longest ≤ 65535
text_small Signed f longest h p = omega arith
text_small Octal f longest h p = by_flag f.alternate
  where
    by_flag : (b : Bool) → max (if b then 12 else 11) (unwrap_or f.precision 0) ≤ 65535
    by_flag true = omega arith
    by_flag false = omega arith
text_small LowerHex f longest h p = hex_small f.alternate (unwrap_or f.precision 0) p
text_small UpperHex f longest h p = hex_small f.alternate (unwrap_or f.precision 0) p
text_small Text f longest h p = omega arith

-- a spelled token writes no more than a text may, and than its format asks
pub spelled_size : (longest : ℕ) (k : Token) (s : List ℕ) → longest < 2 ^ 16 → Spells k s → token_size longest k ≤ 65535
spelled_size longest k s h (inl (b, e, other, is)) = let q : token_size longest k ≡ 1 = ap (λ x. token_size longest x) e in omega arith
spelled_size longest (Print f) s h (inr (x, (flags, width, pr, are, has, sw, sp, is), e)) =
    let t : printed_text_size f.conversion f longest ≤ 65535 = text_small f.conversion f longest h (precision_small f.precision pr sp) in
    let w : f.width ≤ greatest_width = width_small f.width width sw in
    omega arith
spelled_size longest (Byte b) s h (inr (x, p, e)) = omega arith
spelled_size longest Char s h (inr (x, p, e)) = omega arith
spelled_size longest (Param q) s h (inr (x, p, e)) = omega arith
spelled_size longest (Constant z) s h (inr (x, p, e)) = omega arith
spelled_size longest _ s h (inr (x, p, e)) = omega arith
