-- The sizes of tokens that bytes spell.
use Rattle.std.proofs.Common.{◌≡◌, ℕ, ◌+◌, ◌*◌, ◌<◌, ◌≤◌, ◌^◌, List, [], ◌∷◌, length, ◌∙◌, ap, arith, true, false, length-append}
use Rattle.std.proofs.lemmas.List.Sums.{sum_by-cons}
use Rattle.ti_cap.specs.declared.language.Token.{Token}
use Rattle.ti_cap.specs.Path.{Walk, path_of}
use Rattle.ti_cap.specs.Sizes.{token_size}
use Rattle.ti_cap.specs.Height.{size}
use Rattle.ti_cap.specs.Spelling.{Written}
use Rattle.ti_cap.proofs.TokenSizeLemmas.{spelled_size}
use Rattle.ti_cap.proofs.WrittenLemmas.{spelled_long}
use Rattle.ti_cap.proofs.ProgressLemmas.{Act, IsRising}
use Rattle.ti_cap.proofs.ReachesLemmas.{state_of}
use Rattle.ti_cap.proofs.NextProgressLemmas.{IsStill}

-- each token adds its size
abbrev pub size_act : ℕ → Act
size_act longest x k = x + token_size longest k

pub size_rising : (longest : ℕ) → IsRising (size_act longest)
size_rising longest k x y h = omega arith

pub size_still : (longest : ℕ) → IsStill (size_act longest)
size_still longest = ((λ x. omega arith), (λ x. omega arith))

value-from : (longest : ℕ) (ks : List Token) (bytes : List ℕ) (w : Walk) (x : ℕ) → longest < 2 ^ 16 → Written ks bytes
    → state_of (size_act longest) x (path_of w ks) ≤ x + 65535 * length bytes
value-from longest ks bytes [] x h q = omega arith
value-from longest [] bytes (b ∷ w) x h q = omega arith
value-from longest (k ∷ ks) bytes (true ∷ w) x h (s, tail, p, q, e) =
    omega (arith, value-from longest ks tail w (x + token_size longest k) h q, ap length e, length-append s tail, spelled_long k s p, spelled_size longest k s h p)
value-from longest (k ∷ ks) bytes (false ∷ w) x h (s, tail, p, q, e) =
    omega (arith, value-from longest ks tail w x h q, ap length e, length-append s tail)

-- no walk over tokens that bytes spell is larger than so much for each byte
pub value-size : (longest : ℕ) (ks : List Token) (bytes : List ℕ) (w : Walk) → longest < 2 ^ 16 → Written ks bytes
    → state_of (size_act longest) 0 (path_of w ks) ≤ 65535 * length bytes
value-size longest ks bytes w h q = omega (arith, value-from longest ks bytes w 0 h q)

size-from : (longest x : ℕ) (path : List Token) → state_of (size_act longest) x path ≡ x + size path longest
size-from longest x [] = omega arith
size-from longest x (k ∷ path) = size-from longest (x + token_size longest k) path ∙ omega (arith, sum_by-cons (token_size longest) k path)

-- the value of a path is its size
pub value_is : (longest : ℕ) (path : List Token) → state_of (size_act longest) 0 path ≡ size path longest
value_is longest path = size-from longest 0 path ∙ omega arith
