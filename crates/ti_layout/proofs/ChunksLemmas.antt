-- The pieces into which the bytes of a section are cut.
use Rattle.std.proofs.Common.{◌≡◌, ℕ, zero, suc, ◌+◌, ◌*◌, ◌<◌, ◌≤◌, List, [], get_or, take, drop, ap, ◌∙◌, arith}
use Rattle.std.proofs.lemmas.Grind.{common_steps}
use Rattle.std.proofs.lemmas.List.{drop-drop, get_or-drop, get_or-take}
use Rattle.std.specs.Simd.{first_chunks}

-- each piece is as many bytes, from its place on
pub chunk_at : (n k i : ℕ) (bytes : List ℕ) → i < k → get_or (first_chunks n k bytes) i [] ≡ take n (drop (n * i) bytes)
chunk_at n zero i bytes lt = absurd (omega arith)
chunk_at n (suc k) zero bytes lt = grind (arith, common_steps)
chunk_at n (suc k) (suc i) bytes lt = grind (arith, common_steps, drop-drop, chunk_at n k i (drop n bytes))

-- and so its bytes are those of the section
pub chunk_byte : (n k i j from size place : ℕ) (bytes : List ℕ) → i < k → j < n → n * i + n ≤ size → from + n * i + j ≡ place
    → get_or (get_or (first_chunks n k (take size (drop from bytes))) i []) j 0 ≡ get_or bytes place 0
chunk_byte n k i j from size place bytes lt in_piece in_section at =
    ap (λ piece. get_or piece j 0) (chunk_at n k i (take size (drop from bytes)) lt)
    ∙ get_or-take n (drop (n * i) (take size (drop from bytes))) j 0 in_piece
    ∙ get_or-drop (n * i) (take size (drop from bytes)) j 0
    ∙ get_or-take size (drop from bytes) (n * i + j) 0 (omega arith)
    ∙ get_or-drop from bytes (n * i + j) 0 ∙ ap (λ m. get_or bytes m 0) (omega (arith, at))
