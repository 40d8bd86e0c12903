-- Bytes that are as many as their tokens.
use Rattle.std.proofs.Common.{◌≡◌, ℕ, ◌+◌, ◌<◌, ◌≤◌, get_or, inl, inr, Ok, Err, List, [], ◌∷◌, ◌++◌, length, map, take, drop, refl, sym, ◌∙◌, ap, subst, arith, length-append}
use Rattle.std.specs.Prelude.{Bool, true, false, ◌||◌, nat_eq}
use Rattle.std.proofs.lemmas.Bool.{eqb-false, ne_eqb}
use Rattle.std.proofs.lemmas.List.{append-nil, take_all, drop_all, length-map}
use Rattle.ti_base.specs.Limits.{most_capability_bytes}
use Rattle.ti_cap.specs.declared.language.Token.{Token}
use Rattle.ti_cap.specs.declared.language.Token.TheVariants.{Byte}
use Rattle.ti_cap.specs.declared.language.CapFault.TheVariants.{CutShort}
use Rattle.ti_cap.specs.declared.limits.Limits.{Limits}
use Rattle.ti_cap.specs.Tree.{tokens}
use Rattle.ti_cap.specs.Spelling.{Spells, Written}
use Rattle.ti_cap.specs.inner.Analysis.{Findings, no_findings}
use Rattle.ti_cap.specs.inner.Lexer.{token_read}
use Rattle.ti_cap.specs.inner.Reading.{Finds}
use Rattle.ti_cap.specs.Capability.{Spot, whole, ArePlain, IsCapability, IsTape, has_escape}
use Rattle.ti_cap.proofs.IsRefusalLemmas.{Parsed, parse_start, parse_done}
use Rattle.ti_cap.proofs.IsTapeLemmas.{whole_is}
use Rattle.ti_cap.proofs.ReaderLemmas.{parsed_on}
use Rattle.ti_cap.proofs.SpellsLemmas.{token_again}
use Rattle.ti_cap.proofs.WrittenLemmas.{spelled_long, one_cutting}

-- a token that one byte spells writes it
plain_token : (token : Token) (s : List ℕ) → Spells token s → length s ≤ 1 → (b : ℕ) × (token ≡ Byte b) × (s ≡ b ∷ [])
plain_token token s (inl (b, is, other, e)) short = (b, is, e)
plain_token token s (inr ([], is, e)) short =
    let read : token_read (s ++ []) ≡ Ok (token, length s) = token_again token s [] (inr ([], is, e)) in
    let cut : token_read (s ++ []) ≡ Err CutShort = rw e refl in
    absurd (cc)
plain_token token s (inr (c ∷ cs, is, e)) short = absurd (omega (arith, ap length e))

length-written : (ts : List Token) (bytes : List ℕ) → Written ts bytes → length ts ≤ length bytes
length-written [] bytes w = omega arith
length-written (t ∷ ts) bytes (s, tail, p, w, e) =
    omega (arith, spelled_long t s p, length-written ts tail w, ap length e, length-append s tail)

plain_tokens : (ts : List Token) (bytes : List ℕ) → Written ts bytes → length ts ≡ length bytes → ts ≡ map (λ b. Byte b) bytes
plain_tokens [] [] w n = refl
plain_tokens [] (b ∷ bytes) w n = absurd (omega arith)
plain_tokens (t ∷ ts) bytes (s, tail, p, w, e) n =
    let few : length ts ≤ length tail = length-written ts tail w in
    let all : length bytes ≡ length s + length tail = ap length e ∙ length-append s tail in
    let long : 0 < length s = spelled_long t s p in
    let one : (b : ℕ) × (t ≡ Byte b) × (s ≡ b ∷ []) = plain_token t s p (omega arith) in
    let rest : ts ≡ map (λ b. Byte b) tail = plain_tokens ts tail w (omega arith) in
    let bytes_are : bytes ≡ one.0 ∷ tail = rw one.2 at e in
    let bytes_map : map (λ b. Byte b) bytes ≡ map (λ b. Byte b) (one.0 ∷ tail) = ap (λ (x : List ℕ). map (λ b. Byte b) x) bytes_are in
    cc (one.1)

module _ (bytes : List ℕ) (at : ℕ) (limits : Limits) (t : IsTape bytes at limits) where
  -- as many tokens as bytes
  pub are_plain : (spot : Spot) → record { taken = take at bytes; left = drop at bytes } ≡ spot → limits.tokens ≡ length bytes → ArePlain (whole spot)
  are_plain spot seen n =
      let c = t.capability in
      let is : tokens c.tree ≡ map (λ b. Byte b) bytes = plain_tokens (tokens c.tree) bytes c.writes.written (c.count_is ∙ n) in
      let P : List Token → Type 0 = λ x. Written x bytes in
      subst (λ (x : List ℕ). ArePlain x) (sym (whole_is bytes at) ∙ ap whole seen) (subst P is c.writes.written)

  -- and no other bytes are plain
  pub plain_count : (spot : Spot) → record { taken = take at bytes; left = drop at bytes } ≡ spot → ArePlain (whole spot) → limits.tokens ≡ length bytes
  plain_count spot seen plain =
      let c = t.capability in
      let here : ArePlain bytes = subst (λ (x : List ℕ). ArePlain x) (ap whole (sym seen) ∙ whole_is bytes at) plain in
      sym c.count_is ∙ ap length (one_cutting (tokens c.tree) (map (λ b. Byte b) bytes) bytes c.writes.written here) ∙ length-map bytes (λ b. Byte b)

  -- all its tokens are taken
  pub tape_end : IsTape bytes (length bytes) limits
  tape_end =
      let c = t.capability in
      let P : List ℕ → Type 0 = λ x. Written (tokens c.tree) x in
      record { done = tokens c.tree; todo = []; within = omega arith; taken = subst P (sym (take_all (length bytes) bytes (omega arith))) c.writes.written; left = drop_all (length bytes) bytes (omega arith); capability = c }

-- ---- bytes without escapes

neither : (a b : Bool) → (a || b) ≡ false → (a ≡ false) × (b ≡ false)
neither false b e = (refl, e)
neither true b e = absurd (cc)

-- each is a token
pub plain_bytes : (bytes : List ℕ) → has_escape bytes ≡ false → ArePlain bytes
plain_bytes [] none = refl
plain_bytes (b ∷ bytes) none =
    let n = neither (nat_eq b 37) (has_escape bytes) none in
    (b ∷ [], bytes, inl (b, refl, eqb-false b 37 n.0, refl), plain_bytes bytes n.1, refl)

-- and tokens of one byte begin no escape
pub plain_none : (bytes : List ℕ) → ArePlain bytes → has_escape bytes ≡ false
plain_none [] w = refl
plain_none (b ∷ bytes) (s, tail, inl (c, token, other, spells), w, is) =
    let split : b ∷ bytes ≡ c ∷ tail = is ∙ ap (λ x. x ++ tail) spells in
    let same : b ≡ c = cc in
    let rest : tail ≡ bytes = cc in
    let P : List ℕ → Type 0 = λ x. Written (map (λ b. Byte b) bytes) x in
    ap (λ x. x || has_escape bytes) (ne_eqb b 37 (λ e. other (sym same ∙ e))) ∙ plain_none bytes (subst P rest w)
plain_none (b ∷ bytes) (s, tail, inr (escape, e, spells), w, is) =
    absurd (omega (arith, length-written (map (λ b. Byte b) bytes) tail w, length-map bytes (λ b. Byte b), ap length is, ap length spells, ap length e.1, length-append s tail))

-- what has been found of some bytes, each of which is a token
abbrev pub found_plain : ℕ → Findings
found_plain n = record no_findings { sizes = record { running = n; frames = [] } }

plain_finds : (bytes : List ℕ) (n : ℕ) → Finds (found_plain n) (map (λ b. Byte b) bytes) (found_plain (n + length bytes))
plain_finds [] n = let same : n + 0 ≡ n = omega arith in ap found_plain same
plain_finds (b ∷ bytes) n =
    let same : n + 1 + length bytes ≡ n + length (b ∷ bytes) = omega arith in
    (refl, let P : ℕ → Type 0 = λ x. Finds (found_plain (n + 1)) (map (λ b. Byte b) bytes) (found_plain x) in subst P same (plain_finds bytes (n + 1)))

pub plain_capability : (bytes : List ℕ) → ((i : ℕ) → get_or bytes i 0 < 256) → length bytes ≤ most_capability_bytes → has_escape bytes ≡ false
    → IsCapability bytes 0 (record { tokens = length bytes; depth = 0; nest = 0; bound = length bytes })
plain_capability bytes fits short none =
    let all = map (λ b. Byte b) bytes in
    let same : 0 + length bytes ≡ length bytes = omega arith in
    let P : ℕ → Type 0 = λ x. Finds (found_plain 0) all (found_plain x) in
    let p : Parsed bytes 0 (0 + length bytes) (0 + length all) (found_plain (length bytes)) =
    parsed_on bytes 0 0 no_findings all bytes [] (found_plain (length bytes)) fits (parse_start bytes 0 0 refl) (sym (append-nil bytes)) (plain_bytes bytes none) (subst P same (plain_finds bytes 0)) in
    parse_done bytes 0 (0 + length bytes) (0 + length all) (found_plain (length bytes)) _ short (omega arith) p refl (omega (arith, length-map bytes (λ b. Byte b))) refl refl refl
