-- One token taken off a tape.
use Rattle.std.proofs.Common.{◌≡◌, ℕ, ◌+◌, ◌<◌, ◌≤◌, List, [], ◌∷◌, ◌++◌, length, take, drop, refl, sym, ◌∙◌, ap, subst, arith, Ok, Err, length-append, length-drop}
use Rattle.std.proofs.lemmas.List.{take_at, drop_at, drop-drop, take-append-drop}
use Rattle.std.proofs.Math.Seq.{take-add}
use Rattle.ti_cap.specs.declared.language.Token.{Token}
use Rattle.ti_cap.specs.declared.language.CapFault.{CapFault}
use Rattle.ti_cap.specs.declared.limits.Limits.{Limits}
use Rattle.ti_cap.specs.Tree.{tokens}
use Rattle.ti_cap.specs.Spelling.{Spells, Written}
use Rattle.ti_cap.specs.inner.Lexer.{token_read}
use Rattle.ti_cap.specs.Capability.{whole, IsWellFormed, IsCapability, IsTape}
use Rattle.ti_cap.proofs.SpellsLemmas.{read_token_is, read_length_is, token_again}
use Rattle.ti_cap.proofs.WrittenLemmas.{Same, one_form, spelled_long, written-append, written_one}

pub tape_start : (bytes : List ℕ) (limits : Limits) → IsCapability bytes 0 limits → IsTape bytes 0 limits
tape_start bytes limits c = record { done = []; todo = tokens c.tree; within = omega arith; taken = refl; left = c.writes.written; capability = c }

-- the next token of a tape
pub record Next (bytes : List ℕ) (at : ℕ) (limits : Limits) (token : Token) (long : ℕ) : Type 0 where
  pub spelling : List ℕ
  pub spells : Spells token spelling
  pub left : drop at bytes ≡ spelling ++ drop (at + long) bytes
  pub taken : take (at + long) bytes ≡ take at bytes ++ spelling
  pub within : at + long ≤ length bytes
  pub tape : IsTape bytes (at + long) limits

record Next' (bytes : List ℕ) (at : ℕ) (token : Token) (long : ℕ) : Type 0 where
  spelling : List ℕ
  spells : Spells token spelling
  left : drop at bytes ≡ spelling ++ drop (at + long) bytes
  taken : take (at + long) bytes ≡ take at bytes ++ spelling
  within : at + long ≤ length bytes
  rest : List Token
  todo : Written rest (drop (at + long) bytes)

tape_reads : (bytes : List ℕ) (at : ℕ) (todo : List Token) → at < length bytes → Written todo (drop at bytes) → (token : Token) × (long : ℕ) × (token_read (drop at bytes) ≡ Ok (token, long)) × Next' bytes at token long
tape_reads bytes at [] more w = absurd (omega (arith, ap length w, length-drop at bytes))
tape_reads bytes at (k ∷ rest) more (s, tail, p, wr, e) =
    let after : tail ≡ drop (at + length s) bytes = sym (drop_at s tail (length s) refl) ∙ ap (λ x. drop (length s) x) (sym e) ∙ drop-drop (length s) at bytes in (
      k,
      length s,
      ap token_read e ∙ token_again k s tail p,
      record {
        spelling = s;
        spells = p;
        left = e ∙ ap (λ x. s ++ x) after;
        taken = take-add at (length s) bytes ∙ ap (λ x. take at bytes ++ x) (ap (λ x. take (length s) x) e ∙ take_at s tail (length s) refl);
        within = omega (arith, ap length e, length-append s tail, length-drop at bytes);
        rest = rest;
        todo = let P : List ℕ → Type 0 = λ x. Written rest x in subst P after wr;
      },
    )

pub tape_step : (bytes : List ℕ) (at : ℕ) (limits : Limits) (token : Token) (long : ℕ) → IsTape bytes at limits → at < length bytes → token_read (drop at bytes) ≡ Ok (token, long)
    → Next bytes at limits token long
tape_step bytes at limits token long t more e =
    let r : (k : Token) × (n : ℕ) × (token_read (drop at bytes) ≡ Ok (k, n)) × Next' bytes at k n = tape_reads bytes at t.todo more t.left in
    let P : Token → Type 0 = λ x. Next' bytes at x long in
    let Q : ℕ → Type 0 = λ x. Next' bytes at r.0 x in
    let n : Next' bytes at token long = subst P (read_token_is r.0 token r.1 long (sym r.2 ∙ e)) (subst Q (read_length_is r.0 token r.1 long (sym r.2 ∙ e)) r.3) in
    record {
      spelling = n.spelling;
      spells = n.spells;
      left = n.left;
      taken = n.taken;
      within = n.within;
      tape = record {
        done = t.done ++ token ∷ [];
        todo = n.rest;
        within = n.within;
        taken = let R : List ℕ → Type 0 = λ x. Written (t.done ++ token ∷ []) x in subst R (sym n.taken) (written-append t.done (token ∷ []) (take at bytes) n.spelling t.taken (written_one token n.spelling n.spells));
        left = n.todo;
        capability = t.capability;
      };
    }

-- a tape with bytes left gives a token
pub tape_never : (bytes : List ℕ) (at : ℕ) (limits : Limits) (f : CapFault) → IsTape bytes at limits → at < length bytes → token_read (drop at bytes) ≡ Err f → ⊥
tape_never bytes at limits f t more e =
    let r : (k : Token) × (n : ℕ) × (token_read (drop at bytes) ≡ Ok (k, n)) × Next' bytes at k n = tape_reads bytes at t.todo more t.left in
    absurd (cc (r.2, e))

-- however tokens write the bytes that were left, a token that is spelled next is the first of them
pub tape_first : (token : Token) (left after s : List ℕ) → Spells token s → left ≡ s ++ after
    → (ks : List Token) → Written ks left → (rest : List Token) × (ks ≡ token ∷ rest) × Written rest after
tape_first token left after s p e [] w = absurd (omega (arith, ap length (sym e ∙ w), length-append s after, spelled_long token s p))
tape_first token left after s p e (k ∷ ks) (u, tail, q, w, f) =
    let same : Same token k s u after tail = one_form token k s u after tail p q (sym e ∙ f) in
    let P : List ℕ → Type 0 = λ x. Written ks x in
    (ks, ap (λ x. x ∷ ks) (sym same.token), subst P (sym same.rest) w)

-- what parsing has found is well formed
pub well_formed : (bytes : List ℕ) (limits : Limits) → IsCapability bytes 0 limits → IsWellFormed bytes
well_formed bytes limits c = record {
  tree = c.tree;
  writes = c.writes;
  short = c.faultless.0;
  nests = omega (arith, c.nest_is, c.few);
  heights = λ path p. omega (arith, c.depth_is.above_all path p, c.low);
}

-- a tape's bytes are all of them
pub whole_is : (bytes : List ℕ) (at : ℕ) → whole (record { taken = take at bytes; left = drop at bytes }) ≡ bytes
whole_is bytes at = take-append-drop at bytes
