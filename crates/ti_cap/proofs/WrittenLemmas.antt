-- Bytes are cut into tokens in one way.
use Rattle.std.proofs.Common.{◌≡◌, ℕ, ◌<◌, inl, inr, List, [], ◌∷◌, ◌++◌, length, take, drop, refl, sym, ◌∙◌, ap, subst, arith, append_assoc, length-append}
use Rattle.std.proofs.lemmas.List.{append-nil, take_at, drop_at}
use Rattle.ti_cap.specs.declared.language.Token.{Token}
use Rattle.ti_cap.specs.Spelling.{Spells, Written}
use Rattle.ti_cap.specs.inner.Lexer.{token_read}
use Rattle.ti_cap.proofs.SpellsLemmas.{token_again, read_token_is, read_length_is}

pub spelled_long : (k : Token) (s : List ℕ) → Spells k s → 0 < length s
spelled_long k s (inl (b, is, other, e)) = rw e (omega arith)
spelled_long k s (inr (x, is, e)) = rw e (omega arith)

-- two spellings at the front of one list
pub record Same (k l : Token) (s u x y : List ℕ) : Type 0 where
  pub token : k ≡ l
  pub spelling : s ≡ u
  pub rest : x ≡ y

pub one_form : (k l : Token) (s u x y : List ℕ) → Spells k s → Spells l u → s ++ x ≡ u ++ y → Same k l s u x y
one_form k l s u x y p q e =
    let r : token_read (s ++ x) ≡ token_read (u ++ y) = ap token_read e in
    let m : length s ≡ length u = read_length_is k l (length s) (length u) (sym (token_again k s x p) ∙ r ∙ token_again l u y q) in
    record {
      token = read_token_is k l (length s) (length u) (sym (token_again k s x p) ∙ r ∙ token_again l u y q);
      spelling = sym (take_at s x (length u) m) ∙ ap (λ z. take (length u) z) e ∙ take_at u y (length u) refl;
      rest = sym (drop_at s x (length u) m) ∙ ap (λ z. drop (length u) z) e ∙ drop_at u y (length u) refl;
    }

pub written-append : (a b : List Token) (x y : List ℕ) → Written a x → Written b y → Written (a ++ b) (x ++ y)
written-append [] b x y p q = rw p q
written-append (k ∷ a) b x y (s, tail, spelled, w, e) q = (s, tail ++ y, spelled, written-append a b tail y w q, rw e (append_assoc s tail y))

pub written_one : (k : Token) (s : List ℕ) → Spells k s → Written (k ∷ []) s
written_one k s p = (s, [], p, refl, sym (append-nil s))

-- no spelling ends within another
no_front : (k l : Token) (s t more : List ℕ) (c : ℕ) → Spells k s → Spells l ((s ++ t) ++ c ∷ more) → ⊥
no_front k l s t more c p q =
    let r : Same k l s ((s ++ t) ++ c ∷ more) (t ++ c ∷ more) [] =
    one_form k l s ((s ++ t) ++ c ∷ more) (t ++ c ∷ more) [] p q (sym (append_assoc s t (c ∷ more)) ∙ sym (append-nil ((s ++ t) ++ c ∷ more))) in
    omega (arith, ap length r.spelling, length-append (s ++ t) (c ∷ more), length-append s t)

-- a cutting that ends in or before the next spelling ends before it, and is the same
pub cut_once : (p q : List Token) (a b more : List ℕ) (c : ℕ) (k : Token) → Written p a → Written q (a ++ b) → Spells k (b ++ c ∷ more)
    → (b ≡ []) × (q ≡ p)
cut_once [] [] a b more c k wp wq sk = (omega_nil a b wq, refl)
  where
    omega_nil : (a b : List ℕ) → a ++ b ≡ [] → b ≡ []
    omega_nil [] b e = e
    omega_nil (x ∷ a) b e = absurd (cc)
cut_once [] (l ∷ q) a b more c k wp (s, tail, sl, w, e) sk =
    let is : b ≡ s ++ tail = rw wp at e in
    let P : List ℕ → Type 0 = λ z. Spells k (z ++ c ∷ more) in
    absurd (no_front l k s tail more c sl (subst P is sk))
cut_once (m ∷ p) [] a b more c k (s, tail, sm, w, e) wq sk =
    let long : 0 < length s = spelled_long m s sm in
    absurd (omega (arith, ap length wq, length-append a b, ap length e, length-append s tail))
cut_once (m ∷ p) (l ∷ q) a b more c k (s, tail, sm, w, e) (u, rest, sl, v, f) sk =
    let same : Same m l s u (tail ++ b) rest = one_form m l s u (tail ++ b) rest sm sl (sym (append_assoc s tail b) ∙ ap (λ z. z ++ b) (sym e) ∙ f) in
    let P : List ℕ → Type 0 = λ z. Written q z in
    let r : (b ≡ []) × (q ≡ p) = cut_once p q tail b more c k w (subst P (sym same.rest) v) sk in
    (r.0, cc (same.token, r.1))

-- bytes have at most one cutting
pub one_cutting : (p q : List Token) (a : List ℕ) → Written p a → Written q a → p ≡ q
one_cutting [] [] a wp wq = refl
one_cutting [] (l ∷ q) a wp (u, rest, sl, v, f) = absurd (omega (arith, ap length wp, ap length f, length-append u rest, spelled_long l u sl))
one_cutting (m ∷ p) [] a (s, tail, sm, w, e) wq = absurd (omega (arith, ap length wq, ap length e, length-append s tail, spelled_long m s sm))
one_cutting (m ∷ p) (l ∷ q) a (s, tail, sm, w, e) (u, rest, sl, v, f) =
    let same : Same m l s u tail rest = one_form m l s u tail rest sm sl (sym e ∙ f) in
    let P : List ℕ → Type 0 = λ z. Written q z in
    let r : p ≡ q = one_cutting p q tail w (subst P (sym same.rest) v) in
    cc (same.token, r)
