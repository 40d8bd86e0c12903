-- The variables into which the tokens store that a tape has given.
use Rattle.std.proofs.Common.{◌≡◌, ◌≢◌, ℕ, ◌<◌, ◌⊎◌, inl, inr, ◌↔◌, List, [], ◌∷◌, ◌++◌, length, refl, sym, ◌∙◌, ap, subst, arith, Contains, length-append}
use Rattle.std.proofs.lemmas.List.{append-nil}
use Rattle.ti_cap.specs.declared.language.Token.{Token}
use Rattle.ti_cap.specs.declared.language.Token.TheVariants.{Store}
use Rattle.ti_cap.specs.Tree.{tokens}
use Rattle.ti_cap.specs.Spelling.{IsLetter, Spells, Written}
use Rattle.ti_cap.specs.Capability.{Spot, IsWellFormed, Takes, IsFirst, whole}
use Rattle.ti_cap.proofs.WrittenLemmas.{one_cutting, spelled_long, written-append, written_one}
use Rattle.ti_lint.specs.declared.variables.Variables.{Variables}
use Rattle.ti_lint.specs.Variables.{HasOnlyLetters, HasVariable, IsStored}
use Rattle.ti_lint.specs.inner.Facts.{stored_also}
use Rattle.ti_lint.proofs.VariablesLemmas.{has_no_variable, has_stored_also, none_only_letters, stored_also_only_letters}
use Rattle.ti_lint.proofs.FactsLemmas.{contains-snoc}
use Rattle.ti_lint.proofs.PassLemmas.{chain}
use Rattle.ti_lint.proofs.AtLemmas.{same_whole}

-- the set is exactly what the tokens so far store
pub record Collects (bytes : List ℕ) (spot : Spot) (set : Variables) : Type 0 where
  pub formed : IsWellFormed bytes
  pub same : whole spot ≡ bytes
  pub before : List Token
  pub after : List Token
  pub taken : Written before spot.taken
  pub left : Written after spot.left
  pub exact : (which : ℕ) → HasVariable set which ↔ Contains before (Store which)
  pub only : HasOnlyLetters set

pub collects_start : (bytes : List ℕ) → IsWellFormed bytes → Collects bytes (record { taken = []; left = bytes }) (record { mask = 0 })
collects_start bytes f = record {
  formed = f;
  same = refl;
  before = [];
  after = tokens f.tree;
  taken = refl;
  left = f.writes.written;
  exact = λ which. ((λ h. absurd (has_no_variable which h)), (λ c. absurd (omega (arith, c.1))));
  only = none_only_letters;
}

spelled_letter : (one : ℕ) (s : List ℕ) → Spells (Store one) s → IsLetter one
spelled_letter one s (inl (b, is, other, e)) = absurd (cc (is))
spelled_letter one s (inr (escape, spelled, is)) = spelled.0

-- with the next token, of which the set has what it stores
on_with : (bytes : List ℕ) (spot new : Spot) (k : Token) (set more : Variables) (w : Collects bytes spot set) → Takes k spot new → IsFirst k spot new
    → ((which : ℕ) → HasVariable more which ↔ (HasVariable set which ⊎ (k ≡ Store which))) → HasOnlyLetters more → Collects bytes new more
on_with bytes spot new k set more w takes first step only =
    let n : (rest : List Token) × (w.after ≡ k ∷ rest) × Written rest new.left = first w.after w.left in
    let P : List ℕ → Type 0 = λ x. Written (w.before ++ k ∷ []) x in
    record {
      formed = w.formed;
      same = sym (same_whole spot new k takes) ∙ w.same;
      before = w.before ++ k ∷ [];
      after = n.0;
      taken = subst P (sym takes.3) (written-append w.before (k ∷ []) spot.taken takes.0 w.taken (written_one k takes.0 takes.1));
      left = n.2;
      exact = λ which. chain (step which) (chain (old which) (turn (contains-snoc w.before k (Store which))));
      only = only;
    }
  where
    turn : {A B : Type 0} → A ↔ B → B ↔ A
    turn p = (p.1, p.0)

    old : (which : ℕ) → (HasVariable set which ⊎ (k ≡ Store which)) ↔ (Contains w.before (Store which) ⊎ (k ≡ Store which))
    old which = (there, back)
      where
        there : HasVariable set which ⊎ (k ≡ Store which) → Contains w.before (Store which) ⊎ (k ≡ Store which)
        there (inl h) = inl ((w.exact which).0 h)
        there (inr e) = inr e

        back : Contains w.before (Store which) ⊎ (k ≡ Store which) → HasVariable set which ⊎ (k ≡ Store which)
        back (inl c) = inl ((w.exact which).1 c)
        back (inr e) = inr e

pub collects_store : (bytes : List ℕ) (spot new : Spot) (one : ℕ) (set : Variables) → Collects bytes spot set → Takes (Store one) spot new → IsFirst (Store one) spot new
    → Collects bytes new (stored_also one set)
collects_store bytes spot new one set w takes first = on_with bytes spot new (Store one) set (stored_also one set) w takes first step (stored_also_only_letters one set letter w.only)
  where
    letter : IsLetter one
    letter = spelled_letter one takes.0 takes.1

    same : (which : ℕ) → Store one ≡ Store which → one ≡ which
    same which e = cc

    step : (which : ℕ) → HasVariable (stored_also one set) which ↔ (HasVariable set which ⊎ (Store one ≡ Store which))
    step which = (there, back)
      where
        there : HasVariable (stored_also one set) which → HasVariable set which ⊎ (Store one ≡ Store which)
        there h = elim ((has_stored_also one set which letter).0 h) [ inl a ↦ inl a | inr e ↦ inr (ap (λ x. Store x) e) ]

        back : HasVariable set which ⊎ (Store one ≡ Store which) → HasVariable (stored_also one set) which
        back (inl h) = (has_stored_also one set which letter).1 (inl h)
        back (inr e) = (has_stored_also one set which letter).1 (inr (same which e))

pub collects_other : (bytes : List ℕ) (spot new : Spot) (k : Token) (set : Variables) → Collects bytes spot set → Takes k spot new → IsFirst k spot new
    → ((which : ℕ) → k ≢ Store which) → Collects bytes new set
collects_other bytes spot new k set w takes first other = on_with bytes spot new k set set w takes first step w.only
  where
    step : (which : ℕ) → HasVariable set which ↔ (HasVariable set which ⊎ (k ≡ Store which))
    step which = ((λ h. inl h), back)
      where
        back : HasVariable set which ⊎ (k ≡ Store which) → HasVariable set which
        back (inl h) = h
        back (inr e) = absurd (other which e)

pub shorter : (spot new : Spot) (k : Token) → Takes k spot new → length new.left < length spot.left
shorter spot new k (s, spelled, left, taken) = omega (arith, spelled_long k s spelled, ap length left, length-append s new.left)

-- at the end of the tape
pub collected : (bytes : List ℕ) (spot : Spot) (set : Variables) → Collects bytes spot set → spot.left ≡ [] → (which : ℕ) → HasVariable set which ↔ IsStored bytes which
collected bytes spot set w end which = chain (w.exact which) (there, back)
  where
    all : whole spot ≡ spot.taken
    all = ap (λ x. spot.taken ++ x) end ∙ append-nil spot.taken

    written : Written w.before bytes
    written = let P : List ℕ → Type 0 = λ x. Written w.before x in subst P (sym all ∙ w.same) w.taken

    there : Contains w.before (Store which) → IsStored bytes which
    there c =
        let same : w.before ≡ tokens w.formed.tree = one_cutting w.before (tokens w.formed.tree) bytes written w.formed.writes.written in
        let P : List Token → Type 0 = λ x. Contains x (Store which) in
        (w.formed.tree, w.formed.writes, subst P same c)

    back : IsStored bytes which → Contains w.before (Store which)
    back (tree, writes, c) =
        let same : tokens tree ≡ w.before = one_cutting (tokens tree) w.before bytes writes.written written in
        let P : List Token → Type 0 = λ x. Contains x (Store which) in
        subst P same c
