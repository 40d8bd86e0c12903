-- The outlook of a place, against the paths that go on from it.
use Rattle.std.proofs.Common.{◌≡◌, ◌≢◌, ℕ, suc, ◌+◌, ◌-◌, ◌*◌, ◌^◌, ◌<◌, ◌≤◌, min, max, ◌⊎◌, inl, inr, ◌↔◌, List, [], ◌∷◌, length, refl, sym, ◌∙◌, ap, subst, arith, Bool, true, false, cond, Contains}
use Rattle.std.specs.Int.{bit_at}
use Rattle.std.proofs.lemmas.Nat.Bits.{bit_at-zero, bit_at-pow_same, bit_at-pow_other}
use Rattle.ti_cap.specs.declared.language.Token.{Token}
use Rattle.ti_cap.specs.declared.language.Token.TheVariants.{Load, Compute}
use Rattle.ti_cap.specs.declared.language.Op.{Op}
use Rattle.ti_cap.specs.declared.language.Op.TheVariants.{Not, BitNot}
use Rattle.ti_cap.specs.Path.{Walk, path_of}
use Rattle.ti_cap.specs.Height.{pops, pushes, next_height}
use Rattle.ti_lint.specs.declared.variables.Variables.{Variables}
use Rattle.ti_lint.specs.declared.outlook.Outlook.{Outlook}
use Rattle.ti_lint.specs.Findings.{Keeps, NamesFirstTwo}
use Rattle.ti_lint.specs.inner.Facts.{place_of, stored_also, IsLettered}
use Rattle.ti_lint.specs.inner.Outlook.{end_outlook, either_outlook, needed, loaded, outlook_before}
use Rattle.ti_lint.proofs.HeightsLemmas.{has_either}
use Rattle.ti_lint.proofs.FactsLemmas.{either_true, nothing_in, names_nothing, contains-cons, IsFirstTwo, names_longer, has_first_two}
use Rattle.ti_lint.proofs.HoldsLemmas.{Path}
use Rattle.ti_lint.proofs.GoesOnLemmas.{Marked}

-- a fact of a path to the end
pub data Prospect : Type 0 where
  -- of so many values it leaves the lowest
  Leaves : ℕ → Prospect
  -- it pushes the first or the second parameter
  Named : Prospect
  -- it pushes the variable
  Loaded : ℕ → Prospect

abbrev pub Says : Prospect → Path → Type 0
Says (Leaves h) path = Keeps h path
Says Named path = NamesFirstTwo path
Says (Loaded which) path = Contains path (Load which)

abbrev pub Has : Outlook → Prospect → Type 0
Has o (Leaves h) = o.needs < h
Has o Named = o.names_first_two ≡ true
Has o (Loaded which) = bit_at o.loads.mask (place_of which) ≡ 1

-- there is a value to leave, and a variable has a place in the set
abbrev pub IsFit : Prospect → Type 0
IsFit (Leaves h) = 0 < h
IsFit Named = Unit {0}
IsFit (Loaded which) = (65 ≤ which) × (which ≤ 122)

abbrev pub IsTold : (Path → Type 0) → Prospect → Type 0
IsTold within fact = (path : Path) × within path × Says fact path

-- the outlook is exactly what is true of some path of a set
abbrev pub Shows : Outlook → (Path → Type 0) → Type 0
Shows o within = (fact : Prospect) → IsFit fact → Has o fact ↔ IsTold within fact

pub shows_same : (o : Outlook) (old new : Path → Type 0) → ((x : Path) → old x ↔ new x) → Shows o old → Shows o new
shows_same o old new same h fact fit =
    ((λ a. let t : IsTold old fact = (h fact fit).0 a in (t.0, (same t.0).0 t.1, t.2)), (λ t. (h fact fit).1 (t.0, (same t.0).1 t.1, t.2)))

has_end : (fact : Prospect) → IsFit fact → Has end_outlook fact ↔ Says fact []
has_end (Leaves h) fit = ((λ a. tt), (λ s. fit))
has_end Named fit = ((λ a. absurd (cc (a))), (λ s. absurd (names_nothing s)))
has_end (Loaded which) fit = ((λ a. absurd (omega (arith, a, bit_at-zero (which - 65)))), (λ c. absurd (nothing_in (Load which) c)))

pub shows_end : (within : Path → Type 0) → within [] → ((x : Path) → within x → x ≡ []) → Shows end_outlook within
shows_end within is only fact fit =
    ((λ a. ([], is, (has_end fact fit).0 a)), (λ t. let P : Path → Type 0 = λ x. Says fact x in (has_end fact fit).1 (subst P (only t.0 t.1) t.2)))

has_either_outlook : (a b : Outlook) (fact : Prospect) → Has (either_outlook a b) fact ↔ (Has a fact ⊎ Has b fact)
has_either_outlook a b (Leaves h) = (apart, together)
  where
    apart : min a.needs b.needs < h → (a.needs < h) ⊎ (b.needs < h)
    apart e = grind arith

    together : (a.needs < h) ⊎ (b.needs < h) → min a.needs b.needs < h
    together (inl e) = omega arith
    together (inr e) = omega arith
has_either_outlook a b Named = either_true a.names_first_two b.names_first_two
has_either_outlook a b (Loaded which) = has_either (record { mask = a.loads.mask }) (record { mask = b.loads.mask }) (place_of which)

pub shows_either : (a b : Outlook) (within also : Path → Type 0) → Shows a within → Shows b also → Shows (either_outlook a b) (λ x. within x ⊎ also x)
shows_either a b within also h g fact fit = (there, back)
  where
    there : Has (either_outlook a b) fact → IsTold (λ x. within x ⊎ also x) fact
    there e = elim ((has_either_outlook a b fact).0 e) [
      | inl p ↦ let t : IsTold within fact = (h fact fit).0 p in (t.0, inl t.1, t.2)
      | inr p ↦ let t : IsTold also fact = (g fact fit).0 p in (t.0, inr t.1, t.2)
    ]

    back : IsTold (λ x. within x ⊎ also x) fact → Has (either_outlook a b) fact
    back (x, inl w, e) = (has_either_outlook a b fact).1 (inl ((h fact fit).1 (x, w, e)))
    back (x, inr w, e) = (has_either_outlook a b fact).1 (inr ((g fact fit).1 (x, w, e)))

-- ---- a token before all paths

has_loaded : (k : Token) (set : Variables) (which : ℕ) → IsLettered k → 65 ≤ which
    → (bit_at (loaded k set).mask (place_of which) ≡ 1) ↔ ((bit_at set.mask (place_of which) ≡ 1) ⊎ (k ≡ Load which))
has_loaded (Load one) set which fit low = (there, back)
  where
    parts : (bit_at (stored_also one set).mask (place_of which) ≡ 1) ↔ ((bit_at set.mask (place_of which) ≡ 1) ⊎ (bit_at (2 ^ place_of one) (place_of which) ≡ 1))
    parts = has_either (record { mask = set.mask }) (record { mask = 2 ^ place_of one }) (place_of which)

    near : (a b : ℕ) → (a ≡ b) ⊎ (a ≢ b)
    near a b = grind arith

    is : bit_at (2 ^ place_of one) (place_of which) ≡ 1 → Load one ≡ Load which
    is e = elim (near (place_of which) (place_of one)) [
      | inl same ↦ let one_is : one ≡ which = omega (arith, fit.0) in ap (λ x. Load x) one_is
      | inr away ↦ absurd (omega (arith, e, bit_at-pow_other (place_of one) (place_of which) away))
    ]

    there : bit_at (stored_also one set).mask (place_of which) ≡ 1 → (bit_at set.mask (place_of which) ≡ 1) ⊎ (Load one ≡ Load which)
    there e = elim (parts.0 e) [ inl a ↦ inl a | inr a ↦ inr (is a) ]

    same : Load one ≡ Load which → one ≡ which
    same e = cc

    back : (bit_at set.mask (place_of which) ≡ 1) ⊎ (Load one ≡ Load which) → bit_at (stored_also one set).mask (place_of which) ≡ 1
    back (inl a) = parts.1 (inl a)
    back (inr e) = parts.1 (inr (ap (λ x. bit_at (2 ^ place_of one) (place_of x)) (sym (same e)) ∙ bit_at-pow_same (place_of one)))
has_loaded k set which fit low = ((λ e. inl e), other)
  where
    other : (bit_at set.mask (place_of which) ≡ 1) ⊎ (k ≡ Load which) → bit_at set.mask (place_of which) ≡ 1
    other (inl e) = e
    other (inr e) = absurd (cc)

has_needed : (k : Token) (n h : ℕ) → (needed k n < h) ↔ ((pops k < h) × (n < next_height h k))
has_needed k n h = by (pops k) (pushes k)
  where
    by : (p q : ℕ) → (max p (n + p - q) < h) ↔ ((p < h) × (n < h - p + q))
    by p q = ((λ e. (omega arith, omega arith)), (λ e. omega (arith, e.0, e.1)))

-- what is true of the paths or of the token before them
by_token : (k : Token) (within : Path → Type 0) (some : (x : Path) × within x) (new old here : Type 0) (says : Path → Type 0)
    → new ↔ (old ⊎ here) → ((x : Path) → says (k ∷ x) ↔ (says x ⊎ here)) → old ↔ ((x : Path) × within x × says x)
    → new ↔ ((y : Path) × Marked true k within y × says y)
by_token k within some new old here says parts longer h = (there, back)
  where
    there : new → (y : Path) × Marked true k within y × says y
    there a = elim (parts.0 a) [
      | inl o ↦ let t = h.0 o in (k ∷ t.0, (t.0, t.1, refl), (longer t.0).1 (inl t.2))
      | inr i ↦ (k ∷ some.0, (some.0, some.1, refl), (longer some.0).1 (inr i))
    ]

    back : (y : Path) × Marked true k within y × says y → new
    back (y, (x, w, e), s) = parts.1 (elim ((longer x).0 (subst says e s)) [ inl o ↦ inl (h.1 (x, w, o)) | inr i ↦ inr i ])

shows_before : (k : Token) (o : Outlook) (within : Path → Type 0) → IsLettered k → (x : Path) × within x → Shows o within → Shows (outlook_before k o) (Marked true k within)
shows_before k o within lettered some h = each
  where
    each : Shows (outlook_before k o) (Marked true k within)
    each (Leaves n) fit = (there, back)
      where
        deep : pops k < n → 0 < next_height n k
        deep low = omega arith

        there : needed k o.needs < n → IsTold (Marked true k within) (Leaves n)
        there a =
            let p = (has_needed k o.needs n).0 a in
            let t : IsTold within (Leaves (next_height n k)) = (h (Leaves (next_height n k)) (deep p.0)).0 p.1 in
            (k ∷ t.0, (t.0, t.1, refl), (p.0, t.2))

        back : IsTold (Marked true k within) (Leaves n) → needed k o.needs < n
        back (y, (x, w, e), s) =
            let P : Path → Type 0 = λ z. Keeps n z in
            let p : (pops k < n) × Keeps (next_height n k) x = subst P e s in
            (has_needed k o.needs n).1 (p.0, (h (Leaves (next_height n k)) (deep p.0)).1 (x, w, p.1))
    each Named fit =
        by_token k within some _ _ (IsFirstTwo k) NamesFirstTwo (has_first_two k o.names_first_two)
        (λ x. names_longer k x (k ∷ x) (contains-cons k x)) (h Named fit)
    each (Loaded which) fit =
        by_token k within some _ _ (k ≡ Load which) (λ x. Contains x (Load which)) (has_loaded k o.loads which lettered fit.0)
        (λ x. contains-cons k x (Load which)) (h (Loaded which) fit)

-- with a token before all paths, if it is met
pub shows_marked : (met : Bool) (k : Token) (o : Outlook) (within : Path → Type 0) → IsLettered k → (x : Path) × within x → Shows o within
    → Shows (cond met (outlook_before k o) o) (Marked met k within)
shows_marked true k o within lettered some h = shows_before k o within lettered some h
shows_marked false k o within lettered some h = shows_same o within (Marked false k within) (λ x. ((λ w. (x, w, refl)), back x)) h
  where
    back : (x : Path) → Marked false k within x → within x
    back x (y, w, e) = subst within (sym e) w

-- ---- a path needs no more than two values a token

pops_few : (k : Token) → pops k ≤ 2
pops_few (Compute op) = by op
  where
    by : (op : Op) → pops (Compute op) ≤ 2
    by Not = omega arith
    by BitNot = omega arith
    by _ = omega arith
pops_few _ = omega arith

keeps_long : (rest : List Token) (w : Walk) (h : ℕ) → 2 * length rest < h → Keeps h (path_of w rest)
keeps_long rest [] h long = tt
keeps_long [] (m ∷ w) h long = tt
keeps_long (k ∷ rest) (true ∷ w) h long = (omega (arith, pops_few k), keeps_long rest w (next_height h k) (omega (arith, pops_few k)))
keeps_long (k ∷ rest) (false ∷ w) h long = keeps_long rest w h (omega arith)

pub needs_few : (rest : List Token) (w : Walk) (o : Outlook) (within : Path → Type 0) → Shows o within → within (path_of w rest) → o.needs ≤ 2 * length rest
needs_few rest w o within h is =
    let low : o.needs < suc (2 * length rest) = (h (Leaves (suc (2 * length rest))) (omega arith)).1 (path_of w rest, is, keeps_long rest w (suc (2 * length rest)) (omega arith)) in
    omega arith
