-- What is true of the path of some walk so far, with one token more.
use Rattle.std.proofs.Common.{◌≡◌, ℕ, zero, suc, ◌⊎◌, inl, inr, ◌↔◌, List, [], ◌∷◌, ◌++◌, get_or, refl, sym, ◌∙◌, ap, subst, arith, Bool, true, false, cond, IsTrue, Contains, append_assoc}
use Rattle.std.specs.Prelude.{Option, Some, None}
use Rattle.std.proofs.lemmas.List.{append-nil}
use Rattle.std.proofs.lemmas.List.Elements.{Contains-append_left, Contains-append_right, Contains-append_cases}
use Rattle.ti_cap.specs.declared.language.Token.{Token}
use Rattle.ti_cap.specs.declared.language.Token.TheVariants.{Param, CondOpen, CondThen, CondElse, CondClose}
use Rattle.ti_cap.specs.Path.{Walk, path_of}
use Rattle.ti_cap.specs.declared.mode.Mode.{Mode}
use Rattle.ti_cap.specs.declared.mode.Mode.TheVariants.{Run}
use Rattle.ti_cap.specs.Pass.{next_mode, Passes}
use Rattle.ti_cap.specs.Sources.{next_sources, sources, sources_from, takes_text, Names, TakesAsText}
use Rattle.ti_cap.proofs.PassesLemmas.{Split, passes_split, passes-append}
use Rattle.ti_cap.proofs.ReachesLemmas.{is_met, path_of-snoc, state_of, Reaches}

abbrev pub Stack : Type 0
Stack = List (Option ℕ)

-- it is true of the path of some walk over the tokens
abbrev pub Seen : (List Token → Type 0) → List Token → Type 0
Seen holds before = (m : Mode) × (w : Walk) × Passes Run before w m × holds (path_of w before)

-- it becomes true with this token, if the stack is so
abbrev pub Becomes : (List Token → Type 0) → Token → (Stack → Type 0) → Type 0
Becomes holds k now = (path : List Token) → holds (path ++ k ∷ []) ↔ (holds path ⊎ now (state_of next_sources [] path))

-- some stack that runs here is so
abbrev pub Runs : List Token → (Stack → Type 0) → Type 0
Runs before now = (stack : Stack) × Reaches next_sources [] before Run stack × now stack

-- it does not become true if the token is passed over
abbrev pub IsMetOnly : Token → (Stack → Type 0) → Type 0
IsMetOnly k now = (source : Mode) (fails : Bool) → is_met source k fails ≡ true → (source ≡ Run) ⊎ ((stack : Stack) → ¬ now stack)

pub seen_step : (holds : List Token → Type 0) (before : List Token) (k : Token) (now : Stack → Type 0) → Becomes holds k now → IsMetOnly k now
    → Seen holds (before ++ k ∷ []) ↔ (Seen holds before ⊎ Runs before now)
seen_step holds before k now becomes only = (earlier, later)
  where
    earlier : Seen holds (before ++ k ∷ []) → Seen holds before ⊎ Runs before now
    earlier (m, w, p, h) =
        let s : Split before (k ∷ []) Run m w = passes_split before (k ∷ []) Run m w p in
        let f : Bool = s.second.0 in
        let back : s.back ≡ is_met s.between k f ∷ [] = s.second.2 ∙ ap (λ y. is_met s.between k f ∷ y) s.second.3.0 in
        let e : path_of w (before ++ k ∷ []) ≡ path_of s.front before ++ cond (is_met s.between k f) (k ∷ []) [] =
        ap (λ y. path_of y (before ++ k ∷ [])) (s.joined ∙ ap (λ y. s.front ++ y) back) ∙ path_of-snoc before Run s.between s.front k (is_met s.between k f) s.first in
        by s.between s.front f s.first (is_met s.between k f) refl (subst holds e h)
      where
        by : (source : Mode) (u : Walk) (f : Bool) → Passes Run before u source → (mark : Bool) → is_met source k f ≡ mark
            → holds (path_of u before ++ cond mark (k ∷ []) []) → Seen holds before ⊎ Runs before now
        by source u f q false e h = inl (source, u, q, subst holds (append-nil (path_of u before)) h)
        by source u f q true e h = elim ((becomes (path_of u before)).0 h) [
          | inl old ↦ inl (source, u, q, old)
          | inr new ↦ elim (only source f e) [
            | inl runs ↦
                let P : Mode → Type 0 = λ x. Passes Run before u x in
                inr (state_of next_sources [] (path_of u before), record { walk = u; passes = subst P runs q; value = refl }, new)
            | inr never ↦ absurd (never _ new)
          ]
        ]

    on : (m : Mode) (w : Walk) → Passes Run before w m → holds (path_of w before ++ cond (is_met m k false) (k ∷ []) []) → Seen holds (before ++ k ∷ [])
    on m w p h = (
      next_mode m k false,
      w ++ is_met m k false ∷ [],
      passes-append before (k ∷ []) Run m (next_mode m k false) w (is_met m k false ∷ []) p (false, [], refl, (refl, refl)),
      subst holds (sym (path_of-snoc before Run m w k (is_met m k false) p)) h,
    )

    later : Seen holds before ⊎ Runs before now → Seen holds (before ++ k ∷ [])
    later (inl (m, w, p, h)) = on m w p (kept (is_met m k false))
      where
        kept : (mark : Bool) → holds (path_of w before ++ cond mark (k ∷ []) [])
        kept true = (becomes (path_of w before)).1 (inl h)
        kept false = subst holds (sym (append-nil (path_of w before))) h
    later (inr (stack, r, h)) = on Run r.walk r.passes ((becomes (path_of r.walk before)).1 (inr (subst now (sym r.value) h)))

-- ---- names

names_only : (k : Token) (which : ℕ) (source : Mode) (f : Bool) → is_met source k f ≡ true → (source ≡ Run) ⊎ (¬ (k ≡ Param which))
names_only k which Run f e = inl refl
names_only CondOpen which m f e = inr (λ p. absurd (cc))
names_only CondThen which m f e = inr (λ p. absurd (cc))
names_only CondElse which m f e = inr (λ p. absurd (cc))
names_only CondClose which m f e = inr (λ p. absurd (cc))
names_only _ which m f e = absurd (cc)

one_is : (k l : Token) → Contains (k ∷ []) l ↔ (k ≡ l)
one_is k l = (first, (λ e. (0, omega arith, e)))
  where
    first : Contains (k ∷ []) l → k ≡ l
    first (zero, low, e) = e
    first (suc i, low, e) = absurd (omega arith)

pub names_step : (before : List Token) (k : Token) (which : ℕ)
    → Seen (λ path. Names path which) (before ++ k ∷ []) ↔ (Seen (λ path. Names path which) before ⊎ Runs before (λ stack. k ≡ Param which))
names_step before k which = seen_step (λ path. Names path which) before k (λ stack. k ≡ Param which) becomes only
  where
    becomes : Becomes (λ path. Names path which) k (λ stack. k ≡ Param which)
    becomes path = (apart, together)
      where
        apart : Names (path ++ k ∷ []) which → Names path which ⊎ (k ≡ Param which)
        apart h = elim (Contains-append_cases path (k ∷ []) (Param which) h) [ inl old ↦ inl old | inr new ↦ inr ((one_is k (Param which)).0 new) ]

        together : Names path which ⊎ (k ≡ Param which) → Names (path ++ k ∷ []) which
        together (inl old) = Contains-append_left path (k ∷ []) (Param which) old
        together (inr e) = Contains-append_right path (k ∷ []) (Param which) ((one_is k (Param which)).1 e)

    only : IsMetOnly k (λ stack. k ≡ Param which)
    only source f e = elim (names_only k which source f e) [ inl r ↦ inl r | inr n ↦ inr (λ stack. n) ]

-- ---- texts

pub sources-is : (stack : Stack) (path : List Token) → sources_from stack path ≡ state_of next_sources stack path
sources-is stack [] = refl
sources-is stack (k ∷ path) = sources-is (next_sources stack k) path

-- the last token is this one, or it stands after it
last_or_later : (path before : List Token) (k token : Token) (after : List Token) → path ++ k ∷ [] ≡ before ++ token ∷ after
    → ((path ≡ before) × (k ≡ token)) ⊎ ((rest : List Token) × (path ≡ before ++ token ∷ rest))
last_or_later [] [] k token after e = inl (refl, cc)
last_or_later [] (b ∷ []) k token after e = absurd (cc)
last_or_later [] (b ∷ c ∷ before) k token after e = absurd (cc)
last_or_later (p ∷ path) [] k token after e = inr (path, cc)
last_or_later (p ∷ path) (b ∷ before) k token after e = elim (last_or_later path before k token after (cc)) [
  | inl s ↦ let same : p ≡ b = cc in inl (cc (s.0, same), s.1)
  | inr r ↦ let same : p ≡ b = cc in inr (r.0, cc (r.1, same))
]

texts_only : (k : Token) (source : Mode) (f : Bool) → is_met source k f ≡ true → (source ≡ Run) ⊎ (¬ IsTrue (takes_text k))
texts_only k Run f e = inl refl
texts_only CondOpen m f e = inr (λ t. absurd (cc))
texts_only CondThen m f e = inr (λ t. absurd (cc))
texts_only CondElse m f e = inr (λ t. absurd (cc))
texts_only CondClose m f e = inr (λ t. absurd (cc))
texts_only _ m f e = absurd (cc)

-- the token takes a text, and the value of the parameter is on top
abbrev pub TakesTop : Token → ℕ → Stack → Type 0
TakesTop k which stack = IsTrue (takes_text k) × (get_or stack 0 None ≡ Some which)

pub texts_step : (before : List Token) (k : Token) (which : ℕ)
    → Seen (λ path. TakesAsText path which) (before ++ k ∷ []) ↔ (Seen (λ path. TakesAsText path which) before ⊎ Runs before (TakesTop k which))
texts_step before k which = seen_step (λ path. TakesAsText path which) before k (TakesTop k which) becomes only
  where
    becomes : Becomes (λ path. TakesAsText path which) k (TakesTop k which)
    becomes path = (apart, together)
      where
        apart : TakesAsText (path ++ k ∷ []) which → TakesAsText path which ⊎ TakesTop k which (state_of next_sources [] path)
        apart (front, token, after, spans, text, top) = elim (last_or_later path front k token after spans) [
          | inl s ↦
              let T : Token → Type 0 = λ x. IsTrue (takes_text x) in
              inr (subst T (sym s.1) text, ap (λ x. get_or x 0 None) (sym (sources-is [] path) ∙ ap (λ x. sources x) s.0) ∙ top)
          | inr r ↦ inl (front, token, r.0, r.1, text, top)
        ]

        together : TakesAsText path which ⊎ TakesTop k which (state_of next_sources [] path) → TakesAsText (path ++ k ∷ []) which
        together (inl (front, token, after, spans, text, top)) =
            (front, token, after ++ k ∷ [], ap (λ x. x ++ k ∷ []) spans ∙ append_assoc front (token ∷ after) (k ∷ []), text, top)
        together (inr (text, top)) = (path, k, [], refl, text, ap (λ x. get_or x 0 None) (sources-is [] path) ∙ top)

    only : IsMetOnly k (TakesTop k which)
    only source f e = elim (texts_only k source f e) [ inl r ↦ inl r | inr n ↦ inr (λ stack t. n t.0) ]
