-- Worked examples: the parameters that paths name and take as texts.
use Rattle.std.proofs.Common.{◌≡◌, ℕ, [], ◌∷◌, refl, inl, inr, true, false, IsTrue, arith}
use Rattle.std.specs.Prelude.{Some, None}
use Rattle.ti_cap.specs.declared.language.Token.{Token}
use Rattle.ti_cap.specs.declared.language.Token.TheVariants.{Param, Length, Print, CondOpen, CondThen, CondElse, CondClose}
use Rattle.ti_cap.specs.declared.language.Conversion.{Conversion}
use Rattle.ti_cap.specs.declared.language.Conversion.TheVariants.{Signed, Text}
use Rattle.ti_cap.specs.Tree.{Sequence, Empty, Simple, Conditional, Else, tokens}
use Rattle.ti_cap.specs.Path.{Walk, IsWalk, path_of}
use Rattle.ti_cap.specs.Sources.{sources, takes_text, TakesAsText, Has}

abbrev prints : Conversion → Token
prints c = Print (record { conversion = c; left = false; plus = false; space = false; alternate = false; zero = false; width = 0; precision = None })

-- %p1%s takes 1 as a text
text : TakesAsText (Param 1 ∷ prints Text ∷ []) 1
text = (Param 1 ∷ [], prints Text, [], refl, refl, refl)

-- %p1%d takes none
number : (which : ℕ) → ¬ TakesAsText (Param 1 ∷ prints Signed ∷ []) which
number which ([], token, after, spans, text, top) = let e : Param 1 ≡ token = cc in let P : Token → Type 0 = λ x. IsTrue (takes_text x) in absurd (cc (text, e))
number which (b ∷ [], token, after, spans, text, top) = let e : prints Signed ≡ token = cc in absurd (cc (text, e))
number which (b ∷ c ∷ [], token, after, spans, text, top) = absurd (cc)
number which (b ∷ c ∷ d ∷ before, token, after, spans, text, top) = absurd (cc)

-- %p2%l%d%p2%s takes 2 by each of its `%l` and `%s`; the length that `%l` pushes comes from no parameter
length_taken : TakesAsText (Param 2 ∷ Length ∷ prints Signed ∷ Param 2 ∷ prints Text ∷ []) 2
length_taken = (Param 2 ∷ [], Length, prints Signed ∷ Param 2 ∷ prints Text ∷ [], refl, refl, refl)

length_has_no_source : sources (Param 2 ∷ Length ∷ []) ≡ None ∷ []
length_has_no_source = refl

-- %p1%p2%d%s takes 1, which lies below 2
below : TakesAsText (Param 1 ∷ Param 2 ∷ prints Signed ∷ prints Text ∷ []) 1
below = (Param 1 ∷ Param 2 ∷ prints Signed ∷ [], prints Text, [], refl, refl, refl)

-- a pop of the empty stack leaves it empty
empty : sources (prints Text ∷ Param 3 ∷ []) ≡ Some 3 ∷ []
empty = refl

-- %?%p1%t%p2%e%p3%;%s takes 2 on one path and 3 on the other
abbrev either : Sequence
either = Conditional (Else (Simple (Param 1) Empty) (Simple (Param 2) Empty) (Simple (Param 3) Empty)) true (Simple (prints Text) Empty)

abbrev second : Walk
second = true ∷ true ∷ true ∷ true ∷ true ∷ false ∷ true ∷ true ∷ []

abbrev third : Walk
third = true ∷ true ∷ true ∷ false ∷ true ∷ true ∷ true ∷ true ∷ []

second_walk : IsWalk either second
second_walk = (
  true ∷ true ∷ true ∷ true ∷ false ∷ [],
  true ∷ [],
  (true ∷ [], true ∷ [], false ∷ [], ([], refl, refl), inl (([], refl, refl), refl), refl),
  ([], refl, refl),
  refl,
)

third_walk : IsWalk either third
third_walk = (
  true ∷ true ∷ false ∷ true ∷ true ∷ [],
  true ∷ [],
  (true ∷ [], false ∷ [], true ∷ [], ([], refl, refl), inr (refl, ([], refl, refl)), refl),
  ([], refl, refl),
  refl,
)

takes_second : TakesAsText (path_of second (tokens either)) 2
takes_second = (CondOpen ∷ Param 1 ∷ CondThen ∷ Param 2 ∷ CondElse ∷ CondClose ∷ [], prints Text, [], refl, refl, refl)

takes_third : TakesAsText (path_of third (tokens either)) 3
takes_third = (CondOpen ∷ Param 1 ∷ CondThen ∷ CondElse ∷ Param 3 ∷ CondClose ∷ [], prints Text, [], refl, refl, refl)

-- parameter 9 is bit 8 of a mask
ninth : Has (record { mask = 256 }) 9
ninth = (omega arith, refl)
