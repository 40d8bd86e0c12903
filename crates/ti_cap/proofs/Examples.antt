-- Worked examples of the definitions.
use Rattle.std.proofs.Common.{◌≡◌, ℕ, List, [], ◌∷◌, length, refl, inl, inr, true, false}
use Rattle.std.specs.Prelude.{Some, None, codes}
use Rattle.ti_cap.specs.declared.language.Token.TheVariants.{Byte, Param, Print, CondOpen, CondThen, CondElse, CondClose}
use Rattle.ti_cap.specs.declared.language.Format.{Format}
use Rattle.ti_cap.specs.declared.language.Conversion.TheVariants.{Signed}
use Rattle.ti_cap.specs.Tree.{Sequence, Empty, Simple, Conditional, Else, tokens, IsTree}
use Rattle.ti_cap.specs.Path.{Walk, IsWalk, path_of}
use Rattle.ti_cap.specs.Sizes.{format_size}
use Rattle.ti_cap.specs.Height.{height, size}

abbrev bytes : List ℕ → Sequence
bytes [] = Empty
bytes (b ∷ bs) = Simple (Byte b) (bytes bs)

-- %?%p1%tabc%ed%;
abbrev either : Sequence
either = Conditional (Else (Simple (Param 1) Empty) (bytes (codes "abc")) (bytes (codes "d"))) true Empty

either_tree : IsTree either
either_tree = (((tt, tt), (tt, (tt, (tt, tt))), (tt, tt)), tt)

either_tokens : length (tokens either) ≡ 9
either_tokens = refl

-- with 1: 8 ran, with 0: 6
abbrev walk1 : Walk
walk1 = true ∷ true ∷ true ∷ true ∷ true ∷ true ∷ true ∷ false ∷ true ∷ []

abbrev walk0 : Walk
walk0 = true ∷ true ∷ true ∷ false ∷ false ∷ false ∷ true ∷ true ∷ true ∷ []

either_walk1 : IsWalk either walk1
either_walk1 = (
  true ∷ true ∷ true ∷ true ∷ true ∷ true ∷ false ∷ [],
  [],
  (true ∷ [], true ∷ true ∷ true ∷ [], false ∷ [], ([], refl, refl), inl ((_, (_, ([], refl, refl), refl), refl), refl), refl),
  refl,
  refl,
)

either_walk0 : IsWalk either walk0
either_walk0 = (
  true ∷ true ∷ false ∷ false ∷ false ∷ true ∷ true ∷ [],
  [],
  (true ∷ [], false ∷ false ∷ false ∷ [], true ∷ [], ([], refl, refl), inr (refl, ([], refl, refl)), refl),
  refl,
  refl,
)

either_ran1 : length (path_of walk1 (tokens either)) ≡ 8
either_ran1 = refl

either_ran0 : length (path_of walk0 (tokens either)) ≡ 6
either_ran0 = refl

either_size1 : size (path_of walk1 (tokens either)) 0 ≡ 3
either_size1 = refl

either_size0 : size (path_of walk0 (tokens either)) 0 ≡ 1
either_size0 = refl

-- %?%p1%t%?%p2%tA%eB%;%eC, whose end closes the outer conditional
abbrev nested : Sequence
nested = Conditional (Else (Simple (Param 1) Empty)
    (Conditional (Else (Simple (Param 2) Empty) (bytes (codes "A")) (bytes (codes "B"))) true Empty) (bytes (codes "C"))) false Empty

nested_tree : IsTree nested
nested_tree = (refl, ((tt, tt), (((tt, tt), (tt, tt), (tt, tt)), tt), (tt, tt)), refl)

nested_tokens : length (tokens nested) ≡ 12
nested_tokens = refl

-- the format of `%d`
abbrev plain : Format
plain = record { conversion = Signed; left = false; plus = false; space = false; alternate = false; zero = false; width = 0; precision = None }

-- %d%p1%d: no height below 0
no_height_below : height (Print plain ∷ Param 1 ∷ Print plain ∷ []) ≡ 1
no_height_below = refl

-- %?%p1%t%p1%p2%e%p3%;%p4, with the body taken: depth 3
join_height : height (CondOpen ∷ Param 1 ∷ CondThen ∷ Param 1 ∷ Param 2 ∷ CondElse ∷ CondClose ∷ Param 4 ∷ []) ≡ 3
join_height = refl

-- %05.3d: width 5, zero, precision 3: bound 11
padded_size : format_size (record { conversion = Signed; left = false; plus = false; space = false; alternate = false; zero = true; width = 5; precision = Some 3 }) 0 ≡ 11
padded_size = refl
