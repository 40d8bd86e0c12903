-- Worked examples of the findings, by hand.
use Rattle.std.proofs.Common.{◌≡◌, ℕ, zero, suc, ◌≤◌, List, [], ◌∷◌, ◌++◌, length, length-append, refl, ap, subst, inl, inr, true, false, arith, Contains}
use Rattle.std.specs.Prelude.{codes, None, pos}
use Rattle.ti_cap.specs.declared.language.Token.{Token}
use Rattle.ti_cap.specs.declared.language.Token.TheVariants.{Byte, Param, Constant, Load, Store, Increment, Compute, Print, CondOpen, CondThen, CondElse, CondClose}
use Rattle.ti_cap.specs.declared.language.Op.TheVariants.{Add}
use Rattle.ti_cap.specs.declared.language.Conversion.TheVariants.{Signed}
use Rattle.ti_cap.specs.declared.language.Format.{Format}
use Rattle.ti_cap.specs.Capability.{Spot}
use Rattle.ti_cap.specs.Tree.{Sequence, Empty, Simple, Conditional, Lone, Else, tokens}
use Rattle.ti_cap.specs.Path.{Walk, IsWalk, path_of}
use Rattle.ti_cap.specs.Spelling.{Written}
use Rattle.ti_cap.proofs.WrittenLemmas.{one_cutting}
use Rattle.ti_lint.specs.declared.expected.Expected.{Expected}
use Rattle.ti_lint.specs.Variables.{HasVariable}
use Rattle.ti_lint.specs.OnSomePath.{Stands, OnSomePath}
use Rattle.ti_lint.specs.Conditionals.{IsConstantTest, IsRepeatedTest, HasNoEffect, closes_just}
use Rattle.ti_lint.specs.Findings.{Underflows, IsOutOfRange, IsRepeated, IsStoredElsewhere, IsUnset, HasKindAt, Keeps, LeavesValue, NamesFirstTwo, IsUnused, IsLate, IsDead}
use Rattle.ti_lint.proofs.FactsLemmas.{nothing_in, names_nothing}

abbrev two : Expected
two = record { parameters = 2; texts = record { first = false; second = true; third = false }; stored = record { mask = 8 } }

-- `%+` alone pops two values, of which there are none
sum : Underflows (record { taken = []; left = codes "%+" }) (Compute Add)
sum = record {
  stands = record {
    tree = Simple (Compute Add) Empty;
    writes = record { formed = (tt, tt); written = (codes "%+", [], inr (codes "+", refl, refl), refl, refl) };
    before = [];
    after = [];
    spans = refl;
    written = refl;
  };
  walk = true ∷ [];
  walked = ([], refl, refl);
  met = refl;
  ahead = [];
  follows = refl;
  so = omega arith;
}

-- of `%i%i` the second one is repeated
twice : IsRepeated (record { taken = codes "%i"; left = codes "%i" }) Increment
twice = (
  refl,
  record {
    stands = record {
      tree = Simple Increment (Simple Increment Empty);
      writes = record {
        formed = (tt, (tt, tt));
        written = (codes "%i", codes "%i", inr (codes "i", refl, refl), (codes "%i", [], inr (codes "i", refl, refl), refl, refl), refl);
      };
      before = Increment ∷ [];
      after = [];
      spans = refl;
      written = (codes "%i", [], inr (codes "i", refl, refl), refl, refl);
    };
    walk = true ∷ true ∷ [];
    walked = (true ∷ [], ([], refl, refl), refl);
    met = refl;
    ahead = [];
    follows = refl;
    so = (0, omega arith, refl);
  },
)

-- %?%p1%t%i%;%i: with a test that fails, no `%i` stands before the last one; with one that does not, one does
abbrev either : Sequence
either = Conditional (Lone (Simple (Param 1) Empty) (Simple Increment Empty)) true (Simple Increment Empty)

abbrev by_body : Walk
by_body = true ∷ true ∷ true ∷ true ∷ true ∷ true ∷ []

by_body_walk : IsWalk either by_body
by_body_walk = (true ∷ true ∷ true ∷ [], true ∷ [], (true ∷ [], true ∷ [], ([], refl, refl), inl ([], refl, refl), refl), ([], refl, refl), refl)

one_before : Contains (path_of by_body (CondOpen ∷ Param 1 ∷ CondThen ∷ Increment ∷ CondClose ∷ [])) Increment
one_before = (3, omega arith, refl)

-- the third of the parameters of a text that has two
third : IsOutOfRange two (Param 3)
third = (3, refl, omega arith)

second : ¬ IsOutOfRange two (Param 2)
second (which, e, above) = let same : 2 ≡ which = cc in omega arith

-- bit 3 is for D: `%gD` is set by another text, and `%ga` is not, whatever the mask
has_d : HasVariable (record { mask = 8 }) 68
has_d = (inl (omega arith, omega arith), refl)

kept : ¬ IsUnset two (record { taken = []; left = codes "%gD" }) (Load 68)
kept (which, e, elsewhere, o) = let same : 68 ≡ which = cc in elsewhere (kept_is which same)
  where
    kept_is : (which : ℕ) → 68 ≡ which → IsStoredElsewhere two which
    kept_is which same = let P : ℕ → Type 0 = λ x. IsStoredElsewhere two x in subst P same (omega arith, has_d)

dynamic : IsUnset two (record { taken = []; left = codes "%ga" }) (Load 97)
dynamic = (
  97,
  refl,
  (λ elsewhere. omega (arith, elsewhere.0)),
  record {
    stands = alone;
    walk = true ∷ [];
    walked = ([], refl, refl);
    met = refl;
    ahead = [];
    follows = refl;
    so = λ c. omega (arith, c.1);
  },
)
  where
    alone : Stands (codes "%ga") [] (Load 97)
    alone = record {
      tree = Simple (Load 97) Empty;
      writes = record { formed = (tt, tt); written = (codes "%ga", [], inr (codes "ga", (inr (omega arith, omega arith), refl), refl), refl, refl) };
      before = [];
      after = [];
      spans = refl;
      written = refl;
    }

-- ---- what comes after

abbrev decimal : Format
decimal = record { conversion = Signed; left = false; plus = false; space = false; alternate = false; zero = false; width = 0; precision = None }

-- of `%p1%p2%d` the print pops the second value and leaves the first
first_left : Keeps 1 (Param 2 ∷ Print decimal ∷ [])
first_left = (omega arith, (omega arith, tt))

second_popped : ¬ Keeps 1 (Print decimal ∷ [])
second_popped k = omega (arith, k.0)

-- a sum pops the value below the top as well
sum_pops_both : ¬ Keeps 1 (Param 2 ∷ Compute Add ∷ [])
sum_pops_both k = omega (arith, k.1.0)

left : LeavesValue (record { taken = []; left = codes "%p1" }) (Param 1)
left = (
  omega arith,
  record {
    stands = record {
      tree = Simple (Param 1) Empty;
      writes = record { formed = (tt, tt); written = (codes "%p1", [], inr (codes "p1", (omega arith, omega arith, refl), refl), refl, refl) };
      before = [];
      after = [];
      spans = refl;
      written = refl;
    };
    walk = true ∷ [];
    walked = ([], refl, refl);
    met = refl;
    ahead = [];
    follows = refl;
    so = tt;
  },
)

-- %p1%i%p2: the row is counted from 0, and the column from 1
late : IsLate (record { taken = codes "%p1"; left = codes "%i%p2" }) Increment
late = (
  refl,
  record {
    stands = record {
      tree = Simple (Param 1) (Simple Increment (Simple (Param 2) Empty));
      writes = record {
        formed = (tt, (tt, (tt, tt)));
        written = (
          codes "%p1",
          codes "%i%p2",
          inr (codes "p1", (omega arith, omega arith, refl), refl),
          (codes "%i", codes "%p2", inr (codes "i", refl, refl), (codes "%p2", [], inr (codes "p2", (omega arith, omega arith, refl), refl), refl, refl), refl),
          refl,
        );
      };
      before = Param 1 ∷ [];
      after = Param 2 ∷ [];
      spans = refl;
      written = (codes "%p1", [], inr (codes "p1", (omega arith, omega arith, refl), refl), refl, refl);
    };
    walk = true ∷ true ∷ true ∷ [];
    walked = (true ∷ true ∷ [], (true ∷ [], ([], refl, refl), refl), refl);
    met = refl;
    ahead = Param 2 ∷ [];
    follows = refl;
    so = (inl (0, omega arith, refl), inr (0, omega arith, refl));
  },
)

-- the third parameter is none of the two
third_other : ¬ NamesFirstTwo (Param 3 ∷ [])
third_other (inl (zero, low, e)) = absurd (cc)
third_other (inl (suc i, low, e)) = absurd (omega arith)
third_other (inr (zero, low, e)) = absurd (cc)
third_other (inr (suc i, low, e)) = absurd (omega arith)

-- a variable from A to Z is kept at the end
kept_store : (spot : Spot) → ¬ IsDead spot (Store 65)
kept_store spot (which, e, small, n) = let same : 65 ≡ which = cc in omega arith

-- ---- on no path: a token that stands alone has nothing after it

path_short : (w : Walk) (ks : List Token) → length (path_of w ks) ≤ length ks
path_short [] ks = omega arith
path_short (m ∷ w) [] = omega arith
path_short (true ∷ w) (k ∷ ks) = omega (arith, path_short w ks)
path_short (false ∷ w) (k ∷ ks) = omega (arith, path_short w ks)

nothing_after : (k : Token) (bytes : List ℕ) (is_so : List Token → List Token → Type 0) → Written (k ∷ []) bytes → (o : OnSomePath bytes [] k is_so) → o.ahead ≡ []
nothing_after k bytes is_so written o =
    let s = o.stands in
    let one : tokens s.tree ≡ k ∷ [] = one_cutting (tokens s.tree) (k ∷ []) bytes s.writes.written written in
    empty o.ahead (omega (
      arith,
      ap length o.follows,
      ap length o.met,
      length-append (path_of o.walk (s.before ++ k ∷ [])) o.ahead,
      length-append (path_of o.walk s.before) (k ∷ []),
      path_short o.walk (tokens s.tree),
      ap length one,
    ))
  where
    empty : (path : List Token) → length path ≤ 0 → path ≡ []
    empty [] low = refl
    empty (x ∷ path) low = absurd (omega arith)

of_no_use : IsUnused (record { taken = []; left = codes "%i" }) Increment
of_no_use = (
  refl,
  (λ o. let P : List Token → Type 0 = λ x. NamesFirstTwo x in
      names_nothing (subst P (nothing_after Increment (codes "%i") _ (codes "%i", [], inr (codes "i", refl, refl), refl, refl) o) o.so)),
)

never_read : IsDead (record { taken = []; left = codes "%Pa" }) (Store 97)
never_read = (
  97,
  refl,
  omega arith,
  (λ o. let P : List Token → Type 0 = λ x. Contains x (Load 97) in
      nothing_in (Load 97) (subst P (nothing_after (Store 97) (codes "%Pa") _ (codes "%Pa", [], inr (codes "Pa", (inr (omega arith, omega arith), refl), refl), refl, refl) o) o.so)),
)

-- after `%p1%p2` a text is on top, and a number below it
text_on_top : HasKindAt two.texts true 0 (Param 1 ∷ Param 2 ∷ [])
text_on_top = (omega arith, refl)

number_below : HasKindAt two.texts false 1 (Param 1 ∷ Param 2 ∷ [])
number_below = (omega arith, refl)

-- the sum of both is a number
sum_is_number : HasKindAt two.texts false 0 (Param 1 ∷ Param 2 ∷ Compute Add ∷ [])
sum_is_number = (omega arith, refl)

-- the test of `%?%{1}%t` is a constant
constant : IsConstantTest (CondOpen ∷ Constant (pos 1) ∷ [])
constant = record { head = []; first = CondOpen; test = Constant (pos 1) ∷ []; spare = 0; spans = refl; starts = refl; constant = refl; leaves = refl }

-- in `%?%p1%tA%e%p1%t` the second arm has the test of the first
again : IsRepeatedTest (CondOpen ∷ Param 1 ∷ CondThen ∷ Byte 65 ∷ []) (Param 1 ∷ CondThen ∷ [])
again = record {
  test = Param 1 ∷ [];
  rest = [];
  spare = 0;
  next = refl;
  leaves = refl;
  earlier = record {
    earlier = CondOpen ∷ Param 1 ∷ [];
    between = Byte 65 ∷ [];
    ends = record { head = []; first = CondOpen; spans = refl; starts = refl };
    spans = refl;
    same = refl;
  };
}

-- after `%;` and another `%?` it is no arm of the same conditional
closed_before : closes_just 0 (Byte 65 ∷ CondClose ∷ CondOpen ∷ Param 2 ∷ CondThen ∷ []) ≡ false
closed_before = refl

-- `%?%p1%t%e%;` changes nothing
idle : HasNoEffect (Param 1 ∷ CondThen ∷ CondElse ∷ CondClose ∷ [])
idle = record {
  arms = Else (Simple (Param 1) Empty) Empty Empty;
  closed = true;
  rest = [];
  idle = (refl, refl, refl);
  spans = refl;
  ends = λ e. absurd (cc);
}
