-- What is told of a token by what comes after it is what holds on some path.
use Rattle.std.proofs.Common.{◌≡◌, ℕ, ◌<◌, ◌≤◌, ◌↔◌, List, [], ◌∷◌, ◌++◌, refl, subst, arith, Bool, true, false, not, ◌&&◌, nat_eq, nat_le, nat_lt, Contains}
use Rattle.std.specs.Prelude.{Some}
use Rattle.ti_cap.specs.declared.language.Token.{Token}
use Rattle.ti_cap.specs.declared.language.Token.TheVariants.{Param, Constant, Load, Store, Increment, Length, Compute}
use Rattle.ti_cap.specs.Tree.{IsSimple}
use Rattle.ti_cap.specs.declared.mode.Mode.TheVariants.{Run}
use Rattle.ti_cap.specs.Height.{pushes}
use Rattle.ti_cap.specs.Capability.{Spot, Takes, IsFirst, whole}
use Rattle.ti_base.specs.Limits.{most_open}
use Rattle.ti_lint.specs.declared.outlook.Outlook.{Outlook}
use Rattle.ti_lint.specs.declared.pass.Pass.{Pass}
use Rattle.ti_lint.specs.declared.expected.Expected.{Expected}
use Rattle.ti_lint.specs.declared.token_finding.TokenFinding.{TokenFinding}
use Rattle.ti_lint.specs.declared.token_finding.TokenFinding.TheVariants.{StackResidue, UnusedIncrement, LateIncrement, DeadStore}
use Rattle.ti_lint.specs.OnSomePath.{OnSomePath}
use Rattle.ti_lint.specs.Findings.{IsMetBefore, Keeps, LeavesValue, NamesFirstTwo, IsUnused, IsLate, IsDead, IsFoundAfter}
use Rattle.ti_lint.specs.inner.Facts.{has_bit, place_of}
use Rattle.ti_lint.specs.inner.Outlook.{of_increment, prospect, IsAhead}
use Rattle.ti_lint.specs.inner.Pass.{passed, IsTakeable, IsAt}
use Rattle.ti_lint.proofs.FactsLemmas.{Named as NamedBefore}
use Rattle.ti_lint.proofs.PassLemmas.{chain}
use Rattle.ti_lint.proofs.AtLemmas.{Stands, Next, stands_at, next_of, at_next}
use Rattle.ti_lint.proofs.AheadLemmas.{Popped, popped}
use Rattle.ti_lint.proofs.GoesOnLemmas.{GoesOn}
use Rattle.ti_lint.proofs.OutlookLemmas.{Leaves, Named, Loaded, Shows}
use Rattle.ti_lint.proofs.OnSomePathLemmas.{Before, Comes, some_after, some_through}
use Rattle.ti_lint.proofs.FoundLemmas.{bit_is, both_are, not_is, not_by, found_is}

-- a token before which the pass from the start stands, and after which that from the end stands
pub record Between (spot : Spot) (k : Token) (p : Pass) (o : Outlook) : Type 0 where
  pub before : Before spot k p
  pub after : Shows o (GoesOn before.rest Run)

-- ---- `%i`

unused_is : (x y : Bool) → (of_increment x y ≡ Some UnusedIncrement) ↔ (y ≡ false)
unused_is true true = ((λ e. absurd (cc)), (λ e. absurd (cc)))
unused_is false true = ((λ e. absurd (cc)), (λ e. absurd (cc)))
unused_is x false = ((λ e. refl), (λ e. refl))

late_is : (x y : Bool) → (of_increment x y ≡ Some LateIncrement) ↔ ((x ≡ true) × (y ≡ true))
late_is true true = ((λ e. (refl, refl)), (λ e. refl))
late_is false true = ((λ e. absurd (cc)), (λ e. absurd (cc (e.0))))
late_is x false = ((λ e. absurd (cc)), (λ e. absurd (cc (e.1))))

used_is : (spot : Spot) (p : Pass) (o : Outlook) (b : Between spot Increment p o) → (o.names_first_two ≡ true) ↔ IsMetBefore spot Increment NamesFirstTwo
used_is spot p o b = chain (b.after Named tt) (some_after spot p Increment NamesFirstTwo b.before tt)

increment_unused : (spot : Spot) (p : Pass) (o : Outlook) → Between spot Increment p o
    → (of_increment p.here.named_first_two o.names_first_two ≡ Some UnusedIncrement) ↔ IsUnused spot Increment
increment_unused spot p o b =
    chain (unused_is p.here.named_first_two o.names_first_two)
    (chain (not_by o.names_first_two (used_is spot p o b)) ((λ n. (refl, n)), (λ n. n.1)))

increment_late : (spot : Spot) (p : Pass) (o : Outlook) → Between spot Increment p o
    → (of_increment p.here.named_first_two o.names_first_two ≡ Some LateIncrement) ↔ IsLate spot Increment
increment_late spot p o b = chain (late_is p.here.named_first_two o.names_first_two) (there, back)
  where
    through : (Comes b.before.stands.before NamesFirstTwo × ((path : List Token) × GoesOn b.before.rest Run path × NamesFirstTwo path))
        ↔ OnSomePath (whole spot) spot.taken Increment (λ before after. NamesFirstTwo before × NamesFirstTwo after)
    through = some_through spot p Increment NamesFirstTwo NamesFirstTwo b.before tt

    there : (p.here.named_first_two ≡ true) × (o.names_first_two ≡ true) → IsLate spot Increment
    there e = (refl, through.0 ((b.before.stands.knows.running NamedBefore tt).0 e.0, (b.after Named tt).0 e.1))

    back : IsLate spot Increment → (p.here.named_first_two ≡ true) × (o.names_first_two ≡ true)
    back l = let t = through.1 l.1 in ((b.before.stands.knows.running NamedBefore tt).1 t.0, (b.after Named tt).1 t.1)

-- ---- a store

store_dead : (spot : Spot) (which : ℕ) (p : Pass) (o : Outlook) → Between spot (Store which) p o
    → (nat_le 97 which && not (has_bit o.loads.mask (place_of which)) ≡ true) ↔ IsDead spot (Store which)
store_dead spot which p o b = chain (both_are (nat_le 97 which) (not (has_bit o.loads.mask (place_of which)))) (there, back)
  where
    loaded : (has_bit o.loads.mask (place_of which) ≡ true) ↔ IsMetBefore spot (Store which) (λ after. Contains after (Load which))
    loaded = chain (bit_is o.loads.mask (place_of which)) (chain (b.after (Loaded which) b.before.lettered) (some_after spot p (Store which) (λ after. Contains after (Load which)) b.before tt))

    dead : (not (has_bit o.loads.mask (place_of which)) ≡ true) ↔ (¬ IsMetBefore spot (Store which) (λ after. Contains after (Load which)))
    dead = chain (not_is (has_bit o.loads.mask (place_of which))) (not_by (has_bit o.loads.mask (place_of which)) loaded)

    there : (nat_le 97 which ≡ true) × (not (has_bit o.loads.mask (place_of which)) ≡ true) → IsDead spot (Store which)
    there e = let low : nat_le 97 which ≡ true = e.0 in (which, refl, grind arith, dead.0 e.1)

    same : (other : ℕ) → Store which ≡ Store other → other ≡ which
    same other e = cc

    back : IsDead spot (Store which) → (nat_le 97 which ≡ true) × (not (has_bit o.loads.mask (place_of which)) ≡ true)
    back (other, is, low, n) =
        let P : ℕ → Type 0 = λ x. ¬ IsMetBefore spot (Store which) (λ after. Contains after (Load x)) in
        let e : other ≡ which = same other is in
        (grind arith, dead.1 (subst P e n))

-- ---- a value

push_simple : (k : Token) → 0 < pushes k → IsSimple k
push_simple (Param which) some = tt
push_simple (Constant n) some = tt
push_simple (Load which) some = tt
push_simple Length some = tt
push_simple (Compute op) some = tt
push_simple _ some = absurd (omega arith)

leaves_is : (spot : Spot) (k : Token) (p : Pass) (o : Outlook) → Between spot k p o → (nat_lt 0 (pushes k) && nat_eq o.needs 0 ≡ true) ↔ LeavesValue spot k
leaves_is spot k p o b = chain (both_are (nat_lt 0 (pushes k)) (nat_eq o.needs 0)) (there, back)
  where
    kept : 0 < pushes k → (o.needs < 1) ↔ IsMetBefore spot k (λ after. Keeps 1 after)
    kept some = chain (b.after (Leaves 1) (omega arith)) (some_after spot p k (λ after. Keeps 1 after) b.before (push_simple k some))

    there : (nat_lt 0 (pushes k) ≡ true) × (nat_eq o.needs 0 ≡ true) → LeavesValue spot k
    there e = let some : 0 < pushes k = grind (arith, e.0) in let none : o.needs < 1 = grind (arith, e.1) in (some, (kept some).0 none)

    back : LeavesValue spot k → (nat_lt 0 (pushes k) ≡ true) × (nat_eq o.needs 0 ≡ true)
    back (some, m) = let none : o.needs < 1 = (kept some).1 m in (grind arith, grind arith)

-- ---- what is told

-- a token is told of exactly if the finding holds
pub prospect_exact : (spot : Spot) (expected : Expected) (k : Token) (p : Pass) (o : Outlook) → Between spot k p o → (g : TokenFinding)
    → (prospect k p.here o ≡ Some g) ↔ IsFoundAfter (record { spot = spot; expected = expected }) k g
prospect_exact spot expected Increment p o b g = each g
  where
    never : (x y : Bool) (g : TokenFinding) → ((of_increment x y ≡ Some g) → ⊥) → (of_increment x y ≡ Some g) ↔ ⊥
    never x y g n = (n, (λ a. absurd a))

    each : (g : TokenFinding) → (of_increment p.here.named_first_two o.names_first_two ≡ Some g) ↔ IsFoundAfter (record { spot = spot; expected = expected }) Increment g
    each StackResidue = ((λ a. absurd (other p.here.named_first_two o.names_first_two a)), (λ a. absurd (omega (arith, a.0))))
      where
        other : (x y : Bool) → of_increment x y ≡ Some StackResidue → ⊥
        other true true e = cc
        other false true e = cc
        other x false e = cc
    each UnusedIncrement = increment_unused spot p o b
    each LateIncrement = increment_late spot p o b
    each DeadStore = ((λ a. absurd (other p.here.named_first_two o.names_first_two a)), (λ a. absurd (cc (a.1))))
      where
        other : (x y : Bool) → of_increment x y ≡ Some DeadStore → ⊥
        other true true e = cc
        other false true e = cc
        other x false e = cc
    each g = never p.here.named_first_two o.names_first_two g (other p.here.named_first_two o.names_first_two)
      where
        other : (x y : Bool) → of_increment x y ≡ Some g → ⊥
        other true true e = cc
        other false true e = cc
        other x false e = cc
prospect_exact spot expected (Store which) p o b g = chain (found_is (nat_le 97 which && not (has_bit o.loads.mask (place_of which))) DeadStore g) (each g)
  where
    d : (nat_le 97 which && not (has_bit o.loads.mask (place_of which)) ≡ true) ↔ IsDead spot (Store which)
    d = store_dead spot which p o b

    each : (g : TokenFinding) → ((nat_le 97 which && not (has_bit o.loads.mask (place_of which)) ≡ true) × (DeadStore ≡ g)) ↔ IsFoundAfter (record { spot = spot; expected = expected }) (Store which) g
    each StackResidue = ((λ a. absurd (cc (a.1))), (λ a. absurd (omega (arith, a.0))))
    each UnusedIncrement = ((λ a. absurd (cc (a.1))), (λ a. absurd (cc (a.0))))
    each LateIncrement = ((λ a. absurd (cc (a.1))), (λ a. absurd (cc (a.0))))
    each DeadStore = ((λ a. d.0 a.0), (λ a. (d.1 a, refl)))
    each _ = ((λ a. absurd (cc (a.1))), (λ a. absurd a))
prospect_exact spot expected k p o b g = chain (found_is (nat_lt 0 (pushes k) && nat_eq o.needs 0) StackResidue g) (each g)
  where
    l : (nat_lt 0 (pushes k) && nat_eq o.needs 0 ≡ true) ↔ LeavesValue spot k
    l = leaves_is spot k p o b

    each : (g : TokenFinding) → ((nat_lt 0 (pushes k) && nat_eq o.needs 0 ≡ true) × (StackResidue ≡ g)) ↔ IsFoundAfter (record { spot = spot; expected = expected }) k g
    each StackResidue = ((λ a. l.0 a.0), (λ a. (l.1 a, refl)))
    each UnusedIncrement = ((λ a. absurd (cc (a.1))), (λ a. absurd (cc (a.0))))
    each LateIncrement = ((λ a. absurd (cc (a.1))), (λ a. absurd (cc (a.0))))
    each DeadStore = ((λ a. absurd (cc (a.1))), (λ a. absurd (cc (a.1))))
    each _ = ((λ a. absurd (cc (a.1))), (λ a. absurd a))

-- ---- with the token

-- where both passes go with the token that stands next
pub record Taken (spot new : Spot) (k : Token) (p : Pass) (list : List Outlook) (o : Outlook) : Type 0 where
  pub between : Between spot k p o
  pub takeable : IsTakeable k p.nesting
  pub few : p.nesting ≤ most_open
  pub at : IsAt new (passed p k)
  pub ahead : IsAhead new list

pub taken : (spot new : Spot) (k : Token) (p : Pass) (old list : List Outlook) (o : Outlook) → IsAt spot p → IsAhead spot old → Takes k spot new → IsFirst k spot new
    → old ≡ list ++ o ∷ [] → Taken spot new k p list o
taken spot new k p old list o at ahead takes first e =
    let s : Stands spot p = stands_at spot p at in
    let n : Next spot new k p s = next_of spot new k p s takes first in
    let q : Popped new n.rest list o = popped spot new k old list o n.rest ahead first n.left e in
    record {
      between = record { before = record { stands = s; rest = n.rest; is = n.is; lettered = n.lettered }; after = q.shows };
      takeable = n.onto.takeable;
      few = n.onto.few;
      at = at_next spot new k p at takes first;
      ahead = record { rest = n.rest; left = q.left; list_is = q.list_is };
    }
