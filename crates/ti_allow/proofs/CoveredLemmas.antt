-- What the table allows of a function with numbers that are not known, it allows of each function that this one stands for.
use Rattle.std.proofs.Common.{◌≡◌, ℕ, Bool, true, false, List, [], ◌∷◌, ◌&&◌, not, ◌⊎◌, inl, inr, refl, sym, ap, subst, ◌∙◌}
use Rattle.std.specs.Prelude.{◌||◌}
use Rattle.std.specs.List.{list_all, list_any, AllByRecursion}
use Rattle.ti_allow.specs.Harmless.{AreAllowed, IsClean, IsHarmless, OnlyTable}
use Rattle.ti_allow.specs.Rows.{admits, admits_mode, are_listed, are_modes, has_mode, has_numbers, has_value, is_allowed, is_empty, asks_so, has_head, is_free, is_kind, is_number_in, is_of, stands}
use Rattle.ti_allow.specs.declared.row.Head.{Head}
use Rattle.ti_allow.specs.declared.row.Head.TheVariants.{Any as AnyHead, Begins, Exactly}
use Rattle.ti_allow.specs.declared.row.Numbers.{Numbers}
use Rattle.ti_allow.specs.declared.row.Numbers.TheVariants.{Without, Listed, Some as SomeOf, Mode}
use Rattle.ti_allow.specs.declared.row.Row.{Row}
use Rattle.ti_allow.specs.declared.row.Span.{Span}
use Rattle.ti_allow.specs.declared.row.Values.{Values}
use Rattle.ti_allow.specs.declared.row.Values.TheVariants.{Free, In, Never}
use Rattle.ti_parser.specs.Covers.{AreSent, CoverNumbers, CoversConfiguration, CoversFunction, CoversNumber, IsCovered, IsSent}
use Rattle.ti_expand.proofs.StackHeightLemmas.{taken_path_is_meaning}
use Rattle.ti_expand.proofs.TakenIsPathLemmas.{taken_is_path}
use Rattle.ti_expand.specs.Meaning.{taken_path}
use Rattle.ti_expand.specs.State.{State, start}
use Rattle.ti_parser.specs.Paths.{IsCover, IsOutputCovered}
use Rattle.ti_parser.specs.declared.configuration.Configuration.{Configuration}
use Rattle.ti_parser.specs.declared.function.Function.{Function}
use Rattle.ti_parser.specs.declared.number.FunctionNumber.{FunctionNumber}
use Rattle.ti_parser.specs.declared.number.FunctionNumber.TheVariants.{Absent, Known, Large, Any}
use Rattle.ti_parser.specs.declared.reading.Reception.{Reception}

-- ---- tests that hold more often

no : {X : Type 0} → false ≡ true → X
no h = absurd (cc)

both : (a b : Bool) → a ≡ true → b ≡ true → (a && b) ≡ true
both true b h k = k
both false b h k = no h

and_more : (a b c d : Bool) → (a ≡ true → b ≡ true) → (c ≡ true → d ≡ true) → (a && c) ≡ true → (b && d) ≡ true
and_more true b c d f g h = both b d (f refl) (g h)
and_more false b c d f g h = no h

last_more : (a b c d : Bool) → (c ≡ true → d ≡ true) → (a && b && c) ≡ true → (a && b && d) ≡ true
last_more true true c d f h = f h
last_more true false c d f h = h
last_more false b c d f h = h

first_of : (a b : Bool) → a ≡ true → (a || b) ≡ true
first_of true b h = refl
first_of false b h = no h

second_of : (a b : Bool) → b ≡ true → (a || b) ≡ true
second_of true b h = refl
second_of false b h = h

or_more : (a b c d : Bool) → (a ≡ true → b ≡ true) → (c ≡ true → d ≡ true) → (a || c) ≡ true → (b || d) ≡ true
or_more true b c d f g h = first_of b d (f refl)
or_more false b c d f g h = second_of b d (g h)

any_more : {X : Type 0} (p q : X → Bool) → ((x : X) → p x ≡ true → q x ≡ true) → (xs : List X) → list_any p xs ≡ true
    → list_any q xs ≡ true
any_more p q f [] h = h
any_more p q f (x ∷ xs) h = or_more (p x) (q x) (list_any p xs) (list_any q xs) (f x) (any_more p q f xs) h

-- ---- numbers

covered_in : (span : Span) (known number : FunctionNumber) → CoversNumber known number
    → is_number_in span known ≡ true → is_number_in span number ≡ true
covered_in span Absent number covers h =
    let P : FunctionNumber → Type 0 = λ n. is_number_in span n ≡ true in subst P covers h
covered_in span (Known value) number covers h =
    let P : FunctionNumber → Type 0 = λ n. is_number_in span n ≡ true in subst P covers h
covered_in span Large number covers h = no h
covered_in span Any number covers h = no h

covered_value : (values : Values) (known number : FunctionNumber) → CoversNumber known number
    → has_value values known ≡ true → has_value values number ≡ true
covered_value Free known number covers h = refl
covered_value Never known number covers h = no h
covered_value (In span) known number covers h = covered_in span known number covers h

covered_all : (values : Values) (known numbers : List FunctionNumber) → CoverNumbers known numbers
    → list_all (has_value values) known ≡ true → list_all (has_value values) numbers ≡ true
covered_all values [] [] covers h = refl
covered_all values [] (n ∷ ns) covers h = absurd covers
covered_all values (k ∷ ks) [] covers h = absurd covers
covered_all values (k ∷ ks) (n ∷ ns) covers h =
    and_more (has_value values k) (has_value values n) (list_all (has_value values) ks) (list_all (has_value values) ns)
    (covered_value values k n covers.0) (covered_all values ks ns covers.1) h

covered_some : (span : Span) (known numbers : List FunctionNumber) → CoverNumbers known numbers
    → list_any (is_number_in span) known ≡ true → list_any (is_number_in span) numbers ≡ true
covered_some span [] [] covers h = h
covered_some span [] (n ∷ ns) covers h = absurd covers
covered_some span (k ∷ ks) [] covers h = absurd covers
covered_some span (k ∷ ks) (n ∷ ns) covers h =
    or_more (is_number_in span k) (is_number_in span n) (list_any (is_number_in span) ks) (list_any (is_number_in span) ns)
    (covered_in span k n covers.0) (covered_some span ks ns covers.1) h

covered_empty : (known numbers : List FunctionNumber) → CoverNumbers known numbers → is_empty known ≡ true → is_empty numbers ≡ true
covered_empty [] [] covers h = refl
covered_empty [] (n ∷ ns) covers h = absurd covers
covered_empty (k ∷ ks) numbers covers h = no h

covered_listed : (first others : Values) (known numbers : List FunctionNumber) → CoverNumbers known numbers
    → are_listed first others known ≡ true → are_listed first others numbers ≡ true
covered_listed first others [] [] covers h = h
covered_listed first others [] (n ∷ ns) covers h = absurd covers
covered_listed first others (k ∷ ks) [] covers h = absurd covers
covered_listed first others (k ∷ ks) (n ∷ ns) covers h =
    and_more (has_value first k) (has_value first n) (list_all (has_value others) ks) (list_all (has_value others) ns)
    (covered_value first k n covers.0) (covered_all others ks ns covers.1) h

-- the function with these numbers in place of its own
abbrev pub with_numbers : List FunctionNumber → Function → Function
with_numbers known function = record function { numbers = known }

covered_numbers : (numbers : Numbers) (f : Function) (known : List FunctionNumber) → CoverNumbers known f.numbers
    → has_numbers numbers (with_numbers known f) ≡ true → has_numbers numbers f ≡ true
covered_numbers Without f known covers h = covered_empty known f.numbers covers h
covered_numbers (Listed first others) f known covers h =
    let room = is_free others || not f.is_overfull in
    and_more (are_listed first others known) (are_listed first others f.numbers) room room
    (covered_listed first others known f.numbers covers) (λ k. k) h
covered_numbers (SomeOf span) f known covers h = covered_some span known f.numbers covers h
covered_numbers (Mode span) f known covers h = no h

-- ---- rows

-- a head says nothing of numbers
same_head : (head : Head) (f : Function) (known : List FunctionNumber) → has_head head (with_numbers known f) ≡ has_head head f
same_head AnyHead f known = refl
same_head (Begins byte) f known = refl
same_head (Exactly marker intermediates letter) f known = refl

same_row : (row : Row) (f : Function) (known : List FunctionNumber) → is_of row (with_numbers known f) ≡ is_of row f
same_row row f known =
    ap (λ head. is_kind row.kind f.kind && head && asks_so row.asking f.asks) (same_head row.head f known)

covered_admits : (name : List ℕ) (f : Function) (known : List FunctionNumber) → CoverNumbers known f.numbers
    → (row : Row) → admits name (with_numbers known f) row ≡ true → admits name f row ≡ true
covered_admits name f known covers row h =
    let before = has_numbers row.numbers (with_numbers known f) in
    let P : Bool → Type 0 = λ own. (own && stands row.standing name && before) ≡ true in
    last_more (is_of row f) (stands row.standing name) before (has_numbers row.numbers f) (covered_numbers row.numbers f known covers)
    (subst P (same_row row f known) h)

covered_mode : (numbers : Numbers) (k n : FunctionNumber) → CoversNumber k n → has_mode numbers k ≡ true → has_mode numbers n ≡ true
covered_mode Without k n covers h = no h
covered_mode (Listed first others) k n covers h = no h
covered_mode (SomeOf span) k n covers h = no h
covered_mode (Mode span) k n covers h = covered_in span k n covers h

covered_admits_mode : (name : List ℕ) (f : Function) (known : List FunctionNumber) (k n : FunctionNumber) → CoversNumber k n
    → (row : Row) → admits_mode name (with_numbers known f) k row ≡ true → admits_mode name f n row ≡ true
covered_admits_mode name f known k n covers row h =
    let P : Bool → Type 0 = λ own. (own && stands row.standing name && has_mode row.numbers k) ≡ true in
    last_more (is_of row f) (stands row.standing name) (has_mode row.numbers k) (has_mode row.numbers n) (covered_mode row.numbers k n covers)
    (subst P (same_row row f known) h)

-- some row allows the mode
abbrev pub is_mode : List Row → List ℕ → Function → FunctionNumber → Bool
is_mode rows name f mode = list_any (admits_mode name f mode) rows

covered_all_modes : (rows : List Row) (name : List ℕ) (f : Function) (known ks ns : List FunctionNumber) → CoverNumbers ks ns
    → list_all (is_mode rows name (with_numbers known f)) ks ≡ true → list_all (is_mode rows name f) ns ≡ true
covered_all_modes rows name f known [] [] covers h = refl
covered_all_modes rows name f known [] (n ∷ ns) covers h = absurd covers
covered_all_modes rows name f known (k ∷ ks) [] covers h = absurd covers
covered_all_modes rows name f known (k ∷ ks) (n ∷ ns) covers h =
    and_more (is_mode rows name (with_numbers known f) k) (is_mode rows name f n)
    (list_all (is_mode rows name (with_numbers known f)) ks) (list_all (is_mode rows name f) ns)
    (any_more (admits_mode name (with_numbers known f) k) (admits_mode name f n) (covered_admits_mode name f known k n covers.0) rows)
    (covered_all_modes rows name f known ks ns covers.1) h

covered_filled : (known numbers : List FunctionNumber) → CoverNumbers known numbers → not (is_empty known) ≡ true → not (is_empty numbers) ≡ true
covered_filled [] numbers covers h = no h
covered_filled (k ∷ ks) [] covers h = absurd covers
covered_filled (k ∷ ks) (n ∷ ns) covers h = refl

covered_modes : (rows : List Row) (name : List ℕ) (f : Function) (known : List FunctionNumber) → CoverNumbers known f.numbers
    → are_modes rows name (with_numbers known f) known ≡ true → are_modes rows name f f.numbers ≡ true
covered_modes rows name f known covers h =
    and_more (not (is_empty known)) (not (is_empty f.numbers)) (list_all (is_mode rows name (with_numbers known f)) known)
    (list_all (is_mode rows name f) f.numbers) (covered_filled known f.numbers covers)
    (covered_all_modes rows name f known known f.numbers covers) h

covered_allowed : (rows : List Row) (name : List ℕ) (f : Function) (known : List FunctionNumber) → CoverNumbers known f.numbers
    → is_allowed rows name (with_numbers known f) ≡ true → is_allowed rows name f ≡ true
unfolding is_allowed
covered_allowed rows name f known covers h =
    let room = not f.is_overfull in
    or_more (list_any (admits name (with_numbers known f)) rows) (list_any (admits name f) rows)
    (room && are_modes rows name (with_numbers known f) known) (room && are_modes rows name f f.numbers)
    (any_more (admits name (with_numbers known f)) (admits name f) (covered_admits name f known covers) rows)
    (and_more room room (are_modes rows name (with_numbers known f) known) (are_modes rows name f f.numbers) (λ k. k)
    (covered_modes rows name f known covers)) h

-- ---- what is sent, and where it ends

sent_allowed : (rows : List Row) (name : List ℕ) (sent : List Function) (f : Function) → AreAllowed rows name sent → IsSent sent f
    → is_allowed rows name f ≡ true
sent_allowed rows name [] f all h = absurd h
sent_allowed rows name (k ∷ sent) f all (inl covers) =
    let P : Function → Type 0 = λ g. is_allowed rows name g ≡ true in
    covered_allowed rows name f k.numbers covers.numbers (subst P covers.same all.0)
sent_allowed rows name (k ∷ sent) f all (inr h) = sent_allowed rows name sent f all.1 h

all_allowed : (rows : List Row) (name : List ℕ) (sent functions : List Function) → AreAllowed rows name sent → AreSent sent functions
    → AreAllowed rows name functions
all_allowed rows name sent [] all h = tt
all_allowed rows name sent (f ∷ functions) all h = (sent_allowed rows name sent f all h.0, all_allowed rows name sent functions all h.1)

covered_clean : (ends : List Configuration) (c : Configuration) → AllByRecursion IsClean ends → IsCovered ends c → IsClean c
covered_clean [] c all h = absurd h
covered_clean (k ∷ ends) c all (inl covers) = record {
  state = sym (ap (λ d. d.state) covers.same) ∙ all.0.state;
  begun = sym (ap (λ d. d.begun) covers.same) ∙ all.0.begun;
}
covered_clean (k ∷ ends) c all (inr h) = covered_clean ends c all.1 h

-- what covers all paths covers each expansion, and if that is allowed, the string keeps to the table
pub only_table : (rows : List Row) (name : List ℕ) (r : Reception) (bytes : List ℕ) (ends : List Configuration) (functions : List Function)
    → IsCover r bytes ends functions → AreAllowed rows name functions → AllByRecursion IsClean ends → OnlyTable rows name r bytes
unfolding OnlyTable
only_table rows name r bytes ends functions cover allowed clean tree writes variables parameters are_variables are_data =
    let s : State = start variables parameters in
    let P : State → Type 0 = λ x. IsOutputCovered r ends functions x in
    let c = subst P (taken_path_is_meaning tree s writes.formed)
    (cover tree (taken_path tree s) writes (taken_is_path tree s writes.formed) variables parameters are_variables are_data) in
    record { functions = all_allowed rows name functions _ allowed c.sends; end = covered_clean ends _ clean c.ends }
