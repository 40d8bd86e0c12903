-- Sets of parsers and of functions.
use Rattle.std.proofs.Common.{◌≡◌, ℕ, zero, suc, ◌<◌, List, [], ◌∷◌, ◌++◌, ◌⊎◌, inl, inr, length, map, get_or, take, drop, set, sym, ◌∙◌, ap, subst, arith}
use Rattle.ti_parser.specs.Covers.{AreSent, CoversNumber, CoverNumbers, CoversConfiguration, CoversFunction, IsCovered, SendMore}
use Rattle.ti_parser.specs.inner.Receivers.{ComesAt, CoverMore, CoversMoment, IsAmong, Moment}
use Rattle.ti_parser.specs.declared.padding.Front.{Front}
use Rattle.ti_parser.specs.declared.padding.Marks.{Marks}
use Rattle.ti_parser.specs.declared.receiver.Receiver.{Receiver}
use Rattle.ti_parser.specs.declared.configuration.Configuration.{Configuration}
use Rattle.ti_parser.specs.declared.function.Function.{Function}
use Rattle.ti_parser.specs.Numbers.{forgotten}
use Rattle.ti_parser.specs.declared.number.FunctionNumber.{FunctionNumber}
use Rattle.ti_parser.specs.declared.number.FunctionNumber.TheVariants.{Absent, Known, Large, Any}

-- ---- parts that make a whole

pub same_function : (f g : Function) → f.kind ≡ g.kind → f.marker ≡ g.marker → f.intermediates ≡ g.intermediates → f.letter ≡ g.letter
    → f.asks ≡ g.asks → f.is_overfull ≡ g.is_overfull → f.numbers ≡ g.numbers → f ≡ g
same_function f g e1 e2 e3 e4 e5 e6 e7 = λ i. record {
  kind = e1 i;
  marker = e2 i;
  intermediates = e3 i;
  letter = e4 i;
  asks = e5 i;
  is_overfull = e6 i;
  numbers = e7 i;
}

pub same_configuration : (c d : Configuration) → c.state ≡ d.state → c.begun ≡ d.begun → c.number ≡ d.number → c.underway ≡ d.underway → c ≡ d
same_configuration c d e1 e2 e3 e4 = λ i. record { state = e1 i; begun = e2 i; number = e3 i; underway = e4 i }

-- a receiver that knows no more than another
pub stands : (k m : Receiver) → k.front ≡ m.front → ((marks : Marks) (front : Front) (rest : List ℕ) → ComesAt marks front m.ahead rest → ComesAt marks front k.ahead rest)
    → k.parser ≡ m.parser → CoverMore (m ∷ []) (k ∷ [])
stands k m e f g x (inl h) =
    let P : Front → Type 0 = λ front. ComesAt x.marks front k.ahead x.rest in
    let Q : Configuration → Type 0 = λ c. CoversConfiguration c x.parser in
    inl (record { front = e ∙ h.front; ahead = subst P (sym e) (f x.marks m.front x.rest h.ahead); parser = subst Q (sym g) h.parser })
stands k m e f g x (inr h) = absurd h

-- ---- more parsers

pub covered_left : (few many : List Configuration) (c : Configuration) → IsCovered few c → IsCovered (few ++ many) c
covered_left (x ∷ few) many c (inl h) = inl h
covered_left (x ∷ few) many c (inr h) = inr (covered_left few many c h)
covered_left [] many c h = absurd h

pub covered_right : (few many : List Configuration) (c : Configuration) → IsCovered many c → IsCovered (few ++ many) c
covered_right [] many c h = h
covered_right (x ∷ few) many c h = inr (covered_right few many c h)

-- ---- more receivers

pub cover_left : (few many : List Receiver) → CoverMore few (few ++ many)
cover_left (x ∷ few) many m (inl h) = inl h
cover_left (x ∷ few) many m (inr h) = inr (cover_left few many m h)
cover_left [] many m h = absurd h

pub cover_right : (few many : List Receiver) → CoverMore many (few ++ many)
cover_right [] many m h = h
cover_right (x ∷ few) many m h = inr (cover_right few many m h)

-- a receiver that is one of them
pub cover_at : (many : List Receiver) (k : ℕ) (x : Receiver) → k < length many → x ≡ get_or many k x → CoverMore (x ∷ []) many
cover_at [] k x low e m h = absurd (omega arith)
cover_at (y ∷ many) k x low e m (inr h) = absurd h
cover_at (y ∷ many) zero x low e m (inl h) = let P : Receiver → Type 0 = λ z. CoversMoment z m in inl (subst P e h)
cover_at (y ∷ many) (suc k) x low e m h = inr (cover_at many k x (omega arith) e m h)

-- one of them is another that covers as much
pub cover_set : (many : List Receiver) (k : ℕ) (x y : Receiver) → k < length many → x ≡ get_or many k x → ((m : Moment) → CoversMoment x m → CoversMoment y m)
    → CoverMore many (set many k y)
cover_set [] k x y low e f m h = absurd h
cover_set (z ∷ many) zero x y low e f m (inl h) = let P : Receiver → Type 0 = λ w. CoversMoment w m in inl (f m (subst P (sym e) h))
cover_set (z ∷ many) zero x y low e f m (inr h) = inr h
cover_set (z ∷ many) (suc k) x y low e f m (inl h) = inl h
cover_set (z ∷ many) (suc k) x y low e f m (inr h) = inr (cover_set many k x y (omega arith) e f m h)

-- what one receiver more covers
pub split_last : (few : List Receiver) (x : Receiver) (m : Moment) → IsAmong (few ++ x ∷ []) m → IsAmong few m ⊎ CoversMoment x m
split_last [] x m (inl h) = inr h
split_last [] x m (inr h) = absurd h
split_last (y ∷ few) x m (inl h) = inl (inl h)
split_last (y ∷ few) x m (inr h) = elim (split_last few x m h) [ inl g ↦ inl (inr g) | inr g ↦ inr g ]

-- ---- more functions

pub sent_left : (few many : List Function) → SendMore few (few ++ many)
sent_left (x ∷ few) many f (inl h) = inl h
sent_left (x ∷ few) many f (inr h) = inr (sent_left few many f h)
sent_left [] many f h = absurd h

pub sent_right : (few many : List Function) → SendMore many (few ++ many)
sent_right [] many f h = h
sent_right (x ∷ few) many f h = inr (sent_right few many f h)

pub sent_at : (many : List Function) (k : ℕ) (x : Function) → k < length many → x ≡ get_or many k x → SendMore (x ∷ []) many
sent_at [] k x low e f h = absurd (omega arith)
sent_at (y ∷ many) k x low e f (inr h) = absurd h
sent_at (y ∷ many) zero x low e f (inl h) = let P : Function → Type 0 = λ z. CoversFunction z f in inl (subst P e h)
sent_at (y ∷ many) (suc k) x low e f h = inr (sent_at many k x (omega arith) e f h)

pub sent_more : (few many fs : List Function) → SendMore few many → AreSent few fs → AreSent many fs
sent_more few many [] h g = tt
sent_more few many (f ∷ fs) h g = (h f g.0, sent_more few many fs h g.1)

pub sent_both : (sent fs gs : List Function) → AreSent sent fs → AreSent sent gs → AreSent sent (fs ++ gs)
sent_both sent [] gs h g = g
sent_both sent (f ∷ fs) gs h g = (h.0, sent_both sent fs gs h.1 g)

pub sent_take : (n : ℕ) (many : List Function) → SendMore (take n many) many
sent_take zero many f h = absurd h
sent_take (suc n) [] f h = h
sent_take (suc n) (x ∷ many) f (inl h) = inl h
sent_take (suc n) (x ∷ many) f (inr h) = inr (sent_take n many f h)

pub sent_drop : (n : ℕ) (many : List Function) → SendMore (drop n many) many
sent_drop zero many f h = h
sent_drop (suc n) [] f h = h
sent_drop (suc n) (x ∷ many) f h = inr (sent_drop n many f h)

-- ---- less of the numbers

covers_forgotten : (k n : FunctionNumber) → CoversNumber k n → CoversNumber (forgotten k) n
covers_forgotten Absent n h = h
covers_forgotten (Known v) Absent h = absurd (cc)
covers_forgotten (Known v) (Known w) h = tt
covers_forgotten (Known v) Large h = tt
covers_forgotten (Known v) Any h = tt
covers_forgotten Large Absent h = absurd (cc)
covers_forgotten Large (Known w) h = tt
covers_forgotten Large Large h = tt
covers_forgotten Large Any h = tt
covers_forgotten Any n h = h

cover_forgotten : (ks ns : List FunctionNumber) → CoverNumbers ks ns → CoverNumbers (map forgotten ks) ns
cover_forgotten [] ns h = h
cover_forgotten (k ∷ ks) (n ∷ ns) h = (covers_forgotten k n h.0, cover_forgotten ks ns h.1)
cover_forgotten (k ∷ ks) [] h = absurd h

pub covers_shape : (k c : Configuration) (number : FunctionNumber) (numbers : List FunctionNumber) → number ≡ forgotten k.number → numbers ≡ map forgotten k.underway.numbers
    → CoversConfiguration k c → CoversConfiguration (record k { underway = record k.underway { numbers = numbers }; number = number }) c
covers_shape k c number numbers e f h =
    let P : FunctionNumber → Type 0 = λ x. CoversConfiguration (record k { underway = record k.underway { numbers = numbers }; number = x }) c in
    let Q : List FunctionNumber → Type 0 = λ x. CoversConfiguration (record k { underway = record k.underway { numbers = x }; number = forgotten k.number }) c in
    let of : Configuration → Configuration = λ x. record x { underway = record x.underway { numbers = map forgotten k.underway.numbers }; number = forgotten k.number } in
    subst P (sym e) (subst Q (sym f) (record {
      same = ap of h.same;
      numbers = cover_forgotten k.underway.numbers c.underway.numbers h.numbers;
      number = covers_forgotten k.number c.number h.number;
    }))
