-- What is known of all paths goes on with each token.
use Rattle.std.proofs.Common.{◌≡◌, ℕ, zero, suc, List, [], ◌∷◌, ◌++◌, Bool, true, false, refl, sym, ◌∙◌, ap, subst, reverse, ◌||◌, if◌then◌else◌}
use Rattle.std.proofs.lemmas.List.{append-nil, reverse-append}
use Rattle.ti_cap.specs.declared.language.Token.{Token}
use Rattle.ti_cap.specs.declared.language.Token.TheVariants.{Byte, Char, Print, CondOpen, CondThen, CondElse, CondClose}
use Rattle.ti_cap.specs.declared.mode.Mode.{Mode}
use Rattle.ti_cap.specs.declared.mode.Mode.TheVariants.{Run as RunMode, ToElse, ToEnd}
use Rattle.ti_cap.specs.Pass.{is_running, next_mode}
use Rattle.ti_cap.proofs.NextModeLemmas.{simple_stays}
use Rattle.ti_expand.specs.Meaning.{after_test}
use Rattle.ti_expand.specs.State.{State}
use Rattle.ti_expand.specs.Steps.{meet}
use Rattle.ti_parser.specs.Tops.{AreTops, popped, tops_after}
use Rattle.ti_parser.specs.declared.tops.Tops.{Tops}
use Rattle.ti_parser.specs.Covers.{SendMore}
use Rattle.ti_parser.specs.inner.Receivers.{IsAmong, Lead, Moment}
use Rattle.ti_parser.specs.Paths.{AreData, IsKnown, IsSeen, Known, KnowsOn, Leads, Point, fresh, Waiting, met_by, nothing_waits, point_in, waiting_in, written}
use Rattle.ti_parser.specs.declared.function.Function.{Function}
use Rattle.ti_parser.specs.declared.reading.Reception.{Reception}
use Rattle.ti_parser.specs.inner.Paths.{IsLeft, IsTested, IsTurned, PointMore}
use Rattle.ti_parser.proofs.TopsLemmas.{tops_meet, tops_tested}
use Rattle.ti_parser.proofs.LeadLemmas.{heard_then}
use Rattle.ti_parser.proofs.SetLemmas.{sent_more}

-- more receivers and more functions cover it too
see_more : (few many : Point) (sent others : List Function) (r : Reception) (s : State) → PointMore few many → SendMore sent others
    → IsSeen r few sent s → IsSeen r many others s
see_more few many sent others r s h n g = (
  λ rest. let o = g.0 rest in record { ends = (h _ s o.ends g.1).0; sends = sent_more sent others _ n o.sends },
  (h _ s (g.0 []).ends g.1).1,
)

-- the innermost first
last_first : (rest : List Waiting) (x : Waiting) → reverse (rest ++ x ∷ []) ≡ x ∷ reverse rest
last_first rest x = reverse-append rest (x ∷ [])

turned : (opens rest : List Waiting) (x : Waiting) → opens ≡ rest ++ x ∷ [] → reverse opens ≡ x ∷ reverse rest
turned opens rest x e = ap reverse e ∙ last_first rest x

-- a state of the paths in a mode
abbrev Sees : Reception → Point → List Waiting → List Function → Mode → State → Type 0
Sees r here opens sent mode s = IsSeen r (point_in here opens mode) sent s

-- the same of what is known, in the other order
moved : (r : Reception) (k : Token) (old new : Known) (before after : List Waiting) → reverse old.opens ≡ before → reverse new.opens ≡ after
    → ((mode : Mode) (s : State) (fails : Bool) → AreData s → Sees r old.here before old.sent mode s → Sees r new.here after new.sent (next_mode mode k fails) (met_by k mode fails s))
    → KnowsOn r k old new
moved r k old new before after e g f mode s fails texts h =
    let P : List Waiting → Type 0 = λ x. Sees r old.here x old.sent mode s in
    let Q : List Waiting → Type 0 = λ x. Sees r new.here x new.sent (next_mode mode k fails) (met_by k mode fails s) in
    subst Q (sym g) (f mode s fails texts (subst P e h))

same_more : (few many : Point) → many ≡ few → PointMore few many
same_more few many e = let P : Point → Type 0 = λ x. PointMore few x in subst P (sym e) (λ c stack h t. (h, t))

same_sent : (few many : List Function) → many ≡ few → SendMore few many
same_sent few many e = let P : List Function → Type 0 = λ x. SendMore few x in subst P (sym e) (λ f h. h)

-- ---- the tokens of a conditional

opened : (r : Reception) (h g : Point) (os : List Waiting) (t u : List Function) → PointMore h g → SendMore t u
    → (mode : Mode) (s : State) (fails : Bool) → AreData s → Sees r h os t mode s → Sees r g (nothing_waits ∷ os) u (next_mode mode CondOpen fails) (met_by CondOpen mode fails s)
opened r h g os t u m n RunMode s fails texts k = see_more h g t u r s m n k
opened r h g os t u m n (ToElse i) s fails texts k = see_more (waiting_in os (ToElse i)) (waiting_in os (ToElse i)) t u r s (λ c st a b. (a, b)) n k
opened r h g os t u m n (ToEnd i) s fails texts k = see_more (waiting_in os (ToEnd i)) (waiting_in os (ToEnd i)) t u r s (λ c st a b. (a, b)) n k

pub knows_open : (r : Reception) (old new : Known) → new.opens ≡ old.opens ++ nothing_waits ∷ [] → new.here ≡ old.here → new.sent ≡ old.sent → KnowsOn r CondOpen old new
knows_open r old new e f g =
    moved r CondOpen old new (reverse old.opens) (nothing_waits ∷ reverse old.opens) refl (turned new.opens old.opens nothing_waits e)
    (opened r old.here new.here (reverse old.opens) old.sent new.sent (same_more old.here new.here f) (same_sent old.sent new.sent g))

-- a point, after a pop
abbrev PointPopped : Point → Point → Type 0
PointPopped few many = (m : Moment) (s : State) → IsAmong few.parsers m → AreTops few.tops s → IsAmong many.parsers m × AreTops many.tops (after_test s)

see_popped : (few many : Point) (sent others : List Function) (r : Reception) (s : State) → PointPopped few many → SendMore sent others
    → IsSeen r few sent s → Leads r many.parsers others s.output × AreTops many.tops (after_test s)
see_popped few many sent others r s h n g = (
  λ rest. let o = g.0 rest in record { ends = (h _ s o.ends g.1).0; sends = sent_more sent others _ n o.sends },
  (h _ s (g.0 []).ends g.1).1,
)

tested : (r : Reception) (h g : Point) (os : List Waiting) (x y : Waiting) (t u : List Function) → PointPopped h g → SendMore t u → PointMore x.failed y.failed → PointPopped h y.failed → y.done ≡ x.done
    → (mode : Mode) (s : State) (fails : Bool) → AreData s → Sees r h (x ∷ os) t mode s → Sees r g (y ∷ os) u (next_mode mode CondThen fails) (met_by CondThen mode fails s)
tested r h g os x y t u m n a b d RunMode s true texts k = see_popped h y.failed t u r s b n k
tested r h g os x y t u m n a b d RunMode s false texts k = see_popped h g t u r s m n k
tested r h g os x y t u m n a b d (ToElse zero) s fails texts k = see_more x.failed y.failed t u r s a n k
tested r h g os x y t u m n a b d (ToElse (suc i)) s fails texts k =
    see_more (waiting_in os (ToElse i)) (waiting_in os (ToElse i)) t u r s (λ c st a b. (a, b)) n k
tested r h g os x y t u m n a b d (ToEnd zero) s fails texts k = see_more x.done y.done t u r s (same_more x.done y.done d) n k
tested r h g os x y t u m n a b d (ToEnd (suc i)) s fails texts k = see_more (waiting_in os (ToEnd i)) (waiting_in os (ToEnd i)) t u r s (λ c st a b. (a, b)) n k

pub knows_then : (r : Reception) (old new : Known) → IsTested new.here old.opens new.opens → new.here ≡ record { parsers = old.here.parsers; tops = popped old.here.tops } → new.sent ≡ old.sent
    → KnowsOn r CondThen old new
knows_then r old new e f g =
    let o = e.opens in
    let now : Point = record { parsers = old.here.parsers; tops = popped old.here.tops } in
    let P : Point → Type 0 = λ x. PointPopped old.here x in
    let pops : PointPopped old.here new.here = subst P (sym f) (λ c st a b. (a, tops_tested old.here.tops st b)) in
    moved r CondThen old new (o.before ∷ reverse o.rest) (o.after ∷ reverse o.rest) (turned old.opens o.rest o.before o.old_is) (turned new.opens o.rest o.after o.new_is)
    (tested r old.here new.here (reverse o.rest) o.before o.after old.sent new.sent pops (same_sent old.sent new.sent g) e.failed
    (λ c st a b. let p = pops c st a b in e.here_failed c (after_test st) p.0 p.1) (sym e.done))

turned_on : (r : Reception) (h g : Point) (os : List Waiting) (x y : Waiting) (t u : List Function) → SendMore t u → g ≡ x.failed → PointMore x.done y.done → PointMore h y.done
    → (mode : Mode) (s : State) (fails : Bool) → AreData s → Sees r h (x ∷ os) t mode s → Sees r g (y ∷ os) u (next_mode mode CondElse fails) (met_by CondElse mode fails s)
turned_on r h g os x y t u n f a b RunMode s fails texts k = see_more h y.done t u r s b n k
turned_on r h g os x y t u n f a b (ToElse zero) s fails texts k = see_more x.failed g t u r s (same_more x.failed g f) n k
turned_on r h g os x y t u n f a b (ToElse (suc i)) s fails texts k = see_more (waiting_in os (ToElse i)) (waiting_in os (ToElse i)) t u r s (λ c st a b. (a, b)) n k
turned_on r h g os x y t u n f a b (ToEnd zero) s fails texts k = see_more x.done y.done t u r s a n k
turned_on r h g os x y t u n f a b (ToEnd (suc i)) s fails texts k = see_more (waiting_in os (ToEnd i)) (waiting_in os (ToEnd i)) t u r s (λ c st a b. (a, b)) n k

pub knows_else : (r : Reception) (old new : Known) → IsTurned old.here old.opens new.here new.opens → new.sent ≡ old.sent → KnowsOn r CondElse old new
knows_else r old new e g =
    let o = e.opens in
    moved r CondElse old new (o.before ∷ reverse o.rest) (o.after ∷ reverse o.rest) (turned old.opens o.rest o.before o.old_is) (turned new.opens o.rest o.after o.new_is)
    (turned_on r old.here new.here (reverse o.rest) o.before o.after old.sent new.sent (same_sent old.sent new.sent g) (sym e.failed) e.done e.here_done)

left : (r : Reception) (h g : Point) (os : List Waiting) (x : Waiting) (t u : List Function) → PointMore h g → SendMore t u → PointMore x.failed g → PointMore x.done g
    → (mode : Mode) (s : State) (fails : Bool) → AreData s → Sees r h (x ∷ os) t mode s → Sees r g os u (next_mode mode CondClose fails) (met_by CondClose mode fails s)
left r h g os x t u m n a b RunMode s fails texts k = see_more h g t u r s m n k
left r h g os x t u m n a b (ToElse zero) s fails texts k = see_more x.failed g t u r s a n k
left r h g os x t u m n a b (ToElse (suc i)) s fails texts k = see_more (waiting_in os (ToElse i)) (waiting_in os (ToElse i)) t u r s (λ c st a b. (a, b)) n k
left r h g os x t u m n a b (ToEnd zero) s fails texts k = see_more x.done g t u r s b n k
left r h g os x t u m n a b (ToEnd (suc i)) s fails texts k = see_more (waiting_in os (ToEnd i)) (waiting_in os (ToEnd i)) t u r s (λ c st a b. (a, b)) n k

pub knows_close : (r : Reception) (old new : Known) → IsLeft old.here old.opens new.here new.opens → new.sent ≡ old.sent → KnowsOn r CondClose old new
knows_close r old new e g =
    moved r CondClose old new (e.inner ∷ reverse new.opens) (reverse new.opens) (turned old.opens new.opens e.inner e.old_is) refl
    (left r old.here new.here (reverse new.opens) e.inner old.sent new.sent e.ran (same_sent old.sent new.sent g) e.failed e.done)

-- ---- other tokens

pub output_after : (k : Token) (s : State) → (meet k s).output ≡ s.output ++ written k s
output_after (Byte b) s = refl
output_after Char s = refl
output_after (Print f) s = refl
output_after k s = sym (append-nil s.output)

-- what a token writes leads from one point to the other
abbrev pub Writes : Reception → Token → Point → List Function → Point → Type 0
Writes r k before sent after = (s : State) → AreData s → AreTops before.tops s → Lead r (written k s) before.parsers sent after.parsers

wrote : (r : Reception) (k : Token) (h g : Point) (os : List Waiting) (t u : List Function) → SendMore t u → Writes r k h u g → g.tops ≡ tops_after k h.tops
    → (mode : Mode) (s : State) → AreData s → Sees r h os t mode s → Sees r g os u mode (if is_running mode || is_running mode then meet k s else s)
wrote r k h g os t u n l e RunMode s texts o =
    let P : List ℕ → Type 0 = λ x. Leads r g.parsers u x in
    let Q : Tops → Type 0 = λ x. AreTops x (meet k s) in
    (subst P (sym (output_after k s)) (λ rest. heard_then r rest s.output (written k s) fresh h.parsers g.parsers t u (o.0 (written k s ++ rest)) n (l s texts o.1)), subst Q (sym e) (tops_meet k s h.tops texts o.1))
wrote r k h g os t u n l e (ToElse i) s texts o = see_more (waiting_in os (ToElse i)) (waiting_in os (ToElse i)) t u r s (λ c st a b. (a, b)) n o
wrote r k h g os t u n l e (ToEnd i) s texts o = see_more (waiting_in os (ToEnd i)) (waiting_in os (ToEnd i)) t u r s (λ c st a b. (a, b)) n o

pub knows_written : (r : Reception) (k : Token) (old new : Known) → ((m : Mode) (fails : Bool) → next_mode m k fails ≡ m) → new.opens ≡ old.opens → SendMore old.sent new.sent
    → Writes r k old.here new.sent new.here → new.here.tops ≡ tops_after k old.here.tops → KnowsOn r k old new
knows_written r k old new stays e n l p =
    moved r k old new (reverse old.opens) (reverse old.opens) refl (ap reverse e)
    (λ mode s fails texts h.
    let P : Mode → Type 0 = λ m. Sees r new.here (reverse old.opens) new.sent m (if is_running mode || is_running m then meet k s else s) in
    subst P (sym (stays mode fails)) (wrote r k old.here new.here (reverse old.opens) old.sent new.sent n l p mode s texts h))

-- a token that is no part of a conditional leaves each mode
pub others_stay : (k : Token) → ¬ (k ≡ CondOpen) → ¬ (k ≡ CondThen) → ¬ (k ≡ CondElse) → ¬ (k ≡ CondClose) → (m : Mode) (fails : Bool) → next_mode m k fails ≡ m
others_stay CondOpen a b c d m fails = absurd (a refl)
others_stay CondThen a b c d m fails = absurd (b refl)
others_stay CondElse a b c d m fails = absurd (c refl)
others_stay CondClose a b c d m fails = absurd (d refl)
others_stay k a b c d m fails = simple_stays m k fails tt

-- a conditional that ends without a token of its own
pub knows_end : (r : Reception) (old new : Known) → IsLeft old.here old.opens new.here new.opens → new.sent ≡ old.sent → (mode : Mode) (s : State) → AreData s → IsKnown r old mode s
    → (now : Mode) × IsKnown r new now s
knows_end r old new e g RunMode s texts h = (RunMode, knows_close r old new e g RunMode s false texts h)
knows_end r old new e g (ToElse zero) s texts h = (RunMode, knows_close r old new e g (ToElse zero) s false texts h)
knows_end r old new e g (ToElse (suc n)) s texts h = (ToElse n, knows_close r old new e g (ToElse (suc n)) s false texts h)
knows_end r old new e g (ToEnd zero) s texts h = (RunMode, knows_close r old new e g (ToEnd zero) s false texts h)
knows_end r old new e g (ToEnd (suc n)) s texts h = (ToEnd n, knows_close r old new e g (ToEnd (suc n)) s false texts h)
