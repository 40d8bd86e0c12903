-- Where bytes lead receivers that cover others.
use Rattle.std.proofs.Common.{◌≡◌, ℕ, zero, suc, ◌+◌, ◌<◌, ◌≤◌, List, [], ◌∷◌, ◌++◌, Bool, true, false, ◌||◌, ◌⊎◌, inl, inr, length, get_or, take, length-append, append_assoc, refl, sym, ap, subst, arith, nat_eq}
use Rattle.std.specs.List.{AllByRecursion}
use Rattle.std.proofs.lemmas.List.{take_more}
use Rattle.ti_parser.specs.Covers.{IsOf, SendMore, is_one_of}
use Rattle.ti_parser.specs.declared.function.Function.{Function}
use Rattle.ti_parser.specs.declared.reading.Reception.{Reception}
use Rattle.ti_parser.specs.declared.receiver.Receiver.{Receiver}
use Rattle.ti_parser.specs.inner.Receivers.{CoverMore, CoversMoment, EachLeads, Heard, Hearing, IsAmong, IsHeard, Lead, Moment, at, hear}
use Rattle.ti_parser.proofs.HearLemmas.{hear-append}
use Rattle.ti_parser.proofs.SetLemmas.{sent_both, sent_more, split_last}

-- ---- receivers one by one

-- one receiver more that the others cover
pub cover_next : (xs many more : List Receiver) (i : ℕ) (x : Receiver) → i < length xs → x ≡ get_or xs i x
    → CoverMore (take i xs) many → CoverMore many more → CoverMore (x ∷ []) more → CoverMore (take (i + 1) xs) more
cover_next xs many more i x low e old kept new m h =
    let P : List Receiver → Type 0 = λ ys. IsAmong ys m in
    elim (split_last (take i xs) (get_or xs i x) m (subst P (take_more xs i x low) h)) [
      | inl g ↦ kept m (old m g)
      | inr g ↦ let Q : Receiver → Type 0 = λ y. CoversMoment y m in new m (inl (subst Q (sym e) g))
    ]

-- a receiver that another stands for
pub cover_instead : (x y : Receiver) (many : List Receiver) → ((m : Moment) → CoversMoment x m → CoversMoment y m)
    → CoverMore (y ∷ []) many → CoverMore (x ∷ []) many
cover_instead x y many f h m (inl g) = h m (inl (f m g))
cover_instead x y many f h m (inr g) = absurd g

pub lead_more : (r : Reception) (bytes : List ℕ) (before after more : List Receiver) (sent others : List Function)
    → Lead r bytes before sent after → SendMore sent others → CoverMore after more → Lead r bytes before others more
lead_more r bytes before after more sent others h s a rest x g =
    let one = h rest x g in
    record { ends = a _ one.ends; sends = sent_more sent others _ s one.sends }

pub lead_less : (r : Reception) (bytes : List ℕ) (few before after : List Receiver) (sent : List Function)
    → CoverMore few before → Lead r bytes before sent after → Lead r bytes few sent after
lead_less r bytes few before after sent m h rest x g = h rest x (m _ g)

pub lead_nothing : (r : Reception) (before after : List Receiver) (sent : List Function) → CoverMore before after → Lead r [] before sent after
unfolding hear
lead_nothing r before after sent h rest x g = record { ends = h _ g; sends = tt }

-- more bytes after those that were heard
pub heard_then : (r : Reception) (rest xs ys : List ℕ) (x : Hearing) (middle after : List Receiver) (sent others : List Function)
    → IsHeard r (ys ++ rest) middle sent (hear r (ys ++ rest) x xs) → SendMore sent others → Lead r ys middle others after
    → IsHeard r rest after others (hear r rest x (xs ++ ys))
heard_then r rest xs ys x middle after sent others one s g =
    let first : Heard = hear r (ys ++ rest) x xs in
    let two : IsHeard r rest after others (hear r rest first.hearing ys) = g rest first.hearing one.ends in
    let P : Heard → Type 0 = λ h. IsHeard r rest after others h in
    subst P (sym (hear-append r rest x xs ys))
    (record { ends = two.ends; sends = sent_both others first.functions (hear r rest first.hearing ys).functions (sent_more sent others _ s one.sends) two.sends })

pub lead_then : (r : Reception) (xs ys : List ℕ) (before middle after : List Receiver) (sent others : List Function)
    → Lead r xs before sent middle → SendMore sent others → Lead r ys middle others after → Lead r (xs ++ ys) before others after
lead_then r xs ys before middle after sent others h s g rest x k =
    let P : List ℕ → Type 0 = λ bs. IsAmong before (at r bs x) in
    heard_then r rest xs ys x middle after sent others (h (ys ++ rest) x (subst P (append_assoc xs ys rest) k)) s g

-- one byte more
pub lead_byte : (r : Reception) (bytes : List ℕ) (i d : ℕ) (before middle after : List Receiver) (sent others : List Function) → i < length bytes
    → Lead r (take i bytes) before sent middle → SendMore sent others → Lead r (get_or bytes i d ∷ []) middle others after → Lead r (take (i + 1) bytes) before others after
lead_byte r bytes i d before middle after sent others low h s g =
    let P : List ℕ → Type 0 = λ bs. Lead r bs before others after in
    subst P (sym (take_more bytes i d low)) (lead_then r (take i bytes) (get_or bytes i d ∷ []) before middle after sent others h s g)

pub cover_same : (few same many : List Receiver) → few ≡ same → CoverMore few many → CoverMore same many
cover_same few same many e h = let P : List Receiver → Type 0 = λ x. CoverMore x many in subst P e h

pub lead_next : (r : Reception) (bytes : List ℕ) (xs after : List Receiver) (sent : List Function) (i : ℕ) (x : Receiver) → i < length xs → x ≡ get_or xs i x
    → Lead r bytes (take i xs) sent after → Lead r bytes (x ∷ []) sent after → Lead r bytes (take (i + 1) xs) sent after
lead_next r bytes xs after sent i x low e h g rest c k =
    let m : Moment = at r (bytes ++ rest) c in
    let P : List Receiver → Type 0 = λ ys. IsAmong ys m in
    elim (split_last (take i xs) (get_or xs i x) m (subst P (take_more xs i x low) k)) [
      | inl o ↦ h rest c o
      | inr o ↦ let Q : Receiver → Type 0 = λ y. CoversMoment y m in g rest c (inl (subst Q (sym e) o))
    ]

-- ---- one of some bytes

each_last : (P : ℕ → Type 0) (xs : List ℕ) (x : ℕ) → AllByRecursion P xs → P x → AllByRecursion P (xs ++ x ∷ [])
each_last P [] x h g = (g, tt)
each_last P (y ∷ xs) x h g = (h.0, each_last P xs x h.1 g)

pub each_more : (r : Reception) (bytes : List ℕ) (before after more : List Receiver) (sent others : List Function)
    → EachLeads r bytes before sent after → SendMore sent others → CoverMore after more → EachLeads r bytes before others more
each_more r [] before after more sent others h s a = tt
each_more r (b ∷ bytes) before after more sent others h s a = (lead_more r (b ∷ []) before after more sent others h.0 s a, each_more r bytes before after more sent others h.1 s a)

pub each_next : (r : Reception) (bytes : List ℕ) (before after more : List Receiver) (sent others : List Function) (i d : ℕ) → i < length bytes
    → EachLeads r (take i bytes) before sent after → SendMore sent others → CoverMore after more → Lead r (get_or bytes i d ∷ []) before others more
    → EachLeads r (take (i + 1) bytes) before others more
each_next r bytes before after more sent others i d low h s a new =
    let P : ℕ → Type 0 = λ b. Lead r (b ∷ []) before others more in
    let Q : List ℕ → Type 0 = λ bs. EachLeads r bs before others more in
    subst Q (sym (take_more bytes i d low)) (each_last P (take i bytes) (get_or bytes i d) (each_more r (take i bytes) before after more sent others h s a) new)

either_true : (a b : Bool) → (a || b) ≡ true → (a ≡ true) ⊎ (b ≡ true)
either_true true b e = inl refl
either_true false b e = inr e

pub each_one : (P : ℕ → Type 0) (bytes : List ℕ) (b : ℕ) → AllByRecursion P bytes → is_one_of bytes b ≡ true → P b
each_one P [] b h e = absurd (cc)
each_one P (x ∷ bytes) b h e = elim (either_true (nat_eq b x) (is_one_of bytes b) e) [
  | inl is ↦ let same : b ≡ x = grind (arith, is) in subst P (sym same) h.0
  | inr more ↦ each_one P bytes b h.1 more
]

-- any number of bytes that lead nowhere else
pub lead_on : (r : Reception) (bytes text : List ℕ) (all : List Receiver) (sent : List Function) → EachLeads r bytes all sent all → IsOf bytes text → Lead r text all sent all
lead_on r bytes [] all sent h t = lead_nothing r all all sent (λ c g. g)
lead_on r bytes (b ∷ text) all sent h t =
    lead_then r (b ∷ []) text all all all sent sent (each_one (λ x. Lead r (x ∷ []) all sent all) bytes b h t.0) (λ f g. g) (lead_on r bytes text all sent h t.1)

-- a text in two parts
pub record Parts (bytes text : List ℕ) (i : ℕ) : Type 0 where
  pub front : List ℕ
  pub back : List ℕ
  pub joined : text ≡ front ++ back
  pub long : length front ≡ i
  pub front_of : IsOf bytes front
  pub back_of : IsOf bytes back

pub parts_at : (bytes text : List ℕ) (i : ℕ) → i ≤ length text → IsOf bytes text → Parts bytes text i
parts_at bytes text zero low h = record { front = []; back = text; joined = refl; long = refl; front_of = tt; back_of = h }
parts_at bytes [] (suc i) low h = absurd (omega arith)
parts_at bytes (x ∷ text) (suc i) low h =
    let p : Parts bytes text i = parts_at bytes text i (omega arith) h.1 in
    record { front = x ∷ p.front; back = p.back; joined = ap (λ t. x ∷ t) p.joined; long = ap suc p.long; front_of = (h.0, p.front_of); back_of = p.back_of }

-- so many of some bytes
abbrev pub LeadCount : Reception → List ℕ → ℕ → List Receiver → List Function → List Receiver → Type 0
LeadCount r bytes i before sent after = (text : List ℕ) → IsOf bytes text → length text ≡ i → Lead r text before sent after

pub lead_count : (r : Reception) (bytes : List ℕ) (i : ℕ) (before now after : List Receiver) (sent others : List Function)
    → LeadCount r bytes i before sent now → SendMore sent others → EachLeads r bytes now others after → LeadCount r bytes (i + 1) before others after
lead_count r bytes i before now after sent others h s e text t long =
    let p : Parts bytes text i = parts_at bytes text i (omega arith) t in
    let P : List ℕ → Type 0 = λ x. Lead r x before others after in
    subst P (sym p.joined) (lead_then r p.front p.back before now after sent others (h p.front p.front_of p.long) s (last p.back p.back_of (one p)))
  where
    one : (p : Parts bytes text i) → length p.back ≡ 1
    one p = omega (arith, long, p.long, ap length p.joined, length-append p.front p.back)

    last : (back : List ℕ) → IsOf bytes back → length back ≡ 1 → Lead r back now others after
    last [] o l = absurd (omega arith)
    last (b ∷ []) o l = each_one (λ x. Lead r (x ∷ []) now others after) bytes b e o.0
    last (b ∷ x ∷ back) o l = absurd (omega arith)

pub each_whole : (r : Reception) (bytes : List ℕ) (before after : List Receiver) (sent : List Function) (i : ℕ) → length bytes ≤ i
    → EachLeads r (take i bytes) before sent after → EachLeads r bytes before sent after
each_whole r bytes before after sent i high h = let P : List ℕ → Type 0 = λ x. EachLeads r x before sent after in subst P (take_whole bytes i high) h
  where
    take_whole : (xs : List ℕ) (i : ℕ) → length xs ≤ i → take i xs ≡ xs
    take_whole [] zero e = refl
    take_whole [] (suc i) e = refl
    take_whole (x ∷ xs) zero e = absurd (omega arith)
    take_whole (x ∷ xs) (suc i) e = ap (λ t. x ∷ t) (take_whole xs i (omega arith))

pub lead_count_none : (r : Reception) (bytes : List ℕ) (before : List Receiver) (sent : List Function) → LeadCount r bytes 0 before sent before
lead_count_none r bytes before sent [] t long = lead_nothing r before before sent (λ c h. h)
lead_count_none r bytes before sent (b ∷ text) t long = absurd (omega arith)

-- so many of some bytes, and then any number
pub lead_count_on : (r : Reception) (bytes : List ℕ) (least i : ℕ) (before now after : List Receiver) (sent others : List Function) → i ≡ least
    → LeadCount r bytes i before sent now → SendMore sent others → ((text : List ℕ) → IsOf bytes text → Lead r text now others after)
    → (text : List ℕ) → IsOf bytes text → least ≤ length text → Lead r text before others after
lead_count_on r bytes least i before now after sent others e h s g text t long =
    let p : Parts bytes text i = parts_at bytes text i (omega arith) t in
    let P : List ℕ → Type 0 = λ x. Lead r x before others after in
    subst P (sym p.joined) (lead_then r p.front p.back before now after sent others (h p.front p.front_of p.long) s (g p.back p.back_of))
