-- Bytes have at most one refusal.
use Rattle.std.proofs.Common.{◌≡◌, ◌≢◌, ℕ, suc, ◌+◌, ◌<◌, ◌≤◌, ◌⊎◌, inl, inr, List, [], ◌∷◌, ◌++◌, length, take, drop, refl, sym, ◌∙◌, ap, subst, arith, true, false, append_assoc, length-append}
use Rattle.std.proofs.lemmas.List.{take_at, drop_at, take-append-drop, length-take-le}
use Rattle.ti_base.specs.Limits.{most_values}
use Rattle.ti_cap.specs.declared.language.Token.{Token}
use Rattle.ti_cap.specs.declared.language.Token.TheVariants.{CondOpen, CondThen, CondElse, CondClose}
use Rattle.ti_cap.specs.declared.language.CapFault.{CapFault}
use Rattle.ti_cap.specs.declared.language.CapFault.TheVariants.{TooLong, StrayThen, StrayElse, StrayEnd, NoThen, NestTooDeep, StackTooDeep}
use Rattle.ti_cap.specs.declared.language.CapRefused.{CapRefused}
use Rattle.ti_cap.specs.Path.{Walk, path_of}
use Rattle.ti_cap.specs.Height.{next_height, end_height}
use Rattle.ti_cap.specs.Spelling.{Written}
use Rattle.ti_cap.specs.declared.scan.ConditionalPart.{ConditionalPart}
use Rattle.ti_cap.specs.declared.scan.ConditionalPart.TheVariants.{FirstTest, Body, Otherwise}
use Rattle.ti_cap.specs.Refusal.{Begins, Climbs, open_parts, IsInFirstTest, IsNext, IsStray, IsUnreadable, IsFaultBetween, HasFault, IsSoundBelow, IsRefusal, escape_fault}
use Rattle.ti_cap.proofs.WrittenLemmas.{Same, one_form, one_cutting, spelled_long}
use Rattle.ti_cap.proofs.PassesLemmas.{no_path}

-- ---- a height is reached at a token

-- after this token of a path its height is the one that it has at the end
record Reaches (w : Walk) (before : List Token) (h n : ℕ) : Type 0 where
  front : List Token
  token : Token
  back : List Token
  spans : before ≡ front ++ token ∷ back
  on_path : path_of w (front ++ token ∷ []) ≡ path_of w front ++ token ∷ []
  height_is : end_height h (path_of w (front ++ token ∷ [])) ≡ n

alike : (x n : ℕ) → (x ≡ n) ⊎ (x ≢ n)
alike x n = elim (low x n) [
  | inl lt ↦ inr (λ e. omega arith)
  | inr ge ↦ elim (low n x) [ inl gt ↦ inr (λ e. omega arith) | inr le ↦ inl (omega arith) ]
]
  where
    low : (a b : ℕ) → (a < b) ⊎ (b ≤ a)
    low a b = grind arith

reaches : (w : Walk) (before : List Token) (h n : ℕ) → h ≢ n → end_height h (path_of w before) ≡ n → Reaches w before h n
reaches [] before h n other e = absurd (other e)
reaches (m ∷ w) [] h n other e = absurd (other e)
reaches (true ∷ w) (k ∷ ks) h n other e = elim (alike (next_height h k) n) [
  | inl is ↦ record {
    front = [];
    token = k;
    back = ks;
    spans = refl;
    on_path = ap (λ x. k ∷ x) (no_path w);
    height_is = ap (λ x. end_height (next_height h k) x) (no_path w) ∙ is;
  }
  | inr apart ↦
      let r : Reaches w ks (next_height h k) n = reaches w ks (next_height h k) n apart e in
      record {
        front = k ∷ r.front;
        token = r.token;
        back = r.back;
        spans = ap (λ x. k ∷ x) r.spans;
        on_path = ap (λ x. k ∷ x) r.on_path;
        height_is = r.height_is;
      }
]
reaches (false ∷ w) (k ∷ ks) h n other e =
    let r : Reaches w ks h n = reaches w ks h n other e in
    record {
      front = k ∷ r.front;
      token = r.token;
      back = r.back;
      spans = ap (λ x. k ∷ x) r.spans;
      on_path = r.on_path;
      height_is = r.height_is;
    }

end_height-snoc : (h : ℕ) (path : List Token) (k : Token) → end_height h (path ++ k ∷ []) ≡ next_height (end_height h path) k
end_height-snoc h [] k = refl
end_height-snoc h (l ∷ path) k = end_height-snoc (next_height h l) path k

-- a `%?` puts no value on the stack, so that the token that put the last one there climbs as high
record ClimbsEarlier (before : List Token) : Type 0 where
  front : List Token
  token : Token
  back : List Token
  spans : before ≡ front ++ token ∷ back
  climbs : Climbs front token (suc most_values)

high_before : (n : ℕ) (path whole : List Token) → whole ≡ path ++ CondOpen ∷ [] → end_height 0 whole ≡ n → end_height 0 path ≡ n
high_before n path whole e h = omega (arith, end_height-snoc 0 path CondOpen, ap (λ x. end_height 0 x) e, h)

climbs_earlier : (before : List Token) → Climbs before CondOpen (suc most_values) → ClimbsEarlier before
climbs_earlier before c =
    let r : Reaches c.walk before 0 (suc most_values) =
    reaches c.walk before 0 (suc most_values) (λ e. omega arith) (high_before (suc most_values) (path_of c.walk before) (path_of c.walk (before ++ CondOpen ∷ [])) c.on_path c.height_is) in
    record {
      front = r.front;
      token = r.token;
      back = r.back;
      spans = r.spans;
      climbs = record {
        tree = c.tree;
        after = r.back ++ CondOpen ∷ c.after;
        walk = c.walk;
        formed = c.formed;
        spans = c.spans ∙ ap (λ x. x ++ CondOpen ∷ c.after) r.spans ∙ append_assoc r.front (r.token ∷ r.back) (CondOpen ∷ c.after);
        walked = c.walked;
        on_path = r.on_path;
        height_is = r.height_is;
      };
    }

-- ---- a fault of an earlier token stands at an earlier place

-- what two lists of tokens are written by
record WrittenApart (a b : List Token) (bytes : List ℕ) : Type 0 where
  front : List ℕ
  back : List ℕ
  first : Written a front
  second : Written b back
  joined : bytes ≡ front ++ back

written_apart : (a b : List Token) (bytes : List ℕ) → Written (a ++ b) bytes → WrittenApart a b bytes
written_apart [] b bytes w = record { front = []; back = bytes; first = refl; second = w; joined = refl }
written_apart (k ∷ a) b bytes (s, tail, p, w, e) =
    let r : WrittenApart a b tail = written_apart a b tail w in
    record {
      front = s ++ r.front;
      back = r.back;
      first = (s, r.front, p, r.first, refl);
      second = r.second;
      joined = e ∙ ap (λ x. s ++ x) r.joined ∙ sym (append_assoc s r.front r.back);
    }

begins_front : (front : List Token) (k : Token) (back : List Token) → Begins (front ++ k ∷ back) → Begins front
begins_front front k back (tree, after, formed, spans) = (tree, k ∷ back ++ after, formed, spans ∙ append_assoc front (k ∷ back) after)

earlier_fault : (bytes : List ℕ) (place : ℕ) (before : List Token) → place ≤ length bytes → Written before (take place bytes) → Begins before
    → ClimbsEarlier before → (q : ℕ) × (q < place) × HasFault bytes StackTooDeep q
earlier_fault bytes place before within written begins c =
    let P : List Token → Type 0 = λ x. Written x (take place bytes) in
    let B : List Token → Type 0 = λ x. Begins x in
    at (written_apart c.front (c.token ∷ c.back) (take place bytes) (subst P c.spans written)) (begins_front c.front c.token c.back (subst B c.spans begins))
  where
    at : WrittenApart c.front (c.token ∷ c.back) (take place bytes) → Begins c.front → (q : ℕ) × (q < place) × HasFault bytes StackTooDeep q
    at w b =
        let s : List ℕ = w.second.0 in
        let tail : List ℕ = w.second.1 in
        let rest : List ℕ = s ++ (tail ++ drop place bytes) in
        let whole : bytes ≡ w.front ++ rest =
        sym (take-append-drop place bytes) ∙ ap (λ x. x ++ drop place bytes) (w.joined ∙ ap (λ x. w.front ++ x) w.second.4)
        ∙ append_assoc w.front (s ++ tail) (drop place bytes) ∙ ap (λ x. w.front ++ x) (append_assoc s tail (drop place bytes)) in
        let taken : take (length w.front) bytes ≡ w.front = ap (λ x. take (length w.front) x) whole ∙ take_at w.front rest (length w.front) refl in
        let left : drop (length w.front) bytes ≡ rest = ap (λ x. drop (length w.front) x) whole ∙ drop_at w.front rest (length w.front) refl in
        let W : List ℕ → Type 0 = λ x. Written c.front x in
        let long : length w.front + length s ≤ place =
        omega (arith, length-take-le place bytes within, ap length w.joined, length-append w.front w.back, ap length w.second.4, length-append s tail) in
        let some : 0 < length s = spelled_long c.token s w.second.2 in (
          length w.front,
          omega (arith, long, some),
          record {
            before = c.front;
            within = omega (arith, long, within);
            written = subst W (sym taken) w.first;
            begins = b;
            is = (c.token, (s, tail ++ drop place bytes, w.second.2, left), c.climbs);
          },
        )

-- ---- at one place

one_next : (rest : List ℕ) (k l : Token) → IsNext k rest → IsNext l rest → k ≡ l
one_next rest k l (s, x, p, e) (u, y, q, f) = let r : Same k l s u x y = one_form k l s u x y p q (sym e ∙ f) in r.token

none_next : (rest : List ℕ) (k : Token) → rest ≡ [] → IsNext k rest → ⊥
none_next rest k none (s, tail, p, e) = omega (arith, ap length (sym none ∙ e), length-append s tail, spelled_long k s p)

-- bytes at whose front nothing is spelled have one fault
one_reason : (rest : List ℕ) (f g : CapFault) → IsUnreadable rest f → IsUnreadable rest g → f ≡ g
one_reason rest f g u v = elim u.why [
  | inl a ↦ elim v.why [ inl b ↦ a.0 ∙ sym b.0 | inr b ↦ absurd (b.3 a.1) ]
  | inr a ↦ elim v.why [
    | inl b ↦ absurd (a.3 b.1)
    | inr b ↦ let same : a.0 ≡ b.0 = cc in a.4 ∙ ap escape_fault same ∙ sym b.4
  ]
]

-- the fault of a token of a conditional's frame that may not stand in these parts
abbrev stray_else : List ConditionalPart → CapFault
stray_else (FirstTest ∷ parts) = NoThen
stray_else _ = StrayElse

abbrev stray_close : List ConditionalPart → CapFault
stray_close [] = StrayEnd
stray_close _ = NoThen

abbrev stray_fault : Token → List ConditionalPart → CapFault
stray_fault CondElse parts = stray_else parts
stray_fault CondClose parts = stray_close parts
stray_fault _ parts = StrayThen

-- the five ways to be at fault
data Kind (before : List Token) (rest : List ℕ) (f : CapFault) : Type 0 where
  Unread : rest ≢ [] → IsUnreadable rest f → Kind before rest f
  Stray : (k : Token) → IsStray k before rest → k ≢ CondOpen → f ≡ stray_fault k (open_parts before) → Kind before rest f
  Nested : IsNext CondOpen rest → f ≡ NestTooDeep → Kind before rest f
  Climbed : (k : Token) → IsNext k rest → Climbs before k (suc most_values) → f ≡ StackTooDeep → Kind before rest f
  Ended : rest ≡ [] → f ≡ NoThen → Kind before rest f

kind_of : (f : CapFault) (before : List Token) (rest : List ℕ) → IsFaultBetween f before rest → Kind before rest f
kind_of TooLong before rest h = absurd h
kind_of StrayThen before rest h = Stray CondThen h (λ e. cc) refl
kind_of StrayElse before rest h = Stray CondElse h.0 (λ e. cc) (by (open_parts before) h.1)
  where
    by : (parts : List ConditionalPart) → ¬ IsInFirstTest parts → StrayElse ≡ stray_else parts
    by [] n = refl
    by (FirstTest ∷ parts) n = absurd (n tt)
    by (Body ∷ parts) n = refl
    by (Otherwise ∷ parts) n = refl
kind_of StrayEnd before rest h = Stray CondClose h.0 (λ e. cc) (ap stray_close (sym h.1))
kind_of NoThen before rest (inl h) = Stray CondElse h.0 (λ e. cc) (by (open_parts before) h.1)
  where
    by : (parts : List ConditionalPart) → IsInFirstTest parts → NoThen ≡ stray_else parts
    by [] n = absurd n
    by (FirstTest ∷ parts) n = refl
    by (Body ∷ parts) n = absurd n
    by (Otherwise ∷ parts) n = absurd n
kind_of NoThen before rest (inr (inl h)) = Stray CondClose h.0 (λ e. cc) (by (open_parts before) h.1)
  where
    by : (parts : List ConditionalPart) → parts ≢ [] → NoThen ≡ stray_close parts
    by [] n = absurd (n refl)
    by (part ∷ parts) n = refl
kind_of NoThen before rest (inr (inr h)) = Ended h.0 refl
kind_of NestTooDeep before rest h = Nested h.0 refl
kind_of StackTooDeep before rest (k, next, climbs) = Climbed k next climbs refl
kind_of _ before rest h = Unread h.0 h.1

module _ (before : List Token) (rest : List ℕ) where
  -- a token that climbs is one with which a tree goes on
  climbs_begin : (k : Token) (h : ℕ) → Climbs before k h → Begins (before ++ k ∷ [])
  climbs_begin k h c = (c.tree, c.after, c.formed, c.spans ∙ sym (append_assoc before (k ∷ []) c.after))

  not_stray : (k l : Token) → IsStray k before rest → IsNext l rest → Climbs before l (suc most_values) → ⊥
  not_stray k l stray next climbs =
      let P : Token → Type 0 = λ x. Begins (before ++ x ∷ []) in
      stray.1 (subst P (one_next rest l k next stray.0) (climbs_begin l (suc most_values) climbs))

  one_kind : ¬ Climbs before CondOpen (suc most_values) → (f g : CapFault) → Kind before rest f → Kind before rest g → f ≡ g
  one_kind calm f g (Unread some u) (Unread more v) = one_reason rest f g u v
  one_kind calm f g (Unread some u) (Stray k stray other is) = absurd (u.no_token k stray.0)
  one_kind calm f g (Unread some u) (Nested next is) = absurd (u.no_token CondOpen next)
  one_kind calm f g (Unread some u) (Climbed k next climbs is) = absurd (u.no_token k next)
  one_kind calm f g (Unread some u) (Ended none is) = absurd (some none)
  one_kind calm f g (Stray k stray other is) (Unread some u) = absurd (u.no_token k stray.0)
  one_kind calm f g (Stray k stray other is) (Stray l strays others are) = is ∙ ap (λ x. stray_fault x (open_parts before)) (one_next rest k l stray.0 strays.0) ∙ sym are
  one_kind calm f g (Stray k stray other is) (Nested next are) = absurd (other (one_next rest k CondOpen stray.0 next))
  one_kind calm f g (Stray k stray other is) (Climbed l next climbs are) = absurd (not_stray k l stray next climbs)
  one_kind calm f g (Stray k stray other is) (Ended none are) = absurd (none_next rest k none stray.0)
  one_kind calm f g (Nested next is) (Unread some u) = absurd (u.no_token CondOpen next)
  one_kind calm f g (Nested next is) (Stray k stray other are) = absurd (other (one_next rest k CondOpen stray.0 next))
  one_kind calm f g (Nested next is) (Nested again are) = is ∙ sym are
  one_kind calm f g (Nested next is) (Climbed k again climbs are) =
      let P : Token → Type 0 = λ x. Climbs before x (suc most_values) in
      absurd (calm (subst P (one_next rest k CondOpen again next) climbs))
  one_kind calm f g (Nested next is) (Ended none are) = absurd (none_next rest CondOpen none next)
  one_kind calm f g (Climbed k next climbs is) (Unread some u) = absurd (u.no_token k next)
  one_kind calm f g (Climbed k next climbs is) (Stray l stray other are) = absurd (not_stray l k stray next climbs)
  one_kind calm f g (Climbed k next climbs is) (Nested again are) =
      let P : Token → Type 0 = λ x. Climbs before x (suc most_values) in
      absurd (calm (subst P (one_next rest k CondOpen next again) climbs))
  one_kind calm f g (Climbed k next climbs is) (Climbed l again more are) = is ∙ sym are
  one_kind calm f g (Climbed k next climbs is) (Ended none are) = absurd (none_next rest k none next)
  one_kind calm f g (Ended none is) (Unread some u) = absurd (some none)
  one_kind calm f g (Ended none is) (Stray k stray other are) = absurd (none_next rest k none stray.0)
  one_kind calm f g (Ended none is) (Nested next are) = absurd (none_next rest CondOpen none next)
  one_kind calm f g (Ended none is) (Climbed k next climbs are) = absurd (none_next rest k none next)
  one_kind calm f g (Ended none is) (Ended again are) = is ∙ sym are

-- ---- at the least place

-- where nothing is at fault before a place, no `%?` there climbs too high
calm_at : (bytes : List ℕ) (f : CapFault) (place : ℕ) → IsSoundBelow bytes place → (has : HasFault bytes f place) → ¬ Climbs has.before CondOpen (suc most_values)
calm_at bytes f place sound has c =
    let r : (q : ℕ) × (q < place) × HasFault bytes StackTooDeep q = earlier_fault bytes place has.before has.within has.written has.begins (climbs_earlier has.before c) in
    sound StackTooDeep r.0 r.1 r.2

one_fault : (bytes : List ℕ) (f g : CapFault) (place : ℕ) → IsSoundBelow bytes place → HasFault bytes f place → HasFault bytes g place → f ≡ g
one_fault bytes f g place sound has more =
    let same : more.before ≡ has.before = one_cutting more.before has.before (take place bytes) more.written has.written in
    let P : List Token → Type 0 = λ x. IsFaultBetween g x (drop place bytes) in
    one_kind has.before (drop place bytes) (calm_at bytes f place sound has) f g
    (kind_of f has.before (drop place bytes) has.is) (kind_of g has.before (drop place bytes) (subst P same more.is))

one_place : (bytes : List ℕ) (f g : CapFault) (p q : ℕ) → HasFault bytes f p → IsSoundBelow bytes p → HasFault bytes g q → IsSoundBelow bytes q → p ≡ q
one_place bytes f g p q has sound more below = elim (low p q) [
  | inl lt ↦ absurd (below f p lt has)
  | inr ge ↦ elim (low q p) [ inl gt ↦ absurd (sound g q gt more) | inr le ↦ omega arith ]
]
  where
    low : (a b : ℕ) → (a < b) ⊎ (b ≤ a)
    low a b = grind arith

same_refusal : (one other : CapRefused) → one.fault ≡ other.fault → one.place ≡ other.place → one ≡ other
same_refusal one other f p =
    let by_fault : one ≡ record { fault = other.fault; place = one.place } = ap (λ (x : CapFault). record { fault = x; place = one.place }) f in
    by_fault ∙ ap (λ (x : ℕ). record { fault = other.fault; place = x }) p

pub one_refusal : (one other : CapRefused) (bytes : List ℕ) → IsRefusal bytes one → IsRefusal bytes other → one ≡ other
one_refusal one other bytes (inl h) (inl i) = h.1 ∙ sym i.1
one_refusal one other bytes (inl h) (inr i) = absurd (omega (arith, h.0, i.0))
one_refusal one other bytes (inr h) (inl i) = absurd (omega (arith, h.0, i.0))
one_refusal one other bytes (inr h) (inr i) =
    let place : other.place ≡ one.place = one_place bytes other.fault one.fault other.place one.place i.1 i.2 h.1 h.2 in
    let P : ℕ → Type 0 = λ x. HasFault bytes other.fault x in
    let fault : one.fault ≡ other.fault = one_fault bytes one.fault other.fault one.place h.2 h.1 (subst P place i.1) in
    same_refusal one other fault (sym place)
