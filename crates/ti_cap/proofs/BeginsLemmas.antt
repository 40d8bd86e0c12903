-- Tokens that may stand are the front of a tree: what is open, level by level, and how it is ended.
use Rattle.std.proofs.Common.{◌≡◌, ◌≢◌, List, [], ◌∷◌, ◌++◌, map, refl, sym, ◌∙◌, ap, subst, Bool, true, false, append_assoc}
use Rattle.std.specs.Prelude.{Some}
use Rattle.std.proofs.lemmas.List.{append-nil}
use Rattle.ti_cap.specs.declared.language.Token.{Token}
use Rattle.ti_cap.specs.declared.language.Token.TheVariants.{CondOpen, CondThen, CondElse, CondClose}
use Rattle.ti_cap.specs.Tree.{Sequence, Empty, Simple, Conditional, Arms, Lone, Else, ElseIf, tokens, arm_tokens, closing, IsFormed, AreFormed, IsTree}
use Rattle.ti_cap.specs.declared.scan.ConditionalPart.{ConditionalPart}
use Rattle.ti_cap.specs.declared.scan.ConditionalPart.TheVariants.{FirstTest, Body, Otherwise}
use Rattle.ti_cap.specs.Refusal.{Begins}
use Rattle.ti_cap.proofs.PartsLemmas.{allowed, at_then, at_else, at_close, AreSettled}

pub append : Sequence → Sequence → Sequence
append Empty b = b
append (Simple k s) b = Simple k (append s b)
append (Conditional arms c s) b = Conditional arms c (append s b)

tokens-append : (a b : Sequence) → tokens (append a b) ≡ tokens a ++ tokens b
unfolding append
tokens-append Empty b = refl
tokens-append (Simple k s) b = ap (λ x. k ∷ x) (tokens-append s b)
tokens-append (Conditional arms c s) b =
    ap (λ x. CondOpen ∷ (arm_tokens arms ++ (closing c ++ x))) (tokens-append s b)
    ∙ ap (λ x. CondOpen ∷ (arm_tokens arms ++ x)) (sym (append_assoc (closing c) (tokens s) (tokens b)))
    ∙ ap (λ x. CondOpen ∷ x) (sym (append_assoc (arm_tokens arms) (closing c ++ tokens s) (tokens b)))

formed-append : (loose : Bool) (a b : Sequence) → IsFormed false a → IsFormed loose b → IsFormed loose (append a b)
unfolding append
formed-append loose Empty b h g = g
formed-append loose (Simple k s) b h g = (h.0, formed-append loose s b h.1 g)
formed-append loose (Conditional arms true s) b h g = (h.0, formed-append loose s b h.1 g)
formed-append loose (Conditional arms false s) b h g = absurd (cc (h.0))

-- an arm that is whole, with a part after it
abbrev pub Whole : Type 0
Whole = Sequence × Sequence

abbrev pub arms_of : List Whole → Arms → Arms
arms_of [] last = last
arms_of (a ∷ more) last = ElseIf a.0 a.1 (arms_of more last)

abbrev pub early : List Whole → List Token
early [] = []
early (a ∷ more) = tokens a.0 ++ CondThen ∷ (tokens a.1 ++ CondElse ∷ early more)

abbrev pub AreWhole : List Whole → Type 0
AreWhole [] = Unit {0}
AreWhole (a ∷ more) = IsFormed false a.0 × IsFormed false a.1 × AreWhole more

arms_tokens : (es : List Whole) (last : Arms) → arm_tokens (arms_of es last) ≡ early es ++ arm_tokens last
arms_tokens [] last = refl
arms_tokens (a ∷ more) last = simp (arms_tokens more last, append_assoc)

arms_formed : (loose : Bool) (es : List Whole) (last : Arms) → AreWhole es → AreFormed loose last → AreFormed loose (arms_of es last)
arms_formed loose [] last h g = g
arms_formed loose (a ∷ more) last h g = (h.0, h.1, arms_formed loose more last h.2 g)

early-append : (es fs : List Whole) → early (es ++ fs) ≡ early es ++ early fs
early-append [] fs = refl
early-append (a ∷ more) fs = simp (early-append more fs, append_assoc)

whole-append : (es fs : List Whole) → AreWhole es → AreWhole fs → AreWhole (es ++ fs)
whole-append [] fs h g = g
whole-append (a ∷ more) fs h g = (h.0, h.1, whole-append more fs h.2 g)

-- where in an open conditional: in its first test, in a body after a test, or after a `%e`
pub data Where : Type 0 where
  InTest : Where
  InBody : (test : Sequence) → Where
  InOther : (test body : Sequence) → Where

abbrev pub part_of : Where → ConditionalPart
part_of InTest = FirstTest
part_of (InBody t) = Body
part_of (InOther t b) = Otherwise

abbrev pub reached : Where → List Token → List Token
reached InTest ks = ks
reached (InBody t) ks = tokens t ++ CondThen ∷ ks
reached (InOther t b) ks = tokens t ++ CondThen ∷ (tokens b ++ CondElse ∷ ks)

abbrev pub IsWhere : Where → Type 0
IsWhere InTest = Unit {0}
IsWhere (InBody t) = IsFormed false t
IsWhere (InOther t b) = IsFormed false t × IsFormed false b

pub record Level : Type 0 where
  pub before : Sequence
  pub earlier : List Whole
  pub spot : Where

abbrev pub parts : List Level → List ConditionalPart
parts lvs = map (λ l. part_of l.spot) lvs

abbrev pub AreLevels : List Level → Type 0
AreLevels [] = Unit {0}
AreLevels (l ∷ lvs) = IsFormed false l.before × AreWhole l.earlier × IsWhere l.spot × AreLevels lvs

abbrev pub front : List Level → List Token → List Token
front [] ks = ks
front (l ∷ lvs) ks = front lvs (tokens l.before ++ CondOpen ∷ (early l.earlier ++ reached l.spot ks))

reached-append : (w : Where) (a b : List Token) → reached w (a ++ b) ≡ reached w a ++ b
reached-append InTest a b = refl
reached-append (InBody t) a b = sym (append_assoc (tokens t) (CondThen ∷ a) b)
reached-append (InOther t s) a b = simp append_assoc

front-append : (lvs : List Level) (a b : List Token) → front lvs (a ++ b) ≡ front lvs a ++ b
front-append [] a b = refl
front-append (l ∷ lvs) a b =
    ap (λ x. front lvs (tokens l.before ++ CondOpen ∷ (early l.earlier ++ x))) (reached-append l.spot a b)
    ∙ ap (λ x. front lvs x) (simp append_assoc)
    ∙ front-append lvs (tokens l.before ++ CondOpen ∷ (early l.earlier ++ reached l.spot a)) b

-- the tokens, and where they stand
pub record Context (before : List Token) (ps : List ConditionalPart) : Type 0 where
  pub levels : List Level
  pub current : Sequence
  pub formed : IsFormed false current
  pub sound : AreLevels levels
  pub spans : front levels (tokens current) ≡ before
  pub stands : parts levels ≡ ps

-- the last arm, ended where the tokens stand
abbrev pub last_arm : Where → Sequence → Arms
last_arm InTest s = Lone s Empty
last_arm (InBody t) s = Lone t s
last_arm (InOther t b) s = Else t b s

loosen : (s : Sequence) → IsFormed false s → IsFormed true s
loosen Empty h = tt
loosen (Simple k s) h = (h.0, loosen s h.1)
loosen (Conditional arms true s) h = (h.0, loosen s h.1)
loosen (Conditional arms false s) h = absurd (cc (h.0))

-- the marks that end a level
abbrev ender : Where → List Token
ender InTest = CondThen ∷ CondClose ∷ []
ender (InBody t) = CondClose ∷ []
ender (InOther t b) = CondClose ∷ []

ended_tokens : (l : Level) (s : Sequence) → tokens (append l.before (Conditional (arms_of l.earlier (last_arm l.spot s)) true Empty)) ≡ (tokens l.before ++ CondOpen ∷ (early l.earlier ++ reached l.spot (tokens s))) ++ ender l.spot
ended_tokens l s =
    tokens-append l.before (Conditional (arms_of l.earlier (last_arm l.spot s)) true Empty)
    ∙ ap (λ x. tokens l.before ++ CondOpen ∷ (x ++ CondClose ∷ [])) (arms_tokens l.earlier (last_arm l.spot s))
    ∙ each l.spot
  where
    each : (w : Where) → tokens l.before ++ CondOpen ∷ ((early l.earlier ++ arm_tokens (last_arm w s)) ++ CondClose ∷ []) ≡ (tokens l.before ++ CondOpen ∷ (early l.earlier ++ reached w (tokens s))) ++ ender w
    each InTest = simp append_assoc
    each (InBody t) = simp append_assoc
    each (InOther t b) = simp append_assoc

last_formed : (loose : Bool) (w : Where) (s : Sequence) → IsWhere w → w ≢ InTest → IsFormed loose s → AreFormed loose (last_arm w s)
last_formed loose InTest s h n g = absurd (n refl)
last_formed loose (InBody t) s h n g = (h, g)
last_formed loose (InOther t b) s h n g = (h.0, h.1, g)

closed_formed : (w : Where) (s : Sequence) → IsWhere w → IsFormed false s → AreFormed false (last_arm w s)
closed_formed InTest s h g = (g, tt)
closed_formed (InBody t) s h g = (h, g)
closed_formed (InOther t b) s h g = (h.0, h.1, g)

-- whatever is open can be ended
finish : (lvs : List Level) (s : Sequence) → AreLevels lvs → IsFormed false s → (tree : Sequence) × (after : List Token) × IsTree tree × (tokens tree ≡ front lvs (tokens s) ++ after)
finish [] s h g = (s, [], loosen s g, sym (append-nil (tokens s)))
finish (l ∷ lvs) s h g =
    let inner : Sequence = append l.before (Conditional (arms_of l.earlier (last_arm l.spot s)) true Empty) in
    let r : (tree : Sequence) × (after : List Token) × IsTree tree × (tokens tree ≡ front lvs (tokens inner) ++ after) =
    finish lvs inner h.3 (formed-append false l.before _ h.0 (arms_formed false l.earlier (last_arm l.spot s) h.1 (closed_formed l.spot s h.2 g), tt)) in (
      r.0,
      ender l.spot ++ r.1,
      r.2,
      r.3 ∙ ap (λ x. front lvs x ++ r.1) (ended_tokens l s)
          ∙ ap (λ x. x ++ r.1) (front-append lvs (tokens l.before ++ CondOpen ∷ (early l.earlier ++ reached l.spot (tokens s))) (ender l.spot))
          ∙ append_assoc _ (ender l.spot) r.1,
    )

pub context_begins : (before : List Token) (ps : List ConditionalPart) → Context before ps → Begins before
context_begins before ps c =
    let r : (tree : Sequence) × (after : List Token) × IsTree tree × (tokens tree ≡ front c.levels (tokens c.current) ++ after) = finish c.levels c.current c.sound c.formed in
    (r.0, r.1, r.2, r.3 ∙ ap (λ x. x ++ r.1) c.spans)

pub context_start : Context [] []
context_start = record { levels = []; current = Empty; formed = tt; sound = tt; spans = refl; stands = refl }

-- a token at the end of the innermost level
at_end : (lvs : List Level) (x y : List Token) (k : Token) → x ≡ y ++ k ∷ [] → front lvs x ≡ front lvs y ++ k ∷ []
at_end lvs x y k e = ap (λ z. front lvs z) e ∙ front-append lvs y (k ∷ [])

step_then : (b : Sequence) (es : List Whole) (w : Where) (lvs : List Level) (s : Sequence) (qs : List ConditionalPart) → AreLevels (record { before = b; earlier = es; spot = w } ∷ lvs) → IsFormed false s
    → at_then (part_of w ∷ parts lvs) ≡ Some qs → Context (front lvs (tokens b ++ CondOpen ∷ (early es ++ reached w (tokens s))) ++ CondThen ∷ []) qs
step_then b es InTest lvs s qs h g e = record {
  levels = record { before = b; earlier = es; spot = InBody s } ∷ lvs;
  current = Empty;
  formed = tt;
  sound = (h.0, h.1, g, h.3);
  spans = at_end lvs (tokens b ++ CondOpen ∷ (early es ++ (tokens s ++ CondThen ∷ []))) (tokens b ++ CondOpen ∷ (early es ++ tokens s)) CondThen (simp append_assoc);
  stands = cc;
}
step_then b es (InBody t) lvs s qs h g e = absurd (cc)
step_then b es (InOther t o) lvs s qs h g e = record {
  levels = record { before = b; earlier = es ++ (t, o) ∷ []; spot = InBody s } ∷ lvs;
  current = Empty;
  formed = tt;
  sound = (h.0, whole-append es ((t, o) ∷ []) h.1 (h.2.0, h.2.1, tt), g, h.3);
  spans = at_end lvs (tokens b ++ CondOpen ∷ (early (es ++ (t, o) ∷ []) ++ (tokens s ++ CondThen ∷ []))) (tokens b ++ CondOpen ∷ (early es ++ (tokens t ++ CondThen ∷ (tokens o ++ CondElse ∷ tokens s)))) CondThen
      (simp (early-append es ((t, o) ∷ []), append_assoc));
  stands = cc;
}

step_else : (b : Sequence) (es : List Whole) (w : Where) (lvs : List Level) (s : Sequence) (qs : List ConditionalPart) → AreLevels (record { before = b; earlier = es; spot = w } ∷ lvs) → IsFormed false s
    → at_else (part_of w ∷ parts lvs) ≡ Some qs → Context (front lvs (tokens b ++ CondOpen ∷ (early es ++ reached w (tokens s))) ++ CondElse ∷ []) qs
step_else b es InTest lvs s qs h g e = absurd (cc)
step_else b es (InBody t) lvs s qs h g e = record {
  levels = record { before = b; earlier = es; spot = InOther t s } ∷ lvs;
  current = Empty;
  formed = tt;
  sound = (h.0, h.1, (h.2, g), h.3);
  spans = at_end lvs (tokens b ++ CondOpen ∷ (early es ++ (tokens t ++ CondThen ∷ (tokens s ++ CondElse ∷ [])))) (tokens b ++ CondOpen ∷ (early es ++ (tokens t ++ CondThen ∷ tokens s))) CondElse (simp append_assoc);
  stands = cc;
}
step_else b es (InOther t o) lvs s qs h g e = absurd (cc)

step_close : (b : Sequence) (es : List Whole) (w : Where) (lvs : List Level) (s : Sequence) (qs : List ConditionalPart) → AreLevels (record { before = b; earlier = es; spot = w } ∷ lvs) → IsFormed false s
    → at_close (part_of w ∷ parts lvs) ≡ Some qs → Context (front lvs (tokens b ++ CondOpen ∷ (early es ++ reached w (tokens s))) ++ CondClose ∷ []) qs
step_close b es InTest lvs s qs h g e = absurd (cc)
step_close b es (InBody t) lvs s qs h g e = record {
  levels = lvs;
  current = append b (Conditional (arms_of es (Lone t s)) true Empty);
  formed = formed-append false b (Conditional (arms_of es (Lone t s)) true Empty) h.0 (arms_formed false es (Lone t s) h.1 (h.2, g), tt);
  sound = h.3;
  spans = at_end lvs _ (tokens b ++ CondOpen ∷ (early es ++ (tokens t ++ CondThen ∷ tokens s))) CondClose (ended_tokens (record { before = b; earlier = es; spot = InBody t }) s);
  stands = cc;
}
step_close b es (InOther t o) lvs s qs h g e = record {
  levels = lvs;
  current = append b (Conditional (arms_of es (Else t o s)) true Empty);
  formed = formed-append false b (Conditional (arms_of es (Else t o s)) true Empty) h.0 (arms_formed false es (Else t o s) h.1 (h.2.0, h.2.1, g), tt);
  sound = h.3;
  spans = at_end lvs _ (tokens b ++ CondOpen ∷ (early es ++ (tokens t ++ CondThen ∷ (tokens o ++ CondElse ∷ tokens s)))) CondClose (ended_tokens (record { before = b; earlier = es; spot = InOther t o }) s);
  stands = cc;
}

step : (lvs : List Level) (s : Sequence) (k : Token) (qs : List ConditionalPart) → AreLevels lvs → IsFormed false s → allowed k (parts lvs) ≡ Some qs → Context (front lvs (tokens s) ++ k ∷ []) qs
step lvs s CondOpen qs h g e = record {
  levels = record { before = s; earlier = []; spot = InTest } ∷ lvs;
  current = Empty;
  formed = tt;
  sound = (g, tt, tt, h);
  spans = front-append lvs (tokens s) (CondOpen ∷ []);
  stands = cc;
}
step [] s CondThen qs h g e = absurd (cc)
step (l ∷ lvs) s CondThen qs h g e = step_then l.before l.earlier l.spot lvs s qs h g e
step [] s CondElse qs h g e = absurd (cc)
step (l ∷ lvs) s CondElse qs h g e = step_else l.before l.earlier l.spot lvs s qs h g e
step [] s CondClose qs h g e = absurd (cc)
step (l ∷ lvs) s CondClose qs h g e = step_close l.before l.earlier l.spot lvs s qs h g e
step lvs s k qs h g e = record {
  levels = lvs;
  current = append s (Simple k Empty);
  formed = formed-append false s (Simple k Empty) g (tt, tt);
  sound = h;
  spans = at_end lvs _ (tokens s) k (tokens-append s (Simple k Empty));
  stands = cc;
}

-- one token more
pub context_step : (before : List Token) (ps qs : List ConditionalPart) (k : Token) → Context before ps → allowed k ps ≡ Some qs → Context (before ++ k ∷ []) qs
context_step before ps qs k c e =
    let P : List Token → Type 0 = λ x. Context (x ++ k ∷ []) qs in
    subst P c.spans (step c.levels c.current k qs c.sound c.formed (ap (λ x. allowed k x) c.stands ∙ e))

-- the end may end what is open if none is in a first test
end_all : (lvs : List Level) (s : Sequence) → AreLevels lvs → AreSettled (parts lvs) → IsTree s → (tree : Sequence) × IsTree tree × (tokens tree ≡ front lvs (tokens s))
end_all [] s h n g = (s, g, refl)
end_all (l ∷ lvs) s h n g =
    let inner : Sequence = append l.before (Conditional (arms_of l.earlier (last_arm l.spot s)) false Empty) in
    let not_test : l.spot ≢ InTest = λ e. n.0 (ap part_of e) in
    let r : (tree : Sequence) × IsTree tree × (tokens tree ≡ front lvs (tokens inner)) =
    end_all lvs inner h.3 n.1 (formed-append true l.before _ h.0 (refl, arms_formed true l.earlier (last_arm l.spot s) h.1 (last_formed true l.spot s h.2 not_test g), refl)) in (
      r.0,
      r.1,
      r.2 ∙ ap (λ x. front lvs x) (tokens-append l.before (Conditional (arms_of l.earlier (last_arm l.spot s)) false Empty)
          ∙ ap (λ x. tokens l.before ++ CondOpen ∷ (x ++ [])) (arms_tokens l.earlier (last_arm l.spot s))
          ∙ ap (λ x. tokens l.before ++ CondOpen ∷ x) (append-nil _)
          ∙ each l.spot not_test),
    )
  where
    each : (w : Where) → w ≢ InTest → tokens l.before ++ CondOpen ∷ (early l.earlier ++ arm_tokens (last_arm w s)) ≡ tokens l.before ++ CondOpen ∷ (early l.earlier ++ reached w (tokens s))
    each InTest n = absurd (n refl)
    each (InBody t) n = refl
    each (InOther t b) n = refl

pub context_ends : (before : List Token) (ps : List ConditionalPart) → Context before ps → AreSettled ps → (tree : Sequence) × IsTree tree × (tokens tree ≡ before)
context_ends before ps c n =
    let P : List ConditionalPart → Type 0 = λ x. AreSettled x in
    let r : (tree : Sequence) × IsTree tree × (tokens tree ≡ front c.levels (tokens c.current)) = end_all c.levels c.current c.sound (subst P (sym c.stands) n) (loosen c.current c.formed) in
    (r.0, r.1, r.2 ∙ c.spans)
