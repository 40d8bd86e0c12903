-- What a pass knows of all paths between two tokens, and at the end.
use Rattle.std.proofs.Common.{◌≡◌, ℕ, zero, suc, ◌+◌, ◌<◌, ◌≤◌, List, [], ◌∷◌, ◌++◌, true, false, length, arith, take, get_or, refl, sym, ◌∙◌, ap, subst, append_assoc, ℤ, inl, inr}
use Rattle.std.proofs.lemmas.List.{append-nil, take_more}
use Rattle.ti_cap.specs.declared.language.Token.{Token}
use Rattle.ti_cap.specs.declared.mode.Mode.{Mode}
use Rattle.ti_cap.specs.declared.mode.Mode.TheVariants.{Run as RunMode, ToElse, ToEnd}
use Rattle.ti_cap.specs.Capability.{Spot, Takes, whole}
use Rattle.ti_cap.specs.Pass.{next_mode}
use Rattle.ti_cap.specs.Path.{IsPath, path_of}
use Rattle.ti_cap.specs.Spelling.{Writes, Written}
use Rattle.ti_cap.specs.Tree.{Sequence, tokens}
use Rattle.ti_cap.proofs.PassesLemmas.{Over, no_path, walk_passes}
use Rattle.ti_cap.proofs.ReachesLemmas.{Came, Reaches, came_from, state_of}
use Rattle.ti_cap.proofs.WrittenLemmas.{one_cutting, written-append, written_one}
use Rattle.ti_expand.specs.Sound.{AreVariables}
use Rattle.ti_expand.specs.StackHeight.{state_after}
use Rattle.ti_expand.specs.State.{State, start}
use Rattle.ti_expand.specs.Steps.{meet}
use Rattle.ti_expand.specs.declared.values.Value.{Value}
use Rattle.ti_parser.specs.Covers.{IsCovered, IsRunCovered}
use Rattle.ti_parser.specs.Given.{AreGiven}
use Rattle.ti_parser.specs.Machine.{Run, ground}
use Rattle.ti_parser.specs.inner.Receivers.{Comes, ComesAt, CoverMore, CoversMoment, IsAmong, Moment, can_end, ends_text, hear, outside}
use Rattle.ti_parser.specs.Paths.{AreData, IsKnown, IsOutputCovered, Known, KnowsOn, Leads, Point, Waiting, fresh}
use Rattle.ti_parser.specs.declared.function.Function.{Function}
use Rattle.ti_parser.specs.declared.reading.Reception.{Reception}
use Rattle.ti_parser.specs.Tops.{AreTops, tops_at_start}
use Rattle.ti_parser.specs.declared.tops.Tops.{Tops}
use Rattle.ti_parser.proofs.CoversLemmas.{covers_configuration}
use Rattle.ti_parser.specs.declared.configuration.Configuration.{Configuration}
use Rattle.ti_parser.specs.declared.receiver.Receiver.{Receiver}
use Rattle.ti_parser.specs.inner.Paths.{EndMore}
use Rattle.ti_parser.proofs.DataLemmas.{data_met}
use Rattle.ti_parser.proofs.HearLemmas.{heard_whole}
use Rattle.ti_parser.proofs.SetLemmas.{covered_left, covered_right, split_last}
use Rattle.ti_parser.specs.Padding.{completes}
use Rattle.ti_parser.specs.declared.padding.Front.{Front}
use Rattle.ti_parser.specs.declared.padding.Front.TheVariants.{Text, Literal, Mark}
use Rattle.ti_parser.specs.declared.padding.Marks.{Marks}
use Rattle.ti_parser.specs.declared.receiver.Ahead.{Ahead}
use Rattle.ti_parser.specs.declared.receiver.Ahead.TheVariants.{Unknown, Closed, Unclosed, Unmarked}

-- the pass has come to this place of a capability, and knows all paths that come there
pub record IsAt (reading : Reception) (bytes : List ℕ) (spot : Spot) (known : Known) : Type 0 where
  pub whole_is : whole spot ≡ bytes
  pub before : List Token
  pub taken : Written before spot.taken
  pub known_all : (variables : List ℤ) (parameters : List Value) → AreVariables variables → AreGiven reading.first_character parameters → (mode : Mode) (s : State)
      → Reaches (λ x k. meet k x) (start variables parameters) before mode s → AreData s × IsKnown reading known mode s

pub at_start : (r : Reception) (bytes : List ℕ) (known : Known) → known.opens ≡ [] → CoverMore (outside ∷ []) known.here.parsers → known.here.tops ≡ tops_at_start r.first_character → IsAt r bytes (record { taken = []; left = bytes }) known
unfolding hear
at_start r bytes known e m t = record {
  whole_is = refl;
  before = [];
  taken = refl;
  known_all = λ v p numbers given mode s h.
      let P : State → Type 0 = λ x. AreData x × IsKnown r known mode x in
      let Q : Mode → Type 0 = λ x. IsKnown r known x (start v p) in
      let R : Tops → Type 0 = λ x. AreTops x (start v p) in
      subst P (same_start v p mode s h)
      (record { variables = numbers.count; stack = tt; parameters = given.texts }, subst Q (sym h.passes.1) (λ rest. record { ends = m _ (inl (record { front = refl; ahead = tt; parser = covers_configuration ground })); sends = tt }, subst R (sym t) (record { stack = record { first = refl; second = refl; third = refl; fourth = refl }; variables = record { first = tt; second = tt; third = tt; fourth = tt }; parameter = given.character })));
}
  where
    same_start : (v : List ℤ) (p : List Value) (mode : Mode) (s : State) → (h : Reaches (λ x k. meet k x) (start v p) [] mode s) → start v p ≡ s
    same_start v p mode s h = sym (ap (λ w. state_of (λ x k. meet k x) (start v p) w) (no_path h.walk)) ∙ h.value

pub at_next : (r : Reception) (bytes : List ℕ) (spot new : Spot) (k : Token) (known more : Known) → Takes k spot new → IsAt r bytes spot known → KnowsOn r k known more → IsAt r bytes new more
at_next r bytes spot new k known more (s, spelled, left, taken) h on =
    let P : List ℕ → Type 0 = λ x. Written (h.before ++ k ∷ []) x in
    record {
      whole_is = ap (λ x. x ++ new.left) taken ∙ append_assoc spot.taken s new.left ∙ ap (λ x. spot.taken ++ x) (sym left) ∙ h.whole_is;
      before = h.before ++ k ∷ [];
      taken = subst P (sym taken) (written-append h.before (k ∷ []) spot.taken s h.taken (written_one k s spelled));
      known_all = λ v p numbers given mode y reach.
          let c : Came (λ x t. meet t x) (Reaches (λ x t. meet t x) (start v p) h.before) k mode y = came_from (λ x t. meet t x) (start v p) h.before k mode y reach in
          let old : AreData c.old × IsKnown r known c.source c.old = h.known_all v p numbers given c.source c.old c.comes in
          let Q : Mode → Type 0 = λ m. AreData y × IsKnown r more m y in
          let R : State → Type 0 = λ x. AreData x × IsKnown r more (next_mode c.source k c.fails) x in
          subst Q c.leads (subst R (sym c.gives) (data_met k c.source c.fails c.old old.0, on c.source c.old c.fails old.0 old.1));
    }

same_state : (s : State) (path : List Token) → state_of (λ x k. meet k x) s path ≡ state_after path s
same_state s [] = refl
same_state s (k ∷ path) = same_state (meet k s) path

pub at_end : (r : Reception) (bytes : List ℕ) (spot : Spot) (known : Known) → IsAt r bytes spot known → spot.left ≡ [] → (tree : Sequence) (path : List Token) → Writes tree bytes → IsPath tree path
    → (variables : List ℤ) (parameters : List Value) → AreVariables variables → AreGiven r.first_character parameters
    → (mode : Mode) × (AreData (state_after path (start variables parameters)) × IsKnown r known mode (state_after path (start variables parameters)))
at_end r bytes spot known h none tree path w (walk, walked, e) v p numbers given =
    let over : Over _ RunMode (tokens tree) walk = walk_passes _ tree walk w.formed walked in
    let P : List ℕ → Type 0 = λ x. Written h.before x in
    let all : spot.taken ≡ bytes = sym (append-nil spot.taken) ∙ ap (λ x. spot.taken ++ x) (sym none) ∙ h.whole_is in
    let same : tokens tree ≡ h.before = one_cutting (tokens tree) h.before bytes w.written (subst P all h.taken) in
    let Q : List Token → Type 0 = λ x. Reaches (λ y k. meet k y) (start v p) x over.to (state_of (λ y k. meet k y) (start v p) (path_of walk (tokens tree))) in
    let R : State → Type 0 = λ x. AreData x × IsKnown r known over.to x in (
      over.to,
      subst R (ap (λ x. state_of (λ y k. meet k y) (start v p) x) (sym e) ∙ same_state (start v p) path)
          (h.known_all v p numbers given over.to _ (subst Q same (record { walk = walk; passes = over.passes; value = refl }))),
    )

-- with no conditional open all paths run
pub all_run : (r : Reception) (known : Known) (mode : Mode) (s : State) → known.opens ≡ [] → IsKnown r known mode s → Leads r known.here.parsers known.sent s.output
all_run r known mode s e h = none_wait r known.here known.sent mode s (let P : _ = λ x. IsKnown r (record known { opens = x }) mode s in subst P e h)
  where
    none_wait : (r : Reception) (here : Point) (sent : List Function) (mode : Mode) (s : State) → IsKnown r (record { here = here; opens = []; sent = sent }) mode s
        → Leads r here.parsers sent s.output
    none_wait r here sent RunMode s k = k.0
    none_wait r here sent (ToElse n) s k = absurd (k.0 []).ends
    none_wait r here sent (ToEnd n) s k = absurd (k.0 []).ends

-- what leads to receivers ends as their parsers do
pub leads_end : (r : Reception) (receivers : List Receiver) (ends : List Configuration) (sent : List Function) (s : State) → EndMore receivers [] ends → Leads r receivers sent s.output
    → IsOutputCovered r ends sent s
leads_end r receivers ends sent s e h =
    let P : Run → Type 0 = λ x. IsRunCovered ends sent x in
    let o = h [] in
    subst P (sym (heard_whole r fresh s.output)) (record { ends = e.1 _ refl o.ends; sends = o.sends })

-- one receiver more, which may be at the end
pub end_more : (k : Receiver) (before ends : List Configuration) → ends ≡ before ++ k.parser ∷ [] → EndMore (k ∷ []) before ends
end_more k before ends e =
    let P : List Configuration → Type 0 = λ x. EndMore (k ∷ []) before x in
    subst P (sym e) (covered_left before (k.parser ∷ []), λ m none h. covered_right before (k.parser ∷ []) m.parser (by m h))
  where
    by : (m : Moment) → IsAmong (k ∷ []) m → IsCovered (k.parser ∷ []) m.parser
    by m (inl h) = inl h.parser
    by m (inr h) = absurd h

pub end_next : (xs : List Receiver) (before ends : List Configuration) (i : ℕ) (x : Receiver) → i < length xs → x ≡ get_or xs i x → EndMore (take i xs) [] before
    → EndMore (x ∷ []) before ends → EndMore (take (i + 1) xs) [] ends
end_next xs before ends i x low e old new = (λ c h. absurd h, by)
  where
    by : (m : Moment) → m.rest ≡ [] → IsAmong (take (i + 1) xs) m → IsCovered ends m.parser
    by m none h =
        let P : List Receiver → Type 0 = λ ys. IsAmong ys m in
        elim (split_last (take i xs) (get_or xs i x) m (subst P (take_more xs i x low) h)) [
          | inl g ↦ new.0 m.parser (old.1 m none g)
          | inr g ↦ let Q : Receiver → Type 0 = λ y. CoversMoment y m in new.1 m none (inl (subst Q (sym e) g))
        ]

-- at the end no mark goes on, and no `>` comes
pub can_end_covered : (k : Receiver) (m : Moment) → m.rest ≡ [] → CoversMoment k m → can_end k.front k.ahead ≡ true
unfolding completes
can_end_covered k m none h =
    let P : List ℕ → Type 0 = λ x. ComesAt m.marks k.front k.ahead x in
    by m.marks k.front k.ahead (subst P none h.ahead)
  where
    plainly : (marks : Marks) (ahead : Ahead) → Comes marks ahead [] → ends_text ahead ≡ true
    plainly marks Unknown c = refl
    plainly marks Closed c = absurd (cc)
    plainly marks Unclosed c = refl
    plainly marks (Unmarked part) c = refl

    by : (marks : Marks) (front : Front) (ahead : Ahead) → ComesAt marks front ahead [] → can_end front ahead ≡ true
    by marks (Mark part) ahead c = absurd (cc)
    by marks Text ahead c = plainly marks ahead c
    by marks Literal ahead c = plainly marks ahead c

-- a receiver that may not be at the end
pub end_none : (k : Receiver) (before : List Configuration) → can_end k.front k.ahead ≡ false → EndMore (k ∷ []) before before
end_none k before never = (λ c h. h, by)
  where
    by : (m : Moment) → m.rest ≡ [] → IsAmong (k ∷ []) m → IsCovered before m.parser
    by m none (inl h) = absurd (cc (can_end_covered k m none h, never))
    by m none (inr h) = absurd h

pub end_whole : (xs : List Receiver) (ends : List Configuration) (i : ℕ) → length xs ≤ i → EndMore (take i xs) [] ends → EndMore xs [] ends
end_whole xs ends i high h = let P : List Receiver → Type 0 = λ ys. EndMore ys [] ends in subst P (take-all xs i high) h
  where
    take-all : (ys : List Receiver) (n : ℕ) → length ys ≤ n → take n ys ≡ ys
    take-all [] zero e = refl
    take-all [] (suc n) e = refl
    take-all (y ∷ ys) zero e = absurd (omega arith)
    take-all (y ∷ ys) (suc n) e = ap (λ t. y ∷ t) (take-all ys n (omega arith))

pub no_opens : (opens : List Waiting) → length opens ≡ 0 → opens ≡ []
no_opens [] e = refl
no_opens (x ∷ opens) e = absurd (omega arith)
