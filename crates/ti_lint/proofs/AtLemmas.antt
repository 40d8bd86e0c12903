-- A pass between two tokens of a capability: what it knows, and where it goes with the next token.
use Rattle.std.proofs.Common.{◌≡◌, ℕ, ◌≤◌, inl, inr, List, [], ◌∷◌, ◌++◌, length, refl, sym, ◌∙◌, ap, subst, arith, append_assoc}
use Rattle.std.specs.Prelude.{Some}
use Rattle.std.proofs.lemmas.List.{append-nil}
use Rattle.ti_base.specs.Limits.{most_open, most_values}
use Rattle.ti_cap.specs.declared.language.Token.{Token}
use Rattle.ti_cap.specs.declared.language.Token.TheVariants.{Store, Load, CondOpen, CondThen, CondElse, CondClose}
use Rattle.ti_cap.specs.declared.scan.ConditionalPart.{ConditionalPart}
use Rattle.ti_cap.specs.Tree.{tokens}
use Rattle.ti_cap.specs.declared.mode.Mode.TheVariants.{Run}
use Rattle.ti_cap.specs.Spelling.{Spells, Written}
use Rattle.ti_cap.specs.Capability.{Spot, IsWellFormed, Takes, IsFirst, whole}
use Rattle.ti_cap.proofs.WrittenLemmas.{one_cutting, written-append, written_one}
use Rattle.ti_cap.proofs.PartsLemmas.{allowed, Leads, leads-append, leads_front, begins_leads}
use Rattle.ti_cap.proofs.ClimbsLemmas.{leads_one}
use Rattle.ti_cap.proofs.NestLemmas.{levels, level_tree, levels-ge, level_after, end_level, leads_level, allowed_level}
use Rattle.ti_lint.specs.declared.pass.Pass.{Pass}
use Rattle.ti_lint.specs.inner.Facts.{IsLettered}
use Rattle.ti_lint.specs.inner.Pass.{first_pass, passed, passed_all, IsTakeable, IsAt}
use Rattle.ti_lint.proofs.ReachedLemmas.{path_low}
use Rattle.ti_lint.proofs.PassLemmas.{Knows, knows_start}
use Rattle.ti_lint.proofs.PassStepLemmas.{HasRoom, knows_step}

pub lettered_of : (k : Token) (s : List ℕ) → Spells k s → IsLettered k
lettered_of (Store v) s (inl (b, is, other, e)) = absurd (cc (is))
lettered_of (Store v) s (inr (escape, (inl a, is), e)) = (omega (arith, a.0), omega (arith, a.1))
lettered_of (Store v) s (inr (escape, (inr a, is), e)) = (omega (arith, a.0), omega (arith, a.1))
lettered_of (Load v) s (inl (b, is, other, e)) = absurd (cc (is))
lettered_of (Load v) s (inr (escape, (inl a, is), e)) = (omega (arith, a.0), omega (arith, a.1))
lettered_of (Load v) s (inr (escape, (inr a, is), e)) = (omega (arith, a.0), omega (arith, a.1))
lettered_of _ s h = tt

end-front-le : (l : ℕ) (a b : List Token) → end_level l a ≤ levels l (a ++ b)
end-front-le l [] b = levels-ge l b
end-front-le l (x ∷ a) b = omega (arith, end-front-le (level_after l x) a b)

room_by : (k : Token) (parts onto : List ConditionalPart) → allowed k parts ≡ Some onto → length onto ≤ most_open → (n : ℕ) → length parts ≡ n → HasRoom k n
room_by CondOpen parts onto e few n is = omega (arith, allowed_level CondOpen parts onto e)
room_by CondThen [] onto e few n is = absurd (cc)
room_by CondThen (p ∷ parts) onto e few n is = omega arith
room_by CondElse [] onto e few n is = absurd (cc)
room_by CondElse (p ∷ parts) onto e few n is = omega arith
room_by CondClose [] onto e few n is = absurd (cc)
room_by CondClose (p ∷ parts) onto e few n is = omega arith
room_by _ parts onto e few n is = tt

takeable_by : (k : Token) (n : ℕ) → HasRoom k n → IsLettered k → IsTakeable k n
takeable_by CondOpen n room fit = room
takeable_by CondThen n room fit = room
takeable_by CondElse n room fit = room
takeable_by CondClose n room fit = room
takeable_by k n room fit = fit

-- where a pass goes with the next token of a tree
pub record Onto (before : List Token) (k : Token) (p : Pass) : Type 0 where
  pub parts : List ConditionalPart
  pub takeable : IsTakeable k p.nesting
  pub few : p.nesting ≤ most_open
  pub knows : Knows (before ++ k ∷ []) parts (passed p k)

pub goes_onto : (bytes : List ℕ) (f : IsWellFormed bytes) (before after : List Token) (k : Token) (parts : List ConditionalPart) (p : Pass) → tokens f.tree ≡ before ++ k ∷ after
    → IsLettered k → Knows before parts p → Onto before k p
goes_onto bytes f before after k parts p spans lettered w =
    let further : tokens f.tree ≡ (before ++ k ∷ []) ++ after = spans ∙ sym (append_assoc before (k ∷ []) after) in
    let r : (ms : List ConditionalPart) × Leads [] (before ++ k ∷ []) ms = begins_leads (before ++ k ∷ []) (f.tree, after, f.writes.formed, further) in
    let l : (ns : List ConditionalPart) × Leads [] before ns × Leads ns (k ∷ []) r.0 = leads_front [] r.0 before (k ∷ []) r.1 in
    let same : l.0 ≡ parts = leads_one [] l.0 parts before l.1 w.leads in
    let stands : allowed k parts ≡ Some l.2.0 = ap (λ x. allowed k x) (sym same) ∙ l.2.1 in
    let deep : levels 0 (tokens f.tree) ≤ most_open = omega (arith, level_tree f.tree 0 f.writes.formed, f.nests) in
    let onto_few : length l.2.0 ≤ most_open = omega (arith, deep, ap (λ x. levels 0 x) further, leads_level [] l.2.0 (before ++ k ∷ []) (leads-append [] parts l.2.0 before (k ∷ []) w.leads (l.2.0, stands, refl)), end-front-le 0 (before ++ k ∷ []) after) in
    let few : length parts ≤ most_open = omega (arith, deep, ap (λ x. levels 0 x) spans, leads_level [] parts before w.leads, end-front-le 0 before (k ∷ after)) in
    let room : HasRoom k p.nesting = room_by k parts l.2.0 stands onto_few p.nesting w.count in
    record {
      parts = l.2.0;
      takeable = takeable_by k p.nesting room lettered;
      few = omega (arith, few, w.count);
      knows = knows_step before k parts l.2.0 p (record {
        old = w;
        stands = stands;
        low = λ x r. omega (arith, path_low f.tree before (k ∷ after) most_values Run x f.writes.formed spans f.heights r);
        lettered = lettered;
      }) room few;
    }

-- what a pass knows after some more tokens of the tree
knows_further : (bytes : List ℕ) (f : IsWellFormed bytes) (done todo after : List Token) (left : List ℕ) (parts : List ConditionalPart) (p : Pass) → tokens f.tree ≡ (done ++ todo) ++ after
    → Written todo left → Knows done parts p → (onto : List ConditionalPart) × Knows (done ++ todo) onto (passed_all p todo)
knows_further bytes f done [] after left parts p spans written w =
    let P : List Token → Type 0 = λ x. Knows x parts p in
    (parts, subst P (sym (append-nil done)) w)
knows_further bytes f done (k ∷ todo) after left parts p spans (s, tail, spelled, written, e) w =
    let here : tokens f.tree ≡ done ++ k ∷ (todo ++ after) = spans ∙ append_assoc done (k ∷ todo) after in
    let o : Onto done k p = goes_onto bytes f done (todo ++ after) k parts p here (lettered_of k s spelled) w in
    let same : (done ++ k ∷ []) ++ todo ≡ done ++ k ∷ todo = append_assoc done (k ∷ []) todo in
    let there : tokens f.tree ≡ ((done ++ k ∷ []) ++ todo) ++ after = spans ∙ ap (λ x. x ++ after) (sym same) in
    let r : (onto : List ConditionalPart) × Knows ((done ++ k ∷ []) ++ todo) onto (passed_all (passed p k) todo) = knows_further bytes f (done ++ k ∷ []) todo after tail o.parts (passed p k) there written o.knows in
    let P : List Token → Type 0 = λ x. Knows x r.0 (passed_all (passed p k) todo) in
    (r.0, subst P same r.1)

-- a pass at a place, with the tree and what it knows
pub record Stands (spot : Spot) (p : Pass) : Type 0 where
  pub formed : IsWellFormed (whole spot)
  pub before : List Token
  pub after : List Token
  pub parts : List ConditionalPart
  pub spans : tokens formed.tree ≡ before ++ after
  pub taken : Written before spot.taken
  pub left : Written after spot.left
  pub knows : Knows before parts p

pub stands_at : (spot : Spot) (p : Pass) → IsAt spot p → Stands spot p
stands_at spot p w =
    let spans : tokens w.formed.tree ≡ w.before ++ w.after =
    one_cutting (tokens w.formed.tree) (w.before ++ w.after) (whole spot) w.formed.writes.written (written-append w.before w.after spot.taken spot.left w.taken w.left) in
    let k : (onto : List ConditionalPart) × Knows w.before onto (passed_all first_pass w.before) = knows_further (whole spot) w.formed [] w.before w.after spot.taken [] first_pass spans w.taken knows_start in
    let P : Pass → Type 0 = λ x. Knows w.before k.0 x in
    record {
      formed = w.formed;
      before = w.before;
      after = w.after;
      parts = k.0;
      spans = spans;
      taken = w.taken;
      left = w.left;
      knows = subst P (sym w.pass) k.1;
    }

-- the token that a pass meets next
pub record Next (spot new : Spot) (k : Token) (p : Pass) (s : Stands spot p) : Type 0 where
  pub rest : List Token
  pub is : s.after ≡ k ∷ rest
  pub left : Written rest new.left
  pub lettered : IsLettered k
  pub onto : Onto s.before k p

pub next_of : (spot new : Spot) (k : Token) (p : Pass) (s : Stands spot p) → Takes k spot new → IsFirst k spot new → Next spot new k p s
next_of spot new k p s takes first =
    let n : (rest : List Token) × (s.after ≡ k ∷ rest) × Written rest new.left = first s.after s.left in
    let spans : tokens s.formed.tree ≡ s.before ++ k ∷ n.0 = s.spans ∙ ap (λ x. s.before ++ x) n.1 in
    let lettered : IsLettered k = lettered_of k takes.0 takes.1 in
    record {
      rest = n.0;
      is = n.1;
      left = n.2;
      lettered = lettered;
      onto = goes_onto (whole spot) s.formed s.before n.0 k s.parts p spans lettered s.knows;
    }

passed-snoc : (p : Pass) (ks : List Token) (k : Token) → passed_all p (ks ++ k ∷ []) ≡ passed (passed_all p ks) k
passed-snoc p [] k = refl
passed-snoc p (l ∷ ks) k = passed-snoc (passed p l) ks k

pub at_start : (bytes : List ℕ) → IsWellFormed bytes → IsAt (record { taken = []; left = bytes }) first_pass
at_start bytes f = record { formed = f; before = []; after = tokens f.tree; taken = refl; left = f.writes.written; pass = refl }

pub at_next : (spot new : Spot) (k : Token) (p : Pass) → IsAt spot p → Takes k spot new → IsFirst k spot new → IsAt new (passed p k)
at_next spot new k p w (s, spelled, left, taken) first =
    let n : (rest : List Token) × (w.after ≡ k ∷ rest) × Written rest new.left = first w.after w.left in
    let same : whole spot ≡ whole new = ap (λ x. spot.taken ++ x) left ∙ sym (append_assoc spot.taken s new.left) ∙ ap (λ x. x ++ new.left) (sym taken) in
    let P : List ℕ → Type 0 = λ x. Written (w.before ++ k ∷ []) x in
    record {
      formed = subst IsWellFormed same w.formed;
      before = w.before ++ k ∷ [];
      after = n.0;
      taken = subst P (sym taken) (written-append w.before (k ∷ []) spot.taken s w.taken (written_one k s spelled));
      left = n.2;
      pass = ap (λ x. passed x k) w.pass ∙ sym (passed-snoc first_pass w.before k);
    }

pub same_whole : (spot new : Spot) (k : Token) → Takes k spot new → whole spot ≡ whole new
same_whole spot new k (s, spelled, left, taken) = ap (λ x. spot.taken ++ x) left ∙ sym (append_assoc spot.taken s new.left) ∙ ap (λ x. x ++ new.left) (sym taken)
