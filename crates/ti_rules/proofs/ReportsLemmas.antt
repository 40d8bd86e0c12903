-- Lines that are written one item after another.
use Rattle.std.proofs.Common.{◌≡◌, ◌∙◌, ◌+◌, ◌<◌, ◌≤◌, ℕ, suc, List, [], ◌∷◌, ◌++◌, length, drop, get_or, map, refl, sym, ap, ap₂, arith, false, subst, append_assoc, add-one, drop-cons}
use Rattle.std.proofs.lemmas.List.{append-nil, drop_all, get_or-map, length-map}
use Rattle.ti_names.specs.declared.class.Class.TheVariants.{Parameterized}
use Rattle.ti_rules.specs.declared.remark.NamedText.{NamedText}
use Rattle.ti_rules.specs.declared.subject.KnownText.{KnownText}
use Rattle.ti_rules.specs.Lines.{Adds, AreAll, AreReports}

-- what was written so far goes on to lines of the whole, whatever is told of the items from an index on
pub record GoesOn {X Y : Type 0} (L : ℕ → X → List Y → Type 0) (xs : List X) (before : List Y) (i : ℕ) (out : List Y) : Type 0 where
  pub goes : (more : List Y) → AreReports L i (drop i xs) more → (lines : List Y) × AreReports L 0 xs lines × (out ++ more ≡ before ++ lines)

pub goes_first : {X Y : Type 0} (L : ℕ → X → List Y → Type 0) (xs : List X) (out : List Y) → GoesOn L xs out 0 out
goes_first L xs out = record { goes = λ more h. (more, h, refl) }

pub goes_next : {X Y : Type 0} (L : ℕ → X → List Y → Type 0) (xs : List X) (i : ℕ) (d : X) (before out new : List Y) → i < length xs
    → GoesOn L xs before i out → (line : List Y) × L i (get_or xs i d) line × (new ≡ out ++ line) → GoesOn L xs before (i + 1) new
goes_next L xs i d before out new h g (line, is, n) = record {
  goes = λ more later.
      let P : ℕ → Type 0 = λ k. AreReports L k (drop k xs) more in
      let Q : List _ → Type 0 = λ l. AreReports L i l (line ++ more) in
      let front : AreReports L i (get_or xs i d ∷ drop (suc i) xs) (line ++ more) = (line, more, is, subst P (add-one i) later, refl) in
      let (lines, are, e) = g.goes (line ++ more) (subst Q (sym (drop-cons xs i d h)) front) in
      (lines, are, ap (λ l. l ++ more) n ∙ append_assoc out line more ∙ e);
}

pub goes_end : {X Y : Type 0} (L : ℕ → X → List Y → Type 0) (xs : List X) (i : ℕ) (before out : List Y) → length xs ≤ i
    → GoesOn L xs before i out → (lines : List Y) × AreReports L 0 xs lines × (out ≡ before ++ lines)
goes_end L xs i before out h g =
    let P : List _ → Type 0 = λ l. AreReports L i l [] in
    let (lines, are, e) = g.goes [] (subst P (sym (drop_all i xs h)) refl) in
    (lines, are, sym (append-nil out) ∙ e)

-- ---- the same of a slice, by what its items hold

-- a text for which there is none
abbrev pub no_text : KnownText
no_text = record {
  subject = record { name = record { ref_ptr = (0, 0); now = [] }; text = record { ref_ptr = (0, 0); now = [] } };
  class = Parameterized 0;
  standard = false;
}

-- one of which nothing is known
abbrev pub no_unknown : NamedText
no_unknown = no_text.subject

-- what was written so far goes on to lines of all, whatever is told of those that are left
pub record GoesOnWith {X Y : Type 0} (L : X → List Y → Type 0) (all left : List X) (before out : List Y) : Type 0 where
  pub goes : (more : List Y) → AreAll L left more → (lines : List Y) × AreAll L all lines × (out ++ more ≡ before ++ lines)

pub all_first : {X Y : Type 0} (L : X → List Y → Type 0) (all : List X) (out : List Y) → GoesOnWith L all all out out
all_first L all out = record { goes = λ more h. (more, h, refl) }

all_next : {X Y : Type 0} (L : X → List Y → Type 0) (all left rest : List X) (x : X) (before out new : List Y) → left ≡ x ∷ rest
    → GoesOnWith L all left before out → Adds (L x) out new → GoesOnWith L all rest before new
all_next L all left rest x before out new is g (line, told, n) = record {
  goes = λ more later.
      let front : AreAll L (x ∷ rest) (line ++ more) = (line, more, told, later, refl) in
      let (lines, are, e) = g.goes (line ++ more) (subst (λ l. AreAll L l (line ++ more)) (sym is) front) in
      (lines, are, ap (λ l. l ++ more) n ∙ append_assoc out line more ∙ e);
}

-- the next of a slice
pub all_more : {X Y : Type 0} (L : X → List Y → Type 0) (items : List X) (i : ℕ) (x : X) (before out new : List Y) → i < length items → x ≡ get_or items i x
    → GoesOnWith L items (drop i items) before out → Adds (L x) out new → GoesOnWith L items (drop (i + 1) items) before new
all_more L items i x before out new within is g told =
    all_next L items (drop i items) (drop (i + 1) items) x before out new (drop-cons items i x within ∙ ap₂ (λ y k. y ∷ drop k items) (sym is) (sym (add-one i))) g told

pub all_done : {X Y : Type 0} (L : X → List Y → Type 0) (items : List X) (i : ℕ) (before out : List Y) → length items ≤ i
    → GoesOnWith L items (drop i items) before out → Adds (AreAll L items) before out
all_done L items i before out h g =
    let (lines, are, e) = g.goes [] (subst (λ l. AreAll L l []) (sym (drop_all i items h)) refl) in
    (lines, are, sym (append-nil out) ∙ e)

-- the next item, by what it holds
pub one_more : {X Z : Type 0} (hold : Z → X) (items : List Z) (i : ℕ) (d : Z) → i < length items → drop i (map hold items) ≡ hold (get_or items i d) ∷ drop (i + 1) (map hold items)
one_more hold items i d within =
    let all = map hold items in
    drop-cons all i (hold d) (omega (arith, within, length-map items hold))
    ∙ ap₂ (λ y k. y ∷ drop k all) (get_or-map hold items i d (hold d) within) (sym (add-one i))

pub all_step : {X Y Z : Type 0} (L : X → List Y → Type 0) (hold : Z → X) (items : List Z) (i : ℕ) (d : Z) (before out new : List Y) → i < length items
    → GoesOnWith L (map hold items) (drop i (map hold items)) before out → Adds (L (hold (get_or items i d))) out new
    → GoesOnWith L (map hold items) (drop (i + 1) (map hold items)) before new
all_step L hold items i d before out new within g told =
    let all = map hold items in
    all_next L all (drop i all) (drop (i + 1) all) (hold (get_or items i d)) before out new (one_more hold items i d within) g told

pub all_end : {X Y Z : Type 0} (L : X → List Y → Type 0) (hold : Z → X) (items : List Z) (i : ℕ) (before out : List Y) → length items ≤ i
    → GoesOnWith L (map hold items) (drop i (map hold items)) before out → Adds (AreAll L (map hold items)) before out
all_end L hold items i before out h g =
    let all = map hold items in
    let none : drop i all ≡ [] = drop_all i all (omega (arith, h, length-map items hold)) in
    let (lines, are, e) = g.goes [] (subst (λ l. AreAll L l []) (sym none) refl) in
    (lines, are, sym (append-nil out) ∙ e)
