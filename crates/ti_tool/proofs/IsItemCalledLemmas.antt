-- A name means at most one capability of an entry.
use Rattle.std.proofs.Common.{◌≡◌, ℕ, List, [], ◌∷◌, ◌++◌, take, get_or, refl, sym, ap, ap₂, subst, ◌∙◌, inl, inr, arith}
use Rattle.ti_words.specs.Items.{ItemValue}
use Rattle.std.specs.Prelude.{IfNone, Option, Some, None, codes, slice_get, option_map, unwrap_or}
use Rattle.std.specs.Str.Parse.{digits_value}
use Rattle.ti_words.specs.declared.Kind.{Kind}
use Rattle.ti_words.specs.declared.Kind.TheVariants as kinds
use Rattle.ti_names.specs.AllNames.{Place}
use Rattle.ti_names.specs.declared.name_table.NameTable.{NameTable}
use Rattle.ti_words.specs.Spelling.{part_names}
use Rattle.ti_words.specs.Value.{EntryValue, NamedPart}
use Rattle.ti_entry.specs.Finding.{Lacks, names_before, names_of}
use Rattle.ti_entry.specs.declared.finding.Position.{Position}
use Rattle.ti_entry.specs.declared.finding.Position.TheVariants.{Standard, Extended}
use Rattle.ti_entry.specs.Items.{item_at}
use Rattle.ti_json.specs.Rows.{kind_word}
use Rattle.ti_tool.specs.declared.item_name.Names.{Names}
use Rattle.ti_tool.specs.declared.item_name.Names.TheVariants.{Texts, All}
use Rattle.ti_tool.specs.ItemNames.{IsItemCalled, IsKindLabel, IsPlaceCalled, IsPositionBy, IsWordLabel, named_by}
use Rattle.ti_line.specs.TextLabels.{IsLabel}
use Rattle.ti_listing.proofs.IsLeastIndexLemmas.{not_there, one_index}

-- ---- labels

one_label : (name : List ℕ) (i j : ℕ) → IsLabel name i → IsLabel name j → i ≡ j
one_label name i j (digits, is, numeral, few, value) (others, same, numerals, fews, values) =
    let joined : codes "#" ++ digits ≡ codes "#" ++ others = sym is ∙ same in
    let one : digits ≡ others = cc in
    value ∙ ap (digits_value 10) one ∙ sym values

-- the three words begin apart
one_kind : (k l : Kind) (a b : List ℕ) → kind_word k ++ a ≡ kind_word l ++ b → (k ≡ l) × (a ≡ b)
one_kind kinds.Flag kinds.Flag a b e = (refl, cc)
one_kind kinds.Number kinds.Number a b e = (refl, cc)
one_kind kinds.Text kinds.Text a b e = (refl, cc)
one_kind kinds.Flag kinds.Number a b e = let first : 102 ≡ 110 = ap (λ ws. get_or ws 0 0) e in absurd (omega (arith, first))
one_kind kinds.Flag kinds.Text a b e = let first : 102 ≡ 116 = ap (λ ws. get_or ws 0 0) e in absurd (omega (arith, first))
one_kind kinds.Number kinds.Flag a b e = let first : 110 ≡ 102 = ap (λ ws. get_or ws 0 0) e in absurd (omega (arith, first))
one_kind kinds.Number kinds.Text a b e = let first : 110 ≡ 116 = ap (λ ws. get_or ws 0 0) e in absurd (omega (arith, first))
one_kind kinds.Text kinds.Flag a b e = let first : 116 ≡ 102 = ap (λ ws. get_or ws 0 0) e in absurd (omega (arith, first))
one_kind kinds.Text kinds.Number a b e = let first : 116 ≡ 110 = ap (λ ws. get_or ws 0 0) e in absurd (omega (arith, first))

-- a label begins with `#`, and so with none of the words
no_word : (k : Kind) (label name : List ℕ) (index : ℕ) → name ≡ kind_word k ++ label → ¬ IsLabel name index
no_word kinds.Flag label name index is (digits, same, numeral, few, value) = let first : 102 ≡ 35 = ap (λ ws. get_or ws 0 0) (sym is ∙ same) in absurd (omega (arith, first))
no_word kinds.Number label name index is (digits, same, numeral, few, value) = let first : 110 ≡ 35 = ap (λ ws. get_or ws 0 0) (sym is ∙ same) in absurd (omega (arith, first))
no_word kinds.Text label name index is (digits, same, numeral, few, value) = let first : 116 ≡ 35 = ap (λ ws. get_or ws 0 0) (sym is ∙ same) in absurd (omega (arith, first))

-- no word stands before a label if what comes after the word is none
pub no_word_label : (name label : List ℕ) (k : Kind) → name ≡ kind_word k ++ label → ((index : ℕ) → ¬ IsLabel label index) → (l : Kind) (index : ℕ) → ¬ IsWordLabel name l index
no_word_label name label k is none l index (other, same, labels) =
    let one = one_kind l k other label (sym same ∙ is) in
    none index (subst (λ x. IsLabel x index) one.1 labels)

-- a name is no label if it is none as it stands, and may mean a text alone, or no word stands before one
pub no_label_of_text : (names : Names) (table : NameTable) (name : List ℕ) → names ≡ Texts table → ((index : ℕ) → ¬ IsLabel name index) → (l : Kind) (index : ℕ) → ¬ IsKindLabel names name l index
no_label_of_text names table name is none l index labels =
    let Labels : Names → Type 0 = λ n. IsKindLabel n name l index in
    let bare : (l ≡ kinds.Text) × IsLabel name index = subst Labels is labels in
    none index bare.1

pub no_label_of_any : (names : Names) (name : List ℕ) (o : Option (Kind × ℕ)) → names ≡ All → ((index : ℕ) → ¬ IsLabel name index)
    → IfNone o ((l : Kind) (index : ℕ) → ¬ IsWordLabel name l index) → IfNone o ((l : Kind) (index : ℕ) → ¬ IsKindLabel names name l index)
no_label_of_any names name (Some place) is none after = after
no_label_of_any names name None is none after = neither
  where
    of_any : (l : Kind) (index : ℕ) → ¬ IsKindLabel All name l index
    of_any l index (inl (text, labels)) = none index labels
    of_any l index (inr labels) = after l index labels

    neither : (l : Kind) (index : ℕ) → ¬ IsKindLabel names name l index
    neither l index labels = let Labels : Names → Type 0 = λ n. IsKindLabel n name l index in of_any l index (subst Labels is labels)

one_kind_label : (names : Names) (name : List ℕ) (k l : Kind) (i j : ℕ) → IsKindLabel names name k i → IsKindLabel names name l j → (k ≡ l) × (i ≡ j)
one_kind_label (Texts table) name k l i j (is, label) (same, other) = (is ∙ sym same, one_label name i j label other)
one_kind_label All name k l i j (inl (is, label)) (inl (same, other)) = (is ∙ sym same, one_label name i j label other)
one_kind_label All name k l i j (inl (is, label)) (inr (b, same, other)) = absurd (no_word l b name i same label)
one_kind_label All name k l i j (inr (a, is, label)) (inl (same, other)) = absurd (no_word k a name j is other)
one_kind_label All name k l i j (inr (a, is, label)) (inr (b, same, other)) =
    let one = one_kind k l a b (sym is ∙ same) in
    (one.0, one_label b i j (subst (λ x. IsLabel x i) one.1 label) other)

-- ---- the first of a name among the entry's own

lacks_left : (xs ys : List (List ℕ)) (name : List ℕ) → Lacks (xs ++ ys) name → Lacks xs name
lacks_left [] ys name h = tt
lacks_left (x ∷ xs) ys name h = (h.0, lacks_left xs ys name h.1)

lacks_right : (xs ys : List (List ℕ)) (name : List ℕ) → Lacks (xs ++ ys) name → Lacks ys name
lacks_right [] ys name h = h
lacks_right (x ∷ xs) ys name h = lacks_right xs ys name h.1

module _ (names : Names) (v : EntryValue) (name : List ℕ) where
  abbrev Own : NamedPart
  Own = named_by names v.extended

  abbrev Fs : List (List ℕ)
  Fs = names_of Own kinds.Flag

  abbrev Ns : List (List ℕ)
  Ns = names_of Own kinds.Number

  abbrev Ts : List (List ℕ)
  Ts = names_of Own kinds.Text

  nowhere : (k : Kind) (i : ℕ) → Lacks (part_names Own) name → slice_get (names_of Own k) i ≡ Some name → ⊥
  nowhere kinds.Flag i lacks is = not_there Fs name i (lacks_left Fs Ns name (lacks_left (Fs ++ Ns) Ts name lacks)) is
  nowhere kinds.Number i lacks is = not_there Ns name i (lacks_right Fs Ns name (lacks_left (Fs ++ Ns) Ts name lacks)) is
  nowhere kinds.Text i lacks is = not_there Ts name i (lacks_right (Fs ++ Ns) Ts name lacks) is

  abbrev IsFirst : Kind → ℕ → Type 0
  IsFirst k i = (slice_get (names_of Own k) i ≡ Some name) × Lacks (names_before Own k i) name

  one_extended : (k l : Kind) (i j : ℕ) → IsFirst k i → IsFirst l j → (k ≡ l) × (i ≡ j)
  one_extended kinds.Flag kinds.Flag i j a b = (refl, one_index Fs name i j a.0 a.1 b.0 b.1)
  one_extended kinds.Number kinds.Number i j a b = (refl, one_index Ns name i j a.0 (lacks_right Fs (take i Ns) name a.1) b.0 (lacks_right Fs (take j Ns) name b.1))
  one_extended kinds.Text kinds.Text i j a b =
      (refl, one_index Ts name i j a.0 (lacks_right (Fs ++ Ns) (take i Ts) name a.1) b.0 (lacks_right (Fs ++ Ns) (take j Ts) name b.1))
  one_extended kinds.Flag kinds.Number i j a b = absurd (not_there Fs name i (lacks_left Fs (take j Ns) name b.1) a.0)
  one_extended kinds.Flag kinds.Text i j a b = absurd (not_there Fs name i (lacks_left Fs Ns name (lacks_left (Fs ++ Ns) (take j Ts) name b.1)) a.0)
  one_extended kinds.Number kinds.Flag i j a b = absurd (not_there Fs name j (lacks_left Fs (take i Ns) name a.1) b.0)
  one_extended kinds.Number kinds.Text i j a b = absurd (not_there Ns name i (lacks_right Fs Ns name (lacks_left (Fs ++ Ns) (take j Ts) name b.1)) a.0)
  one_extended kinds.Text kinds.Flag i j a b = absurd (not_there Fs name j (lacks_left Fs Ns name (lacks_left (Fs ++ Ns) (take i Ts) name a.1)) b.0)
  one_extended kinds.Text kinds.Number i j a b = absurd (not_there Ns name j (lacks_right Fs Ns name (lacks_left (Fs ++ Ns) (take i Ts) name a.1)) b.0)

  -- ---- the place

  one_position : (a b : Option Position) → IsPositionBy names v name a → IsPositionBy names v name b → a ≡ b
  one_position None None p q = refl
  one_position None (Some (Standard k i)) p q = absurd (cc (p.0, q))
  one_position None (Some (Extended k i)) p q = absurd (nowhere k i p.1 q.1.0)
  one_position (Some (Standard k i)) None p q = absurd (cc (p, q.0))
  one_position (Some (Standard k i)) (Some (Standard l j)) p q =
      let both = sym p ∙ q in
      let kind = ap (λ (o : Option Place). (unwrap_or o (k, i)).0) both in
      let index = ap (λ (o : Option Place). (unwrap_or o (k, i)).1) both in
      ap₂ (λ x y. Some (Standard x y)) kind index
  one_position (Some (Standard k i)) (Some (Extended l j)) p q = absurd (cc (p, q.0))
  one_position (Some (Extended k i)) None p q = absurd (nowhere k i q.1 p.1.0)
  one_position (Some (Extended k i)) (Some (Standard l j)) p q = absurd (cc (p.0, q))
  one_position (Some (Extended k i)) (Some (Extended l j)) p q =
      let one = one_extended k l i j p.1 q.1 in
      ap₂ (λ x y. Some (Extended x y)) one.0 one.1

  one_place : (a b : Option Position) → IsPlaceCalled names name v a → IsPlaceCalled names name v b → a ≡ b
  one_place a b (inl (k, i, label, is)) (inl (l, j, other, same)) =
      let one = one_kind_label names name k l i j label other in
      is ∙ ap₂ (λ x y. Some (Standard x y)) one.0 one.1 ∙ sym same
  one_place a b (inl (k, i, label, is)) (inr (none, at)) = absurd (none k i label)
  one_place a b (inr (none, at)) (inl (l, j, other, same)) = absurd (none l j other)
  one_place a b (inr (none, at)) (inr (neither, there)) = one_position a b at there

  -- ---- the value

  pub one_item : (a b : Option ItemValue) → IsItemCalled names name v a → IsItemCalled names name v b → a ≡ b
  one_item a b (place, called, is) (other, again, same) = is ∙ ap (option_map (item_at v)) (one_place place other called again) ∙ sym same
