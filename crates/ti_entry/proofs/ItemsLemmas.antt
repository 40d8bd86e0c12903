-- An entry as one list of its capabilities: which one stands at a place, and how the list goes on.
use Rattle.std.proofs.Common.{◌≡◌, ℕ, zero, suc, ◌+◌, ◌-◌, ◌*◌, ◌<◌, ◌≤◌, List, [], ◌∷◌, ◌++◌, map, length, get_or, drop, refl, sym, ap, ◌∙◌, append_assoc, subst, add-one, drop-cons, arith}
use Rattle.std.specs.List.{enumerate_from, flat_map}
use Rattle.std.proofs.lemmas.List.{append-nil, drop_all, get_or_append_left, get_or-append-add, get_or-map, length-append}
use Rattle.std.proofs.lemmas.List.FromFn.{get_or-enumerate_from, length-enumerate_from}
use Rattle.ti_base.specs.Limits.{most_entry_bytes}
use Rattle.ti_words.specs.declared.Flag.TheVariants as flags
use Rattle.ti_words.specs.declared.Kind.{Kind}
use Rattle.ti_words.specs.declared.Kind.TheVariants as kinds
use Rattle.ti_words.specs.declared.Number.TheVariants as numbers
use Rattle.ti_words.specs.declared.Width.{Width}
use Rattle.ti_words.specs.declared.Width.TheVariants as widths
use Rattle.ti_words.specs.Items.{ItemValue, Listed, StandardSubject, ExtendedSubject, FlagItem, NumberItem, TextItem, items, standard_items, extended_items}
use Rattle.ti_words.specs.Spelling.{mark_in, name_in, without_names}
use Rattle.ti_words.specs.Texts.{AbsentText}
use Rattle.ti_words.specs.Value.{EntryValue, NamedPart, PartValue}
use Rattle.ti_words.specs.Widths.{number_size}
use Rattle.ti_layout.specs.declared.part.Part.{Part}
use Rattle.ti_layout.specs.Content.{part_in}
use Rattle.ti_layout.specs.Layout.{IsWithin}
use Rattle.ti_entry.specs.Finding.{names_of}
use Rattle.ti_entry.specs.Items.{StandsAt, count_of, item_in}
use Rattle.ti_entry.proofs.NamedItemsLemmas.{part_counts}

-- ---- three lists, one after the other

in_first : {X : Type 0} (a b c : List X) (i : ℕ) (d : X) → i < length a → get_or (a ++ b ++ c) i d ≡ get_or a i d
in_first a b c i d lt = get_or_append_left (a ++ b) c d i (omega (arith, lt, length-append a b)) ∙ get_or_append_left a b d i lt

in_second : {X : Type 0} (a b c : List X) (i : ℕ) (d : X) → i < length b → get_or (a ++ b ++ c) (length a + i) d ≡ get_or b i d
in_second a b c i d lt = get_or_append_left (a ++ b) c d (length a + i) (omega (arith, lt, length-append a b)) ∙ get_or-append-add a b i d

in_third : {X : Type 0} (a b c : List X) (i : ℕ) (d : X) → get_or (a ++ b ++ c) (length a + length b + i) d ≡ get_or c i d
in_third a b c i d =
    let at : length a + length b + i ≡ length (a ++ b) + i = omega (arith, length-append a b) in
    ap (λ n. get_or (a ++ b ++ c) n d) at ∙ get_or-append-add (a ++ b) c i d

count_of_three : {X : Type 0} (a b c : List X) → length (a ++ b ++ c) ≡ length a + length b + length c
count_of_three a b c = omega (arith, length-append (a ++ b) c, length-append a b)

mapped : {X Y : Type 0} (f : X → Y) (xs : List X) → length (map f xs) ≡ length xs
mapped f [] = refl
mapped f (x ∷ xs) = ap suc (mapped f xs)

-- an item of a list, by its index
numbered : {X : Type 0} (f : ℕ × X → Listed) (xs : List X) (i : ℕ) (d : Listed) (e : X) → i < length xs → get_or (map f (enumerate_from 0 xs)) i d ≡ f (i, get_or xs i e)
numbered {X} f xs i d e lt =
    let at : 0 + i ≡ i = omega arith in
    get_or-map f (enumerate_from 0 xs) i (0, e) d (omega (arith, lt, length-enumerate_from 0 xs)) ∙ ap f (get_or-enumerate_from 0 xs i (0, e) lt)
    ∙ ap (λ k. f (k, get_or xs i e)) at

count_numbered : {X : Type 0} (f : ℕ × X → Listed) (xs : List X) → length (map f (enumerate_from 0 xs)) ≡ length xs
count_numbered f xs = mapped f (enumerate_from 0 xs) ∙ length-enumerate_from 0 xs

-- an item of a list of items with names, by its name and its mark
named : {X : Type 0} (f : List ℕ × X → Listed) (xs : List (List ℕ × X)) (i : ℕ) (d : Listed) (e : X) → i < length xs
    → get_or (map f xs) i d ≡ f (get_or (map name_in xs) i [], get_or (map mark_in xs) i e)
named f [] i d e lt = absurd (omega arith)
named f (x ∷ xs) zero d e lt = refl
named f (x ∷ xs) (suc i) d e lt = named f xs i d e (omega arith)

-- ---- which capability stands at a place

standard_at : (p : PartValue) (place : ℕ) (kind : Kind) (i : ℕ) (d : Listed) → place < count_of p → StandsAt p place kind i
    → get_or (standard_items p) place d ≡ (StandardSubject kind i, item_in p kind i)
standard_at p place kinds.Flag i d lt (is, low) =
    let f : ℕ × _ → Listed = λ at. (StandardSubject kinds.Flag at.0, FlagItem at.1) in
    ap (λ n. get_or (standard_items p) n d) is
    ∙ in_first (map f (enumerate_from 0 p.flags)) _ _ i d (omega (arith, low, count_numbered f p.flags)) ∙ numbered f p.flags i d flags.No low
standard_at p place kinds.Number i d lt (is, low) =
    let f : ℕ × _ → Listed = λ at. (StandardSubject kinds.Flag at.0, FlagItem at.1) in
    let n : ℕ × _ → Listed = λ at. (StandardSubject kinds.Number at.0, NumberItem at.1) in
    let at : place ≡ length (map f (enumerate_from 0 p.flags)) + i = omega (arith, is, count_numbered f p.flags) in
    ap (λ k. get_or (standard_items p) k d) at
    ∙ in_second (map f (enumerate_from 0 p.flags)) (map n (enumerate_from 0 p.numbers)) _ i d (omega (arith, low, count_numbered n p.numbers))
    ∙ numbered n p.numbers i d numbers.Absent low
standard_at p place kinds.Text i d lt is =
    let f : ℕ × _ → Listed = λ at. (StandardSubject kinds.Flag at.0, FlagItem at.1) in
    let n : ℕ × _ → Listed = λ at. (StandardSubject kinds.Number at.0, NumberItem at.1) in
    let t : ℕ × _ → Listed = λ at. (StandardSubject kinds.Text at.0, TextItem at.1) in
    let at : place ≡ length (map f (enumerate_from 0 p.flags)) + length (map n (enumerate_from 0 p.numbers)) + i =
    omega (arith, is, count_numbered f p.flags, count_numbered n p.numbers) in
    ap (λ k. get_or (standard_items p) k d) at
    ∙ in_third (map f (enumerate_from 0 p.flags)) (map n (enumerate_from 0 p.numbers)) (map t (enumerate_from 0 p.texts)) i d
    ∙ numbered t p.texts i d AbsentText (omega (arith, is, lt))

extended_at : (p : NamedPart) (place : ℕ) (kind : Kind) (i : ℕ) (d : Listed) → place < count_of (without_names p) → StandsAt (without_names p) place kind i
    → get_or (extended_items p) place d ≡ (ExtendedSubject kind (get_or (names_of p kind) i []), item_in (without_names p) kind i)
extended_at p place kinds.Flag i d lt (is, low) =
    let f : List ℕ × _ → Listed = λ named. (ExtendedSubject kinds.Flag named.0, FlagItem named.1) in
    let below : i < length p.flags = omega (arith, low, mapped mark_in p.flags) in
    ap (λ n. get_or (extended_items p) n d) is ∙ in_first (map f p.flags) _ _ i d (omega (arith, below, mapped f p.flags)) ∙ named f p.flags i d flags.No below
extended_at p place kinds.Number i d lt (is, low) =
    let f : List ℕ × _ → Listed = λ named. (ExtendedSubject kinds.Flag named.0, FlagItem named.1) in
    let n : List ℕ × _ → Listed = λ named. (ExtendedSubject kinds.Number named.0, NumberItem named.1) in
    let below : i < length p.numbers = omega (arith, low, mapped mark_in p.numbers) in
    let at : place ≡ length (map f p.flags) + i = omega (arith, is, mapped f p.flags, mapped mark_in p.flags) in
    ap (λ k. get_or (extended_items p) k d) at
    ∙ in_second (map f p.flags) (map n p.numbers) _ i d (omega (arith, below, mapped n p.numbers)) ∙ named n p.numbers i d numbers.Absent below
extended_at p place kinds.Text i d lt is =
    let f : List ℕ × _ → Listed = λ named. (ExtendedSubject kinds.Flag named.0, FlagItem named.1) in
    let n : List ℕ × _ → Listed = λ named. (ExtendedSubject kinds.Number named.0, NumberItem named.1) in
    let t : List ℕ × _ → Listed = λ named. (ExtendedSubject kinds.Text named.0, TextItem named.1) in
    let below : i < length p.texts = omega (arith, lt, is, mapped mark_in p.texts) in
    let at : place ≡ length (map f p.flags) + length (map n p.numbers) + i =
    omega (arith, is, mapped f p.flags, mapped mark_in p.flags, mapped n p.numbers, mapped mark_in p.numbers) in
    ap (λ k. get_or (extended_items p) k d) at ∙ in_third (map f p.flags) (map n p.numbers) (map t p.texts) i d ∙ named t p.texts i d AbsentText below

-- ---- how the list goes on

count_standard : (p : PartValue) → length (standard_items p) ≡ count_of p
count_standard p =
    let f : ℕ × _ → Listed = λ at. (StandardSubject kinds.Flag at.0, FlagItem at.1) in
    let n : ℕ × _ → Listed = λ at. (StandardSubject kinds.Number at.0, NumberItem at.1) in
    let t : ℕ × _ → Listed = λ at. (StandardSubject kinds.Text at.0, TextItem at.1) in
    omega (
      arith,
      count_of_three (map f (enumerate_from 0 p.flags)) (map n (enumerate_from 0 p.numbers)) (map t (enumerate_from 0 p.texts)),
      count_numbered f p.flags,
      count_numbered n p.numbers,
      count_numbered t p.texts,
    )

count_extended : (p : NamedPart) → length (extended_items p) ≡ count_of (without_names p)
count_extended p =
    let f : List ℕ × _ → Listed = λ named. (ExtendedSubject kinds.Flag named.0, FlagItem named.1) in
    let n : List ℕ × _ → Listed = λ named. (ExtendedSubject kinds.Number named.0, NumberItem named.1) in
    let t : List ℕ × _ → Listed = λ named. (ExtendedSubject kinds.Text named.0, TextItem named.1) in
    omega (
      arith,
      count_of_three (map f p.flags) (map n p.numbers) (map t p.texts),
      mapped f p.flags,
      mapped n p.numbers,
      mapped t p.texts,
      mapped mark_in p.flags,
      mapped mark_in p.numbers,
      mapped mark_in p.texts,
    )

goes_on : (xs : List Listed) (place : ℕ) (x : Listed) → place < length xs → ((d : Listed) → get_or xs place d ≡ x) → drop place xs ≡ x ∷ drop (place + 1) xs
goes_on xs place x lt is =
    drop-cons xs place x lt ∙ ap (λ y. y ∷ drop (suc place) xs) (is x) ∙ ap (λ k. x ∷ drop k xs) (sym (add-one place))

pub standard_next : (v : EntryValue) (part : PartValue) (now : List Listed) (place count : ℕ) (kind : Kind) (i : ℕ) (item : ItemValue) → drop place (items v) ≡ now
    → part ≡ v.standard → count ≡ count_of part → place < count → StandsAt part place kind i → item ≡ item_in part kind i
    → now ≡ (StandardSubject kind i, item) ∷ drop (place + 1) (items v)
standard_next v part now place count kind i item is of_entry counted lt at said =
    let p = v.standard in
    let own = standard_items p in
    let stands : StandsAt p place kind i = subst (λ q. StandsAt q place kind i) of_entry at in
    let low : place < length own = omega (arith, lt, counted, ap count_of of_entry, count_standard p) in
    let next = goes_on (items v) place (StandardSubject kind i, item_in p kind i) (omega (arith, low, length-append own (extended_items v.extended)))
    (λ d. get_or_append_left own (extended_items v.extended) d place low ∙ standard_at p place kind i d (omega (arith, low, count_standard p)) stands) in
    sym is ∙ next ∙ ap (λ x. (StandardSubject kind i, x) ∷ drop (place + 1) (items v)) (sym (said ∙ ap (λ q. item_in q kind i) of_entry))

pub extended_next : (v : EntryValue) (part part_without_names : PartValue) (own : NamedPart) (now : List Listed) (place count more : ℕ) (kind : Kind) (i : ℕ) (name : List ℕ) (item : ItemValue)
    → drop place (items v) ≡ now → part ≡ v.standard → count ≡ count_of part → count ≤ place → own ≡ v.extended → part_without_names ≡ without_names own → more ≡ count_of part_without_names
    → place - count < more → StandsAt part_without_names (place - count) kind i → name ≡ get_or (names_of own kind) i [] → item ≡ item_in part_without_names kind i
    → now ≡ (ExtendedSubject kind name, item) ∷ drop (place + 1) (items v)
extended_next v part part_without_names own now place count more kind i name item is of_entry counted le of_extended of_own counted_more lt at called said =
    let p = v.extended in
    let before = standard_items v.standard in
    let k = place - count in
    let same : part_without_names ≡ without_names p = of_own ∙ ap without_names of_extended in
    let stands : StandsAt (without_names p) k kind i = subst (λ q. StandsAt q k kind i) same at in
    let low : k < count_of (without_names p) = omega (arith, lt, counted_more, ap count_of same) in
    let at_place : place ≡ length before + k = omega (arith, le, counted, ap count_of of_entry, count_standard v.standard) in
    let x : Listed = (ExtendedSubject kind (get_or (names_of p kind) i []), item_in (without_names p) kind i) in
    let next = goes_on (items v) place x (omega (arith, at_place, low, length-append before (extended_items p), count_extended p))
    (λ d. ap (λ n. get_or (items v) n d) at_place ∙ get_or-append-add before (extended_items p) k d ∙ extended_at p k kind i d low stands) in
    sym is ∙ next
    ∙ ap (λ s. (ExtendedSubject kind s, item_in (without_names p) kind i) ∷ drop (place + 1) (items v)) (sym (called ∙ ap (λ q. get_or (names_of q kind) i []) of_extended))
    ∙ ap (λ y. (ExtendedSubject kind name, y) ∷ drop (place + 1) (items v)) (sym (said ∙ ap (λ q. item_in q kind i) same))

-- nothing stands at or above the counts of both parts
pub at_end : (v : EntryValue) (part part_without_names : PartValue) (own : NamedPart) (now : List Listed) (place count more : ℕ) → drop place (items v) ≡ now → part ≡ v.standard
    → count ≡ count_of part → count ≤ place → own ≡ v.extended → part_without_names ≡ without_names own → more ≡ count_of part_without_names → more ≤ place - count → now ≡ []
at_end v part part_without_names own now place count more is of_entry counted le of_extended of_own counted_more above =
    sym is ∙ drop_all place (items v) (omega (
      arith,
      le,
      above,
      counted,
      counted_more,
      ap count_of of_entry,
      ap count_of (of_own ∙ ap without_names of_extended),
      length-append (standard_items v.standard) (extended_items v.extended),
      count_standard v.standard,
      count_extended v.extended,
    ))

-- ---- how many there are

-- the capabilities of a part are no more than the bytes that it may have
pub few : (bytes : List ℕ) (p : Part) → IsWithin bytes p → count_of (part_in bytes p) ≤ most_entry_bytes
few bytes p within =
    let c = part_counts bytes p in
    omega (arith, within.0, c.of_flags, c.of_numbers, c.of_texts, at_least_one p.width p.numbers)
  where
    at_least_one : (w : Width) (n : ℕ) → n ≤ number_size w * n
    at_least_one widths.Legacy n = omega arith
    at_least_one widths.Wide n = omega arith

-- ---- what is written of a list, one capability after another

-- what is written and what is still to come make the whole, one capability further
pub flat_next : {X Y : Type 0} (f : X → List Y) (x : X) (left rest : List X) (out new whole : List Y) → left ≡ x ∷ rest → new ≡ out ++ f x → out ++ flat_map f left ≡ whole
    → new ++ flat_map f rest ≡ whole
flat_next f x left rest out new whole is n e =
    ap (λ l. l ++ flat_map f rest) n ∙ append_assoc out (f x) (flat_map f rest) ∙ sym (ap (λ l. out ++ flat_map f l) is) ∙ e

pub flat_end : {X Y : Type 0} (f : X → List Y) (left : List X) (out whole : List Y) → left ≡ [] → out ++ flat_map f left ≡ whole → out ≡ whole
flat_end f left out whole is e = sym (append-nil out) ∙ sym (ap (λ l. out ++ flat_map f l) is) ∙ e
