-- A draft that grows by the capabilities of an entry is the entry.
use Rattle.std.proofs.Common.{◌≡◌, ℕ, ◌+◌, List, [], ◌∷◌, ◌++◌, map, sym, ap, ◌∙◌, append_assoc}
use Rattle.std.specs.List.{enumerate_from, fold}
use Rattle.std.proofs.lemmas.Grind.{fold-append}
use Rattle.std.proofs.lemmas.List.{append-nil}
use Rattle.ti_words.specs.declared.Flag.{Flag}
use Rattle.ti_words.specs.declared.Kind.TheVariants as kinds
use Rattle.ti_words.specs.declared.Number.{Number}
use Rattle.ti_words.specs.Items.{ExtendedSubject, FlagItem, Listed, NumberItem, StandardSubject, TextItem, extended_items, items, standard_items}
use Rattle.ti_words.specs.Texts.{TextValue}
use Rattle.ti_words.specs.Value.{EntryValue, NamedPart, PartValue, bare}
use Rattle.ti_draft.specs.Additions.{with_flags, with_numbers, with_extended_flags, with_extended_numbers, with_extended_texts, with_texts}
use Rattle.ti_entry.specs.Drafts.{with_item}

-- ---- those of a kind

flags_added : (v : EntryValue) (n : ℕ) (xs : List Flag) → fold with_item v (map (λ at. (StandardSubject kinds.Flag at.0, FlagItem at.1)) (enumerate_from n xs)) ≡ with_flags v xs
flags_added v n [] = ap (λ l. record v { standard = record v.standard { flags = l } }) (sym (append-nil v.standard.flags))
flags_added v n (x ∷ xs) = flags_added (with_flags v (x ∷ [])) (n + 1) xs ∙ ap (λ l. record v { standard = record v.standard { flags = l } }) (append_assoc v.standard.flags (x ∷ []) xs)

numbers_added : (v : EntryValue) (n : ℕ) (xs : List Number) → fold with_item v (map (λ at. (StandardSubject kinds.Number at.0, NumberItem at.1)) (enumerate_from n xs)) ≡ with_numbers v xs
numbers_added v n [] = ap (λ l. record v { standard = record v.standard { numbers = l } }) (sym (append-nil v.standard.numbers))
numbers_added v n (x ∷ xs) = numbers_added (with_numbers v (x ∷ [])) (n + 1) xs ∙ ap (λ l. record v { standard = record v.standard { numbers = l } }) (append_assoc v.standard.numbers (x ∷ []) xs)

texts_added : (v : EntryValue) (n : ℕ) (xs : List TextValue) → fold with_item v (map (λ at. (StandardSubject kinds.Text at.0, TextItem at.1)) (enumerate_from n xs)) ≡ with_texts v xs
texts_added v n [] = ap (λ l. record v { standard = record v.standard { texts = l } }) (sym (append-nil v.standard.texts))
texts_added v n (x ∷ xs) = texts_added (with_texts v (x ∷ [])) (n + 1) xs ∙ ap (λ l. record v { standard = record v.standard { texts = l } }) (append_assoc v.standard.texts (x ∷ []) xs)

extended_flags_added : (v : EntryValue) (xs : List (List ℕ × Flag)) → fold with_item v (map (λ named. (ExtendedSubject kinds.Flag named.0, FlagItem named.1)) xs) ≡ with_extended_flags v xs
extended_flags_added v [] = ap (λ l. record v { extended = record v.extended { flags = l } }) (sym (append-nil v.extended.flags))
extended_flags_added v (x ∷ xs) = extended_flags_added (with_extended_flags v (x ∷ [])) xs ∙ ap (λ l. record v { extended = record v.extended { flags = l } }) (append_assoc v.extended.flags (x ∷ []) xs)

extended_numbers_added : (v : EntryValue) (xs : List (List ℕ × Number)) → fold with_item v (map (λ named. (ExtendedSubject kinds.Number named.0, NumberItem named.1)) xs) ≡ with_extended_numbers v xs
extended_numbers_added v [] = ap (λ l. record v { extended = record v.extended { numbers = l } }) (sym (append-nil v.extended.numbers))
extended_numbers_added v (x ∷ xs) = extended_numbers_added (with_extended_numbers v (x ∷ [])) xs ∙ ap (λ l. record v { extended = record v.extended { numbers = l } }) (append_assoc v.extended.numbers (x ∷ []) xs)

extended_texts_added : (v : EntryValue) (xs : List (List ℕ × TextValue)) → fold with_item v (map (λ named. (ExtendedSubject kinds.Text named.0, TextItem named.1)) xs) ≡ with_extended_texts v xs
extended_texts_added v [] = ap (λ l. record v { extended = record v.extended { texts = l } }) (sym (append-nil v.extended.texts))
extended_texts_added v (x ∷ xs) = extended_texts_added (with_extended_texts v (x ∷ [])) xs ∙ ap (λ l. record v { extended = record v.extended { texts = l } }) (append_assoc v.extended.texts (x ∷ []) xs)

-- ---- all of them

three : (v : EntryValue) (a b c : List Listed) → fold with_item v (a ++ b ++ c) ≡ fold with_item (fold with_item (fold with_item v a) b) c
three v a b c = fold-append with_item v (a ++ b) c ∙ ap (λ w. fold with_item w c) (fold-append with_item v a b)

standard_added : (v : EntryValue) (p : PartValue) → fold with_item v (standard_items p) ≡ with_texts (with_numbers (with_flags v p.flags) p.numbers) p.texts
standard_added v p =
    three v (map (λ at. (StandardSubject kinds.Flag at.0, FlagItem at.1)) (enumerate_from 0 p.flags)) (map (λ at. (StandardSubject kinds.Number at.0, NumberItem at.1)) (enumerate_from 0 p.numbers))
    (map (λ at. (StandardSubject kinds.Text at.0, TextItem at.1)) (enumerate_from 0 p.texts))
    ∙ ap (λ w. fold with_item (fold with_item w (map (λ at. (StandardSubject kinds.Number at.0, NumberItem at.1)) (enumerate_from 0 p.numbers))) (map (λ at. (StandardSubject kinds.Text at.0, TextItem at.1)) (enumerate_from 0 p.texts)))
    (flags_added v 0 p.flags)
    ∙ ap (λ w. fold with_item w (map (λ at. (StandardSubject kinds.Text at.0, TextItem at.1)) (enumerate_from 0 p.texts))) (numbers_added (with_flags v p.flags) 0 p.numbers)
    ∙ texts_added (with_numbers (with_flags v p.flags) p.numbers) 0 p.texts

extended_added : (v : EntryValue) (p : NamedPart) → fold with_item v (extended_items p) ≡ with_extended_texts (with_extended_numbers (with_extended_flags v p.flags) p.numbers) p.texts
extended_added v p =
    three v (map (λ named. (ExtendedSubject kinds.Flag named.0, FlagItem named.1)) p.flags) (map (λ named. (ExtendedSubject kinds.Number named.0, NumberItem named.1)) p.numbers)
    (map (λ named. (ExtendedSubject kinds.Text named.0, TextItem named.1)) p.texts)
    ∙ ap (λ w. fold with_item (fold with_item w (map (λ named. (ExtendedSubject kinds.Number named.0, NumberItem named.1)) p.numbers)) (map (λ named. (ExtendedSubject kinds.Text named.0, TextItem named.1)) p.texts))
    (extended_flags_added v p.flags)
    ∙ ap (λ w. fold with_item w (map (λ named. (ExtendedSubject kinds.Text named.0, TextItem named.1)) p.texts)) (extended_numbers_added (with_extended_flags v p.flags) p.numbers)
    ∙ extended_texts_added (with_extended_numbers (with_extended_flags v p.flags) p.numbers) p.texts

pub all_added : (v : EntryValue) → fold with_item (bare v.width v.names) (items v) ≡ v
all_added v =
    fold-append with_item (bare v.width v.names) (standard_items v.standard) (extended_items v.extended)
    ∙ ap (λ w. fold with_item w (extended_items v.extended)) (standard_added (bare v.width v.names) v.standard)
    ∙ extended_added (with_texts (with_numbers (with_flags (bare v.width v.names) v.standard.flags) v.standard.numbers) v.standard.texts) v.extended

-- an entry with names and nothing else has no capability
pub none_added : (v : EntryValue) → v ≡ bare v.width v.names → items v ≡ []
none_added v is = ap items is
