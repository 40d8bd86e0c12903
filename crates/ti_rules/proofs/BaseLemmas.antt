-- The parts of bytes that are an entry.
use Rattle.std.proofs.Common.{◌≡◌, ◌∙◌, ◌+◌, ◌<◌, ◌≤◌, ◌==◌, ◌&&◌, ℕ, zero, suc, Bool, false, not, List, Fits, None, Option, ap, arith, cond, get_or, is_none, length, nat_eq, refl, subst, sym, w8}
use Rattle.std.specs.Prelude.{nat_le}
use Rattle.ti_words.specs.Spelling.{Spells}
use Rattle.ti_words.specs.Value.{EntryValue}
use Rattle.ti_layout.specs.declared.fault.Refused.{Refused}
use Rattle.ti_layout.specs.declared.part.Part.{Part}
use Rattle.ti_layout.specs.Checks.{refusal_of}
use Rattle.ti_layout.specs.Layout.{end_of, extended_after, extended_from, no_capability, standard, IsWithin}
use Rattle.ti_layout.specs.Refusal.{refusal}
use Rattle.ti_layout.specs.Table.{base_of}
use Rattle.ti_layout.specs.Content.{extended}
use Rattle.ti_entry.specs.Reading.{base_of_names}
use Rattle.ti_entry.proofs.ReopeningLemmas.{spelled_by}
use Rattle.ti_entry.proofs.SpelledExtendedLemmas.{only}
use Rattle.ti_rules.specs.Bases.{bases_agree, bases_differ, items_after}

-- what is known of an entry that goes on after its standard part
pub record GoesOn (bytes : List ℕ) (v : EntryValue) (s : Part) : Type 0 where
  pub there : extended_from s + 10 ≤ length bytes
  pub is : extended bytes ≡ extended_after s bytes
  pub within : IsWithin bytes (extended_after s bytes)
  pub base : base_of_names v ≡ base_of bytes (extended_after s bytes)
  pub unrefused : refusal bytes ≡ None

longer : (n m : ℕ) → m < n → nat_le n m ≡ false
longer n m lt = grind arith

pub goes_on : {bytes : List ℕ} {v : EntryValue} {s : Part} {end : ℕ} → ((i : ℕ) → Fits w8 (get_or bytes i 0)) → Spells bytes v → s ≡ standard bytes → end ≡ end_of s → end < length bytes → GoesOn bytes v s
goes_on {bytes} {v} {s} {end} fits spells first end_is above = subst (GoesOn bytes v) (sym first) (go (omega (arith, above, end_is ∙ ap end_of first)))
  where
    h : Part
    h = standard bytes

    go : end_of h < length bytes → GoesOn bytes v h
    go more =
        let known = spelled_by bytes v (λ i. omega (arith, fits i)) spells in
        let is : extended bytes ≡ extended_after h bytes = ap (λ t. cond t no_capability (extended_after h bytes)) (longer (length bytes) (end_of h) more) in
        record {
          there = known.parts.follows more;
          is = is;
          within = subst (IsWithin bytes) is known.parts.second;
          base = known.base ∙ ap (base_of bytes) is;
          unrefused = ap (refusal_of (length bytes)) (only bytes v spells).passes;
        }

pub named : (bytes : List ℕ) (s x : Part) → x ≡ extended_after s bytes → x.flags + x.numbers + x.texts ≡ x.names
named bytes s x e = rw e refl

pub some_is : (n : ℕ) → (n ≡ 0 → ⊥) → nat_eq n 0 ≡ false
some_is zero some = absurd (some refl)
some_is (suc n) some = grind arith

-- what the code compares is what the definition says
pub differ_is : {bytes : List ℕ} {v : EntryValue} {s x : Part} (items n : ℕ) → GoesOn bytes v s → s ≡ standard bytes → x ≡ extended_after s bytes → items ≡ items_after s bytes → n ≡ x.names
    → not (nat_eq n 0) && not (bases_agree bytes x items) ≡ bases_differ bytes
differ_is {bytes} {v} {s} {x} items n g first after count names =
    ap (λ m. not (nat_eq m 0) && not (bases_agree bytes x items)) names
    ∙ sym (ap (λ r. told r (extended bytes) (items_after (standard bytes) bytes)) g.unrefused
    ∙ ap (λ y. told None y (items_after (standard bytes) bytes)) (g.is ∙ sym after)
    ∙ ap (told None x) (ap (λ p. items_after p bytes) (sym first) ∙ sym count))
  where
    told : Option Refused → Part → ℕ → Bool
    told r y m = is_none r && not (y.names == 0) && not (bases_agree bytes y m)
