-- A call has one first fault.
use Rattle.std.proofs.Common.{◌≡◌, ◌∙◌, ℕ, List, Option, None, Some, length, Result, Ok, Err, ap, sym}
use Rattle.ti_cap.specs.declared.language.CapRefused.{CapRefused}
use Rattle.ti_cap.specs.Refusal.{IsFaultless}
use Rattle.ti_cap.proofs.IsRefusalLemmas.{never_refused}
use Rattle.ti_cap.proofs.OneRefusalLemmas.{one_refusal}
use Rattle.ti_layout.specs.Content.{content}
use Rattle.ti_entry.specs.Reading.{answer_for, answer_under}
use Rattle.ti_expand.specs.declared.fault.BytesFault.{BytesFault}
use Rattle.ti_expand.specs.declared.fault.BytesFault.TheVariants.{Refused as RefusedBytes, Failed}
use Rattle.ti_expand.specs.declared.fault.ExpandFault.TheVariants.{TextTooLong, StackTooSmall, OutTooSmall, Memory}
use Rattle.ti_layout.specs.declared.fault.Refused.{Refused}
use Rattle.ti_layout.specs.Refusal.{refusal}
use Rattle.ti_words.specs.Spelling.{Spells}
use Rattle.ti_words.specs.Value.{EntryValue}
use Rattle.ti_layout.specs.Checks.{refusal_of}
use Rattle.ti_entry.proofs.SpelledExtendedLemmas.{only}
use Rattle.ti_c.specs.Entries.{IsEntryRefusedAs}
use Rattle.ti_c.specs.Numbers.{capability_number, entry_number}
use Rattle.ti_c.specs.Given.{IsRefusedAs, IsToldAs}

-- ---- entries

one_some : (o : Option Refused) (r s : Refused) → o ≡ Some r → o ≡ Some s → r ≡ s
one_some o r s one other = cc

-- bytes that are no entry have one refusal
pub one_entry_refused : (bytes : List ℕ) (r : Refused) (n m q : ℕ) → refusal bytes ≡ Some r → n ≡ entry_number r.fault
    → IsEntryRefusedAs bytes m q → (n ≡ m) × (r.place ≡ q)
one_entry_refused bytes r n m q one n_is (fault, m_is, other) =
    let same = one_some (refusal bytes) r (record { fault = fault; place = q }) one other in
    (n_is ∙ ap (λ (x : Refused). entry_number x.fault) same ∙ sym m_is, ap (λ (x : Refused). x.place) same)

not_both : (v : EntryValue) (r : Refused) (o : Result EntryValue Refused) → Ok v ≡ o → o ≡ Err r → ⊥
not_both v r o one other = cc

-- bytes that are read have none
pub none_entry_refused : (bytes : List ℕ) (v : EntryValue) (m q : ℕ) → Ok v ≡ answer_for bytes → ¬ IsEntryRefusedAs bytes m q
none_entry_refused bytes v m q read (fault, m_is, refused) =
    not_both v (record { fault = fault; place = q }) (answer_for bytes) read
    (ap (λ (o : Option Refused). answer_under o (content bytes)) refused)

-- bytes that spell an entry have none
pub none_spelled_refused : (bytes : List ℕ) (v : EntryValue) (m q : ℕ) → Spells bytes v → ¬ IsEntryRefusedAs bytes m q
none_spelled_refused bytes v m q spelled (fault, m_is, refused) =
    let none : refusal bytes ≡ None = ap (refusal_of (length bytes)) (only bytes v spelled).passes in
    none_is_none (refusal bytes) (record { fault = fault; place = q }) none refused
  where
    none_is_none : (o : Option Refused) (r : Refused) → o ≡ None → o ≡ Some r → ⊥
    none_is_none o r none some = cc

-- ---- capabilities and expansions

-- bytes have one refusal
pub one_refused : (bytes : List ℕ) (n p m q : ℕ) → IsRefusedAs bytes n p → IsRefusedAs bytes m q → (n ≡ m) × (p ≡ q)
one_refused bytes n p m q (f, n_is, one) (g, m_is, other) =
    let same = one_refusal (record { fault = f; place = p }) (record { fault = g; place = q }) bytes one other in
    (n_is ∙ ap (λ (r : CapRefused). capability_number r.fault) same ∙ sym m_is, ap (λ (r : CapRefused). r.place) same)

-- bytes with no fault have none
pub none_refused_as : (bytes : List ℕ) (number place : ℕ) → IsFaultless bytes → ¬ IsRefusedAs bytes number place
none_refused_as bytes number place sound (fault, is, refused) = never_refused bytes (record { fault = fault; place = place }) sound refused

-- a fault has one number and one place
pub told_once : (fault : BytesFault) (n p m q : ℕ) → IsToldAs fault n p → IsToldAs fault m q → (n ≡ m) × (p ≡ q)
told_once (RefusedBytes r) n p m q (one, at) (other, beside) = (one ∙ sym other, at ∙ sym beside)
told_once (Failed (TextTooLong k)) n p m q (one, at) (other, beside) = (one ∙ sym other, at ∙ sym beside)
told_once (Failed (OutTooSmall need)) n p m q (one, at) (other, beside) = (one ∙ sym other, at ∙ sym beside)
told_once (Failed (StackTooSmall need)) n p m q told other = absurd told
told_once (Failed Memory) n p m q told other = absurd told
