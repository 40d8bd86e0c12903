-- Bytes beside those that are written of an entry.
use Rattle.std.proofs.Common.{◌≡◌, ◌∙◌, ◌&&◌, ◌⊎◌, inl, inr, List, ℕ, false, ap, sym}
use Rattle.std.specs.Prelude.{None, Some, is_none}
use Rattle.std.specs.Str.{bytes_eq}
use Rattle.ti_words.specs.Value.{EntryValue}
use Rattle.ti_draft.specs.declared.fault.EncodeFault.{EncodeFault}
use Rattle.ti_draft.specs.declared.fault.EncodeFault.TheVariants.{Memory}
use Rattle.ti_draft.specs.Canonical.{canonical}
use Rattle.ti_draft.specs.EncodeFaults.{encode_fault}
use Rattle.ti_rules.specs.Whole.{is_canonical}

-- what was written of an entry
pub written : (bytes out : List ℕ) (v w : EntryValue) → w ≡ v → encode_fault w ≡ None → out ≡ canonical w → bytes_eq bytes out ≡ is_canonical bytes v
written bytes out v w same fit is =
    ap (bytes_eq bytes) (is ∙ ap canonical same)
    ∙ sym (ap (λ f. is_none f && bytes_eq bytes (canonical v)) (ap encode_fault (sym same) ∙ fit))

-- nothing is written of one with a fault
pub unwritten : (bytes : List ℕ) (v w : EntryValue) (fault : EncodeFault) → w ≡ v → (fault ≡ Memory → ⊥)
    → (encode_fault w ≡ Some fault) ⊎ ((encode_fault w ≡ None) × (fault ≡ Memory)) → false ≡ is_canonical bytes v
unwritten bytes v w fault same other (inl some) =
    sym (ap (λ f. is_none f && bytes_eq bytes (canonical v)) (ap encode_fault (sym same) ∙ some))
unwritten bytes v w fault same other (inr (none, memory)) = absurd (other memory)
