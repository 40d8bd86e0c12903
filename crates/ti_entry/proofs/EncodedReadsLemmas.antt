-- Canonical bytes of an entry without a fault are read as it.
use Rattle.std.proofs.Common.{◌≡◌, ℕ, List, length, Ok, Err, sym, ap, ◌∙◌}
use Rattle.std.specs.Prelude.{Result, IfOk}
use Rattle.ti_words.specs.Value.{EntryValue}
use Rattle.ti_layout.specs.Checks.{Verdict, refusal_of}
use Rattle.ti_draft.specs.Canonical.{canonical}
use Rattle.ti_draft.specs.EncodeFaults.{IsEncodingOf}
use Rattle.ti_draft.proofs.EncodedSpellsLemmas.{canonical_spells}
use Rattle.ti_layout.specs.Content.{content}
use Rattle.ti_entry.specs.Reading.{answer_for, answer_under}
use Rattle.ti_entry.specs.Laws.{EncodedReads}
use Rattle.ti_entry.proofs.SpelledExtendedLemmas.{only}

pub encoded_reads : EncodedReads
encoded_reads v none =
    let bytes = canonical v in
    let read = only bytes v (canonical_spells v none) in
    ap (λ (r : Verdict). answer_under (refusal_of (length bytes) r) (content bytes)) read.passes ∙ ap Ok (sym read.same)

-- so is what an encoder answers, if it answers with them
pub read_of : {V E : Type 0} (r : Result V E) (bytes_of : V → List ℕ) (v : EntryValue) → IfOk r (λ w. IsEncodingOf v (bytes_of w))
    → IfOk r (λ w. answer_for (bytes_of w) ≡ Ok v)
read_of (Ok w) bytes_of v is = ap answer_for is.canonical ∙ encoded_reads v is.fit
read_of (Err e) bytes_of v is = tt
