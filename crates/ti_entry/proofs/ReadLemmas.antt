-- What a read returns: of bytes that end early, on which a check has failed, and that are an entry.
use Rattle.std.proofs.Common.{◌≡◌, ℕ, List, length, true, false, Some, Ok, Err, sym, ap, ◌∙◌}
use Rattle.ti_layout.specs.declared.fault.Fault.TheVariants.{Truncated}
use Rattle.ti_layout.specs.declared.fault.Refused.{Refused}
use Rattle.ti_layout.specs.Checks.{Ends, verdict, refusal_at, refusal_of}
use Rattle.ti_layout.specs.Refusal.{checks, refusal, failure}
use Rattle.ti_layout.specs.Content.{content}
use Rattle.ti_layout.proofs.WordLemmas.{IsBytes}
use Rattle.ti_entry.specs.Reading.{IsReadOf, answer_under}
use Rattle.ti_entry.proofs.FeedLemmas.{failure_refuses}
use Rattle.ti_entry.proofs.FoundExtendedLemmas.{found}
use Rattle.ti_entry.proofs.SpelledExtendedLemmas.{only, spelled_passes}

pub ends_early : (bytes : List ℕ) → verdict (length bytes) (checks bytes) ≡ Ends false → IsReadOf bytes (Err (refusal_at Truncated (length bytes)))
ends_early bytes ends =
    let is : refusal bytes ≡ Some (refusal_at Truncated (length bytes)) = ap (refusal_of (length bytes)) ends in
    record {
      found = tt;
      only = λ v s. let never : Ends true ≡ Ends false = sym (only bytes v s).passes ∙ ends in absurd (cc);
      refused = is;
      answer = ap (λ r. answer_under r (content bytes)) (sym is);
    }

pub has_failed : (bytes : List ℕ) (refused : Refused) → failure bytes ≡ Some refused → IsReadOf bytes (Err refused)
has_failed bytes refused fails =
    let is = failure_refuses bytes refused fails in
    record {
      found = tt;
      only = λ v s. let never = sym (spelled_passes bytes v s) ∙ fails in absurd (cc);
      refused = is;
      answer = ap (λ r. answer_under r (content bytes)) (sym is);
    }

pub is_entry : (bytes : List ℕ) → IsBytes bytes → verdict (length bytes) (checks bytes) ≡ Ends true → IsReadOf bytes (Ok (content bytes))
is_entry bytes fits ends = record {
  found = found bytes fits ends;
  only = λ v s. sym (only bytes v s).same;
  refused = tt;
  answer = sym (ap (λ v. answer_under (refusal_of (length bytes) v) (content bytes)) ends);
}
