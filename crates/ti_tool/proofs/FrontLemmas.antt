-- What is read of a source with a new reader.
use Rattle.std.proofs.Common.{◌≡◌, ◌∙◌, ℕ, [], ◌++◌, List, ap}
use Rattle.std.specs.Prelude.{Option}
use Rattle.std.specs.Io.KnownBytes.{Consumes}
use Rattle.std.proofs.KnownBytes.{Consumes-trans}
use Rattle.ti_entry.specs.Reading.{FeedsFrom, Reading, new_reading, reading_after, reading_of}
use Rattle.ti_entry.proofs.FeedLemmas.{reading_after-of}
use Rattle.ti_tool.specs.inner.Answered.{IsFed}
use Rattle.ti_tool.specs.inner.ReadsInto.{ReadsInto}
use Rattle.ti_tool.proofs.ReadsIntoLemmas.{ReadsInto-empty}

-- nothing but the front, or more after it
module _ (before mid : Option (List ℕ)) (none items first : List ℕ) (old fed : Reading) (reads : ReadsInto before mid none items) (empty : none ≡ []) (same : first ≡ items)
    (new : old ≡ new_reading) (feeds : fed ≡ reading_after old first) where
  took : Consumes before mid first
  took = ReadsInto-empty before mid none items first reads empty same

  fed_first : fed ≡ reading_of first
  fed_first = feeds ∙ ap (λ r. reading_after r first) new

  pub front_fed : IsFed before mid fed
  front_fed = (first, took, fed_first)

  pub more_fed : (after : Option (List ℕ)) (reading : Reading) → FeedsFrom mid after fed reading → IsFed before after reading
  more_fed after reading (bytes, more, next) = (
    first ++ bytes,
    Consumes-trans before mid after first bytes took more,
    next ∙ ap (λ r. reading_after r bytes) fed_first ∙ reading_after-of first bytes,
  )
