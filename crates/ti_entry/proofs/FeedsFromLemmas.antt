-- What a source lost and a reader was fed.
use Rattle.std.proofs.Common.{◌≡◌, ℕ, List, [], ◌++◌, take, sym, ap, subst, ◌∙◌, append-nil}
use Rattle.std.specs.Prelude.{Option, Some, None}
use Rattle.std.specs.Io.KnownBytes.{Consumes}
use Rattle.std.proofs.KnownBytes.{Consumes-trans, Consumes-nil}
use Rattle.ti_layout.specs.declared.fault.Refused.{Refused}
use Rattle.ti_layout.specs.Refusal.{failure}
use Rattle.ti_entry.specs.Reading.{Reading, new_reading, reading_after, FeedsFrom}
use Rattle.ti_entry.proofs.FeedLemmas.{reading_of-passed, reading_after-append, reading_after-nothing, reading_after-refused}

pub FeedsFrom-nil : (a : Option (List ℕ)) (r : Reading) → r.refusal ≡ None → failure r.kept ≡ None → FeedsFrom a a r r
FeedsFrom-nil a r none passes = ([], Consumes-nil a, reading_after-nothing r none passes)

-- after a refusal nothing is read
pub FeedsFrom-refused : (a : Option (List ℕ)) (r : Reading) (refused : Refused) → r.refusal ≡ Some refused → FeedsFrom a a r r
FeedsFrom-refused a r refused e = ([], Consumes-nil a, sym (reading_after-refused r [] refused e))

-- a read that gave no byte, and one that failed
pub FeedsFrom-end : (a b c : Option (List ℕ)) (old mid : Reading) (n : ℕ) (buf : List ℕ) → n ≡ 0 → FeedsFrom a b old mid → Consumes b c (take n buf) → FeedsFrom a c old mid
FeedsFrom-end a b c old mid n buf e before took =
    let (bytes, taken, is_fed) = before in
    let none : Consumes b c [] = subst (λ k. Consumes b c (take k buf)) e took in
    (bytes, subst (Consumes a c) (append-nil bytes) (Consumes-trans a b c bytes [] taken none), is_fed)

pub FeedsFrom-next : (a b c : Option (List ℕ)) (old mid new : Reading) (piece : List ℕ) → old.refusal ≡ None
    → FeedsFrom a b old mid → Consumes b c piece → new ≡ reading_after mid piece → FeedsFrom a c old new
FeedsFrom-next a b c old mid new piece first before took e =
    let (bytes, taken, is_fed) = before in
    (bytes ++ piece, Consumes-trans a b c bytes piece taken took, e ∙ ap (λ r. reading_after r piece) is_fed ∙ reading_after-append old bytes piece first)

-- ---- for callers that read from a source with a new reader

-- if no piece was refused, all that the source lost is kept
pub FeedsFrom-whole : (a b : Option (List ℕ)) (new : Reading) → FeedsFrom a b new_reading new → new.refusal ≡ None → Consumes a b new.kept
FeedsFrom-whole a b new h none =
    let (bytes, taken, is_fed) = h in
    let kept : new.kept ≡ bytes = ap (λ r. r.kept) (is_fed ∙ reading_of-passed bytes (sym (ap (λ r. r.refusal) is_fed) ∙ none)) in
    subst (Consumes a b) (sym kept) taken
