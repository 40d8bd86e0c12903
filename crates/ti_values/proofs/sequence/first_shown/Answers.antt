use Rattle.std.proofs.Common.{◌<◌, List, ℕ, length, Option, Some, None, subst, sym}
use Rattle.ti_values.specs.Findings.{IsFirstOf, IsShownAt, sent_at}
use Rattle.ti_values.specs.Sent.{texts_of}
use Rattle.ti_values.specs.Sequences.{HasRendition, HasShown}
use Rattle.ti_values.proofs.sequence.first_shown.Goals as goal

with_rendition : (all : List (List ℕ)) (found : Option ℕ) → HasRendition (sent_at all 0)
    → IsFirstOf (λ k. (k < length all) × HasShown (sent_at all k)) found → IsFirstOf (IsShownAt all) found
with_rendition all None has none = λ k at. none k (at.0, at.2)
with_rendition all (Some k) has is = ((is.0.0, has, is.0.1), λ earlier low at. is.1 earlier low (at.0, at.2))

pub returns-then-not-has_rendition : goal.returns-then-not-has_rendition
returns-then-not-has_rendition g c =
    let P : List ℕ → Type 0 = λ bytes. HasRendition bytes in
    record { exact = λ k at. cc (c.has_rendition.ensures.exact.1 (subst P (sym c.sent_at.ensures.exact) at.1), c.if-not-has_rendition.true) }

pub returns : goal.returns
returns g c =
    let P : List ℕ → Type 0 = λ bytes. HasRendition bytes in
    record { exact = with_rendition (texts_of c.args.sent.now) c.find_shown.result (subst P c.sent_at.ensures.exact (c.has_rendition.ensures.exact.0 c.if-not-has_rendition.false)) c.find_shown.ensures }
