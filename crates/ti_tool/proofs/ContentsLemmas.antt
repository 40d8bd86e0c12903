-- What was read of a source until there is enough, or to its end.
use Rattle.std.proofs.Common.{◌≡◌, ◌∙◌, ◌⊎◌, ◌+◌, ◌<◌, ◌≤◌, ℕ, length, take, take_all, List, [], ◌++◌, inl, inr, sym, ap, arith, append-nil, length-append, refl, subst}
use Rattle.std.specs.Prelude.{Option, None, Some, Result, Ok}
use Rattle.std.specs.Io.KnownBytes.{IsAtEnd, ReadConsumes}
use Rattle.std.proofs.Math.Seq.{take-append_seam}
use Rattle.ti_tool.specs.Streams.{AreAppended, Gives, most_contents}
use Rattle.ti_tool.specs.inner.ReadsInto.{ReadsInto}
use Rattle.ti_tool.proofs.ReadsIntoLemmas.{ReadsInto-next}

first_of_all : (all bytes rest : List ℕ) → all ≡ bytes ++ rest → length bytes ≡ most_contents → bytes ≡ take most_contents all
first_of_all all bytes rest is enough = sym (ap (take most_contents) is ∙ ap (λ n. take n (bytes ++ rest)) (sym enough) ∙ take-append_seam bytes rest)

all_of : (all bytes rest : List ℕ) → all ≡ bytes ++ rest → rest ≡ [] → length bytes ≤ most_contents → bytes ≡ take most_contents all
all_of all bytes rest is none short =
    let whole : all ≡ bytes = is ∙ ap (λ r. bytes ++ r) none ∙ append-nil bytes in
    sym whole ∙ sym (take_all most_contents all (omega (arith, short, ap length whole)))

-- so many bytes are still wanted, or none is left
pub gives : (before after : Option (List ℕ)) (old new : List ℕ) (room : ℕ) → ReadsInto before after old new → length new + room ≡ length old + most_contents → (room ≡ 0) ⊎ IsAtEnd after
    → AreAppended (Gives before after) old new
gives None after old new room (bytes, took, is) count enough = (bytes, (tt, tt), is)
gives (Some all) None old new room (bytes, took, is) count enough = absurd took
gives (Some all) (Some rest) old new room (bytes, took, is) count (inl full) =
    (bytes, (first_of_all all bytes rest took (omega (arith, count, full, ap length is, length-append old bytes)), took), is)
gives (Some all) (Some rest) old new room (bytes, took, is) count (inr none) =
    (bytes, (all_of all bytes rest took none (omega (arith, count, ap length is, length-append old bytes)), took), is)

-- a read that gives nothing into a buffer with room is at the end
pub ended : {E : Type 0} (a b c : Option (List ℕ)) (old new buffer : List ℕ) (count : ℕ) (r : Result ℕ E) → r ≡ Ok count → count ≡ 0 → ReadConsumes b c r buffer → 0 < length buffer → ReadsInto a b old new
    → ReadsInto a c old new × IsAtEnd c
ended {E = E} a b c old new buffer count r is zero read room before =
    let took = subst (λ (x : Result ℕ E). ReadConsumes b c x buffer) (is ∙ ap Ok zero) read in
    (ReadsInto-next a b c old new new (take 0 buffer) before took.0 (sym (append-nil new)), took.1 refl room)
