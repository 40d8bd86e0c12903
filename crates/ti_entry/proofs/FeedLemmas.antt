-- Pieces that are fed one after another.
use Rattle.std.proofs.Common.{◌≡◌, ℕ, zero, suc, ◌+◌, ◌≤◌, Bool, true, false, cond, List, [], ◌∷◌, ◌++◌, length, take, refl, sym, ap, ◌∙◌, arith, length-append, append_assoc, append-nil}
use Rattle.std.specs.Prelude.{Option, Some, None, Ok, Err, Result, is_some}
use Rattle.std.specs.List.{concat, fold}
use Rattle.std.proofs.Math.Seq.{take-append-add}
use Rattle.std.proofs.lemmas.List.{take-append-le, take_all}
use Rattle.ti_layout.specs.declared.fault.Refused.{Refused}
use Rattle.ti_layout.specs.Checks.{Verdict, Passes, Ends, Fails, verdict, refusal_of, failure_of}
use Rattle.ti_layout.specs.Refusal.{checks, failure}
use Rattle.ti_entry.specs.Reading.{Reading, length_before_failure, front_before_failure, reading_of, reading_after, final_answer, answer_under, answer_for}
use Rattle.ti_layout.specs.Content.{content}
use Rattle.ti_entry.specs.Laws.{FailureLasts, FailureRefuses, AnyCutting, AnyCuttingReadsAlike}
use Rattle.ti_layout.proofs.FailureLastsLemmas.{failure_stays}

-- ---- failures

has_failed : (v : Verdict) (r : Refused) → failure_of v ≡ Some r → v ≡ Fails r
has_failed Passes r h = absurd cc
has_failed (Ends may_end) r h = absurd cc
has_failed (Fails q) r h = let e : q ≡ r = cc in ap Fails e

pub failure_lasts : FailureLasts
failure_lasts xs ys r h = ap failure_of (failure_stays xs ys r (has_failed (verdict (length xs) (checks xs)) r h))

refuses : (len : ℕ) (v : Verdict) (r : Refused) → failure_of v ≡ Some r → refusal_of len v ≡ Some r
refuses len Passes r h = absurd cc
refuses len (Ends may_end) r h = absurd cc
refuses len (Fails q) r h = h

pub failure_refuses : FailureRefuses
failure_refuses bytes r h = refuses (length bytes) (verdict (length bytes) (checks bytes)) r h

-- ---- the longest front on which no check has failed

-- the front of one byte more, if a check fails on it and if none does
one_less : (bytes : List ℕ) (n : ℕ) (r : Refused) → failure (take (suc n) bytes) ≡ Some r → length_before_failure bytes (suc n) ≡ length_before_failure bytes n
one_less bytes n r some = ap (λ (o : Option Refused). cond (is_some o) (length_before_failure bytes n) (suc n)) some

all_of_it : (bytes : List ℕ) (n : ℕ) → failure (take n bytes) ≡ None → length_before_failure bytes n ≡ n
all_of_it bytes zero none = refl
all_of_it bytes (suc n) none = ap (λ (o : Option Refused). cond (is_some o) (length_before_failure bytes n) (suc n)) none

-- what is kept if the last byte is the first with which a check fails
pub front_before_failure-last : (kept : List ℕ) (b : ℕ) (r : Refused) → failure kept ≡ None → failure (kept ++ b ∷ []) ≡ Some r → front_before_failure (kept ++ b ∷ []) ≡ kept
unfolding front_before_failure
front_before_failure-last kept b r none some =
    let bytes = kept ++ b ∷ [] in
    let n = length kept in
    let long : length bytes ≡ suc n = omega (arith, length-append kept (b ∷ [])) in
    let front : take n bytes ≡ kept = take-append-le n kept (b ∷ []) (omega arith) ∙ take_all n kept (omega arith) in
    let whole : take (suc n) bytes ≡ bytes = take_all (suc n) bytes (omega arith) in
    let stops : length_before_failure bytes (suc n) ≡ n = one_less bytes n r (ap failure whole ∙ some) ∙ all_of_it bytes n (ap failure front ∙ none) in
    ap (λ m. take (length_before_failure bytes m) bytes) long ∙ ap (λ m. take m bytes) stops ∙ front

by_test : (b : Bool) (m n : ℕ) → m ≤ n → cond b m (suc n) ≤ suc n
by_test true m n le = omega arith
by_test false m n le = omega arith

length_before_failure-most : (bytes : List ℕ) (n : ℕ) → length_before_failure bytes n ≤ n
length_before_failure-most bytes zero = omega arith
length_before_failure-most bytes (suc n) = by_test (is_some (failure (take (suc n) bytes))) (length_before_failure bytes n) n (length_before_failure-most bytes n)

length_before_failure-front : (xs ys : List ℕ) (n : ℕ) → n ≤ length xs → length_before_failure (xs ++ ys) n ≡ length_before_failure xs n
length_before_failure-front xs ys zero le = refl
length_before_failure-front xs ys (suc n) le =
    let same : take (suc n) (xs ++ ys) ≡ take (suc n) xs = take-append-le (suc n) xs ys le in
    ap (λ (t : List ℕ). cond (is_some (failure t)) (length_before_failure (xs ++ ys) n) (suc n)) same
    ∙ ap (λ m. cond (is_some (failure (take (suc n) xs))) m (suc n)) (length_before_failure-front xs ys n (omega arith))

length_before_failure-past : (xs ys : List ℕ) (k : ℕ) (r : Refused) → failure xs ≡ Some r → length_before_failure (xs ++ ys) (length xs + k) ≡ length_before_failure xs (length xs)
length_before_failure-past xs ys zero r some =
    let none : length xs + 0 ≡ length xs = omega arith in
    ap (length_before_failure (xs ++ ys)) none ∙ length_before_failure-front xs ys (length xs) (omega arith)
length_before_failure-past xs ys (suc k) r some =
    let e : length xs + suc k ≡ suc (length xs + k) = omega arith in
    let more : take (suc (length xs + k)) (xs ++ ys) ≡ xs ++ take (suc k) ys = ap (λ m. take m (xs ++ ys)) (sym e) ∙ take-append-add xs ys (suc k) in
    let failed : failure (take (suc (length xs + k)) (xs ++ ys)) ≡ Some r = ap failure more ∙ failure_lasts xs (take (suc k) ys) r some in
    ap (length_before_failure (xs ++ ys)) e ∙ one_less (xs ++ ys) (length xs + k) r failed ∙ length_before_failure-past xs ys k r some

-- bytes after a failure change nothing
front_before_failure-append : (xs ys : List ℕ) (r : Refused) → failure xs ≡ Some r → front_before_failure (xs ++ ys) ≡ front_before_failure xs
unfolding front_before_failure
front_before_failure-append xs ys r some =
    let most = length_before_failure-most xs (length xs) in
    ap (λ m. take (length_before_failure (xs ++ ys) m) (xs ++ ys)) (length-append xs ys)
    ∙ ap (λ m. take m (xs ++ ys)) (length_before_failure-past xs ys (length ys) r some)
    ∙ take-append-le (length_before_failure xs (length xs)) xs ys (omega arith)

-- ---- what a reader holds

pub reading_of-refused : (bytes : List ℕ) (r : Refused) → failure bytes ≡ Some r → reading_of bytes ≡ record { kept = front_before_failure bytes; refusal = Some r }
reading_of-refused bytes r e = rw e refl

pub reading_of-passed : (bytes : List ℕ) → failure bytes ≡ None → reading_of bytes ≡ record { kept = bytes; refusal = None }
reading_of-passed bytes e = rw e refl

pub reading_after-none : (r : Reading) (piece : List ℕ) → r.refusal ≡ None → reading_after r piece ≡ reading_of (r.kept ++ piece)
reading_after-none r piece e = rw e refl

pub reading_after-refused : (r : Reading) (piece : List ℕ) (refused : Refused) → r.refusal ≡ Some refused → reading_after r piece ≡ r
reading_after-refused r piece refused e = rw e refl

-- a reader by its parts
abbrev pub reading_with : List ℕ → Option Refused → Reading
reading_with kept refusal = record { kept = kept; refusal = refusal }

-- nothing more
pub reading_after-nothing : (r : Reading) → r.refusal ≡ None → failure r.kept ≡ None → r ≡ reading_after r []
reading_after-nothing r first none =
    sym (reading_after-none r [] first ∙ ap reading_of (append-nil r.kept) ∙ reading_of-passed r.kept none ∙ ap (reading_with r.kept) (sym first))

-- ---- any cutting

by_cases : {A : Type 0} (o : Option Refused) → (o ≡ None → A) → ((r : Refused) → o ≡ Some r → A) → A
by_cases None passed failed = passed refl
by_cases (Some r) passed failed = failed r refl

pub reading_after-of : (bytes piece : List ℕ) → reading_after (reading_of bytes) piece ≡ reading_of (bytes ++ piece)
reading_after-of bytes piece =
    by_cases (failure bytes)
    (λ none. ap (λ r. reading_after r piece) (reading_of-passed bytes none))
    (λ r some.
    ap (λ r. reading_after r piece) (reading_of-refused bytes r some)
    ∙ ap (λ (k : List ℕ). let s : Reading = record { kept = k; refusal = Some r } in s) (sym (front_before_failure-append bytes piece r some))
    ∙ sym (reading_of-refused (bytes ++ piece) r (failure_lasts bytes piece r some)))

-- two pieces are one
pub reading_after-append : (r : Reading) (xs ys : List ℕ) → r.refusal ≡ None → reading_after (reading_after r xs) ys ≡ reading_after r (xs ++ ys)
reading_after-append r xs ys none =
    ap (λ s. reading_after s ys) (reading_after-none r xs none) ∙ reading_after-of (r.kept ++ xs) ys ∙ ap reading_of (append_assoc r.kept xs ys) ∙ sym (reading_after-none r (xs ++ ys) none)

reading_after-all : (pieces : List (List ℕ)) (bytes : List ℕ) → fold reading_after (reading_of bytes) pieces ≡ reading_of (bytes ++ concat pieces)
reading_after-all [] bytes = ap reading_of (sym (append-nil bytes))
reading_after-all (piece ∷ pieces) bytes =
    ap (λ r. fold reading_after r pieces) (reading_after-of bytes piece) ∙ reading_after-all pieces (bytes ++ piece) ∙ ap reading_of (append_assoc bytes piece (concat pieces))

pub any_cutting : AnyCutting
any_cutting pieces = reading_after-all pieces []

-- a reader that was fed these bytes and no others answers what a read of them answers
final_answer-of : (bytes : List ℕ) → final_answer (reading_of bytes) ≡ answer_for bytes
final_answer-of bytes =
    by_cases (failure bytes)
    (λ none. ap final_answer (reading_of-passed bytes none))
    (λ r some.
    ap final_answer (reading_of-refused bytes r some)
    ∙ sym (ap (λ (o : Option Refused). answer_under o (content bytes)) (failure_refuses bytes r some)))

pub any_cutting_answers_alike : AnyCuttingReadsAlike
any_cutting_answers_alike pieces = ap final_answer (any_cutting pieces) ∙ final_answer-of (concat pieces)

-- if a piece is taken, so many bytes more are kept
pub reading_after-longer : (old new : Reading) (piece : List ℕ) → old.refusal ≡ None → new ≡ reading_after old piece → new.refusal ≡ None → length new.kept ≡ length old.kept + length piece
reading_after-longer old new piece first e none =
    let m : new ≡ reading_of (old.kept ++ piece) = e ∙ reading_after-none old piece first in
    let passes : failure (old.kept ++ piece) ≡ None = sym (ap (λ r. r.refusal) m) ∙ none in
    ap (λ r. length r.kept) (m ∙ reading_of-passed (old.kept ++ piece) passes) ∙ length-append old.kept piece

-- a call that answers `Ok` has left no refusal
pub answer_under-ok : (o : Option Refused) (r : Result (Unit {0}) Refused) (u : Unit {0}) → r ≡ Ok u → r ≡ answer_under o tt → o ≡ None
answer_under-ok None r u h e = refl
answer_under-ok (Some refused) r u h e = cc

pub answer_under-err : (o : Option Refused) (r : Result (Unit {0}) Refused) (refused : Refused) → r ≡ Err refused → r ≡ answer_under o tt → o ≡ Some refused
answer_under-err None r refused h e = cc
answer_under-err (Some other) r refused h e = cc
