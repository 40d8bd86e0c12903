-- What is added to a document leaves it printable, with what was there in front.
use Rattle.std.proofs.Common.{◌≡◌, ◌∙◌, ◌++◌, ℕ, Ok, Err, Result, Bool, true, false, List, ap, append_assoc, cond, refl, subst, sym, true≢false}
use Rattle.std.proofs.lemmas.Bool.{and_from}
use Rattle.std.proofs.lemmas.List.Folds.{list_all-append}
use Rattle.std.proofs.KnownBytes.{starts_with_rest}
use Rattle.std.proofs.Transfers.{starts_with_of_append, starts_with_of_eq, starts_with_trans}
use Rattle.std.specs.Io.{StartsWith}
use Rattle.std.specs.List.{list_all}
use Rattle.std.specs.Prelude.{OnOk}
use Rattle.std.specs.Result.{is_err}
use Rattle.ti_escape.specs.Laws.{is_printable}
use Rattle.ti_sink.specs.Printed.{GoesOn, StaysFront}

-- after a call that appends all or nothing
pub goes_on : (b : Bool) (old new more : List ℕ) → list_all is_printable more ≡ true → new ≡ cond b (old ++ more) old → GoesOn old new
goes_on true old new more all is = record {
  printable = λ of_old. ap (list_all is_printable) is ∙ list_all-append is_printable old more ∙ and_from (list_all is_printable old) (list_all is_printable more) of_old all;
  front = λ start before. starts_with_trans new old start (starts_with_of_append new old more is) before;
}
goes_on false old new more all is = record {
  printable = λ of_old. ap (list_all is_printable) is ∙ of_old;
  front = λ start before. subst (λ l. StartsWith l start) (sym is) before;
}

-- what was there is in front of the rest
pub rest_after : (old new : List ℕ) → StaysFront old new → (more : List ℕ) × (new ≡ old ++ more)
rest_after old new stays = (_, starts_with_rest new old (stays old (starts_with_of_eq old old refl)))

-- an object comes after what was there, and after a comma or nothing
pub added_object : {V E : Type 0} (r : Result V E) (member old mid new : List ℕ) → StaysFront old mid
    → OnOk r ((more : List ℕ) × (new ≡ mid ++ (member ++ more))) → is_err r ≡ false → (comma : List ℕ) × (more : List ℕ) × (new ≡ old ++ (comma ++ (member ++ more)))
added_object (Ok v) member old mid new stays (more, is) ok =
    let (comma, before) = rest_after old mid stays in
    (comma, more, is ∙ ap (λ l. l ++ (member ++ more)) before ∙ append_assoc old comma (member ++ more))
added_object (Err e) member old mid new stays text ok = absurd (true≢false ok)
