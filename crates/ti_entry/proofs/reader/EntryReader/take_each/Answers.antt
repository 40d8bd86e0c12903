use Rattle.std.proofs.Common.{◌≡◌, ◌+◌, ◌<◌, ◌∷◌, [], ◌∙◌, ap, sym, length, take, drop, get_or, List, None, Some}
use Rattle.std.specs.Prelude.{ℕ}
use Rattle.std.proofs.lemmas.List.{take-append-drop, take_more}
use Rattle.ti_layout.specs.declared.fault.Refused.{Refused}
use Rattle.ti_entry.specs.Reading.{Reading, reading_after}
use Rattle.ti_entry.proofs.FeedLemmas.{reading_after-append, reading_after-nothing, reading_after-refused, answer_under-ok, answer_under-err}
use Rattle.ti_entry.proofs.reader.EntryReader.take_each.Goals as goal

-- one byte more is fed
one_more : (old mid new : Reading) (piece : List ℕ) (i : ℕ) → i < length piece → old.refusal ≡ None → mid ≡ reading_after old (take i piece) → new ≡ reading_after mid (get_or piece i 0 ∷ []) → new ≡ reading_after old (take (i + 1) piece)
one_more old mid new piece i lt none so_far e =
    e ∙ ap (λ r. reading_after r (get_or piece i 0 ∷ [])) so_far ∙ reading_after-append old (take i piece) (get_or piece i 0 ∷ []) none ∙ ap (reading_after old) (sym (take_more piece i 0 lt))

-- what is refused stays so for the rest of the piece
rest_too : (old new : Reading) (piece : List ℕ) (k : ℕ) (r : Refused) → old.refusal ≡ None → new ≡ reading_after old (take k piece) → new.refusal ≡ Some r → new ≡ reading_after old piece
rest_too old new piece k r none e some =
    sym (reading_after-refused new (drop k piece) r some) ∙ ap (λ s. reading_after s (drop k piece)) e ∙ reading_after-append old (take k piece) (drop k piece) none ∙ ap (reading_after old) (take-append-drop k piece)

pub bytes-init : goal.bytes-init
bytes-init c = record {
  first = c.requires.no_refusal;
  no_refusal = c.requires.no_refusal;
  within = c.requires.most;
  fed = reading_after-nothing c.args.self.now c.requires.no_refusal c.requires.none_failed;
}

pub returns-in_err-take-clause-fed : goal.returns-in_err-take-clause-fed
returns-in_err-take-clause-fed c =
    let i = c.bytes.invariant in
    let more = one_more c.args.self.now c.bytes.self c.take.new.self c.args.piece.now c.bytes.byte-index c.bytes-test.true i.first i.fed c.take.ensures.fed in
    rest_too c.args.self.now c.take.new.self c.args.piece.now (c.bytes.byte-index + 1) c.in_err-take.field-0.0 i.first more (answer_under-err _ _ _ c.in_err-take.was c.take.ensures.answer)

pub returns-in_err-take-clause-most : goal.returns-in_err-take-clause-most
returns-in_err-take-clause-most c = c.take.ensures.most

pub bytes-preserved : goal.bytes-preserved
bytes-preserved c =
    let i = c.bytes.invariant in
    record {
      first = i.first;
      no_refusal = answer_under-ok _ _ _ c.in_ok-take.was c.take.ensures.answer;
      within = c.take.ensures.most;
      fed = one_more c.args.self.now c.bytes.self c.take.new.self c.args.piece.now c.bytes.byte-index c.bytes-test.true i.first i.fed c.take.ensures.fed;
    }
