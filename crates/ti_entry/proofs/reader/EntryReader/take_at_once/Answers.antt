use Rattle.std.proofs.Common.{◌≡◌, ◌∙◌, ap, sym, subst, length, take, List, ◌++◌, [], arith}
use Rattle.std.specs.Prelude.{ℕ}
use Rattle.std.proofs.lemmas.List.{take_at}
use Rattle.ti_layout.specs.Stages.{Stands}
use Rattle.ti_layout.proofs.StageStepLemmas.{stands_on}
use Rattle.ti_entry.specs.Reading.{Reading, IsReading}
use Rattle.ti_entry.proofs.FeedLemmas.{reading_with}
use Rattle.ti_entry.proofs.IsReadingLemmas.{none_held, takes, takes_short}
use Rattle.ti_entry.proofs.reader.EntryReader.take_at_once.Goals as goal

pub advance-requires : goal.advance-requires
advance-requires c =
    subst (λ (k : List ℕ). Stands k c.self.inside.stage) (sym (c.as_slice-2.ensures.value ∙ c.in-Ok.ensures.ok))
    (stands_on c.self.inside.kept.items c.args.piece.now c.self.inside.stage (c.self.invariant.stands (none_held c.self.view_is c.requires)))

pub bytes_awaited-requires : goal.bytes_awaited-requires
bytes_awaited-requires c =
    let stands = c.self.invariant.stands (none_held c.self.view_is c.requires) [] in
    record { within = stands.within; fits = stands.fits; extended_fits = stands.extended_fits }

-- ---- too few bytes for a check

pub invariant_of-self-then-as_slice-bytes_awaited : goal.invariant_of-self-then-as_slice-bytes_awaited
invariant_of-self-then-as_slice-bytes_awaited c =
    (takes_short c.args.piece.now c.self.invariant c.self.view_is c.requires c.in-Ok.ensures.ok c.as_slice.ensures.value c.as_slice.ensures.fits c.bytes_awaited.ensures.waits (omega arith)).holds

pub returns-then-as_slice-bytes_awaited-clause-taken : goal.returns-then-as_slice-bytes_awaited-clause-taken
returns-then-as_slice-bytes_awaited-clause-taken c = λ e.
    (takes_short c.args.piece.now c.self.invariant c.self.view_is c.requires c.in-Ok.ensures.ok c.as_slice.ensures.value c.as_slice.ensures.fits c.bytes_awaited.ensures.waits (omega arith)).fed

-- ---- a check fails

restored : (kept now longer piece : List ℕ) (count : ℕ) → longer ≡ kept ++ piece → count ≡ length kept → now ≡ take count longer → now ≡ kept
restored kept now longer piece count a b e = e ∙ ap (take count) a ∙ take_at kept piece count (sym b)

pub invariant_of-self-in_default-advance : goal.invariant_of-self-in_default-advance
invariant_of-self-in_default-advance c =
    let count = c.kept-count.ensures.count ∙ ap (λ (r : Reading). length r.kept) (sym c.self.view_is) in
    let same = restored _ _ _ c.args.piece.now _ c.in-Ok.ensures.ok count c.truncate.ensures.items in
    subst (λ (k : List ℕ). IsReading k c.self.inside.stage c.self.inside.refusal) (sym same) c.self.invariant

pub returns-in_default-advance-clause-same : goal.returns-in_default-advance-clause-same
returns-in_default-advance-clause-same c = λ e.
    let count = c.kept-count.ensures.count ∙ ap (λ (r : Reading). length r.kept) (sym c.self.view_is) in
    let same = restored _ _ _ c.args.piece.now _ c.in-Ok.ensures.ok count c.truncate.ensures.items in
    ap (λ (k : List ℕ). reading_with k c.self.inside.refusal) same ∙ c.self.view_is

-- ---- none does

pub invariant_of-self-2 : goal.invariant_of-self-2
invariant_of-self-2 c =
    (takes c.args.piece.now c.self.view_is c.requires c.in-Ok.ensures.ok c.as_slice-2.ensures.value c.as_slice-2.ensures.fits c.in-Ok-advance.ensures.stands c.in-Ok-advance.ensures.waits).holds

pub returns-clause-taken : goal.returns-clause-taken
returns-clause-taken c = λ e.
    (takes c.args.piece.now c.self.view_is c.requires c.in-Ok.ensures.ok c.as_slice-2.ensures.value c.as_slice-2.ensures.fits c.in-Ok-advance.ensures.stands c.in-Ok-advance.ensures.waits).fed
