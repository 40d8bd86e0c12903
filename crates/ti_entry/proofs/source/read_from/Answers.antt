use Rattle.std.proofs.Common.{◌≡◌, None, ◌∙◌, sym, take, arith}
use Rattle.std.proofs.lemmas.Grind.{common_steps}
use Rattle.ti_entry.proofs.FeedLemmas.{reading_after-longer, answer_under-err, answer_under-ok}
use Rattle.ti_entry.proofs.FeedsFromLemmas.{FeedsFrom-nil, FeedsFrom-refused, FeedsFrom-end, FeedsFrom-next}
use Rattle.ti_entry.proofs.source.read_from.Goals as goal

pub returns-in-Some-clause-fed : goal.returns-in-Some-clause-fed
returns-in-Some-clause-fed g c = FeedsFrom-refused _ _ c.in-Some.refused (sym c.refusal.ensures.value ∙ c.in-Some.is)

pub source-init : goal.source-init
source-init g c =
    let none : c.args.reader.now.refusal ≡ None = sym c.refusal.ensures.value ∙ c.in_default.is in
    record {
      first = none;
      no_refusal = none;
      within = c.refusal.ensures.most;
      fed = FeedsFrom-nil _ _ none c.refusal.ensures.none_failed;
    }

pub returns-then-count-eq0-clause-fed : goal.returns-then-count-eq0-clause-fed
returns-then-count-eq0-clause-fed g c = FeedsFrom-end _ _ _ c.args.reader.now c.source.reader _ _ c.if-count-eq0.true c.source.invariant.fed c.in_ok-count.ensures.bytes.0

pub returns-in_err-feed-clause-fed : goal.returns-in_err-feed-clause-fed
returns-in_err-feed-clause-fed g c =
    let i = c.source.invariant in
    FeedsFrom-next _ _ _ _ _ _ _ i.first i.fed c.in_ok-count.ensures.bytes.0 c.in_err-feed.ensures.fed

pub source-smaller : goal.source-smaller
source-smaller g c =
    let none : c.feed.new.self.refusal ≡ None = answer_under-ok _ _ _ c.in_ok-feed.was c.feed.ensures.answer in
    let longer = reading_after-longer c.source.reader c.feed.new.self (take c.in_ok-count.count c.read_piece.new.piece) c.source.invariant.no_refusal c.feed.ensures.fed none in
    let most = c.feed.ensures.most in
    let taken = c.in_ok-count.ensures.bound.1 in
    let some = c.if-count-eq0.false in
    omega arith

pub source-preserved : goal.source-preserved
source-preserved g c =
    let i = c.source.invariant in
    record {
      first = i.first;
      no_refusal = answer_under-ok _ _ _ c.in_ok-feed.was c.feed.ensures.answer;
      within = c.feed.ensures.most;
      fed = FeedsFrom-next _ _ _ _ _ _ _ i.first i.fed c.in_ok-count.ensures.bytes.0 c.feed.ensures.fed;
    }

pub returns-in_err-feed-clause-refused : goal.returns-in_err-feed-clause-refused
returns-in_err-feed-clause-refused g c =
    let held = answer_under-err _ _ _ c.in_err-feed.was c.feed.ensures.answer in
    grind (arith, common_steps, held)
