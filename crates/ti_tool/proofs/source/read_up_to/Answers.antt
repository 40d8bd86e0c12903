use Rattle.std.proofs.Common.{◌≡◌, ◌∙◌, ◌++◌, arith, sym, take, true≢false}
use Rattle.std.proofs.lemmas.Grind.{common_steps}
use Rattle.ti_tool.proofs.ReadsIntoLemmas.{ReadsInto-next, full_stays}
use Rattle.ti_tool.proofs.source.read_up_to.Goals as goal

pub loop-piece-preserved : goal.loop-piece-preserved
loop-piece-preserved g c =
    let items : c.try_extend_from_slice.new.self.items ≡ c.loop-piece.bytes.items ++ take c.in_ok-count.count c.read_piece.new.piece = grind (arith, common_steps) in
    record {
      read = ReadsInto-next _ _ _ _ _ _ _ c.loop-piece.invariant.read c.in_ok-count.ensures.bytes.0 items;
      none = λ full. absurd (true≢false (sym (full_stays _ _ _ _ _ c.loop-piece.invariant.read full c.is_full.ensures.fits) ∙ sym c.is_full.ensures.value ∙ c.loop-piece-test.true));
    }

pub returns-in_err-count-clause-full : goal.returns-in_err-count-clause-full
returns-in_err-count-clause-full c = grind (arith, common_steps)

pub returns-then-count-eq0-clause-full : goal.returns-then-count-eq0-clause-full
returns-then-count-eq0-clause-full c = grind (arith, common_steps)
