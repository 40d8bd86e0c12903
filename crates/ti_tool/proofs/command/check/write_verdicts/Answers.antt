use Rattle.std.proofs.Common.{◌++◌, ◌∷◌, ◌∙◌, [], ap, refl, subst, sym}
use Rattle.ti_json.specs.Rows.{OfCapability, content_value}
use Rattle.ti_words.specs.Items.{item_value, items, listed_value, subject_value, text_in}
use Rattle.ti_tool.specs.Verdicts.{IsJudged, are_sound, written}
use Rattle.ti_tool.proofs.RowsLemmas.{GoesOn, goes_end, goes_first, goes_next, goes_skip, no_row, none_written, one_more_sound, one_row, one_written}
use Rattle.ti_tool.proofs.command.check.write_verdicts.Goals as goal

pub items-init : goal.items-init
items-init g c = record {
  rows = ([], subst (λ left. GoesOn (items c.args.entry.now) left []) (sym c.items-items.ensures) (goes_first (items c.args.entry.now)), refl);
  judged = subst (λ text. IsJudged text (content_value c.judge-last.result.content)) (sym c.judge-last.ensures.text) c.judge-last.ensures.content;
}

pub items-preserved-then-is_written : goal.items-preserved-then-is_written
items-preserved-then-is_written g c =
    let subject = subject_value c.in-Some.subject in
    let content = content_value c.next-last.result.content in
    let (rows, goes, passed) = c.items.invariant.rows in
    let more = one_written c.args.which rows (OfCapability subject, content) (sym c.if-is_written.true ∙ c.is_written.ensures) in record {
      rows = (
        rows ++ (OfCapability subject, content) ∷ [],
        goes_next (items c.args.entry.now) c.items.items c.next.new.self (listed_value (c.in-Some.subject, c.in-Some.item)) rows _ c.in-Some.ensures.some
            (one_row subject (text_in (item_value c.in-Some.item)) c.in-Some-text.text.now content c.in-Some-text.ensures c.next-last.ensures.content) goes,
        one_more_sound (written c.args.which rows) subject content c.items.are_sound c.is_sound-are_sound.result passed c.is_sound-are_sound.ensures ∙ ap are_sound (sym more),
      );
      judged = subst (λ text. IsJudged text content) (sym c.next-last.ensures.text) c.next-last.ensures.content;
    }

pub items-preserved-else-is_written : goal.items-preserved-else-is_written
items-preserved-else-is_written g c =
    let subject = subject_value c.in-Some.subject in
    let content = content_value c.next-last.result.content in
    let (rows, goes, passed) = c.items.invariant.rows in
    let same = none_written c.args.which rows (OfCapability subject, content) (sym c.if-is_written.false ∙ c.is_written.ensures) in record {
      rows = (
        rows ++ (OfCapability subject, content) ∷ [],
        goes_next (items c.args.entry.now) c.items.items c.next.new.self (listed_value (c.in-Some.subject, c.in-Some.item)) rows _ c.in-Some.ensures.some
            (one_row subject (text_in (item_value c.in-Some.item)) c.in-Some-text.text.now content c.in-Some-text.ensures c.next-last.ensures.content) goes,
        passed ∙ ap are_sound (sym same),
      );
      judged = subst (λ text. IsJudged text content) (sym c.next-last.ensures.text) c.next-last.ensures.content;
    }

pub items-preserved : goal.items-preserved
items-preserved g c =
    let (rows, goes, passed) = c.items.invariant.rows in record {
      rows = (
        rows,
        goes_skip (items c.args.entry.now) c.items.items c.next.new.self (listed_value (c.in-Some.subject, c.in-Some.item)) rows c.in-Some.ensures.some
            (no_row (subject_value c.in-Some.subject) (text_in (item_value c.in-Some.item)) c.in_default-text.ensures) goes,
        passed,
      );
      judged = c.items.invariant.judged;
    }

pub returns : goal.returns
returns g c =
    let (rows, goes, passed) = c.items.invariant.rows in (rows, goes_end (items c.args.entry.now) c.items.items rows c.in_default.ensures.none.0 goes, passed)
