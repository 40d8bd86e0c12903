use Rattle.std.proofs.Common.{◌∙◌, sym, true≢false}
use Rattle.ti_rules.proofs.LayoutLemmas.{unwritten, written}
use Rattle.ti_rules.proofs.layout.is_canonical.Goals as goal

pub returns-in-Ok : goal.returns-in-Ok
returns-in-Ok g c =
    c.eq.ensures
    ∙ written c.args.bytes.now c.as_slice.result.now c.args.entry.now c.in_ok-draft.draft c.in_ok-draft.ensures.draft c.in-Ok.ensures.encoded.fit (c.as_slice.ensures.value ∙ c.in-Ok.ensures.encoded.canonical)

pub returns : goal.returns
returns g c =
    unwritten c.args.bytes.now c.args.entry.now c.in_ok-draft.draft c.in-Err.fault c.in_ok-draft.ensures.draft
    (λ is. true≢false (sym (c.is_memory.ensures.1 is) ∙ c.if-is_memory.false)) c.in-Err.ensures.refused.first
