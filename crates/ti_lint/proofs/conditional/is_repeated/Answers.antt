use Rattle.std.proofs.Common.{sym, ◌∙◌}
use Rattle.ti_lint.proofs.ConditionalsLemmas.{test_within, test_leaves, repeated_there, repeated_back, never_repeated}
use Rattle.ti_lint.proofs.conditional.is_repeated.Goals as goal

pub slice_bounds-has_earlier-end : goal.slice_bounds-has_earlier-end
slice_bounds-has_earlier-end c = test_within c.args.after.now c.in-Some.count (sym c.test_length.ensures ∙ c.in-Some.is)

pub has_earlier-requires : goal.has_earlier-requires
has_earlier-requires c = record { few = c.requires.few; leaves = test_leaves c.args.after.now c.in-Some.count (sym c.test_length.ensures ∙ c.in-Some.is) }

pub returns-in-Some : goal.returns-in-Some
returns-in-Some c =
    let e = sym c.test_length.ensures ∙ c.in-Some.is in (
      (λ t. repeated_there c.args.before.now c.args.after.now c.in-Some.count e (c.has_earlier.ensures.0 t)),
      (λ r. c.has_earlier.ensures.1 (repeated_back c.args.before.now c.args.after.now c.in-Some.count e r)),
    )

pub returns-in-None : goal.returns-in-None
returns-in-None c = ((λ t. absurd (cc)), (λ r. absurd (never_repeated c.args.before.now c.args.after.now (sym c.test_length.ensures ∙ c.in-None.is) r)))
