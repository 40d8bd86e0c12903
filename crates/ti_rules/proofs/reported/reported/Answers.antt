use Rattle.std.proofs.Common.{◌≡◌, ◌∙◌, ◌++◌, ◌∷◌, [], ap, cond}
use Rattle.ti_rules.specs.Reported.{is_reported}
use Rattle.ti_rules.specs.inner.Held.{heads_held}
use Rattle.ti_rules.proofs.ReportedLemmas.{one_taken}
use Rattle.ti_rules.proofs.reported.reported.Goals as goal

pub found-preserved : goal.found-preserved
found-preserved g c =
    let p = is_reported c.args.level (heads_held c.in_ok-heads.heads.items) in
    let x = c.in-Some.remark in
    let kept = c.found.kept.items in
    let passes : c.is_reported-reported.result ≡ p x = c.is_reported-reported.ensures ∙ ap (λ heads. is_reported c.args.level (heads_held heads) x) c.as_slice-in-Some.ensures.value in
    one_taken p kept c.keep.new.kept.items _ c.found.rest.items c.pop.new.self.items x c.in-Some.ensures.items (c.in_ok-keep.ensures ∙ ap (λ b. kept ++ cond b (x ∷ []) []) passes) c.found.invariant
