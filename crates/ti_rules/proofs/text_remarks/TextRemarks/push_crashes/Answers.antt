use Rattle.ti_rules.specs.inner.Held.{before_held}
use Rattle.ti_rules.proofs.CrashesLemmas.{going_end, going_next}
use Rattle.ti_rules.proofs.text_remarks.TextRemarks.push_crashes.Goals as goal

pub tokens-preserved : goal.tokens-preserved
tokens-preserved g c =
    let l = c.tokens in
    record {
      going = going_next c.args.range c.args.capability.now c.args.self.now l.tape c.token.new.self c.in-Some.token (before_held l.before) _ l.place l.self c.push_crash.new.self
          c.in-Some.ensures.some l.invariant.place c.in_ok-before.ensures c.in_ok-push_crash.ensures l.invariant.going;
      place = c.at-place.ensures.exact;
    }

pub returns : goal.returns
returns g c = going_end c.args.range c.args.capability.now c.args.self.now c.tokens.tape (before_held c.tokens.before) c.tokens.self c.in_default.ensures.none.1 c.tokens.invariant.going
