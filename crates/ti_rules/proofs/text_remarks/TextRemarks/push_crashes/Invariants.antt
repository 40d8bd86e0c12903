-- What was found so far is of the tokens so far.
use Rattle.std.proofs.Common.{◌≡◌, length}
use Rattle.ti_rules.specs.inner.Held.{before_held}
use Rattle.ti_rules.proofs.CrashesLemmas.{Going}
use Rattle.ti_rules.proofs.text_remarks.TextRemarks.push_crashes.Given as goal

abbrev pub invariant-tokens : goal.invariant-tokens
invariant-tokens g l = record {
  going : Going l.range l.fn.capability l.initial.self l.tape (before_held l.before) l.self;
  place : l.place ≡ length l.tape.taken;
}

abbrev pub decreases-tokens : goal.decreases-tokens
decreases-tokens g l = length l.tape.left
