-- What was told so far is of the tokens so far, and those are in the list.
use Rattle.std.proofs.Common.{◌≡◌, length}
use Rattle.ti_cap.specs.Capability.{whole}
use Rattle.ti_cap.specs.Spelling.{Written}
use Rattle.ti_rules.proofs.ConstantsLemmas.{Telling}
use Rattle.ti_rules.proofs.text_remarks.TextRemarks.push_tests.Given as goal

abbrev pub invariant-tokens : goal.invariant-tokens
invariant-tokens g l = record {
  telling : Telling l.fn.capability l.initial.self l.tape l.before.items l.self;
  place : l.place ≡ length l.tape.taken;
  all : whole l.tape ≡ l.fn.capability;
  written : Written l.before.items l.tape.taken;
}

abbrev pub decreases-tokens : goal.decreases-tokens
decreases-tokens g l = length l.tape.left
