use Rattle.std.proofs.Common.{arith, length, refl, ◌+◌, ◌-◌, ◌≡◌, ◌≤◌}
use Rattle.std.proofs.lemmas.Grind.{common_steps}
use Rattle.ti_escape.proofs.NotationLemmas.{notation-ends}
use Rattle.ti_escape.proofs.stretch.parts_of.Goals as goal

pub returns-in-len2-up-clause-notation : goal.returns-in-len2-up-clause-notation
returns-in-len2-up-clause-notation c =
    let long : 2 ≤ length c.args.text.now = c.in-len2-up.len_at_least in
    let few : length c.args.text.now - 1 - 1 + 2 ≡ length c.args.text.now = omega (arith, long) in
    let last_but_one : length c.args.text.now - 2 + 2 ≡ length c.args.text.now = omega (arith, long) in
    let after : length c.args.text.now - 1 + 1 ≡ length c.args.text.now = omega (arith, long) in
    notation-ends c.args.text.now _ _ _ _ (length c.args.text.now - 2) (length c.args.text.now - 1) few last_but_one after refl c.start_stretch-in-len2-up.ensures.notation c.end_stretch.ensures.notation

pub returns-in-len1-clause-notation : goal.returns-in-len1-clause-notation
returns-in-len1-clause-notation c = grind (arith, common_steps)
