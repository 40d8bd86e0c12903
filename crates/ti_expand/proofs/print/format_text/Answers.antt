use Rattle.std.proofs.Common.{arith, length, ◌≤◌}
use Rattle.ti_cap.specs.Sizes.{format_size}
use Rattle.ti_expand.specs.Printed.{print_of_text}
use Rattle.ti_expand.proofs.RoomLemmas.{length-print_of_text-le}
use Rattle.ti_expand.proofs.print.format_text.Goals as goal

pub print_text-requires : goal.print_text-requires
print_text-requires c =
    let fits : length (print_of_text c.args.format.now c.args.text.now) ≤ format_size c.args.format.now (length c.args.text.now) = length-print_of_text-le c.args.format.now c.args.text.now c.requires.textual in
    omega (arith, fits, c.requires.room)

pub returns-clause-low : goal.returns-clause-low
returns-clause-low c =
    let fits : length (print_of_text c.args.format.now c.args.text.now) ≤ format_size c.args.format.now (length c.args.text.now) = length-print_of_text-le c.args.format.now c.args.text.now c.requires.textual in
    omega (arith, fits, c.print_text.ensures.end)
