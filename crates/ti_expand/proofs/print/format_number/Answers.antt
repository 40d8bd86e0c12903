use Rattle.std.proofs.Common.{arith, length, ◌≤◌}
use Rattle.std.specs.Int.{w32}
use Rattle.std.proofs.lemmas.Int.{to_z-of_z}
use Rattle.ti_cap.specs.Sizes.{format_size}
use Rattle.ti_expand.specs.Printed.{print_of_number}
use Rattle.ti_expand.proofs.RoomLemmas.{length-print_of_number-le}
use Rattle.ti_expand.proofs.print.format_number.Goals as goal

pub print_number-requires-clause-room : goal.print_number-requires-clause-room
print_number-requires-clause-room c =
    let fits : length (print_of_number c.args.format.now c.args.number) ≤ format_size c.args.format.now 0 = length-print_of_number-le c.args.format.now c.args.number c.requires.numeric c.ranges.number in
    rw (to_z-of_z w32 c.args.number c.ranges.number) (omega (arith, fits, c.requires.room))

pub returns-clause-low : goal.returns-clause-low
returns-clause-low c =
    let fits : length (print_of_number c.args.format.now c.args.number) ≤ format_size c.args.format.now 0 = length-print_of_number-le c.args.format.now c.args.number c.requires.numeric c.ranges.number in
    let end = rw (to_z-of_z w32 c.args.number c.ranges.number) at c.print_number.ensures.end in
    omega (arith, fits, end)
