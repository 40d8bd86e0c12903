use Rattle.std.specs.Char.{is_ascii_digit}
use Rattle.ti_pad.proofs.TakeWhileLemmas.{list_all-take_while}
use Rattle.ti_pad.proofs.find_mark.digits.Goals as goal

pub returns-clause-digits : goal.returns-clause-digits
returns-clause-digits c = rw c.digit_count.ensures.count (list_all-take_while is_ascii_digit c.args.bytes.now)
