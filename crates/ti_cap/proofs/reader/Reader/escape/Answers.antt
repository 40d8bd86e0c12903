use Rattle.std.proofs.Common.{refl, rules}
use Rattle.ti_cap.specs.declared.language.Token.TheVariants.{Byte, Length, Increment, Char, Print, CondOpen, CondThen, CondElse, CondClose}
use Rattle.ti_cap.proofs.ReaderLemmas.{decimal_spelled, letter_read}
use Rattle.ti_cap.proofs.reader.Reader.escape.Goals as goal

pub give-requires-in-100-clause-front : goal.give-requires-in-100-clause-front
give-requires-in-100-clause-front g c =
    letter_read c.args.self.now.left c.args.rest.now (Print c.plain.result) 100 c.requires.next (search rules) (search rules)
    (rw c.plain.ensures decimal_spelled)

pub give-requires-in-63-clause-front : goal.give-requires-in-63-clause-front
give-requires-in-63-clause-front g c =
    letter_read c.args.self.now.left c.args.rest.now CondOpen 63 c.requires.next (search rules) (search rules) refl

pub give-requires-in-116-clause-front : goal.give-requires-in-116-clause-front
give-requires-in-116-clause-front g c =
    letter_read c.args.self.now.left c.args.rest.now CondThen 116 c.requires.next (search rules) (search rules) refl

pub give-requires-in-101-clause-front : goal.give-requires-in-101-clause-front
give-requires-in-101-clause-front g c =
    letter_read c.args.self.now.left c.args.rest.now CondElse 101 c.requires.next (search rules) (search rules) refl

pub give-requires-in-59-clause-front : goal.give-requires-in-59-clause-front
give-requires-in-59-clause-front g c =
    letter_read c.args.self.now.left c.args.rest.now CondClose 59 c.requires.next (search rules) (search rules) refl

pub give-requires-in-105-clause-front : goal.give-requires-in-105-clause-front
give-requires-in-105-clause-front g c =
    letter_read c.args.self.now.left c.args.rest.now Increment 105 c.requires.next (search rules) (search rules) refl

pub give-requires-in-99-clause-front : goal.give-requires-in-99-clause-front
give-requires-in-99-clause-front g c =
    letter_read c.args.self.now.left c.args.rest.now Char 99 c.requires.next (search rules) (search rules) refl

pub give-requires-in-108-clause-front : goal.give-requires-in-108-clause-front
give-requires-in-108-clause-front g c =
    letter_read c.args.self.now.left c.args.rest.now Length 108 c.requires.next (search rules) (search rules) refl

pub give-requires-in-37-clause-front : goal.give-requires-in-37-clause-front
give-requires-in-37-clause-front g c =
    letter_read c.args.self.now.left c.args.rest.now (Byte 37) 37 c.requires.next (search rules) (search rules) (refl, refl)
