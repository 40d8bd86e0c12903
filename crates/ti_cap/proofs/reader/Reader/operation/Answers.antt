use Rattle.std.proofs.Common.{refl, rules}
use Rattle.ti_cap.specs.declared.language.Op.TheVariants.{Add, Sub, Mul, Div, Rem, BitAnd, BitOr, BitXor, BitNot, Equal, Greater, Less, And, Or, Not}
use Rattle.ti_cap.specs.declared.language.Token.TheVariants.{Compute}
use Rattle.ti_cap.proofs.ReaderLemmas.{letter_read}
use Rattle.ti_cap.proofs.reader.Reader.operation.Goals as goal

pub give-requires-clause-front : goal.give-requires-clause-front
give-requires-clause-front g c =
    letter_read c.args.self.now.left c.args.rest.now (Compute Add) 43 c.requires.next (search rules) (search rules) refl

pub give-requires-in-45-clause-front : goal.give-requires-in-45-clause-front
give-requires-in-45-clause-front g c =
    letter_read c.args.self.now.left c.args.rest.now (Compute Sub) 45 c.requires.next (search rules) (search rules) refl

pub give-requires-in-42-clause-front : goal.give-requires-in-42-clause-front
give-requires-in-42-clause-front g c =
    letter_read c.args.self.now.left c.args.rest.now (Compute Mul) 42 c.requires.next (search rules) (search rules) refl

pub give-requires-in-47-clause-front : goal.give-requires-in-47-clause-front
give-requires-in-47-clause-front g c =
    letter_read c.args.self.now.left c.args.rest.now (Compute Div) 47 c.requires.next (search rules) (search rules) refl

pub give-requires-in-109-clause-front : goal.give-requires-in-109-clause-front
give-requires-in-109-clause-front g c =
    letter_read c.args.self.now.left c.args.rest.now (Compute Rem) 109 c.requires.next (search rules) (search rules) refl

pub give-requires-in-38-clause-front : goal.give-requires-in-38-clause-front
give-requires-in-38-clause-front g c =
    letter_read c.args.self.now.left c.args.rest.now (Compute BitAnd) 38 c.requires.next (search rules) (search rules) refl

pub give-requires-in-124-clause-front : goal.give-requires-in-124-clause-front
give-requires-in-124-clause-front g c =
    letter_read c.args.self.now.left c.args.rest.now (Compute BitOr) 124 c.requires.next (search rules) (search rules) refl

pub give-requires-in-94-clause-front : goal.give-requires-in-94-clause-front
give-requires-in-94-clause-front g c =
    letter_read c.args.self.now.left c.args.rest.now (Compute BitXor) 94 c.requires.next (search rules) (search rules) refl

pub give-requires-in-126-clause-front : goal.give-requires-in-126-clause-front
give-requires-in-126-clause-front g c =
    letter_read c.args.self.now.left c.args.rest.now (Compute BitNot) 126 c.requires.next (search rules) (search rules) refl

pub give-requires-in-61-clause-front : goal.give-requires-in-61-clause-front
give-requires-in-61-clause-front g c =
    letter_read c.args.self.now.left c.args.rest.now (Compute Equal) 61 c.requires.next (search rules) (search rules) refl

pub give-requires-in-62-clause-front : goal.give-requires-in-62-clause-front
give-requires-in-62-clause-front g c =
    letter_read c.args.self.now.left c.args.rest.now (Compute Greater) 62 c.requires.next (search rules) (search rules) refl

pub give-requires-in-60-clause-front : goal.give-requires-in-60-clause-front
give-requires-in-60-clause-front g c =
    letter_read c.args.self.now.left c.args.rest.now (Compute Less) 60 c.requires.next (search rules) (search rules) refl

pub give-requires-in-65-clause-front : goal.give-requires-in-65-clause-front
give-requires-in-65-clause-front g c =
    letter_read c.args.self.now.left c.args.rest.now (Compute And) 65 c.requires.next (search rules) (search rules) refl

pub give-requires-in-79-clause-front : goal.give-requires-in-79-clause-front
give-requires-in-79-clause-front g c =
    letter_read c.args.self.now.left c.args.rest.now (Compute Or) 79 c.requires.next (search rules) (search rules) refl

pub give-requires-in-33-clause-front : goal.give-requires-in-33-clause-front
give-requires-in-33-clause-front g c =
    letter_read c.args.self.now.left c.args.rest.now (Compute Not) 33 c.requires.next (search rules) (search rules) refl
