use Rattle.std.proofs.Common.{rules}
use Rattle.std.proofs.lemmas.Slice.{overwrites}
use Rattle.ti_escape.proofs.slice.put_stretch.Goals as goal

pub returns-in-Plain-clause-rest : goal.returns-in-Plain-clause-rest
returns-in-Plain-clause-rest c = search (rules, overwrites)

pub returns-in-Backslash-clause-rest : goal.returns-in-Backslash-clause-rest
returns-in-Backslash-clause-rest c = search (rules, overwrites)

pub returns-in-Caret-clause-rest : goal.returns-in-Caret-clause-rest
returns-in-Caret-clause-rest c = search (rules, overwrites)

pub returns-in-Octal-clause-rest : goal.returns-in-Octal-clause-rest
returns-in-Octal-clause-rest c = search (rules, overwrites)

pub returns-in-Plain-clause-written : goal.returns-in-Plain-clause-written
returns-in-Plain-clause-written c = search (rules, overwrites)

pub returns-in-Backslash-clause-written : goal.returns-in-Backslash-clause-written
returns-in-Backslash-clause-written c = search (rules, overwrites)

pub returns-in-Caret-clause-written : goal.returns-in-Caret-clause-written
returns-in-Caret-clause-written c = search (rules, overwrites)

pub returns-in-Octal-clause-written : goal.returns-in-Octal-clause-written
returns-in-Octal-clause-written c = search (rules, overwrites)
