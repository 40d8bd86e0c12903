use Rattle.ti_line.proofs.actions.action_of.Goals as goal

pub returns-in-cap : goal.returns-in-cap
returns-in-cap c = rw c.in-cap.is (c.cap.ensures c.args.to)

pub returns-in-trace : goal.returns-in-trace
returns-in-trace c = rw c.in-trace.is c.trace.ensures

pub returns-in-diff : goal.returns-in-diff
returns-in-diff c = rw c.in-diff.is c.diff.ensures

pub returns-in-lint : goal.returns-in-lint
returns-in-lint c = rw c.in-lint.is c.lint.ensures

pub returns-in-convert : goal.returns-in-convert
returns-in-convert c = rw c.in-convert.is c.convert.ensures

pub returns-in-show : goal.returns-in-show
returns-in-show c = rw c.in-show.is c.show.ensures

pub returns-in-check : goal.returns-in-check
returns-in-check c = rw c.in-check.is c.check.ensures

pub returns-in-expand : goal.returns-in-expand
returns-in-expand c = rw c.in-expand.is (c.expand.ensures c.args.to)

pub returns-in-get : goal.returns-in-get
returns-in-get c = rw c.in-get.is (c.get.ensures c.args.to)
