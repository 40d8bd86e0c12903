use Rattle.ti_parser.proofs.LeadLemmas.{cover_same}
use Rattle.ti_parser.proofs.point.union.Goals as goal

pub returns-clause-left : goal.returns-clause-left
returns-clause-left g c = λ d stack covered tops. (c.in_ok-parsers.ensures.left d covered, c.joined_tops-tops.ensures.left d stack covered tops)

pub returns-clause-right : goal.returns-clause-right
returns-clause-right g c = λ d stack covered tops. (
  cover_same c.deref.result.now c.args.right.now.parsers.items c.in_ok-parsers.parsers.items c.deref.ensures.value c.in_ok-parsers.ensures.right d covered,
  c.joined_tops-tops.ensures.right d stack covered tops,
)
