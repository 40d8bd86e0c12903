use Rattle.ti_listing.proofs.TokensLemmas.{have_same}
use Rattle.ti_listing.proofs.tokens.have_same_tokens.Goals as goal

pub returns : goal.returns
returns c =
    have_same c.args.one.now c.args.other.now c.in-Ok.one c.in-Ok-parse.other c.tape.result c.tape-2.result c.are_same_left.result c.in-Ok.ensures.value c.in-Ok-parse.ensures.value c.tape.ensures.start c.tape-2.ensures.start
    c.in-Ok.ensures.accepted c.in-Ok-parse.ensures.accepted c.are_same_left.ensures
