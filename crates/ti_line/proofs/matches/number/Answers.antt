use Rattle.std.proofs.Common.{◌∙◌}
use Rattle.clap.specs.Words.{found_of}
use Rattle.std.specs.Str.Parse.{ExplainsUnsignedError, HasUnsignedDigitsIfOk, ParsesUnsigned}
use Rattle.ti_line.proofs.MatchesLemmas.{number_read}
use Rattle.ti_line.proofs.matches.number.Goals as goal

pub returns : goal.returns
returns c =
    c.unwrap_or.ensures ∙ number_read _ (λ bs r. ParsesUnsigned 32 10 bs r × ExplainsUnsignedError 10 bs r × HasUnsignedDigitsIfOk bs r) (λ t r g. g.0)
    (found_of c.args.given.now) c.args.id.now c.args.default c.get_one.result c.get_one.ensures.none c.get_one.ensures.value
