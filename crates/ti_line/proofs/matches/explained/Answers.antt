use Rattle.std.proofs.Common.{◌∙◌, ◌++◌, ap, refl}
use Rattle.std.specs.Prelude.{codes}
use Rattle.clap.specs.Words.{found_of}
use Rattle.ti_line.specs.Requests.{texts_of}
use Rattle.ti_line.proofs.MatchesLemmas.{words_read}
use Rattle.ti_line.proofs.matches.explained.Goals as goal

pub returns : goal.returns
returns c =
    let words = ap (λ s. texts_of s.now) c.unwrap_or.ensures ∙ words_read (found_of c.args.given.now) (codes "FILE") c.get_strs.result _ refl c.get_strs.ensures in
    ap texts_of (c.in_ok-extend_from_slice.ensures.items ∙ ap (λ ws. ws ++ c.unwrap_or.result.now) c.new-words.ensures.items) ∙ words
