use Rattle.std.proofs.Common.{sym, ◌∙◌, ap, Ok}
use Rattle.ti_cap.specs.declared.language.Token.TheVariants.{Print}
use Rattle.ti_cap.proofs.PlainFormatLemmas.{plain_first}
use Rattle.ti_cap.proofs.read_format.read_format.Goals as goal

pub returns-in-Some : goal.returns-in-Some
returns-in-Some c =
    ap (λ f. Ok (Print f, 2)) c.plain.ensures ∙ sym (plain_first c.args.bytes.now c.in-Some.conversion c.in-len1-up.len_at_least (sym c.in-Some.ensures))
