use Rattle.std.proofs.Common.{ap, inl, inr, true≢false, sym}
use Rattle.clap.specs.Words.{subcommand_of}
use Rattle.ti_line.specs.CommandLine.{command_in, faults, ti_app}
use Rattle.ti_line.proofs.LawsLemmas.{none_any, same, three}
use Rattle.ti_line.proofs.FaultlessLemmas.{all_complete, line_made}
use Rattle.ti_line.proofs.laws.words_are_read_once.Goals as goal

pub returns-clause-one : goal.returns-clause-one
returns-clause-one c = λ words command other rows others a b.
    let both = same (command_in (subcommand_of ti_app words)) (command, rows) (other, others) a.1 b.1 in
    (ap (λ p. p.0) both, ap (λ p. p.1) both)

pub returns-clause-apart : goal.returns-clause-apart
returns-clause-apart c = λ words (command, rows, read) other. elim other [
  | inl help ↦ true≢false (sym (none_any _ (faults words) read.0 help))
  | inr fault ↦ true≢false (sym (none_any _ (faults words) read.0 fault))
]

pub returns-clause-whole : goal.returns-clause-whole
returns-clause-whole c = λ words. three (faults words) (line_made words)

pub returns-clause-within : goal.returns-clause-within
returns-clause-within c = all_complete
