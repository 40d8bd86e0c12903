use Rattle.ti_entry.proofs.EncodedReadsLemmas.{read_of}
use Rattle.ti_entry.proofs.encoding.encode.Goals as goal

pub returns-clause-reads : goal.returns-clause-reads
returns-clause-reads g c = read_of c.encode.result (λ v. v.items) c.args.draft.now c.encode.ensures.encoded
