use Rattle.std.proofs.Common.{IfErr, OnOk, subst, take}
use Rattle.std.proofs.lemmas.List.{take-replicate}
use Rattle.std.specs.Io.KnownBytes.{Appends}
use Rattle.ti_pad.proofs.writing.write_block.Goals as goal

pub returns-clause-written : goal.returns-clause-written
returns-clause-written g c =
    subst (λ l. OnOk c.write_some.result (Appends (g.W.Write.contents c.args.writer.now) (g.W.Write.contents c.write_some.new.writer) l))
    (take-replicate c.args.size 512 c.args.pad c.requires) c.write_some.ensures.written

pub returns-clause-gone : goal.returns-clause-gone
returns-clause-gone g c =
    subst (λ l. IfErr c.write_some.result (λ gone. Appends (g.W.Write.contents c.args.writer.now) (g.W.Write.contents c.write_some.new.writer) (take gone l)))
    (take-replicate c.args.size 512 c.args.pad c.requires) c.write_some.ensures.gone
