use Rattle.std.proofs.Common.{rules}
use Rattle.ti_sink.specs.Printed.{first_member}
use Rattle.ti_sink.proofs.PrintedLemmas.{added_object}
use Rattle.ti_sink.proofs.printer.Printer.object.Goals as goal

pub returns-then-starts_value-clause-object : goal.returns-then-starts_value-clause-object
returns-then-starts_value-clause-object g c = record {
  fits = search rules;
  kept = search rules;
  added = λ unrefused fits. added_object c.push_object.result (first_member c.args.name.now c.args.word.now) c.args.self.now.bytes c.self-2.inside.bytes.items c.push_object.new.out.items (search rules) c.push_object.ensures.text (search rules);
}
