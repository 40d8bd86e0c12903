use Rattle.std.proofs.Common.{List, Ok, ℕ}
use Rattle.std.specs.Option.{option_and_then, option_map}
use Rattle.std.specs.Prelude.{Option, Result}
use Rattle.ti_words.specs.Items.{ItemValue, item_value, text_in}
use Rattle.ti_tool.specs.declared.fault.ToolFault.{ToolFault}
use Rattle.ti_tool.specs.declared.item_name.Names.TheVariants.{Texts}
use Rattle.ti_tool.specs.Results.{IsDue}
use Rattle.ti_tool.proofs.NeedsMemoryLemmas.{called_of}
use Rattle.ti_tool.proofs.command.expand.expand_result.Goals as goal

pub returns : goal.returns
returns g c =
    let e = c.args.action.now in
    let due : Option ItemValue → Result (List ℕ) ToolFault → Type 0 = λ i. IsDue (option_and_then text_in i) e.parameters.values e.padding e.output in
    called_of c.expand_value.result (Texts e.name.names) e.name.name.now c.args.entry.now (λ i v. due i (Ok v.items)) due (option_map item_value c.item_called.result) c.item_called.ensures c.expand_value.ensures
