use Rattle.std.proofs.Common.{Ok, inl, inr, refl, true}
use Rattle.std.specs.Option.{option_map}
use Rattle.ti_words.specs.Items.{item_value}
use Rattle.ti_tool.specs.declared.item_name.Names.TheVariants.{All}
use Rattle.ti_tool.specs.Got.{IsValueResult}
use Rattle.ti_tool.specs.Unfit.{IsDueIfFit}
use Rattle.ti_tool.proofs.NeedsMemoryLemmas.{called_of}
use Rattle.ti_tool.proofs.UnfitLemmas.{fit_of}
use Rattle.ti_tool.proofs.command.get.get_result.Goals as goal

pub returns-in-Some : goal.returns-in-Some
returns-in-Some g c = inr (option_map item_value c.item_called-item.result, c.item_called-item.ensures, inl (c.in-Some.which, c.in-Some.ensures.some, refl))

pub returns-in-None : goal.returns-in-None
returns-in-None g c =
    let get = c.args.action.now in
    let value = option_map item_value c.item_called-item.result in
    called_of c.value_result.result All get.name.now c.args.entry.now (λ i a. IsDueIfFit get.name.now get.given i (IsValueResult i get a.passed) (Ok a.bytes.items)) (λ i. IsDueIfFit get.name.now get.given i (IsValueResult i get true)) value c.item_called-item.ensures
    (fit_of get.name.now get.given value (IsValueResult value get true) c.value_result.result (λ a. IsValueResult value get a.passed) (λ a. a.bytes.items) c.in-None.ensures.none c.value_result.ensures)
