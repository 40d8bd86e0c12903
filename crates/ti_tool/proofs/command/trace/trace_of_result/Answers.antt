use Rattle.std.proofs.Common.{Ok, inl, inr, refl}
use Rattle.std.specs.Option.{option_map}
use Rattle.ti_words.specs.Items.{item_value}
use Rattle.ti_tool.specs.declared.item_name.Names.TheVariants.{All}
use Rattle.ti_tool.specs.Traces.{IsTracedValue}
use Rattle.ti_tool.specs.Unfit.{IsDueIfFit}
use Rattle.ti_tool.proofs.NeedsMemoryLemmas.{called_of}
use Rattle.ti_tool.proofs.UnfitLemmas.{fit_of}
use Rattle.ti_tool.proofs.command.trace.trace_of_result.Goals as goal

pub returns-in-Some : goal.returns-in-Some
returns-in-Some g c = inr (option_map item_value c.item_called-item.result, c.item_called-item.ensures, inl (c.in-Some.which, c.in-Some.ensures.some, refl))

pub returns-in-None : goal.returns-in-None
returns-in-None g c =
    let t = c.args.action.now in
    let value = option_map item_value c.item_called-item.result in
    called_of c.trace_value.result All t.name.now c.args.entry.now (λ i v. IsDueIfFit t.name.now t.given i (IsTracedValue i t) (Ok v.items)) (λ i. IsDueIfFit t.name.now t.given i (IsTracedValue i t)) value c.item_called-item.ensures
    (fit_of t.name.now t.given value (IsTracedValue value t) c.trace_value.result (λ v. IsTracedValue value t) (λ v. v.items) c.in-None.ensures.none c.trace_value.ensures)
