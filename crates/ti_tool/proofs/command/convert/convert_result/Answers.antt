use Rattle.std.proofs.Common.{◌≡◌, ◌⊎◌, Ok, Err, MatchResult, subst}
use Rattle.ti_words.specs.Value.{EntryValue}
use Rattle.ti_tool.specs.declared.fault.ToolFault.TheVariants as fault
use Rattle.ti_tool.specs.Calls.{NeedsMemory}
use Rattle.ti_tool.specs.Results.{IsEncoding}
use Rattle.ti_tool.proofs.command.convert.convert_result.Goals as goal

pub returns : goal.returns
returns g c =
    let P : EntryValue → Type 0 = λ v. MatchResult c.encoding_of.result (λ x. IsEncoding v (Ok x.items)) (λ e. ((e ≡ fault.Memory) × NeedsMemory (IsEncoding v)) ⊎ IsEncoding v (Err e)) in
    subst P c.in_ok-draft.ensures c.encoding_of.ensures
