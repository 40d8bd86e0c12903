use Rattle.std.proofs.Common.{◌≡◌, ◌↔◌, Bool, subst, sym, true}
use Rattle.ti_rules.specs.NameBytes.{IsFit}
use Rattle.ti_rules.proofs.NameBytesLemmas.{fit_is}
use Rattle.ti_rules.proofs.name_bytes.is_fit.Goals as goal

pub returns : goal.returns
returns c =
    let name = c.args.name.now in
    let P : Bool → Type 0 = λ b. (b ≡ true) ↔ IsFit name in
    subst P (sym c.is_neither.ensures) (fit_is name c.first_malformed.result c.control_place.result c.first_malformed.ensures.first c.control_place.ensures)
