-- Worked rows of which strings are looked at, computed.
use Rattle.std.proofs.Common.{◌≡◌, refl, true, false}
use Rattle.std.specs.Prelude.{codes}
use Rattle.ti_control.specs.Capabilities.{is_sent, unsent_names}

sent_rows : (is_sent (codes "cup") ≡ true) × (is_sent (codes "kf1") ≡ false) × (is_sent (codes "u6") ≡ false) × (is_sent (codes "dispc") ≡ false)
unfolding unsent_names
sent_rows = (refl, refl, refl, refl)
