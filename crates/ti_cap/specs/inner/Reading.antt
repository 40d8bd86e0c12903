-- How far a reader has come that checks tokens as it goes.
use Rattle.std.specs.Prelude.{◌≡◌, ℕ, ◌-◌, ◌<◌, ◌≤◌, List, [], ◌∷◌, length, take, drop, get_or, None}
use Rattle.ti_base.specs.Limits.{most_capability_bytes}
use Rattle.ti_cap.specs.declared.language.Token.{Token}
use Rattle.ti_cap.specs.declared.scan.OpenExtents.{OpenExtents}
use Rattle.ti_cap.specs.declared.scan.Scan.{Scan}
use Rattle.ti_cap.specs.Spelling.{Written}
use Rattle.ti_cap.specs.inner.Analysis.{Findings, no_findings, findings_after, fault_of}
use Rattle.ti_cap.specs.inner.Scan.{findings_of, IsInOrder}

-- the tokens lead from some findings to others, if there are no texts, and each may stand where it stands
abbrev pub Finds : Findings → List Token → Findings → Type 0
Finds found [] end = end ≡ found
Finds found (token ∷ rest) end = (fault_of found token ≡ None) × Finds (findings_after 0 found token) rest end

-- some tokens write what was taken, so many, and the scan has found what they lead to
pub record IsReading (bytes left : List ℕ) (tokens : ℕ) (scan : Scan) (opens : List OpenExtents) : Type 0 where
  pub fits : (i : ℕ) → get_or bytes i 0 < 256
  pub short : length bytes ≤ most_capability_bytes
  pub within : length left ≤ length bytes
  pub rest : left ≡ drop (length bytes - length left) bytes
  pub before : List Token
  pub taken : Written before (take (length bytes - length left) bytes)
  pub counted : length before ≡ tokens
  pub found : Finds no_findings before (findings_of scan opens)
  pub order : IsInOrder 4 scan
