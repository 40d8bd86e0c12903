use Rattle.std.proofs.Common.{◌≡◌, drop}
use Rattle.ti_names.proofs.HintLemmas.{hash_from}
use Rattle.ti_names.proofs.hint.row_of.Given as goal

-- the bytes that are left lead to the hash of the name
abbrev pub invariant-loop-byte : goal.invariant-loop-byte
invariant-loop-byte l = hash_from l.hash (drop l.byte-index l.name) ≡ hash_from 0 l.name
