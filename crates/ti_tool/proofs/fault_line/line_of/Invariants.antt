use Rattle.std.proofs.Common.{◌≡◌, ◌++◌, drop}
use Rattle.std.specs.Prelude.{flat_map}
use Rattle.ti_tool.proofs.fault_line.line_of.Given as goal

-- what stands in the line, and the pieces that are left, are the whole
abbrev pub invariant-loop-piece : goal.invariant-loop-piece
invariant-loop-piece l =
    l.line.items ++ flat_map (λ piece. piece.now) (drop l.piece-index l.pieces) ≡ flat_map (λ piece. piece.now) l.pieces
