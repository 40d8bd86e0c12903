use Rattle.std.proofs.Common.{◌≡◌, ◌++◌, drop, true}
use Rattle.ti_tool.specs.Files.{each_line}
use Rattle.ti_tool.proofs.file_answer.push_each_line.Given as goal

-- what was written, and the lines that are left, are the whole
abbrev pub invariant-loop-byte : goal.invariant-loop-byte
invariant-loop-byte g l =
    l.out.items ++ each_line l.before l.at_start (drop l.byte-index l.lines) ≡ l.initial.out.items ++ each_line l.before true l.lines
