-- The version, as `ti_base/src/version.rt` has it.
use Rattle.std.specs.Prelude.{ℕ, ◌+◌, ◌*◌}

-- 65536 times its first number, 256 times its second, and its third
abbrev pub version_number : ℕ
version_number = 65536 * 0 + 256 * 4 + 0
