-- 02, e: a block is settled when it lies more than so many slots back. The code answers this of a table that was read, and the argument of demand 3 is
-- about it.
-- Assumes nothing.
use Rattle.std.specs.Prelude.{ℕ, ◌+◌, ◌-◌, ◌*◌, ◌/◌}

-- "D = 3t(k + 1) + 1, where k is 2t divided by n − 3t, rounded down"
abbrev pub depth_for : (n t : ℕ) → ℕ
depth_for n t = 3 * t * (2 * t / (n - 3 * t) + 1) + 1
