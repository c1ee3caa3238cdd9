-- The digest's bytes where zeros stand for those that are refused, as in the C interface's answer.
-- Assumes nothing.
use Rattle.std.specs.Prelude.{List, ℕ, length, replicate, nat_le}
use Rattle.laws.specs.Pick.{pick}
use Rattle.sha256.specs.Sha256.{longest, sha256}

-- a slice that is too long leaves zeros
abbrev pub bytes_of : List ℕ → List ℕ
bytes_of m = pick (nat_le (length m) longest) (sha256 m) (replicate 32 0)
