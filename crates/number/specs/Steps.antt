-- What a private function answers: the loop that reads a number takes its groups from the lowest up. No caller needs this.
-- Assumes nothing.
use Rattle.std.specs.Prelude.{ℕ, ◌+◌, ◌*◌, ltb}
use Rattle.laws.specs.Told.{Told, Found, found, then, unless}

-- a number whose lower groups make `low`, and whose other groups make a number that counts `scale` times: 0 there is not the shortest form
abbrev pub finished : ℕ → ℕ → Told (Found ℕ) → Told (Found ℕ)
finished low scale rest = then rest λ r. unless (ltb 0 r.value) 4 0 (found (low + r.value * scale) r.next)
