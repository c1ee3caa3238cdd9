-- What adoption answers, as the code holds it.
-- Assumes nothing.
use Rattle.std.specs.Prelude.{ℕ}
use Rattle.laws.specs.Told.{Told, given_or}
use Rattle.order.specs.declared.BlockCount.{BlockCount}
use Rattle.adopt.specs.declared.Adopted.{Adopted}

abbrev pub count_held : ℕ → BlockCount
count_held count = record { 0 = count }

abbrev pub adopted_held : ℕ × ℕ → Adopted
adopted_held a = record { length = a.0; count = count_held a.1 }

-- a refusal leaves the length that was held before, and no count
abbrev pub size_and_count_or : ℕ → Told (ℕ × ℕ) → ℕ × ℕ
size_and_count_or before t = given_or (before, 0) t
