-- Steps one after the other until all is done, or to the first refusal.
-- Assumes nothing.
use Rattle.std.specs.Prelude.{ℕ, zero, suc, Bool}
use Rattle.laws.specs.Pick.{pick}
use Rattle.laws.specs.Told.{Told, gives, then}

-- `most` bounds the steps, and is large enough wherever a run is used
unfoldable pub run : {S : Type 0} → (S → Bool) → (S → Told S) → (most : ℕ) → S → Told S
run over step zero s = gives s
run over step (suc most) s = pick (over s) (gives s) (then (step s) (run over step most))
