-- Two equations are one on pairs.
-- Assumes nothing.
use mathlib.Core.Path.{◌≡◌}

pub paired : {A B : Type 0} {a a' : A} {b b' : B} → a ≡ a' → b ≡ b' → ◌≡◌ {A = A × B} (a, b) (a', b')
paired p q i = (p i, q i)
