-- The two cases of a test on numbers.
-- Assumes nothing.
use mathlib.Core.Path.{◌≡◌, refl}
use mathlib.Core.Bool.{Bool, true, false}
use Prim.Native.Nat.{ℕ, ◌<◌, ◌≤◌}
use lib.Dec.{ltb, eqb}
use borrow.Author.Tests.{ltb-true, ltb-false, eqb-true, eqb-false}

pub lt_cases : {P : Type 0} (a b : ℕ) → (a < b → P) → (b ≤ a → P) → P
lt_cases {P} a b less more = go (ltb a b) refl
  where
    go : (β : Bool) → ltb a b ≡ β → P
    go true e = less (ltb-true a b e)
    go false e = more (ltb-false a b e)

pub eq_cases : {P : Type 0} (a b : ℕ) → (a ≡ b → P) → ((a ≡ b → ⊥) → P) → P
eq_cases {P} a b same other = go (eqb a b) refl
  where
    go : (β : Bool) → eqb a b ≡ β → P
    go true e = same (eqb-true a b e)
    go false e = other (eqb-false a b e)
