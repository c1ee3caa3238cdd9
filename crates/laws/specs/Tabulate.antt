-- A list by its elements' places, and a list whose last places hold a default.
-- Assumes nothing.
use Rattle.std.specs.Prelude.{ℕ, zero, suc, ◌-◌, ◌≡◌, List, [], ◌∷◌, ◌++◌, length, take, drop, replicate}

abbrev pub tabulate : {A : Type 0} → ℕ → (ℕ → A) → List A
tabulate zero f = []
tabulate (suc n) f = f zero ∷ tabulate n (λ i. f (suc i))

-- the first n of `size` places are filled
abbrev pub Filled : {A : Type 0} → ℕ → (ℕ → A) → List A → ℕ → Type 0
Filled size f l n = (length l ≡ size) × (take n l ≡ tabulate n f)

-- of `size` places those from n on hold a default
abbrev pub Tailed : {A : Type 0} → ℕ → A → List A → ℕ → Type 0
Tailed size d l n = (length l ≡ size) × (drop n l ≡ replicate (size - n) d)

-- values in a list of `size` places, with a default behind them
abbrev pub tailed : {A : Type 0} → ℕ → A → List A → List A
tailed size d l = l ++ replicate (size - length l) d
