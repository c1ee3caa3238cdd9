-- When what is told of an answer loses nothing of it.
-- Assumes nothing.
use Rattle.std.specs.Prelude.{◌≡◌}

-- two answers that tell the same are the same
abbrev pub Faithful : {A B : Type 0} → (A → B) → Type 0
Faithful {A} told = (a b : A) → told a ≡ told b → a ≡ b
