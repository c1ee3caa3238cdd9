-- What it is for a format's writing and reading to be inverse, both ways.
-- Assumes nothing.
use Rattle.std.specs.Prelude.{ℕ, ◌+◌, ◌<◌, ◌≡◌, List, [], ◌∷◌, ◌++◌, length, get_or, drop}
use Rattle.laws.specs.Told.{Told, gives, Found, found}

abbrev pub Bytes : List ℕ → Type 0
Bytes s = (i : ℕ) → get_or s i 0 < 256

-- each of several values is valid
abbrev pub Each : {A : Type 0} → (A → Type 0) → List A → Type 0
Each valid [] = Unit {0}
Each valid (a ∷ rest) = valid a × Each valid rest

-- `valid` says which values the format has, `written` gives a value's bytes, `readAt` reads at a place of a slice
pub record Inverse {A : Type 0} (valid : A → Type 0) (written : A → List ℕ) (readAt : List ℕ → ℕ → Told (Found A)) : Type 0 where
  -- what is written is bytes
  pub bytes : (a : A) → valid a → Bytes (written a)
  -- it reads back, whatever stands before and after it
  pub reads_back : (before after : List ℕ) (a : A) → valid a
      → readAt (before ++ (written a ++ after)) (length before) ≡ found a (length before + length (written a))
  -- and what reads, reads from exactly the bytes that writing gives
  pub only_written : (s : List ℕ) (at : ℕ) (r : Found A) → Bytes s → readAt s at ≡ gives r
      → valid r.value × (r.next ≡ at + length (written r.value)) × (drop at s ≡ written r.value ++ drop r.next s)
