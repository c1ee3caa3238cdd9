-- A given number of bytes at a place.
-- Assumes nothing.
use Rattle.std.specs.Prelude.{ℕ, ◌+◌, List, [], ◌∷◌, ◌++◌, leb, length, take, drop}
use Rattle.laws.specs.Told.{Told, Found, found, unless}

-- so many bytes from a place on
abbrev pub part : List ℕ → ℕ → ℕ → List ℕ
part s at size = take size (drop at s)

-- 3 where the bytes end before
abbrev pub bytes_at : ℕ → List ℕ → ℕ → Told (Found (List ℕ))
bytes_at size s at = unless (leb (at + size) (length s)) 3 0 (found (part s at size) (at + size))

-- the bytes of several values, one behind the other
abbrev pub joined : {A : Type 0} → (A → List ℕ) → List A → List ℕ
joined written [] = []
joined written (a ∷ rest) = written a ++ joined written rest
