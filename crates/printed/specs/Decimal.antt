-- A number in decimal digits.
-- Assumes nothing.
use Rattle.std.specs.Prelude.{ℕ, zero, suc, ◌+◌, ◌/◌, ◌%◌, List, [], ◌∷◌, ◌++◌, ltb}
use Rattle.laws.specs.Pick.{pick}

-- the letter of a digit: 48 is `0`
abbrev pub digit : ℕ → ℕ
digit d = 48 + d

-- a number in at most k digits, the highest first and no 0 before it
unfoldable pub digits : ℕ → ℕ → List ℕ
digits zero v = []
digits (suc k) v = pick (ltb v 10) (digit v ∷ []) (digits k (v / 10) ++ (digit (v % 10) ∷ []))

-- twenty digits hold every number of 64 bits
unfoldable pub decimal : ℕ → List ℕ
decimal v = digits 20 v
