-- One statement over one list of cases, by a test that computes.
-- Assumes nothing.
use Rattle.std.specs.Prelude.{ℕ, Bool, true, false, ◌&&◌, List, [], ◌∷◌, leb, eqb}

abbrev pub both : Bool → Bool → Bool
both a b = a && b

-- a number from the least to the most
abbrev pub within : ℕ → ℕ → ℕ → Bool
within least most n = both (leb least n) (leb n most)

-- two lists of numbers are the same
abbrev pub same : List ℕ → List ℕ → Bool
same [] [] = true
same [] (y ∷ ys) = false
same (x ∷ xs) [] = false
same (x ∷ xs) (y ∷ ys) = both (eqb x y) (same xs ys)
