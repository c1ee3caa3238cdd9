-- A run of bytes stored in a buffer, piece by piece.
-- Assumes nothing.
use mathlib.Core.Path.{◌≡◌, ap, ◌∙◌}
use mathlib.Core.List.{List, [], ◌∷◌, ◌++◌}
use Prim.Native.Nat.{ℕ, suc, ◌+◌}
use native.Mathlib.Omega.{arith}
use native.Mathlib.Nat.{add-zero}
use lib.ListN.{length, set}
use lib.Seq.{sets}

-- two pieces one behind the other are one piece
pub sets_join : (out : List ℕ) (at : ℕ) (xs ys : List ℕ) → sets (sets out at xs) (at + length xs) ys ≡ sets out at (xs ++ ys)
sets_join out at [] ys = ap (λ (n : ℕ). sets out n ys) (add-zero at)
sets_join out at (x ∷ xs) ys =
    let place : at + suc (length xs) ≡ suc at + length xs = omega arith in
    ap (λ (n : ℕ). sets (sets (set out at x) (suc at) xs) n ys) place ∙ sets_join (set out at x) (suc at) xs ys
