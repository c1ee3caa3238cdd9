-- A loop over the first elements of a list: what a test over them says, and their bytes one behind the other.
-- Assumes nothing.
use mathlib.Core.Path.{◌≡◌, refl}
use mathlib.Core.Bool.{Bool, true, false}
use mathlib.Core.List.{List, [], ◌∷◌, ◌++◌, append_assoc, append-nil}
use Prim.Native.Nat.{ℕ, zero, suc, ◌*◌, ◌<◌, ◌≤◌, zero-le}
use native.Mathlib.Nat.{not-suc-le-zero, le_of_suc-le-suc, suc-mul}
use native.Mathlib.Omega.{arith}
use lib.ListN.{length, take, get_or, length-append}
use lib.Seq.{take-suc}
use Rattle.std.specs.List.{list_all}
use Rattle.laws.specs.Bytes.{joined}
use Rattle.laws.proofs.Every.{both_true, both_false}

module _ {A : Type 0} (test : A → Bool) where
  pub every_more : (l : List A) (i : ℕ) (d : A) → i < length l → list_all test (take i l) ≡ true → test (get_or l i d) ≡ true
      → list_all test (take (suc i) l) ≡ true
  every_more [] i d h e t = absurd (not-suc-le-zero h)
  every_more (a ∷ rest) zero d h e t = rw t
  every_more (a ∷ rest) (suc i) d h e t =
      let (fine, others) = both_true (test a) (list_all test (take i rest)) e in
      rw fine (every_more rest i d (le_of_suc-le-suc h) others t)

  -- one that fails is enough
  pub every_fails : (l : List A) (count i : ℕ) (d : A) → i < length l → i < count → test (get_or l i d) ≡ false → list_all test (take count l) ≡ false
  every_fails [] count i d h k t = absurd (not-suc-le-zero h)
  every_fails (a ∷ rest) zero i d h k t = absurd (not-suc-le-zero k)
  every_fails (a ∷ rest) (suc count) zero d h k t = rw t
  every_fails (a ∷ rest) (suc count) (suc i) d h k t =
      rw (every_fails rest count i d (le_of_suc-le-suc h) (le_of_suc-le-suc k) t) (both_false (test a))

module _ {A : Type 0} (written : A → List ℕ) where
  pub joined_append : (xs ys : List A) → joined written (xs ++ ys) ≡ joined written xs ++ joined written ys
  joined_append [] ys = refl
  joined_append (x ∷ xs) ys = rw (joined_append xs ys, append_assoc)

  pub joined_more : (l : List A) (i : ℕ) (d : A) → i < length l
      → joined written (take (suc i) l) ≡ joined written (take i l) ++ written (get_or l i d)
  joined_more l i d h =
      rw (take-suc l i d h, joined_append (take i l) (get_or l i d ∷ []), append-nil)

  -- fewer elements take no more bytes
  pub joined_less : (l : List A) (few many : ℕ) → few ≤ many → length (joined written (take few l)) ≤ length (joined written (take many l))
  joined_less [] zero many h = zero-le
  joined_less [] (suc few) many h = zero-le
  joined_less (a ∷ rest) zero many h = zero-le
  joined_less (a ∷ rest) (suc few) zero h = absurd (not-suc-le-zero h)
  joined_less (a ∷ rest) (suc few) (suc many) h =
      let less = joined_less rest few many (le_of_suc-le-suc h) in
      omega (arith, length-append (written a) (joined written (take few rest)), length-append (written a) (joined written (take many rest)))

  pub joined_most : (l : List A) (most : ℕ) → ((a : A) → length (written a) ≤ most) → length (joined written l) ≤ length l * most
  joined_most [] most each = zero-le
  joined_most (a ∷ rest) most each =
      let less = joined_most rest most each in
      let one = each a in
      omega (arith, length-append (written a) (joined written rest), suc-mul (length rest) most)
