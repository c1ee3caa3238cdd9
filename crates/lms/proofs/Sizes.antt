-- How long the strings are.
-- Assumes nothing.
use mathlib.Core.Path.{◌≡◌, refl}
use mathlib.Core.List.{List, ◌∷◌, ◌++◌}
use Prim.Native.Nat.{ℕ, zero, suc, ◌+◌, ◌-◌, ◌*◌, ◌/◌, ◌<◌, ◌≤◌}
use native.Mathlib.Omega.{arith}
use mathlib.Core.Bool.{true}
use lib.Dec.{eqb}
use lib.ListN.{length, get_or, length-append}
use borrow.Author.Tests.{eqb-true}
use Rattle.laws.proofs.Bytes.{part_length}
use Rattle.laws.proofs.Every.{both_true}
use Rattle.laws.proofs.Tabulate.{length_tabulate}
use Rattle.sha256.specs.Sha256.{padded, hashed, digest_byte, sha256}
use Rattle.lms.specs.Lms.{u16str, u32str, identifier, well_formed, prefix, chain_value, chained, chain_end, chain_ends}

-- a key and a signature of the right form
pub formed_sizes : (key signature : List ℕ) → well_formed key signature ≡ true → (length key ≡ 56) × (length signature ≡ 1292)
formed_sizes key signature e =
    let (one, rest) = both_true (eqb (length key) 56) _ e in
    let (two, _) = both_true (eqb (length signature) 1292) _ rest in
    (eqb-true _ _ one, eqb-true _ _ two)

pub hash_size : (m : List ℕ) → length (sha256 m) ≡ 32
unfolding sha256
hash_size m = length_tabulate 32 (digest_byte (hashed (padded m) (length (padded m) / 64)))

pub prefix_size : (key : List ℕ) (number tag : ℕ) → length key ≡ 56 → length (prefix (identifier key) number tag) ≡ 22
unfolding prefix
prefix_size key number tag long =
    omega (arith, length-append (identifier key) (u32str number ++ u16str tag), part_length key 8 16 (omega arith))

chained_size : (front : List ℕ) (a : ℕ) (y : List ℕ) (steps : ℕ) → length y ≡ 32 → length (chained front a y steps) ≡ 32
unfolding chained
chained_size front a y zero long = long
chained_size front a y (suc steps) long = hash_size (front ++ ((a + steps) ∷ chained front a y steps))

module _ (id : List ℕ) (q : ℕ) (signature digits : List ℕ) (long : length signature ≡ 1292) where
  pub end_size : (i : ℕ) → i < 34 → length (chain_end id q signature digits i) ≡ 32
  unfolding chain_end
  end_size i h =
      chained_size (prefix id q i) (get_or digits i 0) (chain_value signature i) (255 - get_or digits i 0)
      (part_length signature (40 + 32 * i) 32 (omega arith))

  pub ends_size : (i : ℕ) → i ≤ 34 → length (chain_ends id q signature digits i) ≡ 32 * i
  unfolding chain_ends
  ends_size zero h = refl
  ends_size (suc i) h =
      let before = ends_size i (omega arith) in
      let this = end_size i (omega arith) in
      omega (arith, length-append (chain_ends id q signature digits i) (chain_end id q signature digits i))
