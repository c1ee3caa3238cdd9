-- What a signer of RFC 8554 makes, for the same pair of types. No contract cites this: a theorem says that what is signed so verifies. The secret
-- x[i] of the leaf q is `x q i`.
-- Assumes nothing.
use Rattle.std.specs.Prelude.{ℕ, zero, suc, ◌+◌, ◌-◌, ◌*◌, ◌/◌, ◌%◌, ◌^◌, ◌<◌, ◌≤◌, ◌≡◌, true, List, [], ◌++◌, eqb, length, get_or}
use Rattle.laws.specs.Pick.{pick}
use Rattle.sha256.specs.Sha256.{sha256}
use Rattle.lms.specs.Lms.{identifier, root_of, leaf_number, chain_value, path_node, well_formed, longest_message, key_tag, leaf_tag, inner_tag}
use Rattle.lms.specs.Lms.{prefix, digits, message_hash, chained}

-- 4.3, Algorithm 1: the first i chains' ends one behind the other, and K
unfoldable pub secret_ends : List ℕ → (ℕ → ℕ → List ℕ) → (q i : ℕ) → List ℕ
secret_ends id x q zero = []
secret_ends id x q (suc i) = secret_ends id x q i ++ chained (prefix id q i) 0 (x q i) 255

unfoldable pub public_hash : List ℕ → (ℕ → ℕ → List ℕ) → ℕ → List ℕ
public_hash id x q = sha256 (prefix id q key_tag ++ secret_ends id x q 34)

-- 5.3: T[r], for a node that stands so many levels above the leaves
unfoldable pub tree_node : List ℕ → (ℕ → ℕ → List ℕ) → (above r : ℕ) → List ℕ
tree_node id x zero r = sha256 (prefix id r leaf_tag ++ public_hash id x (r - 32))
tree_node id x (suc above) r = sha256 (prefix id r inner_tag ++ (tree_node id x above (2 * r) ++ tree_node id x above (2 * r + 1)))

-- 5.4.1: r xor 1
abbrev pub neighbour : ℕ → ℕ
neighbour r = pick (eqb (r % 2) 1) (r - 1) (r + 1)

pub record Signed (x : ℕ → ℕ → List ℕ) (key signature message : List ℕ) : Type 0 where
  pub short : length message ≤ longest_message
  pub formed : well_formed key signature ≡ true
  pub leaf : leaf_number signature < 32
  -- 4.5, Algorithm 3: y[i] is x[i], carried on as far as the digit says
  pub values : (i : ℕ) → i < 34
      → chain_value signature i
      ≡ chained (prefix (identifier key) (leaf_number signature) i) 0 (x (leaf_number signature) i)
      (get_or (digits (message_hash (identifier key) (leaf_number signature) signature message)) i 0)
  -- 5.4.1: path[i] is T[(2^h + q) / 2^i xor 1]
  pub path : (i : ℕ) → i < 5 → path_node signature i ≡ tree_node (identifier key) x i (neighbour ((32 + leaf_number signature) / 2 ^ i))
  -- 5.3: the key names T[1]
  pub root : root_of key ≡ tree_node (identifier key) x 5 1
