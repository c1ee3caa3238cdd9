-- What a signer makes leads from the leaf up to the root that the key names.
-- Assumes nothing.
use mathlib.Core.Path.{◌≡◌, refl, sym, ap, ◌∙◌}
use mathlib.Core.List.{List, [], ◌∷◌, ◌++◌}
use Prim.Native.Nat.{ℕ, zero, suc, ◌+◌, ◌-◌, ◌*◌, ◌/◌, ◌%◌, ◌^◌, ◌<◌, ◌≤◌}
use native.Mathlib.Nat.{div-one}
use native.Mathlib.Numerals.{add-one}
use native.Mathlib.Omega.{arith}
use lib.ListN.{length}
use borrow.Author.Tests.{eq-eqb, ne_eqb}
use Rattle.laws.specs.Format.{Bytes}
use Rattle.laws.specs.Tabulate.{tabulate}
use Rattle.laws.proofs.Bytes.{bytes_append, bytes_cons, bytes_nil}
use Rattle.laws.proofs.Cases.{lt_cases, eq_cases}
use Rattle.sha256.specs.Sha256.{padded, hashed, digest_byte, sha256}
use Rattle.lms.specs.Lms.{identifier, root_of, leaf_number, path_node, leaf_tag}
use Rattle.lms.specs.Lms.{u16str, prefix, checksum, digits, message_hash, chain_ends, key_hash_of, parent, climbed, root_from}
use Rattle.lms.specs.Signing.{secret_ends, public_hash, tree_node, neighbour, Signed}
use Rattle.lms.proofs.Chains.{end_from_secret, halved}

tabulated : (n : ℕ) (f : ℕ → ℕ) → ((i : ℕ) → f i < 256) → Bytes (tabulate n f)
tabulated zero f h = bytes_nil
tabulated (suc n) f h = bytes_cons (f zero) (tabulate n (λ i. f (suc i))) (h zero) (tabulated n (λ i. f (suc i)) (λ i. h (suc i)))

pub hash_bytes : (m : List ℕ) → Bytes (sha256 m)
unfolding sha256
hash_bytes m =
    let hash = hashed (padded m) (length (padded m) / 64) in
    tabulated 32 (digest_byte hash) (λ i. omega arith)

digit_bytes : (hash : List ℕ) → Bytes hash → Bytes (digits hash)
unfolding digits
digit_bytes hash h =
    let sum = checksum hash 32 in
    bytes_append hash (u16str sum) h
    (bytes_cons (sum / 256 % 256) (sum % 256 ∷ []) (omega arith) (bytes_cons (sum % 256) [] (omega arith) bytes_nil))

hashed_bytes : (id : List ℕ) (q : ℕ) (signature message : List ℕ) → Bytes (message_hash id q signature message)
unfolding message_hash
hashed_bytes id q signature message = hash_bytes _

even : (r : ℕ) → (r % 2 ≡ 1 → ⊥) → r % 2 ≡ 0
even r other = lt_cases (r % 2) 1 (λ less. omega arith) (λ more. absurd (other (omega arith)))

module _ (x : ℕ → ℕ → List ℕ) (key signature message : List ℕ) (signed : Signed x key signature message) where
  abbrev id : List ℕ
  id = identifier key

  abbrev q : ℕ
  q = leaf_number signature

  abbrev its : List ℕ
  its = digits (message_hash id q signature message)

  ends : (i : ℕ) → i ≤ 34 → chain_ends id q signature its i ≡ secret_ends id x q i
  unfolding chain_ends secret_ends
  ends zero h = refl
  ends (suc i) h =
      let before = ends i (omega arith) in
      let small = digit_bytes (message_hash id q signature message) (hashed_bytes id q signature message) i in
      let end = end_from_secret id q signature its i (x q i) small (signed.values i (omega arith)) in
      rw (before, end)

  hash : key_hash_of id q signature message ≡ public_hash id x q
  unfolding key_hash_of public_hash
  hash = rw (ends 34 (omega arith))

  -- a node, its neighbour and the node above them
  above : (i r : ℕ) (beside : List ℕ) → beside ≡ tree_node id x i (neighbour r)
      → parent id r beside (tree_node id x i r) ≡ tree_node id x (suc i) (r / 2)
  unfolding parent tree_node
  above i r beside e =
      eq_cases (r % 2) 1
      (λ odd.
      let left : r - 1 ≡ 2 * (r / 2) = omega arith in
      let right : 2 * (r / 2) + 1 ≡ r = omega arith in
      rw (e, eq-eqb (r % 2) 1 odd, left, right))
      (λ other.
      let left : 2 * (r / 2) ≡ r = omega (arith, even r other) in
      rw (e, ne_eqb (r % 2) 1 other, left))

  climbs : (i : ℕ) → i ≤ 5 → climbed id (32 + q) signature (tree_node id x 0 (32 + q)) i ≡ tree_node id x i ((32 + q) / 2 ^ i)
  unfolding climbed
  climbs zero h = ap (tree_node id x 0) (sym (div-one (32 + q)))
  climbs (suc i) h =
      let half : (32 + q) / 2 ^ i / 2 ≡ (32 + q) / 2 ^ suc i = halved (32 + q) i ∙ ap (λ (n : ℕ). (32 + q) / 2 ^ n) (add-one i) in
      rw (climbs i (omega arith), above i ((32 + q) / 2 ^ i) (path_node signature i) (signed.path i (omega arith)), half)

  bottom : sha256 (prefix id (32 + q) leaf_tag ++ key_hash_of id q signature message) ≡ tree_node id x 0 (32 + q)
  unfolding tree_node
  bottom = let own : 32 + q - 32 ≡ q = omega arith in rw (hash, own)

  pub leads_to_the_root : root_from id q signature (key_hash_of id q signature message) ≡ root_of key
  unfolding root_from
  leads_to_the_root =
      let top : (32 + q) / 32 ≡ 1 = omega (arith, signed.leaf) in
      ap (λ (l : List ℕ). climbed id (32 + q) signature l 5) bottom ∙ climbs 5 (omega arith) ∙ ap (tree_node id x 5) top ∙ sym signed.root
