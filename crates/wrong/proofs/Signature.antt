-- There is a signature for every message that is not too long: what a signer of RFC 8554 makes at its leaf 0, from secrets of zeros. Its chains are
-- too long to compute here, so that it is put together and not written out.
-- Assumes nothing.
use mathlib.Core.Path.{◌≡◌, refl, sym, ap, ◌∙◌}
use mathlib.Core.List.{List, [], ◌∷◌, ◌++◌, append_assoc}
use Prim.Native.Nat.{ℕ, zero, suc, ◌+◌, ◌*◌, ◌/◌, ◌^◌, ◌<◌, ◌≤◌}
use native.Mathlib.Nat.{not-suc-le-zero}
use native.Mathlib.Omega.{arith}
use lib.ListN.{length, get_or, take, drop, length-append}
use lib.Seq.{drop-append_seam, drop-drop, get_or-append-add, take_all, take_at}
use borrow.Author.Tests.{eq-eqb}
use Rattle.laws.specs.Bytes.{part}
use Rattle.lms.specs.Lms.{str_tou32, identifier, root_of, leaf_number, randomizer, chain_value, path_node, message_tag, longest_message}
use Rattle.lms.specs.Lms.{prefix, digits, message_hash, chained}
use Rattle.sha256.specs.Sha256.{sha256}
use Rattle.lms.specs.Signing.{tree_node, neighbour, Signed}
use Rattle.lms.proofs.Sizes.{hash_size}
use Rattle.wrong.specs.Named.{zeros}

-- values of 32 bytes, one behind the other
pieces : ℕ → (ℕ → List ℕ) → List ℕ
pieces zero f = []
pieces (suc n) f = f zero ++ pieces n (λ i. f (suc i))

pieces_size : (n : ℕ) (f : ℕ → List ℕ) → ((i : ℕ) → length (f i) ≡ 32) → length (pieces n f) ≡ 32 * n
unfolding pieces
pieces_size zero f long = refl
pieces_size (suc n) f long =
    omega (arith, length-append (f zero) (pieces n (λ i. f (suc i))), long zero, pieces_size n (λ i. f (suc i)) (λ i. long (suc i)))

piece : (n : ℕ) (f : ℕ → List ℕ) → ((i : ℕ) → length (f i) ≡ 32) → (rest : List ℕ) (i : ℕ) → i < n → part (pieces n f ++ rest) (32 * i) 32 ≡ f i
unfolding pieces
piece zero f long rest i h = absurd (not-suc-le-zero h)
piece (suc n) f long rest zero h =
    ap (take 32) (append_assoc (f zero) (pieces n (λ i. f (suc i))) rest)
    ∙ take_at (f zero) (pieces n (λ i. f (suc i)) ++ rest) 32 (long zero)
piece (suc n) f long rest (suc i) h =
    let others = pieces n (λ i. f (suc i)) ++ rest in
    let split : pieces (suc n) f ++ rest ≡ f zero ++ others = append_assoc (f zero) (pieces n (λ i. f (suc i))) rest in
    let place : 32 * suc i ≡ length (f zero) + 32 * i = omega (arith, long zero) in
    let moved : drop (length (f zero) + 32 * i) (f zero ++ others) ≡ drop (32 * i) others =
    sym (drop-drop (32 * i) (length (f zero)) (f zero ++ others)) ∙ ap (drop (32 * i)) (drop-append_seam (f zero) others) in
    rw (split, place, moved) (piece n (λ i. f (suc i)) (λ i. long (suc i)) rest i (omega arith))

-- what stands behind a part
past : (front rest : List ℕ) (at : ℕ) → drop (length front + at) (front ++ rest) ≡ drop at rest
past front rest at = sym (drop-drop at (length front) (front ++ rest)) ∙ ap (drop at) (drop-append_seam front rest)

abbrev id : List ℕ
id = zeros 16

abbrev pub secrets : ℕ → ℕ → List ℕ
secrets q i = zeros 32

node_size : (above r : ℕ) → length (tree_node id secrets above r) ≡ 32
unfolding tree_node
node_size zero r = hash_size _
node_size (suc above) r = hash_size _

chain_size : (front : List ℕ) (steps : ℕ) → length (chained front 0 (zeros 32) steps) ≡ 32
unfolding chained
chain_size front zero = refl
chain_size front (suc steps) = hash_size _

-- the types, I and T[1]
pub key : List ℕ
key = (0 ∷ 0 ∷ 0 ∷ 5 ∷ 0 ∷ 0 ∷ 0 ∷ 4 ∷ zeros 16) ++ tree_node id secrets 5 1

key_size : length key ≡ 56
unfolding key
key_size = omega (arith, length-append (0 ∷ 0 ∷ 0 ∷ 5 ∷ 0 ∷ 0 ∷ 0 ∷ 4 ∷ zeros 16) (tree_node id secrets 5 1), node_size 5 1)

key_types : (str_tou32 key 0 ≡ 5) × (str_tou32 key 4 ≡ 4)
unfolding key
key_types = (refl, refl)

id_is : identifier key ≡ id
unfolding key
id_is = refl

root_is : root_of key ≡ tree_node id secrets 5 1
unfolding key
root_is = take_all 32 (tree_node id secrets 5 1) (omega (arith, node_size 5 1))

module _ (message : List ℕ) where
  hash : List ℕ
  hash = sha256 (prefix id 0 message_tag ++ (zeros 32 ++ message))

  value : ℕ → List ℕ
  value i = chained (prefix id 0 i) 0 (zeros 32) (get_or (digits hash) i 0)

  node : ℕ → List ℕ
  node i = tree_node id secrets i (neighbour (32 / 2 ^ i))

  -- q, the LM-OTS type and C
  abbrev front : List ℕ
  front = 0 ∷ 0 ∷ 0 ∷ 0 ∷ 0 ∷ 0 ∷ 0 ∷ 4 ∷ zeros 32

  abbrev behind : List ℕ
  behind = (0 ∷ 0 ∷ 0 ∷ 5 ∷ []) ++ (pieces 5 node ++ [])

  pub signature : List ℕ
  signature = front ++ (pieces 34 value ++ behind)

  value_size : (i : ℕ) → length (value i) ≡ 32
  unfolding value
  value_size i = chain_size (prefix id 0 i) (get_or (digits hash) i 0)

  sized : (i : ℕ) → length (node i) ≡ 32
  unfolding node
  sized i = node_size i (neighbour (32 / 2 ^ i))

  values_size : length (pieces 34 value) ≡ 1088
  values_size = omega (arith, pieces_size 34 value value_size)

  signature_size : length signature ≡ 1292
  unfolding signature
  signature_size =
      omega (
        arith,
        length-append front (pieces 34 value ++ behind),
        length-append (pieces 34 value) behind,
        values_size,
        length-append (0 ∷ 0 ∷ 0 ∷ 5 ∷ []) (pieces 5 node ++ []),
        length-append (pieces 5 node) [],
        pieces_size 5 node sized,
      )

  parts : (str_tou32 signature 4 ≡ 4) × (leaf_number signature ≡ 0) × (randomizer signature ≡ zeros 32)
  unfolding signature
  parts = (refl, refl, refl)

  byte : (k n : ℕ) → n ≡ 1128 + k → get_or signature n 0 ≡ get_or behind k 0
  unfolding signature
  byte k n is =
      let place : n ≡ length front + (length (pieces 34 value) + k) = omega (arith, values_size) in
      ap (λ (m : ℕ). get_or (front ++ (pieces 34 value ++ behind)) m 0) place
      ∙ get_or-append-add front (pieces 34 value ++ behind) (length (pieces 34 value) + k) 0
      ∙ get_or-append-add (pieces 34 value) behind k 0

  tree_type : str_tou32 signature 1128 ≡ 5
  tree_type = rw (byte 0 1128 refl, byte 1 1129 refl, byte 2 1130 refl, byte 3 1131 refl)

  value_is : (i : ℕ) → i < 34 → chain_value signature i ≡ value i
  unfolding signature
  value_is i h = ap (take 32) (past front (pieces 34 value ++ behind) (32 * i)) ∙ piece 34 value value_size behind i h

  node_is : (i : ℕ) → i < 5 → path_node signature i ≡ node i
  unfolding signature
  node_is i h =
      let place : 1132 + 32 * i ≡ length front + (length (pieces 34 value) + (4 + 32 * i)) = omega (arith, values_size) in
      let moved : drop (1132 + 32 * i) (front ++ (pieces 34 value ++ behind)) ≡ drop (32 * i) (pieces 5 node ++ []) =
      ap (λ (m : ℕ). drop m (front ++ (pieces 34 value ++ behind))) place
      ∙ past front (pieces 34 value ++ behind) (length (pieces 34 value) + (4 + 32 * i))
      ∙ past (pieces 34 value) behind (4 + 32 * i)
      ∙ past (0 ∷ 0 ∷ 0 ∷ 5 ∷ []) (pieces 5 node ++ []) (32 * i) in
      ap (take 32) moved ∙ piece 5 node sized [] i h

  hash_is : message_hash id 0 signature message ≡ hash
  unfolding message_hash hash
  hash_is = rw parts.2

  pub made : length message ≤ longest_message → Signed secrets key signature message
  unfolding value node
  made short = record {
    short = short;
    formed = rw (eq-eqb _ _ key_size, eq-eqb _ _ signature_size, key_types.0, key_types.1, parts.0, tree_type);
    leaf = omega (arith, parts.1);
    values = λ i h. rw (id_is, parts.1, hash_is) (value_is i h);
    path = λ i h. rw (id_is, parts.1) (node_is i h);
    root = rw id_is root_is;
  }
