-- How RFC 8554 verifies an LMS signature of one pair of types, LMS_SHA256_M32_H5 and LMOTS_SHA256_N32_W8: its H is SHA-256, n and m are 32, w is 8, p
-- is 34, ls is 0 and h is 5 (its tables 1 and 2). The numbers and names beside the definitions are that paper's.
-- Assumes nothing.
use Rattle.std.specs.Prelude.{ℕ, zero, suc, ◌+◌, ◌-◌, ◌*◌, ◌/◌, ◌%◌, ◌^◌, Bool, List, [], ◌∷◌, ◌++◌, ltb, leb, eqb, length, get_or}
use Rattle.laws.specs.Bytes.{part}
use Rattle.laws.specs.Every.{both, same}
use Rattle.laws.specs.Pick.{pick}
use Rattle.laws.specs.Told.{Told, gives, unless}
use Rattle.sha256.specs.Sha256.{sha256}

-- 3: numbers as strings of bytes, the highest first, and four bytes of a string as a number
abbrev pub u16str : ℕ → List ℕ
u16str x = x / 256 % 256 ∷ x % 256 ∷ []

abbrev pub u32str : ℕ → List ℕ
u32str x = x / 16777216 % 256 ∷ x / 65536 % 256 ∷ x / 256 % 256 ∷ x % 256 ∷ []

abbrev pub str_tou32 : List ℕ → ℕ → ℕ
str_tou32 s at = ((get_or s at 0 * 256 + get_or s (at + 1) 0) * 256 + get_or s (at + 2) 0) * 256 + get_or s (at + 3) 0

-- 5.3: a public key is its LMS type, its LM-OTS type, I and T[1]
abbrev pub identifier : List ℕ → List ℕ
identifier key = part key 8 16

abbrev pub root_of : List ℕ → List ℕ
root_of key = part key 24 32

-- 5.4: a signature is q, the LM-OTS type, C, y[0] to y[33], the LMS type, and path[0] to path[4]
abbrev pub leaf_number : List ℕ → ℕ
leaf_number signature = str_tou32 signature 0

abbrev pub randomizer : List ℕ → List ℕ
randomizer signature = part signature 8 32

abbrev pub chain_value : List ℕ → ℕ → List ℕ
chain_value signature i = part signature (40 + 32 * i) 32

abbrev pub path_node : List ℕ → ℕ → List ℕ
path_node signature i = part signature (1132 + 32 * i) 32

-- the lengths and type codes that Algorithms 4b, 6 and 6a ask for
abbrev pub well_formed : (key signature : List ℕ) → Bool
well_formed key signature =
    both (eqb (length key) 56)
    (both (eqb (length signature) 1292)
    (both (eqb (str_tou32 key 0) 5)
    (both (eqb (str_tou32 key 4) 4)
    (both (eqb (str_tou32 signature 4) 4)
    (eqb (str_tou32 signature 1128) 5)))))

-- 7.1: D_PBLC, D_MESG, D_LEAF and D_INTR
abbrev pub key_tag : ℕ
key_tag = 0x8080

abbrev pub message_tag : ℕ
message_tag = 0x8181

abbrev pub leaf_tag : ℕ
leaf_tag = 0x8282

abbrev pub inner_tag : ℕ
inner_tag = 0x8383

-- what each hashed string begins with: I || u32str(number) || u16str(tag)
unfoldable pub prefix : List ℕ → (number tag : ℕ) → List ℕ
prefix id number tag = id ++ (u32str number ++ u16str tag)

-- 4.4, Algorithm 2: the sum over the first i bytes, and Q || Cksm(Q); with w = 8 coef(S, i, w) is byte i (3.1.3)
unfoldable pub checksum : List ℕ → ℕ → ℕ
checksum hash zero = 0
checksum hash (suc i) = checksum hash i + (255 - get_or hash i 0)

unfoldable pub digits : List ℕ → List ℕ
digits hash = hash ++ u16str (checksum hash 32)

-- 4.6, Algorithm 4b, step 3: Q
unfoldable pub message_hash : List ℕ → ℕ → (signature message : List ℕ) → List ℕ
message_hash id q signature message = sha256 (prefix id q message_tag ++ (randomizer signature ++ message))

-- tmp after so many steps from j = a on, and z[i], where j has reached 2^w - 1
unfoldable pub chained : (front : List ℕ) → (a : ℕ) → List ℕ → ℕ → List ℕ
chained front a y zero = y
chained front a y (suc steps) = sha256 (front ++ ((a + steps) ∷ chained front a y steps))

unfoldable pub chain_end : List ℕ → ℕ → (signature digits : List ℕ) → ℕ → List ℕ
chain_end id q signature digits i =
    let a = get_or digits i 0 in
    chained (prefix id q i) a (chain_value signature i) (255 - a)

-- z[0] || .. || z[i - 1], and Kc
unfoldable pub chain_ends : List ℕ → ℕ → (signature digits : List ℕ) → ℕ → List ℕ
chain_ends id q signature digits zero = []
chain_ends id q signature digits (suc i) = chain_ends id q signature digits i ++ chain_end id q signature digits i

unfoldable pub key_hash_of : List ℕ → ℕ → (signature message : List ℕ) → List ℕ
key_hash_of id q signature message =
    sha256 (prefix id q key_tag ++ chain_ends id q signature (digits (message_hash id q signature message)) 34)

-- 5.4.2, Algorithm 6a, step 4: one turn of the loop, tmp after i turns, and Tc
unfoldable pub parent : List ℕ → (node : ℕ) → (path tmp : List ℕ) → List ℕ
parent id node path tmp = sha256 (prefix id (node / 2) inner_tag ++ pick (eqb (node % 2) 1) (path ++ tmp) (tmp ++ path))

unfoldable pub climbed : List ℕ → (leaf : ℕ) → (signature tmp : List ℕ) → ℕ → List ℕ
climbed id leaf signature tmp zero = tmp
climbed id leaf signature tmp (suc i) = parent id (leaf / 2 ^ i) (path_node signature i) (climbed id leaf signature tmp i)

unfoldable pub root_from : List ℕ → ℕ → (signature hash : List ℕ) → List ℕ
root_from id q signature hash = climbed id (32 + q) signature (sha256 (prefix id (32 + q) leaf_tag ++ hash)) 5

-- 5.4.2, Algorithm 6, with the test of q from 6a, step 2: T[1] is Tc
unfoldable pub verifies : (key signature message : List ℕ) → Bool
verifies key signature message =
    let id = identifier key in
    let q = leaf_number signature in
    both (ltb q 32) (same (root_of key) (root_from id q signature (key_hash_of id q signature message)))

-- 02, l: "23 wrong length or type code of signature or key, 24 signature"
abbrev pub signs : (key signature message : List ℕ) → Told (Unit {0})
signs key signature message = unless (well_formed key signature) 23 0 (unless (verifies key signature message) 24 0 (gives tt))

-- a message is taken up to this length, and a longer one is 16
abbrev pub longest_message : ℕ
longest_message = 256

abbrev pub verified : (key signature message : List ℕ) → Told (Unit {0})
verified key signature message = unless (leb (length message) longest_message) 16 0 (signs key signature message)
