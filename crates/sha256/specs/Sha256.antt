-- SHA-256, as FIPS 180-4 defines it; the numbers beside the definitions are that standard's sections. A word is a number below 2 ^ 32.
-- Assumes nothing.
use Rattle.std.specs.Prelude.{ℕ, zero, suc, ◌+◌, ◌-◌, ◌*◌, ◌/◌, ◌%◌, ◌^◌, List, [], ◌∷◌, ◌++◌, length, replicate, bit_and, bit_or, bit_xor, nat_le, nat_lt, slice_index, slice_index_or}
use Rattle.laws.specs.Pick.{pick}
use Rattle.laws.specs.Tabulate.{tabulate}
use Rattle.laws.specs.Told.{Told, gives, unless}

infixl 65 ◌⊞◌
-- 2.2.2: the addition of words, modulo 2 ^ 32
abbrev pub ◌⊞◌ : ℕ → ℕ → ℕ
a ⊞ b = (a + b) % 2 ^ 32

-- 2.2.2: rotation to the right
abbrev pub rotr : ℕ → ℕ → ℕ
rotr n x = bit_or (x / 2 ^ n) (x * 2 ^ (32 - n) % 2 ^ 32)

-- 4.1.2
abbrev pub ch : ℕ → ℕ → ℕ → ℕ
ch x y z = bit_xor (bit_and x y) (bit_and (2 ^ 32 - 1 - x) z)

abbrev pub maj : ℕ → ℕ → ℕ → ℕ
maj x y z = bit_xor (bit_xor (bit_and x y) (bit_and x z)) (bit_and y z)

abbrev pub Σ₀ : ℕ → ℕ
Σ₀ x = bit_xor (bit_xor (rotr 2 x) (rotr 13 x)) (rotr 22 x)

abbrev pub Σ₁ : ℕ → ℕ
Σ₁ x = bit_xor (bit_xor (rotr 6 x) (rotr 11 x)) (rotr 25 x)

abbrev pub σ₀ : ℕ → ℕ
σ₀ x = bit_xor (bit_xor (rotr 7 x) (rotr 18 x)) (x / 2 ^ 3)

abbrev pub σ₁ : ℕ → ℕ
σ₁ x = bit_xor (bit_xor (rotr 17 x) (rotr 19 x)) (x / 2 ^ 10)

-- 4.2.2: the round constants
unfoldable pub round_constants : List ℕ
round_constants =
    0x428a2f98 ∷ 0x71374491 ∷ 0xb5c0fbcf ∷ 0xe9b5dba5 ∷ 0x3956c25b ∷ 0x59f111f1 ∷ 0x923f82a4 ∷ 0xab1c5ed5 ∷
    0xd807aa98 ∷ 0x12835b01 ∷ 0x243185be ∷ 0x550c7dc3 ∷ 0x72be5d74 ∷ 0x80deb1fe ∷ 0x9bdc06a7 ∷ 0xc19bf174 ∷
    0xe49b69c1 ∷ 0xefbe4786 ∷ 0x0fc19dc6 ∷ 0x240ca1cc ∷ 0x2de92c6f ∷ 0x4a7484aa ∷ 0x5cb0a9dc ∷ 0x76f988da ∷
    0x983e5152 ∷ 0xa831c66d ∷ 0xb00327c8 ∷ 0xbf597fc7 ∷ 0xc6e00bf3 ∷ 0xd5a79147 ∷ 0x06ca6351 ∷ 0x14292967 ∷
    0x27b70a85 ∷ 0x2e1b2138 ∷ 0x4d2c6dfc ∷ 0x53380d13 ∷ 0x650a7354 ∷ 0x766a0abb ∷ 0x81c2c92e ∷ 0x92722c85 ∷
    0xa2bfe8a1 ∷ 0xa81a664b ∷ 0xc24b8b70 ∷ 0xc76c51a3 ∷ 0xd192e819 ∷ 0xd6990624 ∷ 0xf40e3585 ∷ 0x106aa070 ∷
    0x19a4c116 ∷ 0x1e376c08 ∷ 0x2748774c ∷ 0x34b0bcb5 ∷ 0x391c0cb3 ∷ 0x4ed8aa4a ∷ 0x5b9cca4f ∷ 0x682e6ff3 ∷
    0x748f82ee ∷ 0x78a5636f ∷ 0x84c87814 ∷ 0x8cc70208 ∷ 0x90befffa ∷ 0xa4506ceb ∷ 0xbef9a3f7 ∷ 0xc67178f2 ∷ []

-- 5.1.1: the message, a byte 80, the fewest zeros that make whole blocks of 64 bytes, and the message's length in bits as eight bytes
abbrev pub zeros : ℕ → ℕ
zeros size = (119 - size % 64) % 64

abbrev pub length_byte : ℕ → ℕ → ℕ
length_byte size i = 8 * size / 256 ^ (7 - i) % 256

unfoldable pub padded : List ℕ → List ℕ
padded m = m ++ (0x80 ∷ (replicate (zeros (length m)) 0 ++ tabulate 8 (length_byte (length m))))

-- 5.2.1: the word at a byte of the padded message, highest byte first, and the sixteen words of a block
abbrev pub word_at : List ℕ → ℕ → ℕ
word_at p i = ((slice_index p i * 256 + slice_index p (i + 1)) * 256 + slice_index p (i + 2)) * 256 + slice_index p (i + 3)

unfoldable pub block_at : List ℕ → ℕ → List ℕ
block_at p i = tabulate 16 λ t. word_at p (64 * i + 4 * t)

-- 5.3.3
abbrev pub initial : List ℕ
initial = 0x6a09e667 ∷ 0xbb67ae85 ∷ 0x3c6ef372 ∷ 0xa54ff53a ∷ 0x510e527f ∷ 0x9b05688c ∷ 0x1f83d9ab ∷ 0x5be0cd19 ∷ []

-- 6.2.2, step 1: the word of the message schedule at t, from those before it, and the schedule's first t words
abbrev pub mixed : List ℕ → ℕ → ℕ
mixed w t = σ₁ (slice_index w (t - 2)) ⊞ slice_index_or w (t - 7) 0 ⊞ σ₀ (slice_index w (t - 15)) ⊞ slice_index_or w (t - 16) 0

unfoldable pub schedule : List ℕ → ℕ → List ℕ
schedule block zero = []
schedule block (suc t) =
    let w = schedule block t in
    w ++ (pick (nat_lt t 16) (slice_index block t) (mixed w t) ∷ [])

-- 6.2.2, step 3: one round of the working words a to h with a constant k and a schedule's word w
abbrev pub T₁ : ℕ → ℕ → (e f g h : ℕ) → ℕ
T₁ k w e f g h = h ⊞ Σ₁ e ⊞ ch e f g ⊞ k ⊞ w

abbrev pub T₂ : (a b c : ℕ) → ℕ
T₂ a b c = Σ₀ a ⊞ maj a b c

abbrev pub turned : ℕ → ℕ → (a b c d e f g h : ℕ) → List ℕ
turned k w a b c d e f g h = (T₁ k w e f g h ⊞ T₂ a b c) ∷ a ∷ b ∷ c ∷ (d ⊞ T₁ k w e f g h) ∷ e ∷ f ∷ g ∷ []

unfoldable pub round : ℕ → ℕ → List ℕ → List ℕ
round k w s =
    turned k w (slice_index s 0) (slice_index s 1) (slice_index s 2) (slice_index s 3) (slice_index s 4) (slice_index s 5) (slice_index s 6) (slice_index s 7)

-- the working words after t rounds that begin with the words h
unfoldable pub working : List ℕ → List ℕ → ℕ → List ℕ
working w h zero = h
working w h (suc t) = round (slice_index round_constants t) (slice_index w t) (working w h t)

-- 6.2.2, step 4: the hash after one more block
unfoldable pub compressed : List ℕ → List ℕ → List ℕ
compressed h block = tabulate 8 λ i. slice_index_or h i 0 ⊞ slice_index_or (working (schedule block 64) h 64) i 0

-- the hash after the first n blocks of a padded message
unfoldable pub hashed : List ℕ → ℕ → List ℕ
hashed p zero = initial
hashed p (suc n) = compressed (hashed p n) (block_at p n)

-- the 32 bytes of the digest: each word, highest byte first
abbrev pub digest_byte : List ℕ → ℕ → ℕ
digest_byte h i = slice_index h (i / 4) / 256 ^ (3 - i % 4) % 256

unfoldable pub sha256 : List ℕ → List ℕ
sha256 m = tabulate 32 (digest_byte (hashed (padded m) (length (padded m) / 64)))

-- 01: "SHA-256 takes any slice of up to 65,536 bytes. A longer slice gives refusal 16"
abbrev pub longest : ℕ
longest = 65536

abbrev pub digest_of : List ℕ → Told (List ℕ)
digest_of m = unless (nat_le (length m) longest) 16 0 (gives (sha256 m))
