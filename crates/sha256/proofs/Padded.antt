-- The padded message by its bytes' places.
-- Assumes nothing.
use Rattle.std.proofs.Common.{◌≡◌, ℕ, suc, ◌+◌, ◌-◌, ◌*◌, ◌/◌, ◌%◌, ◌^◌, ◌<◌, ◌≤◌, leb, List, ◌∷◌, ◌++◌, length, take, drop, get_or, replicate, sym, ap, ◌∙◌, div-one, arith, lit<, length-append, get_or-append-add, le-leb}
use native.Mathlib.Nat.{pow-le-pow_right, div-eq_of_lt}
use lib.ListN.{length-replicate, get_or-replicate, get_or-append}
use lib.Seq.{get_or-append_seam}
use borrow.Author.Tests.{lt-leb}
use Rattle.laws.specs.Pick.{pick}
use Rattle.laws.specs.Tabulate.{tabulate}
use Rattle.laws.proofs.Bytes.{part_length, part_byte}
use Rattle.laws.proofs.Cases.{lt_cases}
use Rattle.laws.proofs.Tabulate.{length_tabulate, get_d_tabulate, tabulate_same}
use Rattle.sha256.specs.Sha256.{longest, zeros, length_byte, padded, word_at, block_at}
use Rattle.sha256.specs.Steps.{block_count, joined_bytes}

-- the byte of a padded message that has `left` bytes from there on: the last eight are the length's, those before them zeros
abbrev tail_byte : ℕ → ℕ → ℕ
tail_byte size left = pick (leb left 8) (length_byte size (8 - left)) 0

-- "the fewest zeros that make whole blocks"
pub whole_blocks : (size : ℕ) → size + 1 + zeros size + 8 ≡ 64 * block_count size
whole_blocks size = omega arith

pub fewest : (size : ℕ) → zeros size < 64
fewest size = omega arith

module _ (m : List ℕ) where
  bits : List ℕ
  bits = tabulate 8 (length_byte (length m))

  abbrev zeroes : List ℕ
  zeroes = replicate (zeros (length m)) 0

  long : length zeroes ≡ zeros (length m)
  long = length-replicate {A = ℕ} (zeros (length m)) 0

  behind : List ℕ
  behind = zeroes ++ bits

  pub padded_length : length (padded m) ≡ 64 * block_count (length m)
  unfolding padded
  padded_length =
      simp (length-append, length-replicate, length_tabulate 8 (length_byte (length m)))
      (omega (arith, whole_blocks (length m)))

  pub byte_of_message : (i : ℕ) → i < length m → get_or (padded m) i 0 ≡ get_or m i 0
  unfolding padded behind bits
  byte_of_message i h = get_or-append m (0x80 ∷ behind) 0 i h

  pub byte_80 : get_or (padded m) (length m) 0 ≡ 0x80
  unfolding padded behind bits
  byte_80 = get_or-append_seam m 0x80 behind 0

  behind_at : (k : ℕ) → k < zeros (length m) + 8 → get_or behind k 0 ≡ tail_byte (length m) (zeros (length m) + 8 - k)
  unfolding behind bits
  behind_at k h =
      lt_cases k (zeros (length m))
      (λ zero.
      let more : 8 < zeros (length m) + 8 - k = omega arith in
      let among : k < length zeroes = omega (arith, long) in
      get_or-append zeroes bits 0 k among ∙ get_or-replicate (zeros (length m)) k 0 0 zero ∙ simp (lt-leb _ _ more))
      (λ bit.
      let j : ℕ = k - zeros (length m) in
      let is : k ≡ length zeroes + j = omega (arith, long) in
      let few : zeros (length m) + 8 - k ≤ 8 = omega arith in
      let place : 8 - (zeros (length m) + 8 - k) ≡ j = omega arith in
      let inside : j < 8 = omega arith in
      ap (λ (i : ℕ). get_or behind i 0) is ∙ get_or-append-add zeroes bits j 0
      ∙ get_d_tabulate 8 (length_byte (length m)) j 0 inside
      ∙ simp (le-leb _ _ few, place))

  pub byte_behind : (i : ℕ) → length m < i → i < 64 * block_count (length m) → get_or (padded m) i 0 ≡ tail_byte (length m) (64 * block_count (length m) - i)
  unfolding padded behind bits
  byte_behind i late inside =
      let k : ℕ = i - length m - 1 in
      let whole = whole_blocks (length m) in
      let is : i ≡ length m + suc k = omega arith in
      let left : 64 * block_count (length m) - i ≡ zeros (length m) + 8 - k = omega arith in
      ap (λ (n : ℕ). get_or (padded m) n 0) is ∙ get_or-append-add m (0x80 ∷ behind) (suc k) 0
      ∙ behind_at k (omega arith) ∙ ap (tail_byte (length m)) (sym left)

-- the length in bits fits three bytes
pub tail_zero : (size left : ℕ) → size ≤ longest → 4 ≤ left → tail_byte size left ≡ 0
tail_zero size left small late =
    lt_cases left 9
    (λ few.
    let within : left ≤ 8 = omega arith in
    let higher : 256 ^ 3 ≤ 256 ^ (7 - (8 - left)) = pow-le-pow_right {n = 256} (lit< tt) {i = 3} {j = 7 - (8 - left)} (omega arith) in
    let nothing : 8 * size / 256 ^ (7 - (8 - left)) ≡ 0 = div-eq_of_lt (omega arith) in
    simp (le-leb _ _ within, nothing))
    (λ many. simp (lt-leb _ _ many))

-- a word that lies in the message is the message's
pub word_inside : (m : List ℕ) (i : ℕ) → i + 4 ≤ length m → word_at (padded m) i ≡ word_at m i
word_inside m i h =
    rw (
      byte_of_message m i (omega arith),
      byte_of_message m (i + 1) (omega arith),
      byte_of_message m (i + 2) (omega arith),
      byte_of_message m (i + 3) (omega arith),
    )

-- and so is a block
pub block_inside : (m : List ℕ) (n : ℕ) → 64 * n + 64 ≤ length m → block_at (padded m) n ≡ block_at m n
unfolding block_at
block_inside m n h =
    tabulate_same 16 (λ t. word_at (padded m) (64 * n + 4 * t)) (λ t. word_at m (64 * n + 4 * t))
    (λ t inside. word_inside m (64 * n + 4 * t) (omega arith))

-- behind the message: the byte 80, and zeros up to the last three bytes
pub byte_end : (m : List ℕ) (i : ℕ) → i ≡ length m → get_or (padded m) i 0 ≡ 0x80
byte_end m i is = rw is (byte_80 m)

pub byte_zero : (m : List ℕ) (i : ℕ) → length m ≤ longest → length m < i → i + 4 ≤ 64 * block_count (length m) → get_or (padded m) i 0 ≡ 0
byte_zero m i small late inside =
    byte_behind m i late (omega arith) ∙ tail_zero (length m) (64 * block_count (length m) - i) small (omega arith)

pub word_is : (m : List ℕ) (i : ℕ) {a b c d : ℕ} → get_or (padded m) i 0 ≡ a → get_or (padded m) (i + 1) 0 ≡ b → get_or (padded m) (i + 2) 0 ≡ c
    → get_or (padded m) (i + 3) 0 ≡ d → joined_bytes a b c d ≡ word_at (padded m) i
word_is m i is-a is_b is_c is-d = rw (is-a, is_b, is_c, is-d)

-- a number of three bytes, joined from them
three_bytes : (n : ℕ) → n < 16777216 → n ≡ joined_bytes (n / 16777216 % 256) (n / 65536 % 256) (n / 256 % 256) (n / 1 % 256)
three_bytes n small =
    let none : n / 16777216 % 256 ≡ 0 = omega arith in
    let upper : n / 65536 % 256 ≡ n / 65536 = omega arith in
    let lower : (0 * 256 + n / 65536) * 256 + n / 256 % 256 ≡ n / 256 = omega arith in
    let whole : n / 256 * 256 + n % 256 ≡ n = omega arith in
    rw (none, upper, lower, div-one n) (sym whole)

-- a word wholly behind the 80 is zero, or the last one, the length in bits
module _ (m : List ℕ) (i : ℕ) (small : length m ≤ longest) (late : length m < i) where
  pub word_zero : i + 8 ≤ 64 * block_count (length m) → 0 ≡ word_at (padded m) i
  word_zero inside =
      word_is m i (byte_zero m i small late (omega arith)) (byte_zero m (i + 1) small (omega arith) (omega arith))
      (byte_zero m (i + 2) small (omega arith) (omega arith)) (byte_zero m (i + 3) small (omega arith) (omega arith))

  pub word_last : i + 4 ≡ 64 * block_count (length m) → 8 * length m ≡ word_at (padded m) i
  word_last end =
      let at : (j k : ℕ) → length m < j → j + k ≡ 64 * block_count (length m) → 0 < k → get_or (padded m) j 0 ≡ tail_byte (length m) k = λ j k behind is some.
      let left : 64 * block_count (length m) - j ≡ k = omega arith in
      byte_behind m j behind (omega arith) ∙ ap (tail_byte (length m)) left in
      let size = length m in
      three_bytes (8 * size) (omega arith)
      ∙ word_is m i (at i 4 late end (lit< tt)) (at (i + 1) 3 (omega arith) (omega arith) (lit< tt))
      (at (i + 2) 2 (omega arith) (omega arith) (lit< tt)) (at (i + 3) 1 (omega arith) (omega arith) (lit< tt))

-- the word in which the message ends, by what is left of the message there
module _ (m : List ℕ) where
  abbrev edge : ℕ
  edge = length m / 4 * 4

  abbrev left : List ℕ
  left = take (length m - edge) (drop edge m)

  -- byte k of it, which stands at i
  pub record EdgeByte (k i : ℕ) : Type 0 where
    pub given : k < length left → get_or (padded m) i 0 ≡ get_or left k 0
    pub end : k ≡ length left → get_or (padded m) i 0 ≡ 0x80
    pub behind : length left < k → get_or (padded m) i 0 ≡ 0

  pub record Edge : Type 0 where
    pub byte_0 : EdgeByte 0 edge
    pub byte_1 : EdgeByte 1 (edge + 1)
    pub byte_2 : EdgeByte 2 (edge + 2)
    pub byte_3 : EdgeByte 3 (edge + 3)

  module _ (small : length m ≤ longest) where
    byte : (k i : ℕ) → k < 4 → i ≡ edge + k → EdgeByte k i
    byte k i within is =
        let size = part_length m edge (length m - edge) (omega arith) in record {
          given = λ inside.
              byte_of_message m i (omega arith) ∙ ap (λ (n : ℕ). get_or m n 0) is ∙ sym (part_byte m edge (length m - edge) k (omega arith));
          end = λ whole. byte_end m i (omega arith);
          behind = λ less. byte_zero m i small (omega arith) (omega arith);
        }

    pub edge_bytes : Edge
    edge_bytes = record {
      byte_0 = byte 0 edge (omega arith) (omega arith);
      byte_1 = byte 1 (edge + 1) (omega arith) (omega arith);
      byte_2 = byte 2 (edge + 2) (omega arith) (omega arith);
      byte_3 = byte 3 (edge + 3) (omega arith) (omega arith);
    }
