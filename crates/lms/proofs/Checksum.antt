-- The checksum of a hash as a sum over its bytes, and what it does: a hash whose digits are all as large as another's is that other one.
-- Assumes nothing.
use mathlib.Core.Path.{◌≡◌, refl, sym, ap, ◌∙◌}
use mathlib.Core.List.{List}
use Prim.Native.Nat.{ℕ, zero, suc, ◌+◌, ◌-◌, ◌*◌, ◌/◌, ◌%◌, ◌<◌, ◌≤◌}
use native.Mathlib.Nat.{not-suc-le-zero}
use native.Mathlib.Numerals.{add-one}
use native.Mathlib.Omega.{arith}
use lib.ListN.{length, get_or, take, get_or-append}
use lib.Seq.{ext_get_or, get_or-append-add, take_all}
use Rattle.std.specs.List.{sum_by}
use Rattle.std.proofs.lemmas.List.Sums.{sum_by_more}
use Rattle.laws.specs.Format.{Bytes}
use Rattle.laws.proofs.Cases.{lt_cases}
use Rattle.lms.specs.Lms.{u16str, checksum, digits}

pub small : (hash : List ℕ) (n : ℕ) → checksum hash n ≤ 255 * n
unfolding checksum
small hash zero = omega arith
small hash (suc n) = omega (arith, small hash n)

summed : (hash : List ℕ) (n : ℕ) → n ≤ length hash → sum_by (λ digit. 255 - digit) (take n hash) ≡ checksum hash n
unfolding checksum
summed hash zero h = refl
summed hash (suc n) h = rw (← (add-one n), sum_by_more (λ (digit : ℕ). 255 - digit) hash n 0, summed hash n (omega arith))

pub sum_is : (hash : List ℕ) (n : ℕ) → n ≡ length hash → sum_by (λ digit. 255 - digit) hash ≡ checksum hash n
sum_is hash n whole = ap (sum_by (λ (digit : ℕ). 255 - digit)) (sym (take_all n hash (omega arith))) ∙ summed hash n (omega arith)

-- the checksum's bytes
behind : (hash : List ℕ) → length hash ≡ 32 → (k : ℕ) → get_or (digits hash) (32 + k) 0 ≡ get_or (u16str (checksum hash 32)) k 0
unfolding digits
behind hash long k = ap (λ (n : ℕ). get_or (digits hash) (n + k) 0) (sym long) ∙ get_or-append-add hash (u16str (checksum hash 32)) k 0

module _ (one other : List ℕ) where
  -- the first n bytes are as large
  abbrev Larger : ℕ → Type 0
  Larger n = (i : ℕ) → i < n → get_or one i 0 ≤ get_or other i 0

  falls : (n : ℕ) → Larger n → checksum other n ≤ checksum one n
  unfolding checksum
  falls zero h = omega arith
  falls (suc n) h = omega (arith, falls n (λ i k. h i (omega arith)), h n (omega arith))

  alike : Bytes one → Bytes other → (n : ℕ) → Larger n → checksum other n ≡ checksum one n → (i : ℕ) → i < n → get_or one i 0 ≡ get_or other i 0
  unfolding checksum
  alike low high zero h e i k = absurd (not-suc-le-zero k)
  alike low high (suc n) h e i k =
      let before = falls n (λ j l. h j (omega arith)) in
      let last = h n (omega arith) in
      let most = high n in
      let same : checksum other n ≡ checksum one n = omega arith in
      lt_cases i n (λ less. alike low high n (λ j l. h j (omega arith)) same i less)
      (λ more. let here : i ≡ n = omega arith in rw here (omega (arith, low n)))

  pub only_larger : length one ≡ 32 → length other ≡ 32 → Bytes one → Bytes other
      → ((i : ℕ) → i < 34 → get_or (digits one) i 0 ≤ get_or (digits other) i 0) → one ≡ other
  unfolding digits
  only_larger long size low high h =
      let larger : Larger 32 = λ i k.
      omega (
        arith,
        h i (omega arith),
        get_or-append one (u16str (checksum one 32)) 0 i (omega arith),
        get_or-append other (u16str (checksum other 32)) 0 i (omega arith),
      ) in
      let upper : checksum one 32 / 256 % 256 ≤ checksum other 32 / 256 % 256 =
      rw (← (behind one long 0), ← (behind other size 0)) (h 32 (omega arith)) in
      let lower : checksum one 32 % 256 ≤ checksum other 32 % 256 = rw (← (behind one long 1), ← (behind other size 1)) (h 33 (omega arith)) in
      let same : checksum other 32 ≡ checksum one 32 = omega (arith, falls 32 larger, small one 32, small other 32) in
      ext_get_or 0 one other (omega arith) (λ i k. alike low high 32 larger same i (omega arith))
