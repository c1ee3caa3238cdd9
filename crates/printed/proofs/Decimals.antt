-- How a number's digits go on from its lowest one, how many there are, and that they are worth the number.
-- Assumes nothing.
use Prim.Native.Nat.{ℕ, zero, suc, ◌+◌, ◌-◌, ◌*◌, ◌/◌, ◌%◌, ◌^◌, ◌<◌, ◌≤◌, zero-le}
use mathlib.Core.Path.{◌≡◌, refl, ap, ◌∙◌}
use mathlib.Core.List.{List, [], ◌∷◌, ◌++◌}
use native.Mathlib.Omega.{arith}
use native.Mathlib.Nat.{pow-suc, div-lt_iff_lt-mul}
use lib.Dec.{lit<}
use lib.ListN.{length, length-append, set}
use borrow.Author.Tests.{lt-ltb, le-ltb}
use Rattle.std.specs.List.{fold}
use Rattle.laws.proofs.Cases.{lt_cases}
use Rattle.laws.proofs.Fold.{folded_append}
use Rattle.laws.specs.Placed.{Wrote}
use Rattle.printed.specs.Decimal.{digit, digits, decimal}

one_digit : (k v : ℕ) → v < 10 → digits (suc k) v ≡ digit v ∷ []
unfolding digits
one_digit k v h = simp (lt-ltb _ _ h)

more_digits : (k v : ℕ) → 10 ≤ v → digits (suc k) v ≡ digits k (v / 10) ++ (digit (v % 10) ∷ [])
unfolding digits
more_digits k v h = simp (le-ltb _ _ h)

above : (k v : ℕ) → v < 10 ^ suc k → v / 10 < 10 ^ k
above k v h = (div-lt_iff_lt-mul (lit< tt)).1 (rw pow-suc at h)

-- more digits than a number needs change nothing
enough : (k v : ℕ) → v < 10 ^ suc k → digits (suc k) v ≡ digits (suc (suc k)) v
enough zero v h = rw (one_digit 0 v h, one_digit 1 v h)
enough (suc k) v h =
    lt_cases v 10 (λ small. rw (one_digit (suc k) v small, one_digit (suc (suc k)) v small))
    (λ large.
    rw (more_digits (suc k) v large, more_digits (suc (suc k)) v large)
    (ap (λ (front : List ℕ). front ++ (digit (v % 10) ∷ [])) (enough k (v / 10) (above (suc k) v h))))

pub decimal_one : (v : ℕ) → v < 10 → decimal v ≡ digit v ∷ []
unfolding decimal
decimal_one v h = one_digit 19 v h

pub decimal_more : (v : ℕ) → 10 ≤ v → v < 10 ^ 20 → decimal v ≡ decimal (v / 10) ++ (digit (v % 10) ∷ [])
unfolding decimal
decimal_more v large h =
    more_digits 19 v large ∙ ap (λ (front : List ℕ). front ++ (digit (v % 10) ∷ [])) (enough 18 (v / 10) (above 19 v h))

digits_few : (k v : ℕ) → length (digits k v) ≤ k
unfolding digits
digits_few zero v = zero-le
digits_few (suc k) v =
    lt_cases v 10 (λ small. simp (lt-ltb _ _ small) (omega arith))
    (λ large. simp (le-ltb _ _ large) (omega (arith, digits_few k (v / 10), length-append (digits k (v / 10)) (digit (v % 10) ∷ []))))

pub at_most_twenty : (v : ℕ) → length (decimal v) ≤ 20
unfolding decimal
at_most_twenty v = digits_few 20 v

-- one byte that is written
pub wrote_one : (out : List ℕ) (at byte : ℕ) → Wrote out at (byte ∷ []) (at + 1) (set out at byte)
wrote_one out at byte = record { place = refl; buffer = refl }

-- what digits are worth, and that a number's are worth the number
abbrev pub worth : List ℕ → ℕ
worth l = fold (λ value letter. 10 * value + (letter - 48)) 0 l

worth_more : (front : List ℕ) (d : ℕ) → worth (front ++ (digit d ∷ [])) ≡ 10 * worth front + d
worth_more front d = folded_append (λ (value letter : ℕ). 10 * value + (letter - 48)) 0 front (digit d ∷ []) ∙ omega arith

digits_worth : (k v : ℕ) → v < 10 ^ suc k → worth (digits (suc k) v) ≡ v
digits_worth zero v h = rw (one_digit 0 v h) (omega arith)
digits_worth (suc k) v h =
    lt_cases v 10 (λ small. rw (one_digit (suc k) v small) (omega arith))
    (λ large.
    rw (more_digits (suc k) v large, worth_more (digits (suc k) (v / 10)) (v % 10), digits_worth k (v / 10) (above (suc k) v h)) (omega arith))

pub decimal_worth : (v : ℕ) → v < 10 ^ 20 → worth (decimal v) ≡ v
unfolding decimal
decimal_worth v h = digits_worth 19 v h
