-- What a test over a list of cases says of each case.
-- Assumes nothing.
use mathlib.Core.Path.{◌≡◌, refl, ap₂}
use mathlib.Core.Bool.{Bool, true, false}
use mathlib.Core.List.{List, [], ◌∷◌}
use Prim.Native.Nat.{ℕ, zero, suc, ◌+◌, ◌<◌, ◌≤◌}
use native.Mathlib.Nat.{not-suc-le-zero, le_of_suc-le-suc}
use native.Mathlib.Omega.{arith}
use lib.Dec.{T, leb, eqb, eqb→eq}
use borrow.Author.Tests.{le-leb, lt-leb, leb-true, eq-eqb}
use lib.ListN.{length, get_or, drop, drop_of_length-le}
use lib.Seq.{drop-cons}
use native.Mathlib.Numerals.{add-one}
use Rattle.std.specs.List.{list_all}
use Rattle.laws.specs.Every.{both, within, same}

pub both_left : (a b : Bool) → T (both a b) → T a
both_left true b t = tt
both_left false b t = absurd t

pub both_right : (a b : Bool) → T (both a b) → T b
both_right true b t = t
both_right false b t = absurd t

pub each : {A : Type 0} (test : A → Bool) (cases : List A) (d : A) → T (list_all test cases) → (i : ℕ) → i < length cases → T (test (get_or cases i d))
each test [] d t i h = absurd (not-suc-le-zero h)
each test (a ∷ rest) d t zero h = both_left (test a) (list_all test rest) t
each test (a ∷ rest) d t (suc i) h = each test rest d (both_right (test a) (list_all test rest) t) i (le_of_suc-le-suc h)

pub same_is : (xs ys : List ℕ) → T (same xs ys) → xs ≡ ys
same_is [] [] t = refl
same_is [] (y ∷ ys) t = absurd t
same_is (x ∷ xs) [] t = absurd t
same_is (x ∷ xs) (y ∷ ys) t =
    ap₂ (λ a rest. a ∷ rest) (eqb→eq x y (both_left (eqb x y) (same xs ys) t)) (same_is xs ys (both_right (eqb x y) (same xs ys) t))

pub both_false : (a : Bool) → both a false ≡ false
both_false true = refl
both_false false = refl

pub both_true : (a b : Bool) → both a b ≡ true → (a ≡ true) × (b ≡ true)
both_true true b e = (refl, e)
both_true false b e = let z : ◌≡◌ {A = ℕ} 0 1 = cc in absurd (omega arith)

pub within_true : (least most n : ℕ) → within least most n ≡ true → (least ≤ n) × (n ≤ most)
within_true least most n e = let (low, high) = both_true (leb least n) (leb n most) e in (leb-true _ _ low, leb-true _ _ high)

pub within_here : (least most n : ℕ) → least ≤ n → n ≤ most → within least most n ≡ true
within_here least most n low high = rw (le-leb least n low) (le-leb n most high)

pub within_above : (least most n : ℕ) → most < n → within least most n ≡ false
within_above least most n high = rw (lt-leb n most high) (both_false (leb least n))

-- two lists, from one place on
pub same_from : (xs ys : List ℕ) (i : ℕ) → i < length xs → i < length ys
    → same (drop i xs) (drop i ys) ≡ both (eqb (get_or xs i 0) (get_or ys i 0)) (same (drop (i + 1) xs) (drop (i + 1) ys))
same_from xs ys i h k = rw (add-one, drop-cons xs i 0 h, drop-cons ys i 0 k)

pub same_over : (xs ys : List ℕ) (i : ℕ) → length xs ≤ i → length ys ≤ i → same (drop i xs) (drop i ys) ≡ true
same_over xs ys i h k = rw (drop_of_length-le xs h, drop_of_length-le ys k)

pub same_refl : (xs : List ℕ) → same xs xs ≡ true
same_refl [] = refl
same_refl (x ∷ xs) = rw (eq-eqb x x refl, same_refl xs)
