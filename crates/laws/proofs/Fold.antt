-- Going through a list from the front, one more element at a time, as a loop does.
-- Assumes nothing.
use Prim.Native.Nat.{ℕ, suc, ◌+◌, ◌-◌, ◌<◌, ◌≤◌, zero-le}
use mathlib.Core.Path.{◌≡◌, refl, sym, ap, ◌∙◌}
use mathlib.Core.Bool.{Bool, true, false}
use mathlib.Core.List.{List, [], ◌∷◌, ◌++◌, append_assoc, append-nil}
use native.Mathlib.Omega.{arith}
use native.Mathlib.Numerals.{add-one}
use lib.Dec.{leb}
use lib.ListN.{length, take, get_or, set, replicate, length-append}
use lib.Seq.{take-suc, set_at, take_all}
use borrow.Author.Tests.{le-leb, lt-leb}
use Rattle.std.specs.List.{filter, fold}
use Rattle.laws.specs.Pick.{pick}
use Rattle.laws.specs.Tabulate.{tailed}
use Rattle.laws.proofs.Cases.{lt_cases}

module _ {A S : Type 0} (step : S → A → S) where
  pub folded_append : (s : S) (xs ys : List A) → fold step s (xs ++ ys) ≡ fold step (fold step s xs) ys
  folded_append s [] ys = refl
  folded_append s (x ∷ xs) ys = folded_append (step s x) xs ys

  pub folded_more : (s : S) (l : List A) (i : ℕ) (d : A) → i < length l
      → fold step s (take (i + 1) l) ≡ step (fold step s (take i l)) (get_or l i d)
  folded_more s l i d h = rw (add-one, take-suc l i d h) (folded_append s (take i l) (get_or l i d ∷ []))

module _ {A : Type 0} (test : A → Bool) where
  pub those_append : (xs ys : List A) → filter test (xs ++ ys) ≡ filter test xs ++ filter test ys
  those_append [] ys = refl
  those_append (x ∷ xs) ys = by_test (test x) refl (those_append xs ys)
    where
      by_test : (β : Bool) → test x ≡ β → filter test (xs ++ ys) ≡ filter test xs ++ filter test ys
          → pick (test x) (x ∷ filter test (xs ++ ys)) (filter test (xs ++ ys)) ≡ pick (test x) (x ∷ filter test xs) (filter test xs) ++ filter test ys
      by_test true e more = rw e (ap (λ rest. x ∷ rest) more)
      by_test false e more = rw e more

  module _ (l : List A) (i : ℕ) (d : A) (h : i < length l) where
    pub those_one_more : test (get_or l i d) ≡ true → filter test (take (i + 1) l) ≡ filter test (take i l) ++ (get_or l i d ∷ [])
    those_one_more e = rw (add-one, take-suc l i d h, those_append (take i l) (get_or l i d ∷ []), e)

    pub those_no_more : test (get_or l i d) ≡ false → filter test (take (i + 1) l) ≡ filter test (take i l)
    those_no_more e = rw (add-one, take-suc l i d h, those_append (take i l) (get_or l i d ∷ []), e) (append-nil (filter test (take i l)))

  pub those_fewer : (l : List A) → length (filter test l) ≤ length l
  those_fewer [] = zero-le
  those_fewer (a ∷ rest) = by_test (test a) refl (those_fewer rest)
    where
      by_test : (β : Bool) → test a ≡ β → length (filter test rest) ≤ length rest
          → length (pick (test a) (a ∷ filter test rest) (filter test rest)) ≤ suc (length rest)
      by_test true e less = rw e (omega arith)
      by_test false e less = rw e (omega arith)

-- a list with a default behind it, and one value more
pub tailed_add : {A : Type 0} (size : ℕ) (d : A) (l : List A) (v : A) → length l < size
    → set (tailed size d l) (length l) v ≡ tailed size d (l ++ (v ∷ []))
tailed_add size d l v h =
    let left : size - length l ≡ suc (size - length (l ++ (v ∷ []))) = omega (arith, length-append l (v ∷ [])) in
    rw left (set_at l d (replicate (size - length (l ++ (v ∷ []))) d) v (length l) refl ∙ sym (append_assoc l (v ∷ []) _))

-- as many as there are, or as many as are asked for
pub take_least : {A : Type 0} (l : List A) (count size : ℕ) → length l ≡ size → take (pick (leb count size) count size) l ≡ take count l
take_least l count size long =
    lt_cases size count
    (λ more. rw (lt-leb count size more) (take_all size l (omega arith) ∙ sym (take_all count l (omega arith))))
    (λ few. rw (le-leb count size few))
