-- What holds of each value of a list: of its parts, and of lists made of it. And that a list is empty or has a last value.
-- Assumes nothing.
use Prim.Native.Nat.{ℕ, zero, suc}
use mathlib.Core.Path.{◌≡◌, refl}
use mathlib.Core.Bool.{Bool, true, false}
use mathlib.Core.List.{List, [], ◌∷◌, ◌++◌}
use lib.ListN.{take}
use Rattle.std.specs.List.{filter, list_all}
use Rattle.laws.specs.Pick.{pick}
use Rattle.laws.specs.Format.{Each}
use Rattle.laws.proofs.Every.{both_true}

module _ {A : Type 0} where
  pub each_weaker : {P Q : A → Type 0} → ((a : A) → P a → Q a) → (l : List A) → Each P l → Each Q l
  each_weaker weaker [] each = tt
  each_weaker weaker (a ∷ l) (here, rest) = (weaker a here, each_weaker weaker l rest)

  module _ (P : A → Type 0) where
    pub each_append : (xs ys : List A) → Each P xs → Each P ys → Each P (xs ++ ys)
    each_append [] ys each more = more
    each_append (x ∷ xs) ys (here, rest) more = (here, each_append xs ys rest more)

    pub each_parts : (xs ys : List A) → Each P (xs ++ ys) → Each P xs × Each P ys
    each_parts [] ys each = (tt, each)
    each_parts (x ∷ xs) ys (here, rest) = let (front, more) = each_parts xs ys rest in ((here, front), more)

    pub each_take : (n : ℕ) (l : List A) → Each P l → Each P (take n l)
    each_take zero l each = tt
    each_take (suc n) [] each = tt
    each_take (suc n) (a ∷ l) (here, rest) = (here, each_take n l rest)

    pub each_those : (test : A → Bool) (l : List A) → Each P l → Each P (filter test l)
    each_those test [] each = tt
    each_those test (a ∷ l) (here, rest) = by_test (test a) (each_those test l rest)
      where
        by_test : (β : Bool) → Each P (filter test l) → Each P (pick β (a ∷ filter test l) (filter test l))
        by_test true more = (here, more)
        by_test false more = more

  pub data Ends : List A → Type 0 where
    nothing : Ends []
    last : (l : List A) (a : A) → Ends (l ++ (a ∷ []))

  pub ends : (l : List A) → Ends l
  ends [] = nothing
  ends (a ∷ l) = more a l (ends l)
    where
      more : (a : A) (l : List A) → Ends l → Ends (a ∷ l)
      more a l nothing = last [] a
      more a l (last m b) = last (a ∷ m) b

-- a test that passes at each value
module _ {A : Type 0} (test : A → Bool) where
  pub every_each : (l : List A) → list_all test l ≡ true → Each (λ a. test a ≡ true) l
  every_each [] e = tt
  every_each (a ∷ l) e = let (here, rest) = both_true (test a) (list_all test l) e in (here, every_each l rest)

  pub each_every : (l : List A) → Each (λ a. test a ≡ true) l → list_all test l ≡ true
  each_every [] each = refl
  each_every (a ∷ l) (here, rest) = rw here (each_every l rest)
