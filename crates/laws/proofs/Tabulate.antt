-- A list by its elements' places: its length, its elements, and how a loop fills it from the front.
-- Assumes nothing.
use mathlib.Core.Path.{◌≡◌, refl, sym, ap, ap₂, ◌∙◌}
use mathlib.Core.List.{List, [], ◌∷◌, ◌++◌}
use Prim.Native.Nat.{ℕ, zero, suc, ◌+◌, ◌-◌, ◌<◌, ◌≤◌, suc-le-suc}
use native.Mathlib.Nat.{not-suc-le-zero, le_of_suc-le-suc, zero-lt-suc, sub-zero}
use native.Mathlib.Omega.{arith}
use lib.ListN.{length, get_or, take, drop, set, replicate, length-set, length-replicate, take-append-drop}
use lib.Seq.{take-suc-set, take_all, length-take-le, drop-set-lt, drop-drop}
use Rattle.laws.specs.Tabulate.{tabulate, Filled, Tailed, tailed}

pub length_tabulate : {A : Type 0} (n : ℕ) (f : ℕ → A) → length (tabulate n f) ≡ n
length_tabulate zero f = refl
length_tabulate (suc n) f = ap suc (length_tabulate n (λ i. f (suc i)))

pub get_d_tabulate : {A : Type 0} (n : ℕ) (f : ℕ → A) (i : ℕ) (d : A) → i < n → get_or (tabulate n f) i d ≡ f i
get_d_tabulate zero f i d h = absurd (not-suc-le-zero h)
get_d_tabulate (suc n) f zero d h = refl
get_d_tabulate (suc n) f (suc i) d h = get_d_tabulate n (λ j. f (suc j)) i d (le_of_suc-le-suc h)

pub tabulate_more : {A : Type 0} (n : ℕ) (f : ℕ → A) → tabulate (suc n) f ≡ tabulate n f ++ (f n ∷ [])
tabulate_more zero f = refl
tabulate_more (suc n) f = ap (λ rest. f zero ∷ rest) (tabulate_more n (λ i. f (suc i)))

module _ {A : Type 0} (size : ℕ) (f : ℕ → A) where
  pub filled_none : (l : List A) → length l ≡ size → Filled size f l 0
  filled_none l long = (long, refl)

  pub filled_next : (l l' : List A) (n next : ℕ) → n < size → next ≡ suc n → l' ≡ set l n (f n) → Filled size f l n → Filled size f l' next
  filled_next l l' n next inside is after (long, before) =
      let within : n < length l = omega arith in
      rw (is, after) (length-set l n (f n) ∙ long, take-suc-set l n (f n) within ∙ rw (before, tabulate_more n f))

  pub filled_whole : (l : List A) (n : ℕ) → n ≡ size → Filled size f l n → l ≡ tabulate size f
  filled_whole l n is (long, before) =
      let whole : take size l ≡ tabulate size f = rw is at before in
      rw (take_all size l (omega arith)) at whole

pub tabulate_same : {A : Type 0} (n : ℕ) (f g : ℕ → A) → ((i : ℕ) → i < n → f i ≡ g i) → tabulate n f ≡ tabulate n g
tabulate_same zero f g h = refl
tabulate_same (suc n) f g h =
    ap₂ (λ a rest. a ∷ rest) (h 0 (zero-lt-suc n)) (tabulate_same n (λ i. f (suc i)) (λ i. g (suc i)) (λ i l. h (suc i) (suc-le-suc l)))

-- ---- a list whose last places hold a default
module _ {A : Type 0} (size : ℕ) (d : A) where
  pub tailed_none : Tailed size d (replicate size d) 0
  tailed_none = (length-replicate size d, ap (λ n. replicate n d) (sym (sub-zero size)))

  pub tailed_next : (l : List A) (n : ℕ) (v : A) → n < size → Tailed size d l n → Tailed size d (set l n v) (n + 1)
  tailed_next l n v inside (long, rest) =
      let left : size - n ≡ suc (size - (n + 1)) = omega arith in (
        length-set l n v ∙ long,
        drop-set-lt (n + 1) l n v (omega arith) ∙ sym (drop-drop 1 n l) ∙ ap (drop 1) rest ∙ ap (λ m. drop 1 (replicate m d)) left,
      )

  pub tailed_is : (l : List A) (n : ℕ) → n ≤ size → Tailed size d l n → (length (take n l) ≡ n) × (l ≡ tailed size d (take n l))
  tailed_is l n few (long, rest) =
      let front : length (take n l) ≡ n = length-take-le n l (omega arith) in
      (front, sym (take-append-drop n l) ∙ ap (λ r. take n l ++ r) (rest ∙ ap (λ m. replicate (size - m) d) (sym front)))
