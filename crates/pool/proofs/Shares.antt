-- The depots' shares of a pool: what the test over the depots finds, and that a depot with room in its share has room in the pool.
-- Assumes nothing.
use Prim.Native.Nat.{ℕ, zero, suc, ◌+◌, ◌*◌, ◌<◌, ◌≤◌, zero-le}
use mathlib.Core.Path.{◌≡◌, refl, sym, ap, ◌∙◌}
use mathlib.Core.Bool.{Bool, true, false}
use mathlib.Core.List.{List, [], ◌∷◌, ◌++◌}
use native.Mathlib.Omega.{arith}
use lib.ListN.{length, length-append}
use Rattle.std.proofs.Common.{MatchBool, zero-add}
use Rattle.std.proofs.lemmas.List.Elements.{filter-append}
use Rattle.std.proofs.lemmas.List.FromFn.{get_or-range_with_len}
use Rattle.std.specs.List.{AllWithin, HoldsAt, filter, range_with_len}
use Rattle.laws.specs.Format.{Each}
use Rattle.pool.specs.Pool.{depots, depot_room, is_of, share_of, shares_below, shares_fit, room}
use Rattle.pool.specs.declared.Entry.{Entry}

pub share_at : (n depot : ℕ) (l : List Entry) → depot < n → shares_below n l ≡ true → share_of depot l ≤ depot_room
share_at zero depot l h e = absurd (omega arith)
share_at (suc n) depot l h e = grind (arith, share_at n depot l)

-- shares that are small, said once for all depots
pub shares_are : (n : ℕ) (l : List Entry) → ((depot : ℕ) → depot < n → share_of depot l ≤ depot_room) → shares_below n l ≡ true
shares_are zero l few = refl
shares_are (suc n) l few = grind (arith, shares_are n l (λ depot h. few depot (omega arith)), few n (omega arith))

-- what `all` answers over the depots
pub shares_answer : (l : List Entry) (r : Bool)
    → MatchBool r (AllWithin (λ depot. share_of depot l ≤ depot_room) (range_with_len 0 depots) 0 depots)
    ((depot : ℕ) × (depot < depots) × HoldsAt (λ depot. depot_room < share_of depot l) (range_with_len 0 depots) depot)
    → r ≡ shares_fit l
shares_answer l true each = sym (shares_are depots l (λ depot h. rw (get_or-range_with_len 0 depots depot 0 h, zero-add) at (each depot 0 zero-le h)))
shares_answer l false (depot, h, over) = grind (arith, share_at depots depot l h, rw (get_or-range_with_len 0 depots depot 0 h, zero-add) at (over 0))

-- of fewer entries no depot has more
share_fewer : (test : Entry → Bool) (depot : ℕ) (l : List Entry) → share_of depot (filter test l) ≤ share_of depot l
share_fewer test depot [] = zero-le
share_fewer test depot (e ∷ l) = grind (arith, share_fewer test depot l)

pub fewer_fit : (test : Entry → Bool) (l : List Entry) → shares_fit l ≡ true → shares_fit (filter test l) ≡ true
fewer_fit test l fits =
    shares_are depots (filter test l) (λ depot h. omega (arith, share_fewer test depot l, share_at depots depot l h fits))

-- one entry more, of a depot with room in its share
pub one_more_fits : (l : List Entry) (e : Entry) → shares_fit l ≡ true → share_of e.depot l < depot_room → shares_fit (l ++ (e ∷ [])) ≡ true
one_more_fits l e fits less =
    shares_are depots (l ++ (e ∷ []))
    (λ depot h. grind (arith, share_at depots depot l h fits, filter-append (is_of depot) l (e ∷ []), length-append))

-- ---- all entries are some depot's
total : ℕ → List Entry → ℕ
total zero l = 0
total (suc depot) l = total depot l + share_of depot l

module _ (e : Entry) (l : List Entry) where
  -- an entry of a depot further on changes nothing
  before : (n : ℕ) → n ≤ e.depot → total n (e ∷ l) ≡ total n l
  unfolding total
  before zero h = refl
  before (suc n) h = grind (arith, before n (omega arith))

  one_more : (n : ℕ) → e.depot < n → total n (e ∷ l) ≡ suc (total n l)
  unfolding total
  one_more zero h = absurd (omega arith)
  one_more (suc n) h = grind (arith, one_more n, before n)

none : (n : ℕ) → total n [] ≡ 0
unfolding total
none zero = refl
none (suc n) = omega (arith, none n)

all : (n : ℕ) (l : List Entry) → Each (λ e. e.depot < n) l → total n l ≡ length l
all n [] each = none n
all n (e ∷ l) (here, rest) = one_more e l n here ∙ ap suc (all n l rest)

most : (n : ℕ) (l : List Entry) → shares_below n l ≡ true → total n l ≤ n * depot_room
unfolding total
most zero l e = omega arith
most (suc n) l e = grind (arith, most n l)

-- with room in one share the sum is less than all shares
some_left : (n depot : ℕ) (l : List Entry) → depot < n → shares_below n l ≡ true → share_of depot l < depot_room → total n l < n * depot_room
unfolding total
some_left zero depot l h fits less = absurd (omega arith)
some_left (suc n) depot l h fits less = grind (arith, some_left n depot l, most n l)

pub room_left : (l : List Entry) (depot : ℕ) → Each (λ e. e.depot < depots) l → shares_fit l ≡ true → depot < depots → share_of depot l < depot_room
    → length l < room
room_left l depot known fits inside less = omega (arith, some_left depots depot l inside fits less, all depots l known)
