-- The front of the next block: the orders that were taken, in a list of eight, are in their range.
-- Assumes nothing.
use Prim.Native.Nat.{ℕ, zero, suc, ◌+◌, ◌-◌, ◌<◌, ◌≤◌}
use mathlib.Core.Path.{◌≡◌, refl, sym, ap, ◌∙◌, subst}
use mathlib.Core.Bool.{true}
use mathlib.Core.List.{List, [], ◌∷◌, ◌++◌}
use native.Mathlib.Nat.{not-suc-le-zero, le_of_suc-le-suc}
use native.Mathlib.Omega.{arith}
use native.Mathlib.Numerals.{add-one}
use lib.Dec.{ltb}
use lib.ListN.{length, take, get_or, set, replicate, length-set}
use lib.Seq.{take-suc, take-suc-set, take_all, take-append-add, take-append_seam}
use borrow.Author.Tests.{le-leb}
use Rattle.std.specs.List.{list_all}
use Rattle.laws.specs.Every.{within}
use Rattle.laws.specs.Tabulate.{tailed}
use Rattle.laws.specs.Format.{Each}
use Rattle.order.specs.Order.{order_in_range}
use Rattle.order.specs.declared.Order.{Order}
use Rattle.laws.specs.Told.{gives}
use Rattle.laws.proofs.Told.{gives_same, then_gives, unless_gives}
use Rattle.laws.proofs.Each.{each_every}
use Rattle.genesis.specs.Genesis.{genesis_of, clock_fits}
use Rattle.block.specs.Answers.{listed, unlisted}
use Rattle.block.specs.Blocks.{front_fits}
use Rattle.block.specs.Block.{OrderFits}
use Rattle.block.specs.declared.Front.{Front}
use Rattle.chain.specs.Chain.{opened, held_chain, holding}
use Rattle.chain.specs.declared.Opened.{Opened}
use Rattle.chain.specs.declared.Summary.{Summary}
use Rattle.pool.specs.Pool.{pool_fits, counting, orders_of, taking}
use Rattle.pool.specs.declared.Pool.{Pool}
use Rattle.pool.proofs.Takings.{Fine, taking_fine, taking_each, counting_in_range}
use Rattle.issue.specs.Issue.{may_issue, taken, next_front, front}

-- ---- the first eight of a longer list
pub record Copied (orders list : List Order) (i : ℕ) : Type 0 where
  pub inside : i ≤ 8
  pub size : length list ≡ 8
  pub same : take i list ≡ take i orders

pub copied_next : (orders list : List Order) (i : ℕ) (d : Order) → i < 8 → 8 ≤ length orders → Copied orders list i
    → Copied orders (set list i (get_or orders i d)) (i + 1)
copied_next orders list i d more long copied = record {
  inside = omega arith;
  size = length-set list i (get_or orders i d) ∙ copied.size;
  same = rw add-one
      (take-suc-set list i (get_or orders i d) (omega (arith, copied.size)) ∙ ap (λ (l : List Order). l ++ (get_or orders i d ∷ [])) copied.same
      ∙ sym (take-suc orders i d (omega arith)));
}

pub copied_all : (orders list : List Order) (i : ℕ) → 8 ≤ i → Copied orders list i → list ≡ take 8 orders
copied_all orders list i over copied =
    let there : i ≡ 8 = omega (arith, copied.inside) in
    let whole : take 8 list ≡ take 8 orders = rw there at copied.same in
    sym (take_all 8 list (omega (arith, copied.size))) ∙ whole

-- ---- the orders that are taken
take_replicate : {A : Type 0} (m n : ℕ) (d : A) → m ≤ n → take m (replicate n d) ≡ replicate m d
take_replicate zero n d h = refl
take_replicate (suc m) zero d h = absurd (not-suc-le-zero h)
take_replicate (suc m) (suc n) d h = ap (λ rest. d ∷ rest) (take_replicate m n d (le_of_suc-le-suc h))

pub eight_of : {A : Type 0} (d : A) (l : List A) → length l ≤ 8 → take 8 (tailed 64 d l) ≡ tailed 8 d l
eight_of d l few =
    let split : length l + (8 - length l) ≡ 8 = omega arith in
    ap (λ (n : ℕ). take n (tailed 64 d l)) (sym split)
    ∙ take-append-add l (replicate (64 - length l) d) (8 - length l)
    ∙ ap (λ rest. l ++ rest) (take_replicate (8 - length l) (64 - length l) d (omega arith))

module _ (o : Opened) (held : Summary) (pool : Pool) where
  pub taken_fine : Fine 8 held.whole.releases (taking 8 held.whole.releases (orders_of (counting held pool)))
  taken_fine = taking_fine 8 held.whole.releases (orders_of (counting held pool))

  module _ (fits : pool_fits o held pool ≡ true) where
    pub taken_in_range : Each OrderFits (taken held pool)
    taken_in_range = taking_each OrderFits 8 held.whole.releases (orders_of (counting held pool)) (counting_in_range o held pool fits)

    pub next_fits : (signature : List ℕ) → within 1 256 o.clock.0 ≡ true → front_fits (next_front o held pool signature) ≡ true
    next_fits signature slot =
        let l = taken held pool in
        let all : list_all order_in_range (unlisted (listed l)) ≡ true =
        ap (list_all order_in_range) (take-append_seam l _) ∙ each_every order_in_range l taken_in_range in
        rw (le-leb (length l) 8 taken_fine.few, all) slot

-- every call is opened at a slot from 1 to 256
clock_fits_law : (genesis : List ℕ) (clock : ℕ) (buffer : List ℕ) (size : ℕ) (h : Opened × Summary) → holding genesis clock buffer size ≡ gives h
    → within 1 256 h.0.clock.0 ≡ true
clock_fits_law genesis clock buffer size h e =
    let (o, opens, rest) = then_gives (opened genesis clock) _ h e in
    let (s, holds, is) = then_gives (held_chain o buffer size) _ h rest in
    let (table, reads, rest') = then_gives (genesis_of genesis) _ o opens in
    let (fits, are) = unless_gives (clock_fits table clock) 2 0 _ o rest' in
    let same : o ≡ h.0 = ap (λ q. q.0) (gives_same is) in
    let shown : clock ≡ h.0.clock.0 = ap (λ (q : Opened). q.clock.0) (gives_same are ∙ same) in
    subst (λ (n : ℕ). within 1 256 n ≡ true) shown fits

-- a front that there is can be written
pub front_fits_law : (genesis : List ℕ) (clock : ℕ) (held : List ℕ) (size : ℕ) (pool : Pool) (controller : ℕ) (signature : List ℕ) (f : Front)
    → front genesis clock held size pool controller signature ≡ gives f → front_fits f ≡ true
unfolding front
front_fits_law genesis clock held size pool controller signature f e =
    let (h, holds, rest) = then_gives (holding genesis clock held size) _ f e in
    let (fits, rest') = unless_gives (pool_fits h.0 h.1 pool) 18 0 _ f rest in
    let (turn, rest'') = unless_gives (may_issue h.0 controller) 12 0 _ f rest' in
    let (later, is) = unless_gives (ltb h.1.whole.stamp.0 h.0.clock.0) 6 0 _ f rest'' in
    subst (λ (q : Front). front_fits q ≡ true) (gives_same is) (next_fits h.0 h.1 pool fits signature (clock_fits_law genesis clock held size h holds))
