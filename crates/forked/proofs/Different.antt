-- No two blocks of the run share a digest, nor does one share the genesis's: the first byte tells which it is.
-- Assumes nothing.
use Prim.Native.Nat.{ℕ, zero, suc, ◌<◌, ◌≤◌}
use mathlib.Core.Path.{◌≡◌, sym, ap, ◌∙◌}
use mathlib.Core.List.{List}
use native.Mathlib.Omega.{arith}
use lib.Dec.{eqb}
use lib.ListN.{get_or}
use borrow.Author.Tests.{ne_eqb}
use Rattle.laws.specs.Pick.{pick}
use Rattle.block.specs.Block.{Parts, block_bytes}
use Rattle.chain.specs.Chain.{link_of}
use Rattle.forked.specs.Forked.{genesis, link, next, other}
use Rattle.forked.proofs.Blocks.{Named, in_turn, forked, begins, goes_on}
use Rattle.forked.proofs.Digests.{link_0, link_1, link_2, link_3, link_4, link_5, link_6, other_link}

abbrev by_first : ℕ → ℕ
by_first byte =
    pick (eqb byte 0x51) 0
    (pick (eqb byte 0x73) 1
    (pick (eqb byte 0xfe) 2 (pick (eqb byte 0xbb) 3 (pick (eqb byte 0x7c) 4 (pick (eqb byte 0x17) 5 (pick (eqb byte 0x15) 6 7))))))

-- k for the link of the block of slot k + 1, and 7 for the other block's digest
abbrev place : List ℕ → ℕ
place digest = by_first (get_or digest 0 0)

link_place : (k : ℕ) → k ≤ 6 → place (link k) ≡ k
link_place zero h = ap place link_0
link_place (suc zero) h = ap place link_1
link_place (suc (suc zero)) h = ap place link_2
link_place (suc (suc (suc zero))) h = ap place link_3
link_place (suc (suc (suc (suc zero)))) h = ap place link_4
link_place (suc (suc (suc (suc (suc zero))))) h = ap place link_5
link_place (suc (suc (suc (suc (suc (suc zero)))))) h = ap place link_6
link_place (suc (suc (suc (suc (suc (suc (suc k))))))) h = absurd (omega arith)

abbrev block_at : ℕ → Parts
block_at zero = other
block_at (suc k) = pick (eqb k 6) other (next k)

block_place_law : (k : ℕ) → k < 6 → place (link_of (block_bytes (next k))) ≡ suc k
block_place_law k h = ap place (goes_on k) ∙ link_place (suc k) (omega arith)

the_block : (p : Parts) → Named p → block_at (place (link_of (block_bytes p))) ≡ p
the_block p (in_turn k h) = ap block_at (block_place_law k h) ∙ rw (ne_eqb k 6 (λ e. omega arith))
the_block p forked = ap (λ (l : List ℕ). block_at (place l)) other_link

pub one_digest_one_block : (p q : Parts) → Named p → Named q → link_of (block_bytes p) ≡ link_of (block_bytes q) → p ≡ q
one_digest_one_block p q is is' e = sym (the_block p is) ∙ ap (λ (l : List ℕ). block_at (place l)) e ∙ the_block q is'

some_place : (p : Parts) → Named p → 1 ≤ place (link_of (block_bytes p))
some_place p (in_turn k h) = omega (arith, block_place_law k h)
some_place p forked = omega (arith, ap place other_link)

pub not_the_genesis : (p : Parts) → Named p → link_of (block_bytes p) ≡ link_of genesis → ⊥
not_the_genesis p is e = omega (arith, some_place p is, ap place e, ap place begins, link_place 0 (omega arith))
