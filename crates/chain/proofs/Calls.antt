-- The tests that come before the blocks of a delivered or a held chain.
-- Assumes nothing.
use Prim.Native.Nat.{ℕ, ◌<◌, ◌≤◌}
use mathlib.Core.Path.{◌≡◌, refl}
use mathlib.Core.List.{List}
use lib.Dec.{leb}
use lib.ListN.{length, take}
use borrow.Author.Tests.{le-leb, lt-leb}
use Rattle.laws.specs.Told.{Told, gives, refuses}
use Rattle.laws.proofs.Every.{both_false}
use Rattle.chain.specs.Chain.{longest, delivered, held, passed, begun, delivered_chain, bad, held_chain, with}
use Rattle.chain.specs.declared.Opened.{Opened}

module _ (o : Opened) (chain verdicts : List ℕ) where
  pub delivered_passed : length chain ≤ longest → delivered_chain o chain verdicts ≡ passed o (delivered verdicts) chain (begun o)
  unfolding delivered_chain
  delivered_passed h = rw (le-leb (length chain) longest h)

module _ (o : Opened) (buffer : List ℕ) (size : ℕ) where
  pub held_too_long : longest < size → held_chain o buffer size ≡ refuses 17 0
  unfolding held_chain
  held_too_long h = rw (lt-leb size longest h, both_false (leb size (length buffer)))

  pub held_passed : size ≤ length buffer → size ≤ longest → held_chain o buffer size ≡ bad (passed o held (take size buffer) (begun o))
  unfolding held_chain
  held_passed inside short = rw (le-leb size (length buffer) inside, le-leb size longest short)
