-- In slot 1 a block that reads is too late, whatever it is.
-- Assumes nothing.
use Prim.Native.Nat.{ℕ}
use mathlib.Core.Path.{◌≡◌, refl, ap, ◌∙◌}
use mathlib.Core.List.{List, []}
use native.Mathlib.Omega.{arith}
use borrow.Author.Tests.{lt-ltb, le-ltb}
use Rattle.laws.specs.Told.{gives, refuses, Found}
use Rattle.laws.specs.Format.{Bytes}
use Rattle.laws.proofs.Every.{within_true}
use Rattle.block.specs.Block.{Parts, block_at}
use Rattle.block.proofs.Theorems.{read_block_writes_back}
use Rattle.chain.specs.Chain.{opened, delivered, judged, none, begun}
use Rattle.chain.specs.Blocks.{Accepted}
use Rattle.chain.specs.declared.Opened.{Opened}
use Rattle.chain.proofs.Theorems.{at_another_slot_only_the_slot_is_another}

pub no_blocks : (o : Opened) (verdicts : List ℕ) → Accepted o (delivered verdicts) ([]) (begun o)
no_blocks o verdicts = record { fits = tt; whole = refl; settled = refl; admits = tt }

module _ (genesis : List ℕ) (clock : ℕ) (verdicts : List ℕ) (o : Opened) (opens : opened genesis clock ≡ gives o) where
  -- a block that reads is stamped 1 or later
  pub too_late : (chain : List ℕ) (b : Found Parts) → clock ≡ 1 → Bytes chain → block_at chain 0 ≡ gives b
      → judged (delivered verdicts) o.clock.0 chain (none o) ≡ refuses 7 0
  unfolding judged
  too_late chain b first bytes reads =
      let (from, _) = within_true 1 256 b.value.slot (read_block_writes_back chain 0 b bytes reads).0.slot in
      let now_is : o.clock.0 ≡ 1 = ap (λ q. q.clock.0) (at_another_slot_only_the_slot_is_another genesis clock clock o o opens opens) ∙ first in
      rw (reads, lt-ltb 0 b.value.slot (omega arith), le-ltb b.value.slot o.clock.0 (omega arith))
