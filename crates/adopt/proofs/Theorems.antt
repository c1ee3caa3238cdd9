-- What a reader may take from this crate, 01's "Adopting in slot 1, genesis and held chain good: a delivered chain of at most 64,256 bytes whose first
-- block reads well meets 7; the chain of no blocks meets 11". The second holds in every slot.
-- Assumes nothing.
use Prim.Native.Nat.{ℕ, ◌<◌, ◌≤◌, zero-le}
use mathlib.Core.Path.{◌≡◌, ◌∙◌}
use mathlib.Core.List.{List, []}
use native.Mathlib.Omega.{arith}
use lib.ListN.{length}
use borrow.Author.Tests.{le-ltb}
use Rattle.laws.specs.Told.{gives, refuses, Found}
use Rattle.laws.specs.Format.{Bytes}
use Rattle.block.specs.Block.{Parts, block_at}
use Rattle.block.proofs.Bodies.{stands}
use Rattle.chain.specs.Chain.{longest, opened, delivered, begun, delivered_chain, held_chain}
use Rattle.chain.specs.declared.Opened.{Opened}
use Rattle.chain.specs.declared.Summary.{Summary}
use Rattle.chain.proofs.Calls.{delivered_passed}
use Rattle.chain.proofs.Theorems.{accepted_blocks_may_be_delivered, the_first_bad_block_is_refused}
use Rattle.adopt.specs.Adopt.{accepted}
use Rattle.adopt.proofs.FirstSlot.{no_blocks, too_late}

module _ (genesis : List ℕ) (clock : ℕ) (held : List ℕ) (size : ℕ) (verdicts : List ℕ) (o : Opened) (h : Summary)
    (opens : opened genesis clock ≡ gives o) (holds : held_chain o held size ≡ gives h) where
  pub the_chain_of_no_blocks_meets_11 : accepted genesis clock held size ([]) verdicts ≡ refuses 11 0
  unfolding accepted
  the_chain_of_no_blocks_meets_11 =
      rw (opens, holds, accepted_blocks_may_be_delivered o (begun o) verdicts [] (no_blocks o verdicts), le-ltb h.whole.count.0 0 zero-le)

  pub in_slot_1_a_block_from_outside_meets_7 : (chain : List ℕ) (b : Found Parts) → clock ≡ 1 → Bytes chain → length chain ≤ longest → block_at chain 0 ≡ gives b
      → accepted genesis clock held size chain verdicts ≡ refuses 7 1
  unfolding accepted
  in_slot_1_a_block_from_outside_meets_7 chain b first bytes short reads =
      let some : 0 < length chain = let at = stands chain 0 b reads in omega (arith, at.long, at.ends) in
      let refused : delivered_chain o chain verdicts ≡ refuses 7 1 = delivered_passed o chain verdicts short
      ∙ the_first_bad_block_is_refused [] (begun o) chain 7 0 o (delivered verdicts) (no_blocks o verdicts) some (too_late genesis clock verdicts o opens chain b first bytes reads) in
      rw (opens, holds, refused)
