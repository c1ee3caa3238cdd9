-- What a reader may take from this crate: what demand 3 asks of a run can be met, by a run in which one controller of six is faulty and forks the
-- chain. So what is proved of such runs is not empty. The digests in it are computed from the definition of SHA-256; nothing is assumed of it.
-- Assumes nothing.
use Prim.Native.Nat.{ℕ}
use mathlib.Core.Path.{◌≡◌}
use mathlib.Core.List.{[], ◌∷◌}
use lib.ListN.{take, get_or}
use Rattle.laws.specs.Told.{gives}
use Rattle.chain.specs.Blocks.{chain_bytes}
use Rattle.report.specs.Report.{Report}
use Rattle.runs.specs.Runs.{correct, holds, reports, Premises}
use Rattle.forked.specs.Forked.{next, other, run}
use Rattle.forked.proofs.Premises.{premises}
use Rattle.forked.proofs.Reported.{two_held, one_held, one_settled}

pub a_run_with_a_fork_keeps_the_premises : Premises run
a_run_with_a_fork_keeps_the_premises = premises

-- `next k` is the block of slot k + 1. Display 0 is to boot release 1 by `next 0`, and release 2 by `other`, which was signed for slot 1 as well
pub two_chains_are_held_in_slot_2 : (holds run 2 2 ≡ chain_bytes (next 0 ∷ [])) × (holds run 4 2 ≡ chain_bytes (other ∷ []))
    × (holds run 2 2 ≡ holds run 4 2 → ⊥)
two_chains_are_held_in_slot_2 = two_held

pub all_hold_the_longer_one_in_slot_3 : (i : ℕ) → correct run i → holds run i 3 ≡ chain_bytes (next 0 ∷ next 1 ∷ [])
all_hold_the_longer_one_in_slot_3 = one_held

pub all_report_the_first_block_settled_in_slot_6 : (i : ℕ) → correct run i
    → (a : Report) × (reports run i 6 ≡ gives a) × (a.held ≡ 5) × (a.settled ≡ 1) × (take a.length (holds run i 6) ≡ chain_bytes (next 0 ∷ []))
    × (get_or a.releases 0 0 ≡ 1)
all_report_the_first_block_settled_in_slot_6 = one_settled
