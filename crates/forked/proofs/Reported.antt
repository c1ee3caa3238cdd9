-- What correct controllers hold while the chain is forked, what they hold in the slot after that, and what they report in slot 6.
-- Assumes nothing.
use Prim.Native.Nat.{ℕ, ◌+◌}
use mathlib.Core.Path.{◌≡◌, sym, ap, ◌∙◌}
use mathlib.Core.List.{List, [], ◌∷◌}
use native.Mathlib.Omega.{arith}
use lib.ListN.{take, get_or}
use Rattle.laws.specs.Told.{gives}
use Rattle.laws.proofs.Told.{gives_same}
use Rattle.order.specs.declared.Order.{Order}
use Rattle.block.specs.Block.{Parts}
use Rattle.chain.specs.Chain.{held, none}
use Rattle.chain.specs.Blocks.{chain_bytes, settled_of}
use Rattle.chain.specs.declared.Standing.{Standing}
use Rattle.chain.proofs.Theorems.{the_bytes_tell_the_blocks, each_block_counts_once, the_settled_bytes_are_the_settled_blocks}
use Rattle.report.specs.Report.{Report, report_of}
use Rattle.runs.specs.Runs.{correct, in_slot, holds, reports}
use Rattle.runs.proofs.Nodes.{opening, keeps_later, Held, held_there, opens}
use Rattle.forked.specs.Forked.{genesis, table, next, other, chain, run}
use Rattle.forked.proofs.Blocks.{stands, chain_good, given_good}
use Rattle.forked.proofs.Held.{reads, State, held_in_slot, correct_turn}

-- ---- slots 2 and 3
-- the releases that orders, or a chain's blocks, put in place, added up
asked : List Order → ℕ
asked [] = 0
asked (order ∷ rest) = order.new + asked rest

asked_by : List Parts → ℕ
asked_by [] = 0
asked_by (p ∷ rest) = asked p.orders + asked_by rest

two_blocks : chain 0 ≡ other ∷ [] → ⊥
unfolding asked asked_by
two_blocks e = omega (arith, ap asked_by e)

pub two_held : (holds run 2 2 ≡ chain_bytes (next 0 ∷ [])) × (holds run 4 2 ≡ chain_bytes (other ∷ []))
    × (holds run 2 2 ≡ holds run 4 2 → ⊥)
two_held =
    let first = (held_in_slot 2 (correct_turn 0 (omega arith)) 0 (omega arith)).keeps.are in
    let second = (held_in_slot 4 (correct_turn 2 (omega arith)) 0 (omega arith)).keeps.are in (
      first,
      second,
      λ e. two_blocks
          (the_bytes_tell_the_blocks (chain 0) (other ∷ []) (given_good 2 0 (omega arith)).fit (given_good 4 0 (omega arith)).fit (sym first ∙ e ∙ second)),
    )

pub one_held : (i : ℕ) → correct run i → holds run i 3 ≡ chain_bytes (next 0 ∷ next 1 ∷ [])
one_held i is_correct = (held_in_slot i is_correct 1 (omega arith)).keeps.are

-- ---- slot 6
module _ (i : ℕ) (is_correct : correct run i) where
  state : State 6 (in_slot run i 6) (chain 4)
  state = held_in_slot i is_correct 4 (omega arith)

  now : Held genesis table reads 6 (omega arith) (omega arith) (in_slot run i 6) (chain 4)
  now =
      held_there genesis table reads 6 (omega arith) (omega arith) (in_slot run i 6) (chain 4)
      (keeps_later genesis table 6 (6 + 1) (in_slot run i 6).buffer (in_slot run i 6).size (chain 4) (omega arith) state.keeps)

  pub one_settled : (a : Report) × (reports run i 6 ≡ gives a) × (a.held ≡ 5) × (a.settled ≡ 1)
      × (take a.length (holds run i 6) ≡ chain_bytes (next 0 ∷ [])) × (get_or a.releases 0 0 ≡ 1)
  one_settled =
      let o = opening genesis table 6 in
      let s = now.summary in (
        report_of s,
        rw (opens genesis table reads 6 (omega arith) (omega arith), now.is),
        now.count ∙ (chain_good 4 (omega arith)).long,
        each_block_counts_once (none o) (settled_of o (chain 4)) s.settled now.accepted.settled,
        ap (take s.settled.length) state.keeps.are ∙ the_settled_bytes_are_the_settled_blocks o held (chain 4) s now.accepted,
        ap (λ (q : Standing). get_or q.releases 0 0) (gives_same (sym now.accepted.settled ∙ (stands 0).is)) ∙ (stands 0).boots,
      )
