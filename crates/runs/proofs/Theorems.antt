-- Demand 3, of the calls. `Premises` (specs/Runs.antt) says what is asked of a run, in the demand's words; `holds`, `issued` and `reports` are what the
-- definitions give that the contracts of adopt, pool, append and report cite.
-- Assumes nothing.
use Prim.Native.Nat.{ℕ, suc, ◌+◌, ◌-◌, ◌<◌, ◌≤◌}
use mathlib.Core.Path.{◌≡◌}
use mathlib.Core.Bool.{not, false}
use mathlib.Core.List.{List, ◌∷◌, ◌++◌}
use lib.ListN.{take, get_or}
use Rattle.std.specs.List.{fold}
use Rattle.laws.specs.Told.{gives}
use Rattle.laws.specs.Format.{Each}
use Rattle.genesis.specs.Genesis.{turn}
use Rattle.order.specs.Order.{valid, obeyed}
use Rattle.order.specs.declared.Order.{Order}
use Rattle.block.specs.Block.{Parts, Fits}
use Rattle.chain.specs.Chain.{none}
use Rattle.chain.specs.Blocks.{chain_bytes, followed, NoneFell}
use Rattle.chain.specs.declared.Standing.{Standing}
use Rattle.report.specs.Report.{Report}
use Rattle.agreement.specs.Core.{how_many, Begins}
use Rattle.runs.specs.Runs.{Event, delivery, after_event, adopts, AdoptedOrEqualled, appends, Run, correct, after_slot, in_slot, holds, reports, issued, InRun, Premises}
use Rattle.runs.proofs.Nodes.{opening}
use Rattle.runs.proofs.Agreed.{given}
use Rattle.runs.proofs.Reported as reported

module _ (r : Run) (premises : Premises r) where
  -- a correct controller always reports
  pub no_report_is_refused : (i : ℕ) → correct r i → (j : ℕ) → InRun r j → (a : Report) × (reports r i j ≡ gives a)
  no_report_is_refused = given r premises

  -- "what one correct controller reports settled in some slot, after its deliveries, is the beginning of the chain that any correct controller holds
  -- after its deliveries in that slot or any later one of the run"
  module _ (i k : ℕ) (i-correct : correct r i) (k-correct : correct r k) (j j' : ℕ) (in_run : InRun r j) (in-run' : InRun r j') (later : j ≤ j')
      (a : Report) (says : reports r i j ≡ gives a) where
    pub what_is_settled_begins_every_later_chain : Begins (take a.length (holds r i j)) (holds r k j')
    what_is_settled_begins_every_later_chain = reported.begins r premises i k i-correct k-correct j j' in_run in-run' later a says

    -- 02, n, over demand 3: an order that one correct controller drops in a slot after its deliveries, since it expects less than what is settled there, is
    -- valid on no correct controller's chain then or later: neither behind its last block nor behind further orders
    pub what_one_drops_is_valid_on_no_later_chain : (order : Order) → order.expected < get_or a.releases order.display 0
        → (blocks : List Parts) → Each Fits blocks → holds r k j' ≡ chain_bytes blocks
        → (whole : Standing) → followed (none (opening r.genesis r.table 0)) blocks ≡ gives whole
        → (orders : List Order) (releases : List ℕ) → obeyed whole.releases orders ≡ gives releases → valid releases order ≡ false
    what_one_drops_is_valid_on_no_later_chain = reported.never_valid r premises i k i-correct k-correct j j' in_run in-run' later a says

    -- so it stays settled, and no reported release is ever lower later, or at another correct controller
    module _ (b : Report) (says' : reports r k j' ≡ gives b) where
      pub what_is_settled_stays_settled : Begins (take a.length (holds r i j)) (take b.length (holds r k j'))
      what_is_settled_stays_settled = reported.stays r premises i k i-correct k-correct j j' in_run in-run' later a says b says'

      pub no_release_is_taken_back : NoneFell a.releases b.releases
      no_release_is_taken_back = reported.none_fell r premises i k i-correct k-correct j j' in_run in-run' later a says b says'

  -- two correct controllers in one slot report the same settled blocks, and the same releases
  pub no_two_settled_lists_differ : (i k : ℕ) → correct r i → correct r k → (j : ℕ) → InRun r j → (a b : Report) → reports r i j ≡ gives a → reports r k j ≡ gives b
      → (take a.length (holds r i j) ≡ take b.length (holds r k j)) × (a.settled ≡ b.settled) × (a.length ≡ b.length) × (a.releases ≡ b.releases)
  no_two_settled_lists_differ = reported.same r premises

  -- "at slot j after deliveries, a correct controller holds at least as many blocks as there were correct turns before j"
  pub held_chains_grow : (i : ℕ) → correct r i → (j : ℕ) → InRun r j → (a : Report) → reports r i j ≡ gives a
      → how_many (λ slot. not (r.faulty (turn r.table slot))) 0 (j - 1) ≤ a.held
  held_chains_grow = reported.grows r premises

  -- issuing in its turn is never refused
  pub issuing_is_never_refused : (i : ℕ) → correct r i → (j : ℕ) → InRun r j → turn r.table j ≡ i
      → (next : ℕ) × (appends r.genesis j i (r.signature i j) (r.seal i j) (in_slot r i j) ≡ gives next)
  issuing_is_never_refused = reported.issues r premises

  -- and where the issued chain is delivered it is adopted, or as many blocks are held already
  pub an_issued_chain_is_adopted_or_equalled : (i : ℕ) → correct r i → (j : ℕ) → InRun r j → InRun r (suc j) → correct r (turn r.table j)
      → (a : Report) → reports r (turn r.table j) j ≡ gives a
      → (before after : List Event) (verdicts : List ℕ) → r.events i (suc j) ≡ before ++ delivery (issued r j) verdicts ∷ after
      → AdoptedOrEqualled (issued r j) (a.held + 1)
      (adopts r.genesis (suc j) (fold (after_event r.genesis (suc j)) (after_slot r i j) before) (issued r j) verdicts)
  an_issued_chain_is_adopted_or_equalled = reported.taken r premises

  -- after the deliveries of the next slot each correct controller holds at least one block more than the issuer held
  pub each_correct_turn_adds_a_block : (i : ℕ) → correct r i → (j : ℕ) → InRun r j → InRun r (suc j) → correct r (turn r.table j)
      → (a b : Report) → reports r (turn r.table j) j ≡ gives a → reports r i (suc j) ≡ gives b → a.held + 1 ≤ b.held
  each_correct_turn_adds_a_block = reported.adds r premises
