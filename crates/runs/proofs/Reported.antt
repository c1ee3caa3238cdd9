-- What correct controllers report: the argument's settled lists, as bytes and releases.
-- Assumes nothing.
use Prim.Native.Nat.{ℕ, suc, ◌+◌, ◌-◌, ◌<◌, ◌≤◌}
use mathlib.Core.Path.{◌≡◌, refl, sym, ap, ◌∙◌, subst}
use mathlib.Core.Bool.{Bool, true, false, not}
use mathlib.Core.List.{List, ◌∷◌, ◌++◌}
use native.Mathlib.Omega.{arith}
use lib.ListN.{length, take, get_or}
use Rattle.std.specs.List.{fold}
use Rattle.laws.specs.Told.{gives}
use Rattle.laws.specs.Format.{Each}
use Rattle.laws.proofs.Told.{gives_same, then_gives}
use Rattle.laws.proofs.Taken.{joined_append}
use Rattle.genesis.specs.Genesis.{turn, depth}
use Rattle.genesis.proofs.Sound.{depth_is}
use Rattle.order.specs.Order.{valid, obeyed}
use Rattle.order.specs.declared.Order.{Order}
use Rattle.order.proofs.Validity.{valid_parts}
use Rattle.block.specs.Block.{Parts, block_bytes, Fits}
use Rattle.chain.specs.Chain.{none}
use Rattle.chain.specs.Blocks.{chain_bytes, followed, NoneFell}
use Rattle.chain.specs.declared.Standing.{Standing}
use Rattle.chain.proofs.Theorems.{the_bytes_tell_the_blocks, blocks_follow_part_by_part, no_release_falls}
use Rattle.chain.proofs.Releases.{obeyed_raises}
use Rattle.report.specs.Report.{Report}
use Rattle.agreement.specs.Core.{how_many, Windows, Begins, settled}
use Rattle.agreement.proofs.Theorems as argument
use Rattle.runs.specs.Runs.{Event, delivery, adopts, after_event, appends, Run, correct, after_slot, in_slot, holds, reports, issued, InRun, Premises, AdoptedOrEqualled}
use Rattle.runs.proofs.Nodes.{opening}
use Rattle.runs.proofs.Issuing.{never_refused}
use Rattle.runs.proofs.Valid.{blocks_in, setting}
use Rattle.runs.proofs.Slots.{issuer, one_more, delivered_at, answered_at}
use Rattle.runs.proofs.Agreed.{laws, turns, Reporter, given, reporter}

bytes_begin : (xs ys : List Parts) → Begins xs ys → Begins (chain_bytes xs) (chain_bytes ys)
bytes_begin xs ys (rest, e) = (chain_bytes rest, ap chain_bytes e ∙ joined_append block_bytes xs rest)

module _ (r : Run) (premises : Premises r) where
  window : Windows (setting r) (depth r.table)
  window =
      subst (Windows (setting r)) (sym (depth_is r.genesis r.table premises.reads))
      (argument.fewer_than_a_third_are_bad (setting r) r.table.n r.table.t r.faulty (turns r premises))

  module _ (i k : ℕ) (i-correct : correct r i) (k-correct : correct r k) (j j' : ℕ) (in_run : InRun r j) (in-run' : InRun r j') (later : j ≤ j')
      (a : Report) (says : reports r i j ≡ gives a) (b : Report) (says' : reports r k j' ≡ gives b) where
    abbrev x : Reporter r premises i j a
    x = reporter r premises i i-correct j in_run a says

    abbrev y : Reporter r premises k j' b
    y = reporter r premises k k-correct j' in-run' b says'

    blocks_begin : Begins (settled (setting r) (depth r.table) j x.blocks) (settled (setting r) (depth r.table) j' y.blocks)
    blocks_begin =
        argument.settled_blocks_stay_settled (setting r) (laws r premises) (depth r.table) window j j' x.blocks y.blocks later (omega (arith, in-run'.1)) x.viable
        y.viable

    pub stays : Begins (take a.length (holds r i j)) (take b.length (holds r k j'))
    stays =
        let (rest, e) = bytes_begin (settled (setting r) (depth r.table) j x.blocks) (settled (setting r) (depth r.table) j' y.blocks) blocks_begin in
        (rest, y.bytes ∙ e ∙ ap (λ (l : List ℕ). l ++ rest) (sym x.bytes))

    pub none_fell : NoneFell a.releases b.releases
    none_fell display =
        let (rest, e) = blocks_begin in
        let start = none (opening r.genesis r.table 0) in
        let (middle, first, second) = then_gives (followed start (settled (setting r) (depth r.table) j x.blocks)) (λ after. followed after rest) y.last
        (sym (ap (followed start) e ∙ blocks_follow_part_by_part start (settled (setting r) (depth r.table) j x.blocks) rest) ∙ y.follows) in
        let same : middle ≡ x.last = gives_same (sym first ∙ x.follows) in
        omega (
          arith,
          no_release_falls middle rest y.last second display,
          ap (λ (q : Standing). get_or q.releases display 0) same,
          ap (λ (l : List ℕ). get_or l display 0) x.settled_releases,
          ap (λ (l : List ℕ). get_or l display 0) y.settled_releases,
        )

  pub begins : (i k : ℕ) → correct r i → correct r k → (j j' : ℕ) → InRun r j → InRun r j' → j ≤ j' → (a : Report) → reports r i j ≡ gives a
      → Begins (take a.length (holds r i j)) (holds r k j')
  begins i k i-correct k-correct j j' in_run in-run' later a says =
      let x = reporter r premises i i-correct j in_run a says in
      let (b, says') = given r premises k k-correct j' in-run' in
      let y = reporter r premises k k-correct j' in-run' b says' in
      let (rest, e) = bytes_begin (settled (setting r) (depth r.table) j x.blocks) y.blocks
      (argument.settled_blocks_begin_each_later_chain (setting r) (laws r premises) (depth r.table) window j j' x.blocks y.blocks later (omega (arith, in-run'.1))
      x.viable y.viable) in
      (rest, y.are ∙ e ∙ ap (λ (l : List ℕ). l ++ rest) (sym x.bytes))

  -- an order that expects less than what one reports settled is valid behind no chain that another holds then or later, nor behind further orders
  module _ (i k : ℕ) (i-correct : correct r i) (k-correct : correct r k) (j j' : ℕ) (in_run : InRun r j) (in-run' : InRun r j') (later : j ≤ j')
      (a : Report) (says : reports r i j ≡ gives a) (order : Order) (stopped : order.expected < get_or a.releases order.display 0) where
    pub never_valid : (blocks : List Parts) → Each Fits blocks → holds r k j' ≡ chain_bytes blocks
        → (whole : Standing) → followed (none (opening r.genesis r.table 0)) blocks ≡ gives whole
        → (orders : List Order) (releases : List ℕ) → obeyed whole.releases orders ≡ gives releases → valid releases order ≡ false
    never_valid blocks fit are whole follows orders releases further = by_test (valid releases order) refl
      where
        x : Reporter r premises i j a
        x = reporter r premises i i-correct j in_run a says

        rose : get_or a.releases order.display 0 ≤ get_or whole.releases order.display 0
        rose =
            let start = none (opening r.genesis r.table 0) in
            let (b, says') = given r premises k k-correct j' in-run' in
            let y = reporter r premises k k-correct j' in-run' b says' in
            let same_blocks : blocks ≡ y.blocks = the_bytes_tell_the_blocks blocks y.blocks fit y.viable.passes.fits (sym are ∙ y.are) in
            let (rest, e) = argument.settled_blocks_begin_each_later_chain (setting r) (laws r premises) (depth r.table) window j j' x.blocks y.blocks later
            (omega (arith, in-run'.1)) x.viable y.viable in
            let (middle, first, second) = then_gives (followed start (settled (setting r) (depth r.table) j x.blocks)) (λ after. followed after rest) whole
            (sym (ap (followed start) (same_blocks ∙ e) ∙ blocks_follow_part_by_part start (settled (setting r) (depth r.table) j x.blocks) rest) ∙ follows) in
            let same_middle : middle ≡ x.last = gives_same (sym first ∙ x.follows) in
            omega (
              arith,
              no_release_falls middle rest whole second order.display,
              ap (λ (q : Standing). get_or q.releases order.display 0) same_middle,
              ap (λ (l : List ℕ). get_or l order.display 0) x.settled_releases,
            )

        by_test : (β : Bool) → valid releases order ≡ β → β ≡ false
        by_test false is = refl
        by_test true is =
            let (_, there, _) = valid_parts releases order is in
            absurd (omega (arith, there, stopped, rose, obeyed_raises whole.releases orders releases further order.display))

  pub same : (i k : ℕ) → correct r i → correct r k → (j : ℕ) → InRun r j → (a b : Report) → reports r i j ≡ gives a → reports r k j ≡ gives b
      → (take a.length (holds r i j) ≡ take b.length (holds r k j)) × (a.settled ≡ b.settled) × (a.length ≡ b.length) × (a.releases ≡ b.releases)
  same i k i-correct k-correct j in_run a b says says' =
      let x = reporter r premises i i-correct j in_run a says in
      let y = reporter r premises k k-correct j in_run b says' in
      let one = argument.one_slot_has_one_settled_list (setting r) (laws r premises) (depth r.table) window j x.blocks y.blocks (omega (arith, in_run.1)) x.viable y.viable in
      let last : x.last ≡ y.last = gives_same (sym x.follows ∙ ap (followed (none (opening r.genesis r.table 0))) one ∙ y.follows) in (
        x.bytes ∙ ap chain_bytes one ∙ sym y.bytes,
        x.settled_count ∙ ap (λ (q : Standing). q.count.0) last ∙ sym y.settled_count,
        x.settled_length ∙ ap (λ (q : Standing). q.length) last ∙ sym y.settled_length,
        x.settled_releases ∙ ap (λ (q : Standing). q.releases) last ∙ sym y.settled_releases,
      )

  pub grows : (i : ℕ) → correct r i → (j : ℕ) → InRun r j → (a : Report) → reports r i j ≡ gives a
      → how_many (λ slot. not (r.faulty (turn r.table slot))) 0 (j - 1) ≤ a.held
  grows i i-correct j in_run a says =
      let x = reporter r premises i i-correct j in_run a says in
      let grown = argument.a_viable_chain_has_grown (setting r) (laws r premises) j x.blocks (omega (arith, in_run.1)) x.viable in
      subst (λ (n : ℕ). how_many (λ slot. not (r.faulty (turn r.table slot))) 0 (j - 1) ≤ n) (sym x.counts) grown

  pub issues : (i : ℕ) → correct r i → (j : ℕ) → InRun r j → turn r.table j ≡ i
      → (next : ℕ) × (appends r.genesis j i (r.signature i j) (r.seal i j) (in_slot r i j) ≡ gives next)
  issues i i-correct j in_run is_turn =
      let at = delivered_at r premises i i-correct j in_run in
      (_, never_refused r.genesis r.table j (in_slot r i j) at.blocks (issuer r premises i i-correct j in_run is_turn at))

  -- what is issued in a correct turn has one block more than its controller held
  issued_count : (j : ℕ) → InRun r j → correct r (turn r.table j) → (a : Report) → reports r (turn r.table j) j ≡ gives a
      → length (blocks_in (issued r j)) ≡ a.held + 1
  issued_count j in_run good a says =
      let t = turn r.table j in
      let x = reporter r premises t good j in_run a says in
      let at = delivered_at r premises t good j in_run in
      let same = the_bytes_tell_the_blocks x.blocks at.blocks x.viable.passes.fits at.fine.keeps.fits (sym x.are ∙ at.fine.keeps.are) in
      omega (arith, x.counts, ap length same, one_more r premises t good j in_run refl at)

  pub taken : (i : ℕ) → correct r i → (j : ℕ) → InRun r j → InRun r (suc j) → correct r (turn r.table j)
      → (a : Report) → reports r (turn r.table j) j ≡ gives a
      → (before after : List Event) (verdicts : List ℕ) → r.events i (suc j) ≡ before ++ delivery (issued r j) verdicts ∷ after
      → AdoptedOrEqualled (issued r j) (a.held + 1)
      (adopts r.genesis (suc j) (fold (after_event r.genesis (suc j)) (after_slot r i j) before) (issued r j) verdicts)
  taken i i-correct j in_run in-run' good a says before after verdicts e =
      subst
      (λ (n : ℕ). AdoptedOrEqualled (issued r j) n
      (adopts r.genesis (suc j) (fold (after_event r.genesis (suc j)) (after_slot r i j) before) (issued r j) verdicts))
      (issued_count j in_run good a says)
      (answered_at r premises i i-correct j in_run in-run' good before after verdicts e)

  pub adds : (i : ℕ) → correct r i → (j : ℕ) → InRun r j → InRun r (suc j) → correct r (turn r.table j)
      → (a b : Report) → reports r (turn r.table j) j ≡ gives a → reports r i (suc j) ≡ gives b → a.held + 1 ≤ b.held
  adds i i-correct j in_run in-run' good a b says says' =
      let y = reporter r premises i i-correct (suc j) in-run' b says' in
      let is_good : not (r.faulty (turn r.table j)) ≡ true = ap not good.2 in
      omega (arith, y.counts, y.viable.long j is_good in_run.0 (omega arith), issued_count j in_run good a says)
