-- What each correct controller holds in each slot of the run, and what is issued.
-- Assumes nothing.
use Prim.Native.Nat.{ℕ, zero, suc, ◌+◌, ◌<◌, ◌≤◌, zero-le}
use mathlib.Core.Path.{◌≡◌, refl, sym, ap, ◌∙◌, subst}
use mathlib.Core.Bool.{Bool, true, false}
use mathlib.Core.List.{List, [], ◌∷◌, ◌++◌}
use native.Mathlib.Omega.{arith}
use lib.Dec.{eqb}
use lib.ListN.{length, get_or, get_or-replicate, length-replicate}
use borrow.Author.Tests.{lt-ltb, eq-eqb, eqb-true, eqb-false, ne_eqb}
use Rattle.laws.specs.Pick.{pick}
use Rattle.laws.specs.Told.{gives}
use Rattle.laws.specs.Format.{Bytes}
use Rattle.laws.proofs.Bytes.{bytes_filled}
use Rattle.laws.proofs.Every.{within_here}
use Rattle.laws.proofs.Told.{gives_same}
use Rattle.number.specs.Number.{number_at, read_groups}
use Rattle.genesis.specs.Genesis.{genesis_of, turn}
use Rattle.block.specs.Block.{Parts}
use Rattle.chain.specs.Chain.{longest, delivered}
use Rattle.chain.specs.Blocks.{chain_bytes, Admits, Below}
use Rattle.chain.specs.declared.Standing.{Standing}
use Rattle.chain.specs.declared.Summary.{Summary}
use Rattle.chain.proofs.Theorems.{blocks_that_follow_and_are_admitted_are_accepted, the_bytes_tell_the_blocks, what_is_written_of_blocks_is_bytes}
use Rattle.pool.specs.Pool.{pool_of, taking}
use Rattle.pool.specs.declared.Pool.{Pool}
use Rattle.issue.specs.Issue.{taken}
use Rattle.runs.specs.Runs.{Node, held_bytes, delivery, after_event, issues, correct, after_slot, in_slot, issued, after_issuing}
use Rattle.runs.proofs.Nodes.{opening, Keeps, keeps_later, From, stayed, replaced, Met, met_delivery}
use Rattle.runs.proofs.Pools.{Pooled, pooled_none}
use Rattle.runs.proofs.Issuing as issuing
use Rattle.forked.specs.Forked.{genesis, table, signature, seal, link, next, chain, given, verdicts, buffer, run}
use Rattle.forked.proofs.Blocks.{signed, sealed, start, stands, Good, given_good}

pub reads : genesis_of genesis ≡ gives table
unfolding genesis_of number_at read_groups genesis
reads = refl

pub full : longest ≤ length buffer
unfolding buffer
full = omega (arith, length-replicate {A = ℕ} longest 0)

pub buffer_bytes : Bytes buffer
unfolding buffer
buffer_bytes = bytes_filled longest 0 (omega arith)

pub three : (i : ℕ) → i < 256 → get_or verdicts i 0 ≡ 3
unfolding verdicts
three i h = get_or-replicate 256 i 3 0 h

pub turn_is : (k : ℕ) → k < 5 → turn table (suc (suc k)) ≡ suc (suc k)
turn_is k h = omega arith

-- ---- one controller
-- it keeps blocks that are stamped below `end`, and no order
pub record State (end : ℕ) (s : Node) (blocks : List Parts) : Type 0 where
  pub keeps : Keeps genesis table end s.buffer s.size blocks
  pub pool : s.pool ≡ pool_of []

state_later : (end end' : ℕ) (s : Node) (blocks : List Parts) → end ≤ end' → State end s blocks → State end' s blocks
state_later end end' s blocks h st = record { keeps = keeps_later genesis table end end' s.buffer s.size blocks h st.keeps; pool = st.pool }

admits : (clock count : ℕ) (blocks : List Parts) → Below clock blocks → count + length blocks ≤ 256 → Admits (delivered verdicts) clock count blocks
admits clock count [] below few = tt
admits clock count (p ∷ rest) (low, below) few =
    (rw (lt-ltb p.slot clock low, three count (omega arith)), admits clock (count + 1) rest below (omega arith))

-- a delivery of good blocks: it holds them then, if it held them before or fewer
module _ (k : ℕ) (few : k < 6) (s : Node) (blocks others : List Parts) (st : State (suc (suc k)) s blocks) (good : Good k others)
    (full : suc k ≤ length blocks → blocks ≡ others) where
  met : Met genesis table (suc (suc k)) (after_event genesis (suc (suc k)) s (delivery (chain_bytes others) verdicts)) blocks (chain_bytes others) verdicts
  met =
      met_delivery genesis table reads (suc (suc k)) (omega arith) (omega arith) s blocks (chain_bytes others) verdicts
      (what_is_written_of_blocks_is_bytes others good.fit) st.keeps

  long : length others ≤ length met.now_held
  long =
      let o = opening genesis table (suc (suc k)) in
      let (d, _, a) = blocks_that_follow_and_are_admitted_are_accepted o (delivered verdicts) others good.whole good.fit good.is
      (admits (suc (suc k)) 0 others good.below (omega (arith, good.long))) in
      met.long others d refl a

  held_now : (now : List Parts) → From (opening genesis table (suc (suc k))) blocks (chain_bytes others) verdicts now → length others ≤ length now
      → now ≡ others
  held_now now stayed h = full (omega (arith, good.long))
  held_now now (replaced d others' is a) h = the_bytes_tell_the_blocks others' others a.fits good.fit (sym is)

  pub delivered_state : State (suc (suc k)) (after_event genesis (suc (suc k)) s (delivery (chain_bytes others) verdicts)) others
  delivered_state = record {
    keeps = subst
        (λ (l : List Parts). Keeps genesis table (suc (suc k)) (after_event genesis (suc (suc k)) s (delivery (chain_bytes others) verdicts)).buffer
        (after_event genesis (suc (suc k)) s (delivery (chain_bytes others) verdicts)).size l)
        (held_now met.now_held met.from long) met.keeps;
    pool = st.pool;
  }

taken_none : (h : Summary) → taken h (pool_of []) ≡ []
unfolding taking
taken_none h = refl

-- issuing: one block more
module _ (k : ℕ) (few : k < 5) (s : Node) (st : State (suc (suc k)) s (chain k)) where
  abbrev issuer : issuing.Issuer genesis table (suc (suc k)) s (chain k)
  issuer = record {
    reads = reads;
    low = omega arith;
    high = omega arith;
    keeps = st.keeps;
    pooled = subst (Pooled (suc (suc k))) (sym st.pool) (pooled_none (suc (suc k)) (pool_of []) refl);
    controller = suc (suc k);
    known = within_here 1 6 (suc (suc k)) (omega arith) (omega arith);
    is_turn = turn_is k few;
    signature = signature;
    signed = signed;
    seal = seal;
    sealed = sealed;
  }

  same_block : issuing.block genesis table (suc (suc k)) s (chain k) issuer ≡ next (suc k)
  same_block =
      let h = issuing.held_now genesis table (suc (suc k)) s (chain k) issuer in
      let linked : h.summary.whole.link ≡ link (suc k) =
      ap (λ (q : Standing). q.link) (gives_same (sym h.accepted.whole ∙ (stands k).is)) ∙ (stands k).linked in
      let orders : taken h.summary s.pool ≡ [] =
      subst (λ (p : Pool). taken h.summary p ≡ []) (sym st.pool)
      (taken_none h.summary) in
      λ j. record { link = linked j; orders = orders j; slot = suc (suc k); slot_signature = signature; block_signature = seal }

  abbrev issued_node : Node
  issued_node = issues genesis (suc (suc k)) (suc (suc k)) signature seal s

  pub issued_state : State (suc (suc (suc k))) issued_node (chain (suc k))
  issued_state = record {
    keeps = keeps_later genesis table (suc (suc k) + 1) (suc (suc (suc k))) issued_node.buffer issued_node.size (chain (suc k)) (omega arith)
        (subst (λ (p : Parts). Keeps genesis table (suc (suc k) + 1) issued_node.buffer issued_node.size (chain k ++ (p ∷ []))) same_block
        (issuing.keeps_one_more genesis table (suc (suc k)) s (chain k) issuer));
    pool = st.pool;
  }

-- ---- slot by slot
-- when slot k + 1 has passed: if it has k + 1 blocks already, they are what reaches it next
pub record Between (i k : ℕ) (s : Node) : Type 0 where
  pub blocks : List Parts
  pub state : State (suc (suc k)) s blocks
  pub full : suc k ≤ length blocks → blocks ≡ given i k

started : State 1 (record { buffer = buffer; size = 0; pool = pool_of [] }) []
started = record {
  keeps = record {
    bytes = buffer_bytes;
    room = full;
    inside = zero-le;
    are = refl;
    fits = tt;
    whole = start;
    follows = refl;
    below = tt;
  };
  pool = refl;
}

first_passed : (i : ℕ) → correct run i → Between i 0 (after_slot run i 1)
unfolding after_slot
first_passed i is_correct = by_turn (eqb 1 i) refl
  where
    by_turn : (β : Bool) → eqb 1 i ≡ β
        → Between i 0 (pick β (issues genesis 1 i signature seal (record { buffer = buffer; size = 0; pool = pool_of [] }))
        (record { buffer = buffer; size = 0; pool = pool_of [] }))
    by_turn true e = absurd (eqb-false i 1 is_correct.2 (sym (eqb-true 1 i e)))
    by_turn false e = record { blocks = []; state = state_later 1 2 _ [] (omega arith) started; full = λ h. absurd (omega arith) }

held_next : (i k : ℕ) → k < 5 → Between i k (after_slot run i (suc k)) → State (suc (suc k)) (in_slot run i (suc (suc k))) (given i k)
held_next i k h before =
    delivered_state k (omega arith) (after_slot run i (suc k)) before.blocks (given i k) before.state (given_good i k (omega arith)) before.full

given_in_turn : (k : ℕ) → given (suc (suc k)) k ≡ chain k
given_in_turn zero = refl
given_in_turn (suc k) = refl

next_passed : (i k : ℕ) → k < 5 → State (suc (suc k)) (in_slot run i (suc (suc k))) (given i k) → Between i (suc k) (after_slot run i (suc (suc k)))
unfolding after_slot
next_passed i k h st = by_turn (eqb (turn table (suc (suc k))) i) refl
  where
    by_turn : (β : Bool) → eqb (turn table (suc (suc k))) i ≡ β
        → Between i (suc k) (pick β (issues genesis (suc (suc k)) i signature seal (in_slot run i (suc (suc k)))) (in_slot run i (suc (suc k))))
    by_turn true e =
        let is : suc (suc k) ≡ i = sym (turn_is k h) ∙ eqb-true (turn table (suc (suc k))) i e in
        let mine = subst (λ (n : ℕ). State (suc (suc k)) (in_slot run n (suc (suc k))) (given n k)) (sym is) st in
        let node = in_slot run (suc (suc k)) (suc (suc k)) in
        subst (λ (n : ℕ). Between n (suc k) (issues genesis (suc (suc k)) n signature seal (in_slot run n (suc (suc k))))) is
        (record {
          blocks = chain (suc k);
          state = issued_state k h node (subst (State (suc (suc k)) node) (given_in_turn k) mine);
          full = λ long. refl;
        })
    by_turn false e = record {
      blocks = given i k;
      state = state_later (suc (suc k)) (suc (suc (suc k))) (in_slot run i (suc (suc k))) (given i k) (omega arith) st;
      full = λ long. absurd (omega (arith, (given_good i k (omega arith)).long));
    }

between : (i : ℕ) → correct run i → (k : ℕ) → k < 6 → Between i k (after_slot run i (suc k))
between i is_correct zero h = first_passed i is_correct
between i is_correct (suc k) h = next_passed i k (omega arith) (held_next i k (omega arith) (between i is_correct k (omega arith)))

pub held_in_slot : (i : ℕ) → correct run i → (k : ℕ) → k < 5 → State (suc (suc k)) (in_slot run i (suc (suc k))) (given i k)
held_in_slot i is_correct k h = held_next i k h (between i is_correct k (omega arith))

pub correct_turn : (k : ℕ) → k < 5 → correct run (suc (suc k))
correct_turn k h = (omega arith, omega arith, ne_eqb (suc (suc k)) 1 (λ e. omega arith))

pub issued_in_slot : (k : ℕ) → k < 5 → issued run (suc (suc k)) ≡ chain_bytes (chain (suc k))
issued_in_slot k h =
    let slot = suc (suc k) in
    let node = in_slot run slot slot in
    let st = subst (State slot node) (given_in_turn k) (held_in_slot slot (correct_turn k h) k h) in
    subst (λ (n : ℕ). held_bytes (after_issuing run n slot (in_slot run n slot)) ≡ chain_bytes (chain (suc k))) (sym (turn_is k h))
    (rw (eq-eqb (turn table slot) slot (turn_is k h)) (issued_state k h node st).keeps.are)
