-- Slot by slot: what each correct controller keeps, what is issued in a correct turn, and that it reaches everybody.
-- Assumes nothing.
use Prim.Native.Nat.{ℕ, zero, suc, ◌+◌, ◌-◌, ◌%◌, ◌≤◌, zero-le}
use mathlib.Core.Path.{◌≡◌, refl, sym, ap, ◌∙◌, subst}
use mathlib.Core.Bool.{Bool, true, false, not}
use mathlib.Core.List.{List, [], ◌∷◌, ◌++◌, append-nil}
use native.Mathlib.Nat.{mod-lt}
use native.Mathlib.Omega.{arith}
use lib.Dec.{eqb}
use lib.ListN.{length, length-append}
use borrow.Author.Tests.{lt-ltb, eq-eqb, eqb-true, eqb-false}
use Rattle.std.specs.List.{fold}
use Rattle.laws.specs.Pick.{pick}
use Rattle.laws.proofs.Cases.{lt_cases, eq_cases}
use Rattle.laws.proofs.Every.{within_here}
use Rattle.laws.proofs.Each.{each_append}
use Rattle.genesis.specs.Genesis.{turn}
use Rattle.genesis.proofs.Sound.{sound}
use Rattle.block.specs.Block.{Parts}
use Rattle.chain.specs.Chain.{held, none}
use Rattle.chain.specs.Blocks.{chain_bytes, Below}
use Rattle.chain.proofs.Theorems.{at_most_256_blocks}
use Rattle.agreement.specs.Core.{Long}
use Rattle.runs.specs.Runs.{Node, held_bytes, Event, adopts, AdoptedOrEqualled, delivery, Pooling, pooling, after_event, issues, Run, correct, after_issuing, after_poolings, after_slot, in_slot, issued, as_issued, InRun, OfRun, Premises}
use Rattle.runs.proofs.Nodes.{opening, Keeps, keeps_later}
use Rattle.runs.proofs.Pools.{pooled_none, pooled_later, pooled_then}
use Rattle.runs.proofs.Issuing.{Issuer, block, still_accepted, keeps_one_more}
use Rattle.runs.proofs.Valid.{blocks_in, the_blocks_in, Valid, setting}
use Rattle.runs.proofs.Events.{Fine, fine_valid, Grown, events_fine, delivered_is_held, delivery_answer}

module _ (r : Run) (premises : Premises r) where
  -- ---- turns
  pub some : 1 ≤ r.table.n
  some = (sound r.genesis r.table premises.reads).some

  pub turn_is : (slot : ℕ) → turn r.table slot ≡ (slot - 1) % r.table.n + 1
  turn_is slot = rw (lt-ltb 0 r.table.n some)

  turn_within : (slot : ℕ) → (1 ≤ turn r.table slot) × (turn r.table slot ≤ r.table.n)
  turn_within slot = (omega (arith, turn_is slot), omega (arith, turn_is slot, mod-lt (slot - 1) some))

  pub good_is_correct : (slot : ℕ) → not (r.faulty (turn r.table slot)) ≡ true → correct r (turn r.table slot)
  good_is_correct slot good =
      ((turn_within slot).0, (turn_within slot).1, by_test (r.faulty (turn r.table slot)) good)
    where
      by_test : (β : Bool) → not β ≡ true → β ≡ false
      by_test false e = refl
      by_test true e = sym e

  -- ---- what stands at each slot
  -- a correct controller after its deliveries
  pub record Delivered (i slot : ℕ) : Type 0 where
    pub blocks : List Parts
    pub fine : Fine r slot slot (in_slot r i slot) blocks
    pub long : Long (setting r) slot blocks

  -- a correct controller when the slot has passed
  pub record Passed (i slot : ℕ) : Type 0 where
    pub blocks : List Parts
    pub fine : Fine r (slot + 1) slot (after_slot r i slot) blocks
    pub long : Long (setting r) slot blocks
    -- what it issued itself it holds
    pub own : 1 ≤ slot → turn r.table slot ≡ i → length (blocks_in (issued r slot)) ≤ length blocks

  -- the chain that was issued in a correct turn
  pub record Issued (slot : ℕ) : Type 0 where
    pub before : List Parts
    pub block : Parts
    pub is : issued r slot ≡ chain_bytes (before ++ (block ∷ []))
    pub stamped : block.slot ≡ slot
    pub before_valid : Valid r before
    pub before_below : Below slot before
    pub before_long : Long (setting r) slot before
    pub valid : Valid r (before ++ (block ∷ []))
    pub below : Below (slot + 1) (before ++ (block ∷ []))
    pub few : length (before ++ (block ∷ [])) ≤ 256

  pub issued_blocks : (slot : ℕ) (it : Issued slot) → blocks_in (issued r slot) ≡ it.before ++ (it.block ∷ [])
  issued_blocks slot it = ap blocks_in it.is ∙ the_blocks_in (it.before ++ (it.block ∷ [])) it.valid.fits it.few

  -- ---- deliveries
  module _ (i : ℕ) (is_correct : correct r i) (slot : ℕ) (in_run : InRun r (suc slot)) (before : Passed i slot) where
    begins : Fine r (suc slot) (suc slot) (after_slot r i slot) before.blocks
    begins = record {
      keeps = keeps_later r.genesis r.table (slot + 1) (suc slot) (after_slot r i slot).buffer (after_slot r i slot).size before.blocks (omega arith)
          before.fine.keeps;
      pooled = pooled_later slot (suc slot) (after_slot r i slot).pool (omega arith) before.fine.pooled;
      of_run = before.fine.of_run;
      verify = before.fine.verify;
    }

    whole_slot : Grown r premises i is_correct (suc slot) in_run (in_slot r i (suc slot)) before.blocks
    whole_slot =
        events_fine r premises i is_correct (suc slot) in_run [] (r.events i (suc slot)) [] (sym (append-nil (r.events i (suc slot)))) (after_slot r i slot)
        before.blocks begins

    -- what was issued in the slot before is no longer than what is held now
    reached : 1 ≤ slot → correct r (turn r.table slot) → Issued slot → length (blocks_in (issued r slot)) ≤ length whole_slot.more
    reached low good it =
        eq_cases (turn r.table slot) i (λ mine. omega (arith, before.own low mine, whole_slot.grown))
        (λ theirs.
        let (verdicts, (b, a, e)) = premises.reaches slot i low (omega (arith, in_run.1)) good is_correct theirs in
        let chain = it.before ++ (it.block ∷ []) in
        let few = delivered_is_held r premises i is_correct (suc slot) in_run b a (issued r slot) verdicts e (after_slot r i slot) before.blocks begins chain
        it.is it.valid (subst (λ (n : ℕ). Below n chain) (omega arith) it.below) whole_slot.more whole_slot.fine in
        omega (arith, few, ap length (issued_blocks slot it)))

    -- and it is adopted, or as many blocks are held
    pub answered : Issued slot → (b a : List Event) (verdicts : List ℕ) → r.events i (suc slot) ≡ b ++ delivery (issued r slot) verdicts ∷ a
        → AdoptedOrEqualled (issued r slot) (length (blocks_in (issued r slot)))
        (adopts r.genesis (suc slot) (fold (after_event r.genesis (suc slot)) (after_slot r i slot) b) (issued r slot) verdicts)
    answered it b a verdicts e =
        let chain = it.before ++ (it.block ∷ []) in
        let s = fold (after_event r.genesis (suc slot)) (after_slot r i slot) b in
        let g = events_fine r premises i is_correct (suc slot) in_run [] b (delivery (issued r slot) verdicts ∷ a) e (after_slot r i slot) before.blocks begins in
        subst (λ (n : ℕ). AdoptedOrEqualled (issued r slot) n (adopts r.genesis (suc slot) s (issued r slot) verdicts)) (sym (ap length (issued_blocks slot it)))
        (delivery_answer r premises i is_correct (suc slot) in_run s g.more g.fine (issued r slot) verdicts (b, a, e) chain it.is it.valid
        (subst (λ (n : ℕ). Below n chain) (omega arith) it.below))

    long_now : (1 ≤ slot → correct r (turn r.table slot) → Issued slot) → Long (setting r) (suc slot) whole_slot.more
    long_now it j good low below =
        lt_cases j slot
        (λ earlier. omega (arith, before.long j good low earlier, whole_slot.grown))
        (λ same.
        let is : slot ≡ j = omega arith in
        let fine = good_is_correct slot (subst (λ (n : ℕ). not (r.faulty (turn r.table n)) ≡ true) (sym is) good) in
        subst (λ (n : ℕ). length (blocks_in (issued r n)) ≤ length whole_slot.more) is (reached (omega arith) fine (it (omega arith) fine)))

    pub deliver : (1 ≤ slot → correct r (turn r.table slot) → Issued slot) → Delivered i (suc slot)
    deliver it = record { blocks = whole_slot.more; fine = whole_slot.fine; long = long_now it }

  -- ---- issuing
  module _ (i : ℕ) (is_correct : correct r i) (slot : ℕ) (in_run : InRun r slot) (is_turn : turn r.table slot ≡ i) (at : Delivered i slot) where
    abbrev pub issuer : Issuer r.genesis r.table slot (in_slot r i slot) at.blocks
    issuer = record {
      reads = premises.reads;
      low = in_run.0;
      high = omega (arith, premises.ends, in_run.1);
      keeps = at.fine.keeps;
      pooled = at.fine.pooled;
      controller = i;
      known = within_here 1 r.table.n i is_correct.0 is_correct.1;
      is_turn = is_turn;
      signature = r.signature i slot;
      signed = (premises.typed i is_correct).signatures slot in_run is_turn;
      seal = r.seal i slot;
      sealed = (premises.typed i is_correct).seals slot in_run is_turn;
    }

    abbrev next : Node
    next = issues r.genesis slot i (r.signature i slot) (r.seal i slot) (in_slot r i slot)

    abbrev pub new : Parts
    new = block r.genesis r.table slot (in_slot r i slot) at.blocks issuer

    abbrev longer : List Parts
    longer = at.blocks ++ (new ∷ [])

    keeps : Keeps r.genesis r.table (slot + 1) next.buffer next.size longer
    keeps = keeps_one_more r.genesis r.table slot (in_slot r i slot) at.blocks issuer

    issued_is : issued r slot ≡ chain_bytes longer
    issued_is =
        subst (λ (k : ℕ). held_bytes (after_issuing r k slot (in_slot r k slot)) ≡ held_bytes next) (sym is_turn)
        (rw (eq-eqb (turn r.table slot) i is_turn))
        ∙ keeps.are

    new_verifies : r.verifies new ≡ true
    new_verifies = premises.issued_verifies slot in_run (subst (correct r) (sym is_turn) is_correct) new (at.blocks, keeps.fits, issued_is)

    new_of_run : OfRun r new
    new_of_run = record {
      controller = i;
      is_correct = is_correct;
      slot = slot;
      in_run = in_run;
      chain = issued r slot;
      encounter = as_issued is_turn refl;
      blocks = longer;
      rest = [];
      are = issued_is ∙ sym (append-nil (chain_bytes longer));
      fit = keeps.fits;
      among = (at.blocks, [], refl);
    }

    issue_fine : Fine r (slot + 1) slot next longer
    issue_fine = record {
      keeps = keeps;
      pooled = at.fine.pooled;
      of_run = each_append (OfRun r) at.blocks (new ∷ []) at.fine.of_run (new_of_run, tt);
      verify = each_append (λ p. r.verifies p ≡ true) at.blocks (new ∷ []) at.fine.verify (new_verifies, tt);
    }

    pub issue : Issued slot
    issue = record {
      before = at.blocks;
      block = new;
      is = issued_is;
      stamped = refl;
      before_valid = fine_valid r slot slot (in_slot r i slot) at.blocks at.fine;
      before_below = at.fine.keeps.below;
      before_long = at.long;
      valid = fine_valid r (slot + 1) slot next longer issue_fine;
      below = keeps.below;
      few = at_most_256_blocks (opening r.genesis r.table slot) held longer _
          (still_accepted r.genesis r.table slot (in_slot r i slot) at.blocks issuer);
    }

    pub one_more : length (blocks_in (issued r slot)) ≡ length at.blocks + 1
    unfolding issue
    one_more = ap length (issued_blocks slot issue) ∙ length-append at.blocks (new ∷ [])

  -- ---- the rest of a slot
  module _ (i : ℕ) (is_correct : correct r i) (slot : ℕ) (in_run : InRun r slot) (at : Delivered i slot) where
    -- a slot's chain may get longer by issuing
    record After (s : Node) : Type 0 where
      blocks : List Parts
      fine : Fine r (slot + 1) slot s blocks
      grown : length at.blocks ≤ length blocks
      own : turn r.table slot ≡ i → length (blocks_in (issued r slot)) ≤ length blocks

    issuing_after : After (after_issuing r i slot (in_slot r i slot))
    issuing_after = by_turn (eqb (turn r.table slot) i) refl
      where
        by_turn : (β : Bool) → eqb (turn r.table slot) i ≡ β
            → After (pick β (issues r.genesis slot i (r.signature i slot) (r.seal i slot) (in_slot r i slot)) (in_slot r i slot))
        by_turn true e =
            let is_turn = eqb-true (turn r.table slot) i e in
            record {
              blocks = at.blocks ++ (new i is_correct slot in_run is_turn at ∷ []);
              fine = issue_fine i is_correct slot in_run is_turn at;
              grown = omega (arith, length-append at.blocks (new i is_correct slot in_run is_turn at ∷ []));
              own = λ mine. omega (
                arith,
                one_more i is_correct slot in_run is_turn at,
                length-append at.blocks (new i is_correct slot in_run is_turn at ∷ []),
              );
            }
        by_turn false e = record {
          blocks = at.blocks;
          fine = record {
            keeps = keeps_later r.genesis r.table slot (slot + 1) (in_slot r i slot).buffer (in_slot r i slot).size at.blocks (omega arith) at.fine.keeps;
            pooled = at.fine.pooled;
            of_run = at.fine.of_run;
            verify = at.fine.verify;
          };
          grown = omega arith;
          own = λ mine. absurd (eqb-false (turn r.table slot) i e mine);
        }

    poolings_after : (rest : List Pooling) (s : Node) → After s → After (fold (λ node p. after_event r.genesis slot node (pooling p)) s rest)
    poolings_after [] s f = f
    poolings_after (p ∷ rest) s f =
        poolings_after rest (after_event r.genesis slot s (pooling p))
        (record {
          blocks = f.blocks;
          fine = record {
            keeps = f.fine.keeps;
            pooled = pooled_then r.genesis slot s f.fine.pooled p;
            of_run = f.fine.of_run;
            verify = f.fine.verify;
          };
          grown = f.grown;
          own = f.own;
        })

    slot_after : After (after_poolings r i slot (after_issuing r i slot (in_slot r i slot)))
    slot_after = poolings_after (r.poolings i slot) (after_issuing r i slot (in_slot r i slot)) issuing_after

    long_after : Long (setting r) slot slot_after.blocks
    long_after j good low below = omega (arith, at.long j good low below, slot_after.grown)

  pass : (i : ℕ) (is_correct : correct r i) (slot : ℕ) (in_run : InRun r (suc slot)) → Delivered i (suc slot) → Passed i (suc slot)
  unfolding after_slot
  pass i is_correct slot in_run at = record {
    blocks = (slot_after i is_correct (suc slot) in_run at).blocks;
    fine = (slot_after i is_correct (suc slot) in_run at).fine;
    long = long_after i is_correct (suc slot) in_run at;
    own = λ low. (slot_after i is_correct (suc slot) in_run at).own;
  }

  -- ---- from the first slot on
  started : (i : ℕ) → correct r i → Passed i 0
  unfolding after_slot
  started i is_correct = record {
    blocks = [];
    fine = record {
      keeps = record {
        bytes = (premises.typed i is_correct).buffer;
        room = premises.full i is_correct;
        inside = zero-le;
        are = refl;
        fits = tt;
        whole = none (opening r.genesis r.table 0);
        follows = refl;
        below = tt;
      };
      pooled = pooled_none 0 (r.pools i) (premises.no_orders i is_correct);
      of_run = tt;
      verify = tt;
    };
    long = λ j good low below. absurd (omega arith);
    own = λ low. absurd (omega arith);
  }

  record Upto (slot : ℕ) : Type 0 where
    all : (i : ℕ) → correct r i → Passed i slot
    issues_well : 1 ≤ slot → correct r (turn r.table slot) → Issued slot

  next_delivered : (slot : ℕ) → InRun r (suc slot) → Upto slot → (i : ℕ) → correct r i → Delivered i (suc slot)
  next_delivered slot in_run so_far i is_correct = deliver i is_correct slot in_run (so_far.all i is_correct) so_far.issues_well

  next_issued : (slot : ℕ) → InRun r (suc slot) → Upto slot → correct r (turn r.table (suc slot)) → Issued (suc slot)
  next_issued slot in_run so_far good =
      issue (turn r.table (suc slot)) good (suc slot) in_run refl (next_delivered slot in_run so_far (turn r.table (suc slot)) good)

  upto : (slot : ℕ) → slot ≤ r.end → Upto slot
  upto zero inside = record { all = started; issues_well = λ low good. absurd (omega arith) }
  upto (suc slot) inside =
      let so_far = upto slot (omega arith) in
      let in_run : InRun r (suc slot) = (omega arith, inside) in
      record {
        all = λ i is_correct. pass i is_correct slot in_run (next_delivered slot in_run so_far i is_correct);
        issues_well = λ low good. next_issued slot in_run so_far good;
      }

  -- ---- what the theorems rest on
  pub delivered_at : (i : ℕ) → correct r i → (slot : ℕ) → InRun r slot → Delivered i slot
  delivered_at i is_correct zero (low, high) = absurd (omega arith)
  delivered_at i is_correct (suc slot) (low, high) = next_delivered slot (low, high) (upto slot (omega arith)) i is_correct

  pub answered_at : (i : ℕ) → correct r i → (slot : ℕ) → InRun r slot → InRun r (suc slot) → correct r (turn r.table slot)
      → (b a : List Event) (verdicts : List ℕ) → r.events i (suc slot) ≡ b ++ delivery (issued r slot) verdicts ∷ a
      → AdoptedOrEqualled (issued r slot) (length (blocks_in (issued r slot)))
      (adopts r.genesis (suc slot) (fold (after_event r.genesis (suc slot)) (after_slot r i slot) b) (issued r slot) verdicts)
  answered_at i is_correct slot (low, high) in_run good =
      let so_far = upto slot high in
      answered i is_correct slot in_run (so_far.all i is_correct) (so_far.issues_well low good)

  pub issued_at : (slot : ℕ) → InRun r slot → correct r (turn r.table slot) → Issued slot
  issued_at slot (low, high) good = (upto slot high).issues_well low good
