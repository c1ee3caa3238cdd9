-- The run keeps what demand 3 asks of a run, one premise after the other.
-- Assumes nothing.
use Prim.Native.Nat.{ℕ, zero, suc, ◌<◌, ◌≤◌}
use mathlib.Core.Path.{◌≡◌, refl, sym, ap, ◌∙◌, subst}
use mathlib.Core.List.{List, [], ◌∷◌, ◌++◌}
use native.Mathlib.Omega.{arith}
use lib.ListN.{length, get_or, length-append}
use borrow.Author.Tests.{eqb-false}
use Rattle.laws.specs.Format.{Bytes, Each}
use Rattle.laws.proofs.Each.{each_parts}
use Rattle.genesis.specs.Genesis.{turn}
use Rattle.block.specs.Block.{Parts, Fits}
use Rattle.chain.specs.Blocks.{chain_bytes}
use Rattle.chain.proofs.Theorems.{what_is_written_of_blocks_is_bytes, bytes_at_the_front_are_blocks_at_the_front}
use Rattle.agreement.specs.Core.{how_many}
use Rattle.runs.proofs.Among.{among_each, nowhere, the_only}
use Rattle.runs.specs.Runs.{Event, delivery, pooling, correct, after_slot, holds, issued, Among, Encounter, in_delivery, as_held, as_issued, InRun, OfRun, Typed, LastOf, Premises}
use Rattle.forked.specs.Forked.{table, next, chain, given, verdicts, events, run}
use Rattle.forked.proofs.Blocks.{signed, sealed, Named, in_turn, forked, Good, chain_good, given_good}
use Rattle.forked.proofs.Held.{reads, full, buffer_bytes, three, held_in_slot, issued_in_slot}
use Rattle.forked.proofs.Different.{one_digest_one_block, not_the_genesis}

-- ---- what is delivered
bytes_of : Event → List ℕ
bytes_of (delivery bytes v) = bytes
bytes_of (pooling p) = []

verdicts_of : Event → List ℕ
verdicts_of (delivery bytes v) = v
verdicts_of (pooling p) = []

-- what a controller meets in slot k + 2
met_in_slot : (e : Event) (i k : ℕ) → Among e (events i (suc (suc k))) → e ≡ delivery (chain_bytes (given i k)) verdicts
met_in_slot e i k among = the_only e (delivery (chain_bytes (given i k)) verdicts) among

delivered_bytes : (i slot : ℕ) → InRun run slot → (bytes v : List ℕ) → Among (delivery bytes v) (events i slot) → Bytes bytes
unfolding bytes_of
delivered_bytes i zero in_run bytes v among = absurd (nowhere _ among)
delivered_bytes i (suc zero) in_run bytes v among = absurd (nowhere _ among)
delivered_bytes i (suc (suc k)) (low, high) bytes v among =
    let e = met_in_slot (delivery bytes v) i k among in
    subst Bytes (sym (ap bytes_of e)) (what_is_written_of_blocks_is_bytes (given i k) (given_good i k (omega arith)).fit)

typed : (i : ℕ) → Typed run i
typed i = record {
  buffer = buffer_bytes;
  deliveries = delivered_bytes i;
  signatures = λ slot in_run is_turn. signed;
  seals = λ slot in_run is_turn. sealed;
}

verdicts_are_true : (i slot : ℕ) → InRun run slot → (bytes v : List ℕ) → Among (delivery bytes v) (events i slot) → (before : List Parts) (p : Parts) (rest : List ℕ)
    → bytes ≡ chain_bytes (before ++ (p ∷ [])) ++ rest → Each Fits (before ++ (p ∷ [])) → get_or v (length before) 0 ≡ 3
unfolding bytes_of verdicts_of
verdicts_are_true i zero in_run bytes v among before p rest is fit = absurd (nowhere _ among)
verdicts_are_true i (suc zero) in_run bytes v among before p rest is fit = absurd (nowhere _ among)
verdicts_are_true i (suc (suc k)) (low, high) bytes v among before p rest is fit =
    let e = met_in_slot (delivery bytes v) i k among in
    let good = given_good i k (omega arith) in
    let (others, whole) = bytes_at_the_front_are_blocks_at_the_front (given i k) (before ++ (p ∷ [])) rest good.fit fit (sym (ap bytes_of e) ∙ is) in
    ap (λ (l : List ℕ). get_or l (length before) 0) (ap verdicts_of e)
    ∙ three (length before)
    (omega (arith, good.long, ap length whole, length-append (before ++ (p ∷ [])) others, length-append before (p ∷ [])))

-- ---- turns
first_is_faulty : correct run (turn table 1) → ⊥
first_is_faulty is_correct = eqb-false 1 1 is_correct.2 refl

reaches : (slot i : ℕ) → 1 ≤ slot → slot < 6 → correct run (turn table slot)
    → (v : List ℕ) × Among (delivery (issued run slot) v) (events i (suc slot))
reaches zero i low high good = absurd (omega arith)
reaches (suc zero) i low high good = absurd (first_is_faulty good)
reaches (suc (suc k)) i low high good =
    (verdicts, ([], [], ap (λ (l : List ℕ). delivery l verdicts ∷ []) (sym (issued_in_slot k (omega arith)))))

-- ---- the blocks of the run
-- bytes that are blocks of the two kinds
record Known (bytes : List ℕ) : Type 0 where
  blocks : List Parts
  are : bytes ≡ chain_bytes blocks
  fit : Each Fits blocks
  named : Each Named blocks

none_held : (i : ℕ) → holds run i 1 ≡ []
unfolding after_slot
none_held i = refl

of_good : (bytes : List ℕ) (k : ℕ) (blocks : List Parts) → Good k blocks → bytes ≡ chain_bytes blocks → Known bytes
of_good bytes k blocks good e = record { blocks = blocks; are = e; fit = good.fit; named = good.named }

known : (i slot : ℕ) (bytes : List ℕ) → correct run i → InRun run slot → Encounter run i slot bytes → Known bytes
unfolding bytes_of
known i zero bytes is_correct (low, high) encounter = absurd (omega arith)
known i (suc zero) bytes is_correct in_run (in_delivery v among) = absurd (nowhere _ among)
known i (suc zero) bytes is_correct in_run (as_held e) = record { blocks = []; are = e ∙ none_held i; fit = tt; named = tt }
known i (suc zero) bytes is_correct in_run (as_issued is_turn e) = absurd (eqb-false i 1 is_correct.2 (sym is_turn))
known i (suc (suc k)) bytes is_correct (low, high) (in_delivery v among) =
    of_good bytes k (given i k) (given_good i k (omega arith)) (ap bytes_of (met_in_slot (delivery bytes v) i k among))
known i (suc (suc k)) bytes is_correct (low, high) (as_held e) =
    of_good bytes k (given i k) (given_good i k (omega arith)) (e ∙ (held_in_slot i is_correct k (omega arith)).keeps.are)
known i (suc (suc k)) bytes is_correct (low, high) (as_issued is_turn e) =
    of_good bytes (suc k) (chain (suc k)) (chain_good (suc k) (omega arith)) (e ∙ issued_in_slot k (omega arith))

named : (p : Parts) → OfRun run p → Named p
named p of_run =
    let it = known of_run.controller of_run.slot of_run.chain of_run.is_correct of_run.in_run of_run.encounter in
    let (others, whole) = bytes_at_the_front_are_blocks_at_the_front it.blocks of_run.blocks of_run.rest it.fit of_run.fit
    (sym it.are ∙ of_run.are) in
    among_each Named of_run.blocks p (each_parts Named of_run.blocks others (subst (Each Named) whole it.named)).0 of_run.among

-- the one that is stamped with a correct controller's slot is the one that it issued
the_issued_one : (p : Parts) → Named p → (slot : ℕ) → correct run (turn table slot) → slot ≤ 6 → p.slot ≡ slot → LastOf (issued run slot) p
the_issued_one p (in_turn zero h) slot good high e = absurd (first_is_faulty (subst (λ (n : ℕ). correct run (turn table n)) (sym e) good))
the_issued_one p (in_turn (suc k) h) slot good high e =
    subst (λ (n : ℕ). LastOf (issued run n) (next (suc k))) e
    (chain k, (chain_good (suc k) h).fit, issued_in_slot k (omega arith))
the_issued_one p forked slot good high e = absurd (first_is_faulty (subst (λ (n : ℕ). correct run (turn table n)) (sym e) good))

few : how_many run.faulty 0 6 ≤ 1
unfolding how_many
few = omega arith

pub premises : Premises run
premises = record {
  reads = reads;
  few = few;
  ends = omega arith;
  full = λ i is_correct. full;
  no_orders = λ i is_correct. refl;
  typed = λ i is_correct. typed i;
  reaches = λ slot i low high good is_correct another. reaches slot i low high good;
  verdicts = λ i slot is_correct in_run bytes v among before p rest is fit.
      (λ good. refl, λ good. verdicts_are_true i slot in_run bytes v among before p rest is fit);
  issued_verifies = λ slot in_run good p last. refl;
  no_other = λ slot in_run good p of_run stamped verifies. the_issued_one p (named p of_run) slot good in_run.1 stamped;
  digests = λ p q of_run of-run' e. one_digest_one_block p q (named p of_run) (named q of-run') e;
  not_the_genesis = λ p of_run e. not_the_genesis p (named p of_run) e;
}
