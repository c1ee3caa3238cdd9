-- One controller between calls: the blocks that it keeps while chains are delivered to it.
-- Assumes nothing.
use Prim.Native.Nat.{ℕ, ◌+◌, ◌≤◌}
use mathlib.Core.Path.{◌≡◌, refl, sym, ap, ◌∙◌, subst}
use mathlib.Core.Bool.{Bool, true, false}
use mathlib.Core.List.{List}
use native.Mathlib.Nat.{zero-add}
use native.Mathlib.Omega.{arith}
use lib.Dec.{ltb}
use lib.ListN.{length, take}
use borrow.Author.Tests.{ltb-true, ltb-false}
use Rattle.laws.specs.Told.{Told, gives, refuses, then, unless}
use Rattle.laws.specs.Format.{Bytes, Each}
use Rattle.laws.specs.Placed.{placed, placing}
use Rattle.laws.proofs.Told.{gives_same, gives_not_refuses}
use Rattle.laws.proofs.Every.{within_here}
use Rattle.laws.proofs.Each.{each_weaker}
use Rattle.laws.proofs.Placed.{with_room, placed_size, placed_front, placed_bytes}
use Rattle.genesis.specs.Genesis.{genesis_of}
use Rattle.genesis.specs.declared.Genesis.{Genesis}
use Rattle.block.specs.Block.{Parts, Fits}
use Rattle.chain.specs.Chain.{longest, link_of, opened, delivered, held, none, delivered_chain, held_chain}
use Rattle.chain.specs.Blocks.{chain_bytes, followed, Accepted, Below}
use Rattle.chain.specs.declared.Opened.{Opened}
use Rattle.chain.specs.declared.Standing.{Standing}
use Rattle.chain.specs.declared.Summary.{Summary}
use Rattle.chain.proofs.Clocks.{admits_held, admits_below}
use Rattle.chain.proofs.Theorems.{blocks_that_follow_and_are_admitted_are_accepted, accepted_blocks_may_be_held, accepted_blocks_may_be_delivered, a_delivered_chain_is_accepted_blocks, the_count_is_the_number_of_blocks, at_most_64256_bytes}
use Rattle.adopt.specs.Adopt.{longer, accepted, adopted, adopting}
use Rattle.adopt.specs.Answers.{size_and_count_or}
use Rattle.runs.specs.Runs.{Node, delivery, after_event, adopts, AdoptedOrEqualled, adopted_now, equalled}

-- what the calls are opened with in a slot
abbrev pub opening : List ℕ → Genesis → ℕ → Opened
opening genesis table clock = record { table = table; link = link_of genesis; clock = record { 0 = clock } }

-- the held chain is `blocks`, which follow one another, each stamped below `end`
pub record Keeps (genesis : List ℕ) (table : Genesis) (end : ℕ) (buffer : List ℕ) (size : ℕ) (blocks : List Parts) : Type 0 where
  pub bytes : Bytes buffer
  pub room : longest ≤ length buffer
  pub inside : size ≤ length buffer
  pub are : take size buffer ≡ chain_bytes blocks
  pub fits : Each Fits blocks
  pub whole : Standing
  pub follows : followed (none (opening genesis table 0)) blocks ≡ gives whole
  pub below : Below end blocks

-- where a chain comes from that is held after a delivery
pub data From (o : Opened) (blocks : List Parts) (bytes verdicts : List ℕ) : List Parts → Type 0 where
  stayed : From o blocks bytes verdicts blocks
  replaced : (d : Summary) (others : List Parts) → bytes ≡ chain_bytes others → Accepted o (delivered verdicts) others d
      → From o blocks bytes verdicts others

module _ (genesis : List ℕ) (table : Genesis) where
  pub keeps_later : (end end' : ℕ) (buffer : List ℕ) (size : ℕ) (blocks : List Parts) → end ≤ end' → Keeps genesis table end buffer size blocks
      → Keeps genesis table end' buffer size blocks
  keeps_later end end' buffer size blocks h k = record {
    bytes = k.bytes;
    room = k.room;
    inside = k.inside;
    are = k.are;
    fits = k.fits;
    whole = k.whole;
    follows = k.follows;
    below = each_weaker (λ p low. omega arith) blocks k.below;
  }

  -- after a delivery
  pub record Met (clock : ℕ) (s : Node) (blocks : List Parts) (bytes verdicts : List ℕ) : Type 0 where
    pub now_held : List Parts
    pub keeps : Keeps genesis table clock s.buffer s.size now_held
    pub grown : length blocks ≤ length now_held
    pub from : From (opening genesis table clock) blocks bytes verdicts now_held
    -- a good chain is not longer than what is held then
    pub long : (others : List Parts) (d : Summary) → bytes ≡ chain_bytes others → Accepted (opening genesis table clock) (delivered verdicts) others d
        → length others ≤ length now_held

  module _ (reads : genesis_of genesis ≡ gives table) (clock : ℕ) (low : 1 ≤ clock) (high : clock ≤ 256) where
    abbrev o : Opened
    o = opening genesis table clock

    pub opens : opened genesis clock ≡ gives o
    opens = rw (reads, within_here 1 256 clock low high)

    pub record Held (s : Node) (blocks : List Parts) : Type 0 where
      pub summary : Summary
      pub is : held_chain o s.buffer s.size ≡ gives summary
      pub accepted : Accepted o held blocks summary
      pub count : summary.whole.count.0 ≡ length blocks

    module _ (s : Node) (blocks : List Parts) where
      -- what is kept is a good held chain
      pub held_there : (k : Keeps genesis table (clock + 1) s.buffer s.size blocks) → Held s blocks
      held_there k =
          let (h, _, a) = blocks_that_follow_and_are_admitted_are_accepted o held blocks k.whole k.fits k.follows
          (admits_held clock 0 blocks k.below) in
          record {
            summary = h;
            is = accepted_blocks_may_be_held o h s.buffer s.size blocks k.inside k.are a;
            accepted = a;
            count = the_count_is_the_number_of_blocks o held blocks h a;
          }

      -- ---- a delivery
      module _ (bytes verdicts : List ℕ) (are-bytes : Bytes bytes) (k : Keeps genesis table clock s.buffer s.size blocks) where
        abbrev answered : Told ℕ → Node
        answered t = record {
          buffer = adopting t s.buffer bytes;
          size = (size_and_count_or s.size (adopted t s.buffer bytes)).0;
          pool = s.pool;
        }

        h : Held s blocks
        h = held_there (keeps_later clock (clock + 1) s.buffer s.size blocks (omega arith) k)

        judged_is : accepted genesis clock s.buffer s.size bytes verdicts
            ≡ longer h.summary.whole.count.0 (delivered_chain o bytes verdicts)
        unfolding accepted
        judged_is = rw (opens, h.is)

        -- what is accepted is what the check gives
        one_check : (d d' : Summary) (others : List Parts) → delivered_chain o bytes verdicts ≡ gives d → bytes ≡ chain_bytes others
            → Accepted o (delivered verdicts) others d' → d ≡ d'
        one_check d d' others e is a =
            gives_same (sym e ∙ ap (λ (l : List ℕ). delivered_chain o l verdicts) is ∙ accepted_blocks_may_be_delivered o d' verdicts others a)

        by_count : (d : Summary) → delivered_chain o bytes verdicts ≡ gives d → (β : Bool)
            → ltb h.summary.whole.count.0 d.whole.count.0 ≡ β
            → Met clock (answered (unless β 11 0 (gives d.whole.count.0))) blocks bytes verdicts
        by_count d e false less = record {
          now_held = blocks;
          keeps = k;
          grown = omega arith;
          from = stayed;
          long = λ others d' is a. omega (
            arith,
            ltb-false h.summary.whole.count.0 d.whole.count.0 less,
            h.count,
            ap (λ (q : Summary). q.whole.count.0) (one_check d d' others e is a),
            the_count_is_the_number_of_blocks o (delivered verdicts) others d' a,
          );
        }
        by_count d e true less =
            let (others, is, a) = a_delivered_chain_is_accepted_blocks o d bytes verdicts are-bytes e in
            let few : 0 + length bytes ≤ length s.buffer = omega (arith, k.room, ap length is, at_most_64256_bytes o (delivered verdicts) others d a) in
            let fits : placed s.buffer 0 bytes ≡ gives (0 + length bytes) = sym (with_room s.buffer 0 bytes few).0 in
            let size_is : (size_and_count_or s.size (then (placed s.buffer 0 bytes) λ size. gives (size, d.whole.count.0))).0 ≡ 0 + length bytes =
            rw fits in
            let long = placed_size s.buffer 0 bytes (0 + length bytes) fits in
            let count = the_count_is_the_number_of_blocks o (delivered verdicts) others d a in
            record {
              now_held = others;
              keeps = subst
                  (λ (n : ℕ). Keeps genesis table clock (placing s.buffer 0 bytes) n others)
                  (sym size_is)
                  (record {
                    bytes = placed_bytes s.buffer 0 bytes (0 + length bytes) fits k.bytes are-bytes;
                    room = omega (arith, k.room, long);
                    inside = omega (arith, few, long);
                    are = placed_front s.buffer 0 bytes (0 + length bytes) fits ∙ is;
                    fits = a.fits;
                    whole = d.whole;
                    follows = a.whole;
                    below = admits_below verdicts clock 0 others a.admits;
                  });
              grown = omega (arith, ltb-true h.summary.whole.count.0 d.whole.count.0 less, h.count, count);
              from = replaced d others is a;
              long = λ others' d' is' a'. omega (
                arith,
                ap (λ (q : Summary). q.whole.count.0) (one_check d d' others' e is' a'),
                the_count_is_the_number_of_blocks o (delivered verdicts) others' d' a',
                count,
              );
            }

        by_answer : (t : Told Summary) → delivered_chain o bytes verdicts ≡ t
            → Met clock (answered (longer h.summary.whole.count.0 t)) blocks bytes verdicts
        by_answer (gives d) e = by_count d e (ltb h.summary.whole.count.0 d.whole.count.0) refl
        by_answer (refuses number place) e = record {
          now_held = blocks;
          keeps = k;
          grown = omega arith;
          from = stayed;
          long = λ others d is a. gives_not_refuses
              (sym e ∙ ap (λ (l : List ℕ). delivered_chain o l verdicts) is ∙ accepted_blocks_may_be_delivered o d verdicts others a);
        }

        -- a good chain is adopted if it has more blocks than are held, else it is 11
        pub good_answer : (others : List Parts) (d : Summary) → bytes ≡ chain_bytes others → Accepted o (delivered verdicts) others d
            → AdoptedOrEqualled bytes (length others) (adopts genesis clock s bytes verdicts)
        good_answer others d is a =
            let few : 0 + length bytes ≤ length s.buffer = omega (arith, k.room, ap length is, at_most_64256_bytes o (delivered verdicts) others d a) in
            let checks = ap (λ (l : List ℕ). delivered_chain o l verdicts) is ∙ accepted_blocks_may_be_delivered o d verdicts others a in
            let count = the_count_is_the_number_of_blocks o (delivered verdicts) others d a in
            let answer = judged_is ∙ ap (longer h.summary.whole.count.0) checks
            ∙ ap (λ (n : ℕ). unless (ltb h.summary.whole.count.0 n) 11 0 (gives n)) count in
            subst (λ (t : Told ℕ). AdoptedOrEqualled bytes (length others) (adopted t s.buffer bytes)) (sym answer)
            (by_test (sym (with_room s.buffer 0 bytes few).0) (ltb h.summary.whole.count.0 (length others)) (length others))
          where
            by_test : placed s.buffer 0 bytes ≡ gives (0 + length bytes) → (β : Bool) (count : ℕ)
                → AdoptedOrEqualled bytes count (adopted (unless β 11 0 (gives count)) s.buffer bytes)
            by_test fits true count =
                subst (AdoptedOrEqualled bytes count)
                (sym (ap (λ (t : Told ℕ). then t λ size. gives (size, count)) (fits ∙ ap gives (zero-add (length bytes)))))
                adopted_now
            by_test fits false count = equalled

        pub met_delivery : Met clock (after_event genesis clock s (delivery bytes verdicts)) blocks bytes verdicts
        met_delivery =
            subst (λ (t : Told ℕ). Met clock (answered t) blocks bytes verdicts) (sym judged_is)
            (by_answer (delivered_chain o bytes verdicts) refl)
