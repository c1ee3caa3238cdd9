-- One controller that issues in its turn: it is never refused, and holds one block more.
-- Assumes nothing.
use Prim.Native.Nat.{ℕ, ◌+◌, ◌<◌, ◌≤◌}
use mathlib.Core.Path.{◌≡◌, refl, sym, ap, ◌∙◌, subst}
use mathlib.Core.Bool.{true}
use mathlib.Core.List.{List, [], ◌∷◌, ◌++◌, append-nil}
use native.Mathlib.Omega.{arith}
use lib.ListN.{length, length-append}
use lib.Seq.{length-take-le}
use borrow.Author.Tests.{lt-ltb, le-leb, eq-eqb}
use Rattle.laws.specs.Pick.{pick}
use Rattle.laws.specs.Told.{Told, gives, given_or}
use Rattle.laws.specs.Every.{within}
use Rattle.laws.specs.Format.{Bytes}
use Rattle.laws.specs.Placed.{placed, placing}
use Rattle.laws.proofs.Every.{within_here}
use Rattle.laws.proofs.Each.{each_weaker, each_append}
use Rattle.laws.proofs.Taken.{joined_append}
use Rattle.laws.proofs.Placed.{with_room, placed_size, placed_front, placed_bytes}
use Rattle.genesis.specs.Genesis.{genesis_of, turn}
use Rattle.genesis.specs.declared.Genesis.{Genesis}
use Rattle.block.specs.Block.{Parts, block_bytes, Fits}
use Rattle.block.specs.declared.Front.{Front}
use Rattle.chain.specs.Chain.{link_of, held, settles}
use Rattle.chain.specs.Blocks.{chain_bytes, Accepted, Behind}
use Rattle.chain.specs.declared.Opened.{Opened}
use Rattle.chain.specs.declared.Standing.{Standing}
use Rattle.chain.specs.declared.Summary.{Summary}
use Rattle.chain.proofs.Clocks.{last_is_below}
use Rattle.chain.proofs.Theorems.{a_block_behind_an_accepted_chain_is_accepted, what_is_written_of_blocks_is_bytes, at_most_64256_bytes}
use Rattle.pool.specs.Pool.{counting, orders_of, taking}
use Rattle.issue.specs.Issue.{next_front, front, writing, written, append_bytes}
use Rattle.issue.proofs.Appending.{link_digest, followed_digest, next_parts, append_writes, next_follows, next_parts_fit}
use Rattle.runs.specs.Runs.{Node, issues}
use Rattle.runs.proofs.Nodes.{opening, Keeps, keeps_later, Held, held_there, opens}
use Rattle.runs.proofs.Pools.{Pooled, pooled_fits}

-- a signature as the calls take it
abbrev pub Signature : List ℕ → Type 0
Signature bytes = (length bytes ≡ 64) × Bytes bytes

-- a controller in its turn
pub record Issuer (genesis : List ℕ) (table : Genesis) (clock : ℕ) (s : Node) (blocks : List Parts) : Type 0 where
  pub reads : genesis_of genesis ≡ gives table
  pub low : 1 ≤ clock
  pub high : clock ≤ 256
  pub keeps : Keeps genesis table clock s.buffer s.size blocks
  pub pooled : Pooled clock s.pool
  pub controller : ℕ
  pub known : within 1 table.n controller ≡ true
  pub is_turn : turn table clock ≡ controller
  pub signature : List ℕ
  pub signed : Signature signature
  pub seal : List ℕ
  pub sealed : Signature seal

module _ (genesis : List ℕ) (table : Genesis) (clock : ℕ) (s : Node) (blocks : List Parts) (x : Issuer genesis table clock s blocks) where
  abbrev pub o : Opened
  o = opening genesis table clock

  pub held_now : Held genesis table x.reads clock x.low x.high s blocks
  held_now = held_there genesis table x.reads clock x.low x.high s blocks (keeps_later genesis table clock (clock + 1) s.buffer s.size blocks (omega arith) x.keeps)

  -- the block that is issued
  abbrev pub block : Parts
  block = next_parts o held_now.summary s.pool x.signature x.seal

  abbrev pub after : Standing
  after = record {
    count = record { 0 = held_now.summary.whole.count.0 + 1 };
    length = held_now.summary.whole.length + length (block_bytes block);
    stamp = record { 0 = clock };
    link = link_of (block_bytes block);
    releases = (taking 8 held_now.summary.whole.releases (orders_of (counting held_now.summary s.pool))).releases;
  }

  abbrev pub then_held : Summary
  then_held = record { whole = after; settled = pick (settles o clock) after held_now.summary.settled }

  later : held_now.summary.whole.stamp.0 < clock
  later = last_is_below o held blocks held_now.summary held_now.accepted clock (omega (arith, x.low)) x.keeps.below

  front_is : front genesis clock s.buffer s.size s.pool x.controller x.signature ≡ gives (next_front o held_now.summary s.pool x.signature)
  unfolding front
  front_is =
      rw (
        opens genesis table x.reads clock x.low x.high,
        held_now.is,
        pooled_fits o held_now.summary s.pool x.pooled,
        x.known,
        eq-eqb (turn table clock) x.controller x.is_turn,
        lt-ltb held_now.summary.whole.stamp.0 clock later,
      )

  fit : Fits block
  fit =
      next_parts_fit o held_now.summary s.pool x.signature x.seal
      (followed_digest blocks _ held_now.summary.whole (link_digest genesis) held_now.accepted.whole)
      (record {
        signature_size = x.signed.0;
        signature_bytes = x.signed.1;
        seal_size = x.sealed.0;
        seal_bytes = x.sealed.1;
      })
      (pooled_fits o held_now.summary s.pool x.pooled)
      (within_here 1 256 clock x.low x.high)

  behind : Behind o held held_now.summary block then_held
  behind = record {
    fits = fit;
    whole = next_follows o held_now.summary s.pool x.signature x.seal later;
    settled = refl;
    admits = rw (le-leb clock clock (omega arith));
  }

  pub still_accepted : Accepted o held (blocks ++ (block ∷ [])) then_held
  still_accepted = a_block_behind_an_accepted_chain_is_accepted o held blocks block held_now.summary then_held held_now.accepted behind

  bytes_are : chain_bytes (blocks ++ (block ∷ [])) ≡ chain_bytes blocks ++ block_bytes block
  bytes_are = joined_append block_bytes blocks (block ∷ []) ∙ ap (λ (l : List ℕ). chain_bytes blocks ++ l) (append-nil (block_bytes block))

  room : s.size + length (block_bytes block) ≤ length s.buffer
  room =
      let size : s.size ≡ length (chain_bytes blocks) = sym (length-take-le s.size s.buffer x.keeps.inside) ∙ ap length x.keeps.are in
      omega (
        arith,
        size,
        x.keeps.room,
        at_most_64256_bytes o held (blocks ++ (block ∷ [])) then_held still_accepted,
        ap length bytes_are,
        length-append (chain_bytes blocks) (block_bytes block),
      )

  fits_there : placed s.buffer s.size (block_bytes block) ≡ gives (s.size + length (block_bytes block))
  fits_there = sym (with_room s.buffer s.size (block_bytes block) room).0

  bytes_written : append_bytes x.seal (next_front o held_now.summary s.pool x.signature) ≡ block_bytes block
  bytes_written = append_writes o held_now.summary s.pool x.signature x.seal

  pub never_refused : writing (append_bytes x.seal) (front genesis clock s.buffer s.size s.pool x.controller x.signature) s.buffer s.size
      ≡ gives (s.size + length (block_bytes block))
  never_refused =
      ap (λ (t : Told Front). writing (append_bytes x.seal) t s.buffer s.size) front_is
      ∙ ap (λ (l : List ℕ). placed s.buffer s.size l) bytes_written
      ∙ fits_there

  -- the buffer then
  laid : written (append_bytes x.seal) (front genesis clock s.buffer s.size s.pool x.controller x.signature) s.buffer s.size
      ≡ placing s.buffer s.size (block_bytes block)
  laid =
      ap (λ (t : Told Front). written (append_bytes x.seal) t s.buffer s.size) front_is
      ∙ ap (λ (l : List ℕ). placing s.buffer s.size l) bytes_written

  pub keeps_one_more : Keeps genesis table (clock + 1) (issues genesis clock x.controller x.signature x.seal s).buffer
      (issues genesis clock x.controller x.signature x.seal s).size (blocks ++ (block ∷ []))
  keeps_one_more =
      let next = s.size + length (block_bytes block) in
      let long = placed_size s.buffer s.size (block_bytes block) next fits_there in
      let size_is : next ≡ (issues genesis clock x.controller x.signature x.seal s).size = ap (given_or s.size) (sym never_refused) in
      subst (λ (l : List ℕ). Keeps genesis table (clock + 1) l (issues genesis clock x.controller x.signature x.seal s).size (blocks ++ (block ∷ []))) (sym laid)
      (subst (λ (n : ℕ). Keeps genesis table (clock + 1) (placing s.buffer s.size (block_bytes block)) n (blocks ++ (block ∷ []))) size_is
      (record {
        bytes = placed_bytes s.buffer s.size (block_bytes block) next fits_there x.keeps.bytes
            (subst Bytes (append-nil (block_bytes block)) (what_is_written_of_blocks_is_bytes (block ∷ []) (fit, tt)));
        room = omega (arith, x.keeps.room, long);
        inside = omega (arith, room, long);
        are = placed_front s.buffer s.size (block_bytes block) next fits_there ∙ ap (λ (l : List ℕ). l ++ block_bytes block) x.keeps.are ∙ sym bytes_are;
        fits = still_accepted.fits;
        whole = after;
        follows = still_accepted.whole;
        below = each_append (λ p. p.slot < clock + 1) blocks (block ∷ []) (each_weaker (λ p under. omega arith) blocks x.keeps.below) (omega arith, tt);
      }))
