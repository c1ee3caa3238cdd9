-- Links are digests: nothing that is linked is too long for one.
-- Assumes nothing.
use mathlib.Core.Path.{◌≡◌, subst}
use mathlib.Core.List.{List}
use Prim.Native.Nat.{ℕ, ◌≤◌}
use native.Mathlib.Omega.{arith}
use lib.ListN.{length}
use borrow.Author.Tests.{le-leb}
use Rattle.laws.specs.Told.{gives}
use Rattle.laws.specs.Format.{Bytes}
use Rattle.laws.proofs.Told.{gives_same, then_gives, unless_gives}
use Rattle.sha256.specs.Sha256.{longest, sha256}
use Rattle.genesis.specs.Genesis.{genesis_of, clock_fits}
use Rattle.genesis.proofs.Theorems.{a_genesis_has_at_most_1315_bytes}
use Rattle.block.specs.Block.{Parts, block_bytes, Fits}
use Rattle.block.proofs.Theorems.{a_block_has_162_to_251_bytes}
use Rattle.chain.specs.Chain.{link_of, opened}
use Rattle.chain.specs.declared.Opened.{Opened}

linked : (m : List ℕ) → length m ≤ longest → link_of m ≡ sha256 m
linked m short = rw (le-leb (length m) longest short)

pub block_link : (p : Parts) → Fits p → link_of (block_bytes p) ≡ sha256 (block_bytes p)
block_link p fits = linked (block_bytes p) (omega (arith, (a_block_has_162_to_251_bytes p fits).1))

pub genesis_link : (genesis : List ℕ) (clock : ℕ) (o : Opened) → Bytes genesis → opened genesis clock ≡ gives o → o.link ≡ sha256 genesis
genesis_link genesis clock o bytes e =
    let (table, reads, rest) = then_gives (genesis_of genesis) _ o e in
    let (fits, is) = unless_gives (clock_fits table clock) 2 0 _ o rest in
    let short = a_genesis_has_at_most_1315_bytes genesis bytes table reads in
    subst (λ (q : Opened). q.link ≡ sha256 genesis) (gives_same is) (linked genesis (omega arith))
