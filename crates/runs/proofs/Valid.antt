-- A run as the argument's setting: which lists of blocks are valid in it, and the blocks of a chain's bytes.
-- Assumes nothing.
use Prim.Native.Nat.{ℕ, zero, suc, ◌+◌, ◌≤◌}
use mathlib.Core.Path.{◌≡◌, refl, sym, ap, ◌∙◌}
use mathlib.Core.Bool.{true, not}
use mathlib.Core.List.{List, [], ◌∷◌, ◌++◌, append_assoc, append-nil}
use native.Mathlib.Nat.{not-suc-le-zero, le_of_suc-le-suc}
use native.Mathlib.Omega.{arith}
use lib.ListN.{length, length-append}
use borrow.Author.Tests.{lt-leb}
use Rattle.laws.specs.Told.{Told, gives, refuses, Found}
use Rattle.laws.specs.Format.{Each}
use Rattle.laws.proofs.Told.{then_gives}
use Rattle.laws.proofs.Each.{each_parts}
use Rattle.genesis.specs.Genesis.{turn}
use Rattle.block.specs.Block.{Parts, block_at, block_bytes, Fits}
use Rattle.block.proofs.Theorems.{written_block_reads_back}
use Rattle.chain.specs.Chain.{none}
use Rattle.chain.specs.Blocks.{chain_bytes, followed, Rising}
use Rattle.chain.specs.declared.Standing.{Standing}
use Rattle.chain.proofs.Theorems.{blocks_follow_part_by_part, stamps_rise_strictly}
use Rattle.agreement.specs.Core.{Setting, Rises}
use Rattle.runs.specs.Runs.{Run, issued, OfRun}
use Rattle.runs.proofs.Nodes.{opening}

-- ---- the blocks that stand in bytes
abbrev pub listed : Told (Found Parts) → (ℕ → List Parts) → List Parts
listed (gives b) more = b.value ∷ more b.next
listed (refuses number place) more = []

unfoldable pub blocks_from : (most : ℕ) → List ℕ → ℕ → List Parts
blocks_from zero s at = []
blocks_from (suc most) s at = listed (block_at s at) (λ next. blocks_from most s next)

-- at most 256, as many as a good chain has
abbrev pub blocks_in : List ℕ → List Parts
blocks_in s = blocks_from 256 s 0

end_of_bytes : (most : ℕ) (s : List ℕ) → blocks_from most s (length s) ≡ []
unfolding blocks_from block_at
end_of_bytes zero s = refl
end_of_bytes (suc most) s = rw (lt-leb (length s + 32) (length s) (omega arith))

blocks_from_law : (most : ℕ) (front : List ℕ) (blocks : List Parts) → Each Fits blocks → length blocks ≤ most
    → blocks_from most (front ++ chain_bytes blocks) (length front) ≡ blocks
unfolding blocks_from
blocks_from_law most front [] fit few =
    ap (λ (l : List ℕ). blocks_from most l (length front)) (append-nil front) ∙ end_of_bytes most front
blocks_from_law zero front (p ∷ rest) fit few = absurd (not-suc-le-zero few)
blocks_from_law (suc most) front (p ∷ rest) (here, more) few =
    let joins : front ++ (block_bytes p ++ chain_bytes rest) ≡ (front ++ block_bytes p) ++ chain_bytes rest = sym (append_assoc front (block_bytes p) (chain_bytes rest)) in
    rw (written_block_reads_back front (chain_bytes rest) p here)
    (ap (λ l. p ∷ l)
    (ap (λ (l : List ℕ). blocks_from most l (length front + length (block_bytes p))) joins
    ∙ ap (λ (n : ℕ). blocks_from most ((front ++ block_bytes p) ++ chain_bytes rest) n) (sym (length-append front (block_bytes p)))
    ∙ blocks_from_law most (front ++ block_bytes p) rest more (le_of_suc-le-suc few)))

pub the_blocks_in : (blocks : List Parts) → Each Fits blocks → length blocks ≤ 256 → blocks_in (chain_bytes blocks) ≡ blocks
the_blocks_in blocks fit few = blocks_from_law 256 [] blocks fit few

-- ---- the setting
module _ (r : Run) where
  -- blocks of the run that follow one another from the genesis, and whose signatures verify
  pub record Valid (blocks : List Parts) : Type 0 where
    pub fits : Each Fits blocks
    pub whole : Standing
    pub follows : followed (none (opening r.genesis r.table 0)) blocks ≡ gives whole
    pub of_run : Each (OfRun r) blocks
    pub verify : Each (λ p. r.verifies p ≡ true) blocks

  abbrev pub setting : Setting
  setting = record {
    Block = Parts;
    stamp = λ p. p.slot;
    valid = Valid;
    good = λ slot. not (r.faulty (turn r.table slot));
    issued = λ slot. blocks_in (issued r slot);
    end = r.end;
  }

  pub none_valid : Valid []
  none_valid = record { fits = tt; whole = none (opening r.genesis r.table 0); follows = refl; of_run = tt; verify = tt }

  pub front_valid : (u v : List Parts) → Valid (u ++ v) → Valid u
  front_valid u v c =
      let start = none (opening r.genesis r.table 0) in
      let (whole, follows, _) = then_gives (followed start u) (λ after. followed after v) c.whole
      (sym (blocks_follow_part_by_part start u v) ∙ c.follows) in
      record {
        fits = (each_parts Fits u v c.fits).0;
        whole = whole;
        follows = follows;
        of_run = (each_parts (OfRun r) u v c.of_run).0;
        verify = (each_parts (λ p. r.verifies p ≡ true) u v c.verify).0;
      }

  rising_rises : (from : ℕ) (blocks : List Parts) → Rising from blocks → Rises setting from blocks
  rising_rises from [] rises = tt
  rising_rises from (p ∷ rest) (above, rises) = (above, rising_rises p.slot rest rises)

  pub valid_rises : (blocks : List Parts) → Valid blocks → Rises setting 0 blocks
  valid_rises blocks c =
      rising_rises 0 blocks (stamps_rise_strictly (none (opening r.genesis r.table 0)) blocks c.whole c.follows)
