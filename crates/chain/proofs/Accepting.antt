-- A pass over a chain's bytes is a pass over its blocks.
-- Assumes nothing.
use Prim.Native.Nat.{ℕ, zero, suc, ◌+◌, ◌-◌, ◌<◌, ◌≤◌}
use mathlib.Core.Path.{◌≡◌, refl, sym, ap, ◌∙◌, subst}
use mathlib.Core.List.{List, [], ◌∷◌, ◌++◌, append_assoc, append_cancel_left}
use native.Mathlib.Omega.{arith}
use lib.Dec.{ltb}
use lib.ListN.{length, take, drop, length-append, drop_of_length-le}
use lib.Seq.{take_at, drop_at}
use Rattle.laws.specs.Told.{Told, gives, refuses, Found, found}
use Rattle.laws.specs.Format.{Bytes, Each}
use Rattle.laws.proofs.Cases.{lt_cases}
use Rattle.laws.proofs.Told.{gives_same, gives_not_refuses, then_gives, unless_gives}
use Rattle.laws.proofs.Format.{same_front}
use Rattle.block.specs.Block.{Parts, block_at, block_bytes, Fits}
use Rattle.block.proofs.RoundTrip.{block_inverse}
use Rattle.block.proofs.Theorems.{a_block_has_162_to_251_bytes}
use Rattle.chain.specs.Chain.{Way, admitted, judged, passed}
use Rattle.chain.specs.declared.Opened.{Opened}
use Rattle.chain.specs.declared.Standing.{Standing}
use Rattle.chain.specs.declared.Summary.{Summary}
use Rattle.chain.proofs.Passing.{judged_further, pass_over, pass_next, pass_refused}
use Rattle.chain.specs.Blocks.{chain_bytes, follows, Admits}
use Rattle.chain.proofs.Following.{added}
use Rattle.chain.proofs.Settling.{onward, summed, first_summed, next_summed}

-- a block that lies at a place of a chain, and can be read there
pub record Lies (chain : List ℕ) (at : ℕ) (p : Parts) : Type 0 where
  pub fits : Fits p
  pub reads : block_at chain at ≡ found p (at + length (block_bytes p))
  pub here : drop at chain ≡ block_bytes p ++ drop (at + length (block_bytes p)) chain

module _ (way : Way) (clock : ℕ) (chain : List ℕ) (before : Standing) where
  -- behind a stamp that is admitted judging asks whether the block follows
  pub judged_follows : (p : Parts) → Lies chain before.length p → admitted way clock before.count.0 p.slot ≡ gives tt
      → judged way clock chain before ≡ follows before p
  unfolding judged follows
  judged_follows p at admits =
      let size : before.length + length (block_bytes p) - before.length ≡ length (block_bytes p) = omega arith in
      let bytes : take (length (block_bytes p)) (drop before.length chain) ≡ block_bytes p = rw at.here (take_at _ _ _ refl) in
      rw (at.reads, admits, size, bytes)

  judged_reads : (after : Standing) → judged way clock chain before ≡ gives after
      → (b : Found Parts) × (block_at chain before.length ≡ gives b) × (admitted way clock before.count.0 b.value.slot ≡ gives tt)
  unfolding judged
  judged_reads after e =
      let (b, reads, rest) = then_gives (block_at chain before.length) _ after e in
      let (above, rest') = unless_gives (ltb before.stamp.0 b.value.slot) 6 0 _ after rest in
      let (_, admits, rest'') = then_gives (admitted way clock before.count.0 b.value.slot) _ after rest' in
      (b, reads, admits)

pub lies_read : (chain : List ℕ) (at : ℕ) (b : Found Parts) → Bytes chain → block_at chain at ≡ gives b → Lies chain at b.value
lies_read chain at b bytes reads =
    let (fits, next, here) = block_inverse.only_written chain at b bytes reads in
    record {
      fits = fits;
      reads = reads ∙ ap (λ (n : ℕ). found b.value n) next;
      here = here ∙ ap (λ (n : ℕ). block_bytes b.value ++ drop n chain) next;
    }

pub lies_written : (front rest : List ℕ) (at : ℕ) (p : Parts) → length front ≡ at → Fits p → Lies (front ++ (block_bytes p ++ rest)) at p
lies_written front rest at p long fits =
    let chain = front ++ (block_bytes p ++ rest) in
    let over : drop (at + length (block_bytes p)) chain ≡ rest =
    rw (← (append_assoc front (block_bytes p) rest))
    (drop_at (front ++ block_bytes p) rest (at + length (block_bytes p)) (omega (arith, length-append front (block_bytes p)))) in
    record {
      fits = fits;
      reads = rw (← long) (block_inverse.reads_back front rest p fits);
      here = rw over (drop_at front (block_bytes p ++ rest) at long);
    }

module _ (o : Opened) (way : Way) where
  -- ---- blocks that are a good chain pass, whatever comes behind them
  pub pass_through : (blocks : List Parts) (chain front rest : List ℕ) (s e : Summary) → chain ≡ front ++ (chain_bytes blocks ++ rest)
      → length front ≡ s.whole.length → Each Fits blocks → Admits way o.clock.0 s.whole.count.0 blocks → summed o s blocks ≡ gives e
      → passed o way chain s ≡ passed o way chain e
  pass_through [] chain front rest s e is long fits admits sums = ap (passed o way chain) (gives_same sums)
  pass_through (p ∷ others) chain front rest s e is long (fit, fits) (admit, admits) sums =
      let (after, one, more) = first_summed o s p others e sums in
      let a = added s.whole p after one in
      let behind = chain_bytes others ++ rest in
      let here : chain ≡ front ++ (block_bytes p ++ behind) = is ∙ ap (λ (l : List ℕ). front ++ l) (append_assoc (block_bytes p) (chain_bytes others) rest) in
      let at = subst (λ (l : List ℕ). Lies l s.whole.length p) (sym here) (lies_written front behind s.whole.length p long fit) in
      let some : s.whole.length < length chain =
      omega (arith, ap length here, length-append front (block_bytes p ++ behind), length-append (block_bytes p) behind, a_block_has_162_to_251_bytes p fit) in
      let long' : length (front ++ block_bytes p) ≡ after.length = omega (arith, length-append front (block_bytes p)) in
      pass_next o way chain s some after (judged_follows way o.clock.0 chain s.whole p at admit ∙ one)
      ∙ pass_through others chain (front ++ block_bytes p) rest (onward o s after) e (here ∙ sym (append_assoc front (block_bytes p) behind)) long' fits
      (subst (λ (n : ℕ). Admits way o.clock.0 n others) (sym a.count) admits) more

  -- ---- a chain that passes is blocks
  -- from a place in the middle of it
  pub record Rest (chain : List ℕ) (s e : Summary) : Type 0 where
    pub blocks : List Parts
    pub are : drop s.whole.length chain ≡ chain_bytes blocks
    pub fit : Each Fits blocks
    pub admits : Admits way o.clock.0 s.whole.count.0 blocks
    pub sums : summed o s blocks ≡ gives e

  module _ (chain : List ℕ) (bytes : Bytes chain) where
    no_blocks : (s e : Summary) → length chain ≤ s.whole.length → passed o way chain s ≡ gives e → Rest chain s e
    no_blocks s e over is = record {
      blocks = [];
      are = drop_of_length-le chain over;
      fit = tt;
      admits = tt;
      sums = sym (pass_over o way chain s over) ∙ is;
    }

    one_block : (s e : Summary) (after : Standing) → judged way o.clock.0 chain s.whole ≡ gives after → Rest chain (onward o s after) e
        → Rest chain s e
    one_block s e after good others =
        let (b, reads, admit) = judged_reads way o.clock.0 chain s.whole after good in
        let at = lies_read chain s.whole.length b bytes reads in
        let one = sym (judged_follows way o.clock.0 chain s.whole b.value at admit) ∙ good in
        let a = added s.whole b.value after one in
        record {
          blocks = b.value ∷ others.blocks;
          are = at.here
              ∙ ap (λ (l : List ℕ). block_bytes b.value ++ l) (ap (λ (n : ℕ). drop n chain) (sym a.size) ∙ others.are);
          fit = (at.fits, others.fit);
          admits = (admit, subst (λ (n : ℕ). Admits way o.clock.0 n others.blocks) a.count others.admits);
          sums = next_summed o s b.value others.blocks after one ∙ others.sums;
        }

    pub blocks_of : (most : ℕ) (s e : Summary) → length chain ≤ s.whole.length + most → passed o way chain s ≡ gives e → Rest chain s e
    blocks_of zero s e bound is = no_blocks s e (omega arith) is
    blocks_of (suc most) s e bound is =
        lt_cases s.whole.length (length chain)
        (λ more. go more (judged way o.clock.0 chain s.whole) refl (λ next. blocks_of most next e))
        (λ over. no_blocks s e over is)
      where
        go : s.whole.length < length chain → (t : Told Standing) → judged way o.clock.0 chain s.whole ≡ t
            → ((next : Summary) → length chain ≤ next.whole.length + most → passed o way chain next ≡ gives e → Rest chain next e)
            → Rest chain s e
        go more (gives after) good again =
            let further = judged_further way o.clock.0 chain s.whole after good in
            one_block s e after good (again (onward o s after) (omega arith) (sym (pass_next o way chain s more after good) ∙ is))
        go more (refuses number place) bad again = gives_not_refuses (sym (pass_refused o way chain s more number place bad) ∙ is)

-- ---- the bytes tell the blocks
pub same_blocks : (xs ys : List Parts) → Each Fits xs → Each Fits ys → chain_bytes xs ≡ chain_bytes ys → xs ≡ ys
same_blocks [] [] fits fits' e = refl
same_blocks [] (y ∷ ys) fits (fit', fits') e =
    absurd (omega (arith, ap length e, length-append (block_bytes y) (chain_bytes ys), a_block_has_162_to_251_bytes y fit'))
same_blocks (x ∷ xs) [] (fit, fits) fits' e =
    absurd (omega (arith, ap length e, length-append (block_bytes x) (chain_bytes xs), a_block_has_162_to_251_bytes x fit))
same_blocks (x ∷ xs) (y ∷ ys) (fit, fits) (fit', fits') e =
    let first : x ≡ y = same_front block_inverse x y fit fit' (chain_bytes xs) (chain_bytes ys) e in
    let moved : block_bytes x ++ chain_bytes xs ≡ block_bytes x ++ chain_bytes ys = e ∙ ap (λ (p : Parts). block_bytes p ++ chain_bytes ys) (sym first) in
    let others = same_blocks xs ys fits fits' (append_cancel_left (block_bytes x) (chain_bytes xs) (chain_bytes ys) moved) in
    ap (λ (p : Parts). p ∷ xs) first ∙ ap (λ (l : List Parts). y ∷ l) others

-- what begins with blocks' bytes begins with those blocks
pub front_blocks : (xs ys : List Parts) (rest : List ℕ) → Each Fits xs → Each Fits ys → chain_bytes xs ≡ chain_bytes ys ++ rest
    → (zs : List Parts) × (xs ≡ ys ++ zs)
front_blocks xs [] rest fits fits' e = (xs, refl)
front_blocks [] (y ∷ ys) rest fits (fit', fits') e =
    absurd
    (omega (
      arith,
      ap length e,
      length-append (block_bytes y ++ chain_bytes ys) rest,
      length-append (block_bytes y) (chain_bytes ys),
      a_block_has_162_to_251_bytes y fit',
    ))
front_blocks (x ∷ xs) (y ∷ ys) rest (fit, fits) (fit', fits') e =
    let apart = e ∙ append_assoc (block_bytes y) (chain_bytes ys) rest in
    let first : x ≡ y = same_front block_inverse x y fit fit' (chain_bytes xs) (chain_bytes ys ++ rest) apart in
    let moved = apart ∙ ap (λ (p : Parts). block_bytes p ++ (chain_bytes ys ++ rest)) (sym first) in
    let (zs, others) = front_blocks xs ys rest fits fits' (append_cancel_left (block_bytes x) (chain_bytes xs) (chain_bytes ys ++ rest) moved) in
    (zs, ap (λ (p : Parts). p ∷ xs) first ∙ ap (λ (l : List Parts). y ∷ l) others)
