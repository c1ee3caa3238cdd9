-- Accepted chains: what they are made of, how they grow, and how long they get.
-- Assumes nothing.
use Prim.Native.Nat.{ℕ, ◌+◌, ◌*◌, ◌<◌, ◌≤◌}
use mathlib.Core.Path.{◌≡◌, refl, sym, ap, ap₂, ◌∙◌, subst}
use mathlib.Core.List.{List, [], ◌∷◌, ◌++◌, append-nil}
use native.Mathlib.Omega.{arith}
use native.Mathlib.Nat.{add-zero}
use lib.ListN.{length, take, length-append}
use lib.Seq.{take_at}
use Rattle.laws.specs.Pick.{pick}
use Rattle.laws.specs.Told.{Told, gives, refuses, then}
use Rattle.laws.specs.Format.{Bytes, Each}
use Rattle.laws.proofs.Told.{gives_same, then_gives}
use Rattle.laws.proofs.Each.{each_append, each_parts}
use Rattle.laws.proofs.Taken.{joined_append}
use Rattle.laws.proofs.Formats.{several}
use Rattle.block.specs.Block.{Parts, block_bytes, Fits}
use Rattle.block.proofs.RoundTrip.{block_inverse}
use Rattle.block.proofs.Theorems.{a_block_has_162_to_251_bytes}
use Rattle.chain.specs.Chain.{Way, longest, admitted, judged, settles, none, passed, begun}
use Rattle.chain.specs.declared.Opened.{Opened}
use Rattle.chain.specs.declared.Standing.{Standing}
use Rattle.chain.specs.declared.Summary.{Summary}
use Rattle.chain.specs.Blocks.{chain_bytes, followed, Admits, settled_of, Accepted, Behind, Rising, last_stamp}
use Rattle.chain.proofs.Following.{added, front_follows, Adds, adds, rising_few}
use Rattle.chain.proofs.Settling.{onward, summed, first_summed, summed_append, summed_follows, follows_summed, settled_follows, settled_exactly}
use Rattle.chain.proofs.Accepting.{pass_through, blocks_of}
use Rattle.chain.proofs.Passing.{pass_over, pass_refused}

-- ---- the parts of a chain
module _ (way : Way) (clock : ℕ) where
  pub admits_front : (count : ℕ) (xs ys : List Parts) → Admits way clock count (xs ++ ys)
      → Admits way clock count xs × Admits way clock (count + length xs) ys
  admits_front count [] ys all = (tt, subst (λ (n : ℕ). Admits way clock n ys) (sym (add-zero count)) all)
  admits_front count (x ∷ xs) ys (one, all) =
      let (front, rest) = admits_front (count + 1) xs ys all in
      ((one, front), subst (λ (n : ℕ). Admits way clock n ys) (omega arith) rest)

  pub admits_append : (count : ℕ) (xs ys : List Parts) → Admits way clock count xs → Admits way clock (count + length xs) ys
      → Admits way clock count (xs ++ ys)
  admits_append count [] ys all more = subst (λ (n : ℕ). Admits way clock n ys) (add-zero count) more
  admits_append count (x ∷ xs) ys (one, all) more =
      (one, admits_append (count + 1) xs ys all (subst (λ (n : ℕ). Admits way clock n ys) (omega arith) more))

module _ (o : Opened) (way : Way) where
  -- ---- accepted blocks and the summary of them
  pub sums_accepted : (blocks : List Parts) (s : Summary) → Each Fits blocks → Admits way o.clock.0 0 blocks → summed o (begun o) blocks ≡ gives s
      → Accepted o way blocks s
  sums_accepted blocks s fits admits sums = record {
    fits = fits;
    whole = summed_follows o (begun o) blocks s sums;
    settled = settled_follows o (none o) blocks s sums;
    admits = admits;
  }

  pub accepted_sums : (blocks : List Parts) (s : Summary) → Accepted o way blocks s → summed o (begun o) blocks ≡ gives s
  accepted_sums blocks s a =
      let (e, sums, whole) = follows_summed o (begun o) blocks s.whole a.whole in
      let settled : e.settled ≡ s.settled = gives_same (sym (settled_follows o (none o) blocks e sums) ∙ a.settled) in
      sums ∙ ap₂ (λ (w t : Standing). gives (record { whole = w; settled = t })) whole settled

  -- ---- bytes and blocks
  pub passed_accepted : (chain : List ℕ) (s : Summary) → Bytes chain → passed o way chain (begun o) ≡ gives s
      → (blocks : List Parts) × (chain ≡ chain_bytes blocks) × Accepted o way blocks s
  passed_accepted chain s bytes is =
      let b = blocks_of o way chain bytes (length chain) (begun o) s (omega arith) is in
      (b.blocks, b.are, sums_accepted b.blocks s b.fit b.admits b.sums)

  pub followed_accepted : (blocks : List Parts) (whole : Standing) → Each Fits blocks → followed (none o) blocks ≡ gives whole
      → Admits way o.clock.0 0 blocks → (s : Summary) × (s.whole ≡ whole) × Accepted o way blocks s
  followed_accepted blocks whole fits follow admits =
      let (s, sums, same) = follows_summed o (begun o) blocks whole follow in
      (s, same, sums_accepted blocks s fits admits sums)

  -- ---- a chain and more blocks
  pub accepted_front : (xs ys : List Parts) (s : Summary) → Accepted o way (xs ++ ys) s → (front : Summary) × Accepted o way xs front
  accepted_front xs ys s a =
      let (middle, follow, _) = front_follows (none o) xs ys s.whole a.whole in
      let (front, _, good) = followed_accepted xs middle (each_parts Fits xs ys a.fits).0 follow (admits_front way o.clock.0 0 xs ys a.admits).0 in
      (front, good)

  accepted_adds : (blocks : List Parts) (s : Summary) → Accepted o way blocks s → Adds (none o) blocks s.whole
  accepted_adds blocks s a = adds (none o) blocks s.whole a.whole

  -- a pass goes through accepted blocks, and ends there or goes on with what is behind them
  through : (blocks : List Parts) (s : Summary) (chain rest : List ℕ) → Accepted o way blocks s → chain ≡ chain_bytes blocks ++ rest
      → passed o way chain (begun o) ≡ passed o way chain s
  through blocks s chain rest a is = pass_through o way blocks chain [] rest (begun o) s is refl a.fits a.admits (accepted_sums blocks s a)

  pub accepted_passes : (blocks : List Parts) (s : Summary) → Accepted o way blocks s → passed o way (chain_bytes blocks) (begun o) ≡ gives s
  accepted_passes blocks s a =
      through blocks s (chain_bytes blocks) [] a (sym (append-nil (chain_bytes blocks)))
      ∙ pass_over o way (chain_bytes blocks) s (omega (arith, (accepted_adds blocks s a).size))

  pub refused_behind : (blocks : List Parts) (s : Summary) (rest : List ℕ) (number place : ℕ) → Accepted o way blocks s → 0 < length rest
      → judged way o.clock.0 (chain_bytes blocks ++ rest) s.whole ≡ refuses number place
      → passed o way (chain_bytes blocks ++ rest) (begun o) ≡ refuses number (length blocks + 1)
  refused_behind blocks s rest number place a some bad =
      let n = accepted_adds blocks s a in
      let counts : s.whole.count.0 ≡ length blocks = omega (arith, n.count) in
      through blocks s (chain_bytes blocks ++ rest) rest a refl
      ∙ pass_refused o way (chain_bytes blocks ++ rest) s (omega (arith, length-append (chain_bytes blocks) rest, n.size)) number place bad
      ∙ ap (λ (count : ℕ). refuses number (count + 1)) counts

  one_summed : (s : Summary) (p : Parts) (e : Summary) → Behind o way s p e → summed o s (p ∷ []) ≡ gives e
  one_summed s p e b =
      let a = added s.whole p e.whole b.whole in
      let settled : pick (settles o e.whole.stamp.0) e.whole s.settled ≡ e.settled =
      ap (λ (n : ℕ). pick (settles o n) e.whole s.settled) a.stamp ∙ sym b.settled in
      rw b.whole (ap (λ (t : Standing). gives (record { whole = e.whole; settled = t })) settled)

  pub one_more : (blocks : List Parts) (p : Parts) (s e : Summary) → Accepted o way blocks s → Behind o way s p e → Accepted o way (blocks ++ (p ∷ [])) e
  one_more blocks p s e a b =
      let n = accepted_adds blocks s a in
      sums_accepted (blocks ++ (p ∷ [])) e (each_append Fits blocks (p ∷ []) a.fits (b.fits, tt))
      (admits_append way o.clock.0 0 blocks (p ∷ []) a.admits
      (subst (λ (n : ℕ). admitted way o.clock.0 n p.slot ≡ gives tt) n.count b.admits, tt))
      (summed_append o (begun o) blocks (p ∷ [])
      ∙ ap (λ (t : Told Summary). then t (λ s. summed o s (p ∷ []))) (accepted_sums blocks s a) ∙ one_summed s p e b)

  pub last_one : (blocks : List Parts) (p : Parts) (e : Summary) → Accepted o way (blocks ++ (p ∷ [])) e
      → (s : Summary) × Accepted o way blocks s × Behind o way s p e
  last_one blocks p e a =
      let (fits, (fit, _)) = each_parts Fits blocks (p ∷ []) a.fits in
      let (admits, (admit, _)) = admits_front way o.clock.0 0 blocks (p ∷ []) a.admits in
      let (s, sums, more) = then_gives (summed o (begun o) blocks) _ e
      (sym (summed_append o (begun o) blocks (p ∷ [])) ∙ accepted_sums (blocks ++ (p ∷ [])) e a) in
      let (after, one, is) = first_summed o s p [] e more in
      let good = sums_accepted blocks s fits admits sums in
      let here : Behind o way s p (onward o s after) = record {
        fits = fit;
        whole = one;
        settled = ap (λ (n : ℕ). pick (settles o n) after s.settled) (added s.whole p after one).stamp;
        admits = subst (λ (n : ℕ). admitted way o.clock.0 n p.slot ≡ gives tt) (sym (accepted_adds blocks s good).count) admit;
      } in
      (s, good, subst (Behind o way s p) (gives_same is) here)

  -- ---- how long it gets
  chain_most : (blocks : List Parts) → Each Fits blocks → length (chain_bytes blocks) ≤ length blocks * 251
  chain_most [] fits = omega arith
  chain_most (p ∷ rest) (fit, fits) =
      let (low, high) = a_block_has_162_to_251_bytes p fit in
      omega (arith, chain_most rest fits, length-append (block_bytes p) (chain_bytes rest))

  module _ (blocks : List Parts) (s : Summary) (a : Accepted o way blocks s) where
    pub few_blocks : length blocks ≤ 256
    few_blocks = omega (arith, rising_few 0 blocks (omega arith) a.fits (accepted_adds blocks s a).rises)

    pub few_bytes : length (chain_bytes blocks) ≤ longest
    few_bytes = omega (arith, few_blocks, chain_most blocks a.fits)

    pub counts_all : s.whole.count.0 ≡ length blocks
    counts_all = omega (arith, (accepted_adds blocks s a).count)

    pub takes_all : s.whole.length ≡ length (chain_bytes blocks)
    takes_all = omega (arith, (accepted_adds blocks s a).size)

    pub last_stamp_law : s.whole.stamp.0 ≡ last_stamp 0 blocks
    last_stamp_law = (accepted_adds blocks s a).stamp

    pub stamps_rise : Rising 0 blocks
    stamps_rise = (accepted_adds blocks s a).rises

    -- ---- its settled part
    settled_adds : Adds (none o) (settled_of o blocks) s.settled
    settled_adds = adds (none o) (settled_of o blocks) s.settled a.settled

    pub settled_bytes : take s.settled.length (chain_bytes blocks) ≡ chain_bytes (settled_of o blocks)
    settled_bytes =
        let (rest, is, _, _) = settled_exactly o 0 blocks stamps_rise in
        ap (λ (l : List Parts). take s.settled.length (chain_bytes l)) is
        ∙ ap (take s.settled.length) (joined_append block_bytes (settled_of o blocks) rest)
        ∙ take_at (chain_bytes (settled_of o blocks)) (chain_bytes rest) s.settled.length (omega (arith, settled_adds.size))

    pub settled_less : (s.settled.count.0 ≤ s.whole.count.0) × (s.settled.length ≤ s.whole.length)
    settled_less =
        let (rest, is, _, _) = settled_exactly o 0 blocks stamps_rise in (
          omega (arith, settled_adds.count, counts_all, ap length is, length-append (settled_of o blocks) rest),
          omega (
            arith,
            settled_adds.size,
            takes_all,
            ap (λ (l : List Parts). length (chain_bytes l)) is ∙ ap length (joined_append block_bytes (settled_of o blocks) rest),
            length-append (chain_bytes (settled_of o blocks)) (chain_bytes rest),
          ),
        )

-- what is written of blocks is bytes
pub chain_is_bytes : (blocks : List Parts) → Each Fits blocks → Bytes (chain_bytes blocks)
chain_is_bytes blocks fits = (several block_inverse (length blocks)).bytes blocks (refl, fits)
