-- Accepted chains at another slot, and delivered ones that are held.
-- Assumes nothing.
use Prim.Native.Nat.{ℕ, ◌+◌, ◌<◌, ◌≤◌}
use mathlib.Core.Path.{◌≡◌, sym, ap, ◌∙◌, subst}
use mathlib.Core.List.{List, [], ◌∷◌}
use native.Mathlib.Omega.{arith}
use lib.Dec.{ltb, eqb}
use lib.ListN.{get_or}
use borrow.Author.Tests.{ltb-true, lt-ltb, le-leb}
use Rattle.laws.specs.Told.{gives, unless}
use Rattle.laws.specs.Format.{Bytes}
use Rattle.laws.proofs.Told.{gives_same, then_gives, unless_gives}
use Rattle.genesis.specs.Genesis.{genesis_of, clock_fits}
use Rattle.genesis.specs.declared.Genesis.{Genesis}
use Rattle.block.specs.Block.{Parts}
use Rattle.chain.specs.Chain.{link_of, opened, Way, delivered, held, admitted, passed, begun}
use Rattle.chain.specs.declared.Opened.{Opened}
use Rattle.chain.specs.declared.Summary.{Summary}
use Rattle.chain.specs.Blocks.{Admits, Accepted, at_slot, Below}
use Rattle.chain.proofs.Following.{last_below, below_last}
use Rattle.chain.proofs.Accepting.{same_blocks}
use Rattle.chain.proofs.Accepted.{passed_accepted, accepted_passes, followed_accepted, last_stamp_law, stamps_rise}

pub opened_again : (genesis : List ℕ) (clock clock' : ℕ) (o o' : Opened) → opened genesis clock ≡ gives o → opened genesis clock' ≡ gives o'
    → o' ≡ at_slot o clock'
opened_again genesis clock clock' o o' e e' =
    let (table, reads, rest) = then_gives (genesis_of genesis) _ o e in
    let (table', reads', rest') = then_gives (genesis_of genesis) _ o' e' in
    let (_, is) = unless_gives (clock_fits table clock) 2 0 _ o rest in
    let (_, is') = unless_gives (clock_fits table' clock') 2 0 _ o' rest' in
    let same : table' ≡ table = gives_same (sym reads' ∙ reads) in
    sym (gives_same is')
    ∙ ap (λ (t : Genesis). record { table = t; link = link_of genesis; clock = record { 0 = clock' } }) same
    ∙ ap (λ (q : Opened). at_slot q clock') (gives_same is)

-- ---- what delivered and held chains are admitted by
module _ (verdicts : List ℕ) where
  admitted_below : (clock count stamp : ℕ) → admitted (delivered verdicts) clock count stamp ≡ gives tt
      → (stamp < clock) × (unless {A = Unit {0}} (eqb (get_or verdicts count 0) 3) 8 0 (gives tt) ≡ gives tt)
  admitted_below clock count stamp e =
      let (below, rest) = unless_gives (ltb stamp clock) 7 0 _ tt e in (ltb-true stamp clock below, rest)

  pub admits_below : (clock count : ℕ) (blocks : List Parts) → Admits (delivered verdicts) clock count blocks → Below clock blocks
  admits_below clock count [] all = tt
  admits_below clock count (p ∷ rest) (one, all) = ((admitted_below clock count p.slot one).0, admits_below clock (count + 1) rest all)

  pub admits_again : (clock clock' count : ℕ) (blocks : List Parts) → Admits (delivered verdicts) clock count blocks → Below clock' blocks
      → Admits (delivered verdicts) clock' count blocks
  admits_again clock clock' count [] all below = tt
  admits_again clock clock' count (p ∷ rest) (one, all) (here, below) = (
    rw (lt-ltb p.slot clock' here) (admitted_below clock count p.slot one).1,
    admits_again clock clock' (count + 1) rest all below,
  )

pub admits_held : (clock count : ℕ) (blocks : List Parts) → Below (clock + 1) blocks → Admits held clock count blocks
admits_held clock count [] below = tt
admits_held clock count (p ∷ rest) (here, below) =
    (rw (le-leb p.slot clock (omega arith)), admits_held clock (count + 1) rest below)

-- ---- a chain that was accepted
module _ (o : Opened) (way : Way) (blocks : List Parts) (s : Summary) (a : Accepted o way blocks s) where
  -- clock and verdicts matter only by what they admit
  pub accepted_again : (way' : Way) (clock : ℕ) → Admits way' clock 0 blocks → (s' : Summary) × (s'.whole ≡ s.whole) × Accepted (at_slot o clock) way' blocks s'
  accepted_again way' clock admits = followed_accepted (at_slot o clock) way' blocks s.whole a.fits a.whole admits

  pub same_whole : (way' : Way) (clock : ℕ) (s' : Summary) → Accepted (at_slot o clock) way' blocks s' → s'.whole ≡ s.whole
  same_whole way' clock s' a' = gives_same (sym a'.whole ∙ a.whole)

  pub stamps_below : (clock : ℕ) → s.whole.stamp.0 < clock → Below clock blocks
  stamps_below clock h =
      last_below 0 clock blocks (stamps_rise o way blocks s a) (omega (arith, last_stamp_law o way blocks s a))

  pub last_is_below : (clock : ℕ) → 0 < clock → Below clock blocks → s.whole.stamp.0 < clock
  last_is_below clock h below = omega (arith, last_stamp_law o way blocks s a, below_last 0 clock blocks h below)

  pub accepted_held : (clock : ℕ) → s.whole.stamp.0 ≤ clock → (s' : Summary) × (s'.whole ≡ s.whole) × Accepted (at_slot o clock) held blocks s'
  accepted_held clock h = accepted_again held clock (admits_held clock 0 blocks (stamps_below (clock + 1) (omega arith)))

-- ---- a delivered chain at another slot
module _ (o : Opened) (verdicts : List ℕ) (clock : ℕ) where
  module _ (blocks : List Parts) (s : Summary) (a : Accepted o (delivered verdicts) blocks s) where
    pub delivered_again : Below clock blocks → (s' : Summary) × (s'.whole ≡ s.whole) × Accepted (at_slot o clock) (delivered verdicts) blocks s'
    delivered_again below =
        accepted_again o (delivered verdicts) blocks s a (delivered verdicts) clock
        (admits_again verdicts o.clock.0 clock 0 blocks a.admits below)

    pub delivered_below : (s' : Summary) → Accepted (at_slot o clock) (delivered verdicts) blocks s' → Below clock blocks × (s'.whole ≡ s.whole)
    delivered_below s' a' =
        (admits_below verdicts clock 0 blocks a'.admits, same_whole o (delivered verdicts) blocks s a (delivered verdicts) clock s' a')

  module _ (chain : List ℕ) (bytes : Bytes chain) (s : Summary) (good : passed o (delivered verdicts) chain (begun o) ≡ gives s) where
    pub passed_again : s.whole.stamp.0 < clock
        → (s' : Summary) × (s'.whole ≡ s.whole) × (passed (at_slot o clock) (delivered verdicts) chain (begun (at_slot o clock)) ≡ gives s')
    passed_again h =
        let (blocks, is, a) = passed_accepted o (delivered verdicts) chain s bytes good in
        let (s', same, a') = delivered_again blocks s a (stamps_below o (delivered verdicts) blocks s a clock h) in (
          s',
          same,
          ap (λ (l : List ℕ). passed (at_slot o clock) (delivered verdicts) l (begun (at_slot o clock))) is
              ∙ accepted_passes (at_slot o clock) (delivered verdicts) blocks s' a',
        )

    pub passed_below : (s' : Summary) → 0 < clock → passed (at_slot o clock) (delivered verdicts) chain (begun (at_slot o clock)) ≡ gives s'
        → (s.whole.stamp.0 < clock) × (s'.whole ≡ s.whole)
    passed_below s' h good' =
        let (blocks, is, a) = passed_accepted o (delivered verdicts) chain s bytes good in
        let (blocks', is', a') = passed_accepted (at_slot o clock) (delivered verdicts) chain s' bytes good' in
        let one = same_blocks blocks' blocks a'.fits a.fits (sym is' ∙ is) in
        let (below, same) = delivered_below blocks s a s'
        (subst (λ (l : List Parts). Accepted (at_slot o clock) (delivered verdicts) l s') one a') in
        (last_is_below o (delivered verdicts) blocks s a clock h below, same)
