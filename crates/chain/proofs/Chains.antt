-- Delivered chains and held ones are accepted blocks.
-- Assumes nothing.
use Prim.Native.Nat.{ℕ, ◌+◌, ◌<◌, ◌≤◌}
use mathlib.Core.Path.{◌≡◌, sym, ap, ap₂, ◌∙◌}
use mathlib.Core.List.{List, ◌++◌}
use native.Mathlib.Omega.{arith}
use lib.Dec.{leb}
use lib.ListN.{length, take}
use lib.Seq.{length-take-le}
use borrow.Author.Tests.{leb-true}
use Rattle.laws.specs.Told.{Told, gives, refuses}
use Rattle.laws.specs.Every.{both}
use Rattle.laws.specs.Format.{Bytes}
use Rattle.laws.proofs.Told.{gives_same, gives_not_refuses, then_gives, unless_gives}
use Rattle.laws.proofs.Every.{both_true}
use Rattle.laws.proofs.Bytes.{bytes_take}
use Rattle.block.specs.Block.{Parts}
use Rattle.chain.specs.Chain.{longest, delivered, held, judged, passed, begun, delivered_chain, bad, held_chain, opened, checked}
use Rattle.chain.specs.declared.Opened.{Opened}
use Rattle.chain.specs.declared.Summary.{Summary}
use Rattle.chain.proofs.Calls.{delivered_passed, held_passed}
use Rattle.chain.specs.Blocks.{chain_bytes, Accepted, Checks}
use Rattle.chain.proofs.Accepted.{passed_accepted, accepted_passes, refused_behind, counts_all, few_bytes}

module _ (o : Opened) (s : Summary) where
  pub delivered_is : (chain verdicts : List ℕ) → Bytes chain → delivered_chain o chain verdicts ≡ gives s
      → (blocks : List Parts) × (chain ≡ chain_bytes blocks) × Accepted o (delivered verdicts) blocks s
  unfolding delivered_chain
  delivered_is chain verdicts bytes e =
      let (_, good) = unless_gives (leb (length chain) longest) 16 0 _ s e in
      passed_accepted o (delivered verdicts) chain s bytes good

  pub is_delivered : (verdicts : List ℕ) (blocks : List Parts) → Accepted o (delivered verdicts) blocks s
      → delivered_chain o (chain_bytes blocks) verdicts ≡ gives s
  is_delivered verdicts blocks a =
      delivered_passed o (chain_bytes blocks) verdicts (few_bytes o (delivered verdicts) blocks s a)
      ∙ accepted_passes o (delivered verdicts) blocks s a

  bad_gives : (t : Told Summary) → bad t ≡ gives s → t ≡ gives s
  bad_gives (gives e) is = is
  bad_gives (refuses number place) is = gives_not_refuses is

  pub held_is : (buffer : List ℕ) (size : ℕ) → Bytes buffer → held_chain o buffer size ≡ gives s
      → (size ≤ length buffer) × ((blocks : List Parts) × (take size buffer ≡ chain_bytes blocks) × Accepted o held blocks s)
  unfolding held_chain
  held_is buffer size bytes e =
      let (tests, good) = unless_gives (both (leb size (length buffer)) (leb size longest)) 17 0 _ s e in
      let (inside, _) = both_true (leb size (length buffer)) (leb size longest) tests in
      (leb-true _ _ inside, passed_accepted o held (take size buffer) s (bytes_take size buffer bytes) (bad_gives _ good))

  pub is_held : (buffer : List ℕ) (size : ℕ) (blocks : List Parts) → size ≤ length buffer → take size buffer ≡ chain_bytes blocks
      → Accepted o held blocks s → held_chain o buffer size ≡ gives s
  is_held buffer size blocks inside is a =
      let short : size ≤ longest = omega (arith, few_bytes o held blocks s a, ap length is, length-take-le size buffer inside) in
      held_passed o buffer size inside short
      ∙ ap bad (ap (λ (l : List ℕ). passed o held l (begun o)) is ∙ accepted_passes o held blocks s a)

-- ---- the call
module _ (genesis : List ℕ) (clock : ℕ) (chain verdicts : List ℕ) (count : ℕ) (releases : List ℕ) where
  pub checked_is : Bytes chain → checked genesis clock chain verdicts ≡ gives (count, releases) → Checks genesis clock chain verdicts count releases
  checked_is bytes e =
      let (o, opens, rest) = then_gives (opened genesis clock) _ (count, releases) e in
      let (s, good, tells) = then_gives (delivered_chain o chain verdicts) _ (count, releases) rest in
      let (blocks, are, a) = delivered_is o s chain verdicts bytes good in
      record {
        o = o;
        opens = opens;
        blocks = blocks;
        are = are;
        s = s;
        accepted = a;
        counts = sym (ap (λ r. r.0) (gives_same tells)) ∙ counts_all o (delivered verdicts) blocks s a;
        leaves = sym (ap (λ r. r.1) (gives_same tells));
      }

  pub is_checked : Checks genesis clock chain verdicts count releases → checked genesis clock chain verdicts ≡ gives (count, releases)
  is_checked c =
      let good : delivered_chain c.o chain verdicts ≡ gives c.s =
      ap (λ (l : List ℕ). delivered_chain c.o l verdicts) c.are ∙ is_delivered c.o c.s verdicts c.blocks c.accepted in
      rw (c.opens, good)
      (ap₂ (λ (n : ℕ) (r : List ℕ). gives (n, r)) (counts_all c.o (delivered verdicts) c.blocks c.s c.accepted ∙ sym c.counts) (sym c.leaves))

pub refused_at : (genesis : List ℕ) (clock : ℕ) (verdicts : List ℕ) (o : Opened) (blocks : List Parts) (s : Summary) (rest : List ℕ) (number place : ℕ)
    → opened genesis clock ≡ gives o → Accepted o (delivered verdicts) blocks s → 0 < length rest → length (chain_bytes blocks ++ rest) ≤ longest
    → judged (delivered verdicts) o.clock.0 (chain_bytes blocks ++ rest) s.whole ≡ refuses number place
    → checked genesis clock (chain_bytes blocks ++ rest) verdicts ≡ refuses number (length blocks + 1)
refused_at genesis clock verdicts o blocks s rest number place opens a some short bad =
    let refused : delivered_chain o (chain_bytes blocks ++ rest) verdicts ≡ refuses number (length blocks + 1) =
    delivered_passed o (chain_bytes blocks ++ rest) verdicts short ∙ refused_behind o (delivered verdicts) blocks s rest number place a some bad in
    rw (opens, refused)
