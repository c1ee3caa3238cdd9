-- A run that meets the premises keeps the laws of the argument, and what its correct controllers report is what the argument speaks of.
-- Assumes nothing.
use Prim.Native.Nat.{ℕ, ◌+◌, ◌≤◌}
use mathlib.Core.Path.{◌≡◌, refl, sym, ap, ◌∙◌, subst}
use mathlib.Core.Bool.{true, not}
use mathlib.Core.List.{List, [], ◌∷◌, ◌++◌}
use native.Mathlib.Omega.{arith}
use lib.ListN.{length, take}
use Rattle.laws.specs.Pick.{pick}
use Rattle.laws.specs.Told.{gives}
use Rattle.laws.proofs.Told.{gives_same}
use Rattle.laws.proofs.Every.{within_true}
use Rattle.laws.proofs.Each.{each_parts}
use Rattle.genesis.specs.Genesis.{turn, depth}
use Rattle.genesis.proofs.Sound.{sound}
use Rattle.block.specs.Block.{Parts, Fits}
use Rattle.chain.specs.Chain.{held, none, settles}
use Rattle.chain.specs.Blocks.{chain_bytes, followed, settled_of}
use Rattle.chain.specs.declared.Standing.{Standing}
use Rattle.chain.proofs.Theorems.{the_bytes_tell_the_blocks, the_settled_bytes_are_the_settled_blocks}
use Rattle.report.specs.Report.{Report, report_of}
use Rattle.agreement.specs.Core.{Turns, settled, Viable, Issue, Laws}
use Rattle.runs.specs.Runs.{Run, correct, in_slot, holds, reports, issued, InRun, OfRun, LastOf, Premises}
use Rattle.runs.proofs.Nodes.{opening, keeps_later, held_there, opens}
use Rattle.runs.proofs.Valid.{Valid, setting, blocks_in, none_valid, front_valid, valid_rises}
use Rattle.runs.proofs.Linked.{linked}
use Rattle.runs.proofs.Events.{fine_valid}
use Rattle.runs.proofs.Slots.{turn_is, good_is_correct, issued_blocks, delivered_at, issued_at}

module _ (r : Run) (premises : Premises r) where
  -- ---- the laws
  -- a block that was issued last
  last_issued : (slot : ℕ) → InRun r slot → correct r (turn r.table slot) → (p : Parts) → LastOf (issued r slot) p
      → (w : List Parts) × (blocks_in (issued r slot) ≡ w ++ (p ∷ []))
  last_issued slot in_run is_correct p (before, fit, is) =
      let it = issued_at r premises slot in_run is_correct in
      let same = the_bytes_tell_the_blocks (it.before ++ (it.block ∷ [])) (before ++ (p ∷ [])) it.valid.fits fit (sym it.is ∙ is) in
      (before, issued_blocks r premises slot it ∙ same)

  one_block : (u v : List Parts) (b : Parts) → Valid r (u ++ b ∷ v) → not (r.faulty (turn r.table b.slot)) ≡ true → b.slot ≤ r.end
      → (w : List Parts) × (blocks_in (issued r b.slot) ≡ w ++ (b ∷ []))
  one_block u v b c good inside =
      let (fits, _) = (each_parts Fits u (b ∷ v) c.fits).1 in
      let (of_run, _) = (each_parts (OfRun r) u (b ∷ v) c.of_run).1 in
      let (verifies, _) = (each_parts (λ p. r.verifies p ≡ true) u (b ∷ v) c.verify).1 in
      let in_run : InRun r b.slot = ((within_true 1 256 b.slot fits.slot).0, inside) in
      let is_correct = good_is_correct r premises b.slot good in
      last_issued b.slot in_run is_correct b (premises.no_other b.slot in_run is_correct b of_run refl verifies)

  issue_of : (slot : ℕ) → not (r.faulty (turn r.table slot)) ≡ true → 1 ≤ slot → slot ≤ r.end → Issue (setting r) slot
  issue_of slot good low high =
      let it = issued_at r premises slot (low, high) (good_is_correct r premises slot good) in
      record {
        before = it.before;
        block = it.block;
        is = issued_blocks r premises slot it;
        stamped = it.stamped;
        held = record { passes = it.before_valid; below = it.before_below; long = it.before_long };
        passes = subst (Valid r) (sym (issued_blocks r premises slot it)) it.valid;
      }

  pub laws : Laws (setting r)
  laws = record {
    none = none_valid r;
    prefix = front_valid r;
    rises = valid_rises r;
    link = linked r premises;
    one_block = one_block;
    issues = issue_of;
  }

  pub turns : Turns (setting r) r.table.n r.table.t r.faulty
  turns = record {
    enough = (sound r.genesis r.table premises.reads).faults;
    few = premises.few;
    turn = λ slot low high. ap (λ (k : ℕ). not (r.faulty k)) (turn_is r premises slot);
  }

  -- ---- a correct controller in a slot
  settled_same : (slot : ℕ) (blocks : List Parts)
      → settled (setting r) (depth r.table) slot blocks ≡ settled_of (opening r.genesis r.table slot) blocks
  unfolding settled
  settled_same slot [] = refl
  settled_same slot (p ∷ rest) =
      ap (λ (l : List Parts). pick (settles (opening r.genesis r.table slot) p.slot) (p ∷ l) []) (settled_same slot rest)

  -- what a report is on: the blocks that are held, and of these the settled ones
  pub record Reporter (i slot : ℕ) (a : Report) : Type 0 where
    pub blocks : List Parts
    pub viable : Viable (setting r) slot blocks
    pub are : holds r i slot ≡ chain_bytes blocks
    pub counts : a.held ≡ length blocks
    pub bytes : take a.length (holds r i slot) ≡ chain_bytes (settled (setting r) (depth r.table) slot blocks)
    pub last : Standing
    pub follows : followed (none (opening r.genesis r.table 0)) (settled (setting r) (depth r.table) slot blocks) ≡ gives last
    pub settled_count : a.settled ≡ last.count.0
    pub settled_length : a.length ≡ last.length
    pub settled_releases : a.releases ≡ last.releases

  module _ (i : ℕ) (is_correct : correct r i) (slot : ℕ) (in_run : InRun r slot) where
    one_report : (a : Report) × (reports r i slot ≡ gives a) × Reporter i slot a
    one_report =
        let (low, high) = in_run in
        let at = delivered_at r premises i is_correct slot (low, high) in
        let s = in_slot r i slot in
        let blocks = at.blocks in
        let o = opening r.genesis r.table slot in
        let inside : slot ≤ 256 = omega (arith, premises.ends) in
        let h = held_there r.genesis r.table premises.reads slot low inside s blocks
        (keeps_later r.genesis r.table slot (slot + 1) s.buffer s.size blocks (omega arith) at.fine.keeps) in (
          report_of h.summary,
          rw (opens r.genesis r.table premises.reads slot low inside, h.is),
          record {
            blocks = blocks;
            viable = record { passes = fine_valid r slot slot s blocks at.fine; below = at.fine.keeps.below; long = at.long };
            are = at.fine.keeps.are;
            counts = h.count;
            bytes = ap (take h.summary.settled.length) at.fine.keeps.are
                ∙ the_settled_bytes_are_the_settled_blocks o held blocks h.summary h.accepted
                ∙ ap chain_bytes (sym (settled_same slot blocks));
            last = h.summary.settled;
            follows = ap (followed (none o)) (settled_same slot blocks) ∙ h.accepted.settled;
            settled_count = refl;
            settled_length = refl;
            settled_releases = refl;
          },
        )

    pub given : (a : Report) × (reports r i slot ≡ gives a)
    given = (one_report.0, one_report.1)

    pub reporter : (a : Report) → reports r i slot ≡ gives a → Reporter i slot a
    reporter a says = subst (Reporter i slot) (gives_same (sym one_report.1 ∙ says)) one_report.2
