-- Why no two correct controllers ever report different settled lists, in the sections of the argument that its lemmas' files name too.
-- 3: a chain that a correct controller holds has grown by a block in each good slot. Past the last good slot that is on both, two chains
-- have at most one block for each good slot and two for each bad one. 4: fewer than a third of any long window's slots are bad. 5: so that
-- last common slot is no more slots ago than the depth, and what is settled lies before it, where both chains are the one issued in it.
-- Assumes nothing: `Laws` is what is asked of a run, `Windows` how thin its bad slots lie, `Viable` what a correct controller holds.
use Prim.Native.Nat.{ℕ, ◌+◌, ◌-◌, ◌≤◌}
use mathlib.Core.Path.{◌≡◌}
use mathlib.Core.Bool.{Bool}
use mathlib.Core.List.{List, [], ◌∷◌, ◌++◌}
use lib.ListN.{length}
use Rattle.laws.specs.Depth.{depth_for}
use Rattle.agreement.specs.Core.{Setting, good_between, Windows, Turns, Begins, settled, Parted, Viable, Laws}
use Rattle.agreement.proofs.Windows.{windows}
use Rattle.agreement.proofs.Chains.{settled_parts, issued_unsettled}
use Rattle.agreement.proofs.Growth.{growth, some_viable}
use Rattle.agreement.proofs.Agree.{same_slot, later_chain, later_settled}

-- section 1: what `settled` takes from the front of a valid chain is every block with stamp + depth below j
pub settled_blocks_are_the_front : (s : Setting) → Laws s → (depth j : ℕ) (c : List s.Block) → s.valid c → Parted s depth j (settled s depth j c) c
settled_blocks_are_the_front s laws depth j c passes = settled_parts s depth j 0 c (laws.rises c passes)

-- section 4
pub fewer_than_a_third_are_bad : (s : Setting) (n t : ℕ) (faulty : ℕ → Bool) → Turns s n t faulty → Windows s (depth_for n t)
fewer_than_a_third_are_bad = windows

module _ (s : Setting) (laws : Laws s) where
  -- section 3, N: at least as many blocks as there were correct turns before j
  pub a_viable_chain_has_grown : (j : ℕ) (c : List s.Block) → j ≤ s.end + 1 → Viable s j c → good_between s 0 (j - 1) ≤ length c
  a_viable_chain_has_grown = growth s laws

  -- section 5
  pub each_slot_has_a_viable_chain : (j : ℕ) → j ≤ s.end + 1 → (c : List s.Block) × Viable s j c
  each_slot_has_a_viable_chain = some_viable s laws

  module _ (depth : ℕ) (window : Windows s depth) where
    -- section 5, same slot
    pub one_slot_has_one_settled_list : (j : ℕ) (c e : List s.Block) → j ≤ s.end + 1 → Viable s j c → Viable s j e
        → settled s depth j c ≡ settled s depth j e
    one_slot_has_one_settled_list = same_slot s laws depth window

    -- section 5, any later slot
    pub settled_blocks_begin_each_later_chain : (j j' : ℕ) (c e : List s.Block) → j ≤ j' → j' ≤ s.end + 1 → Viable s j c → Viable s j' e
        → Begins (settled s depth j c) e
    settled_blocks_begin_each_later_chain = later_chain s laws depth window

    pub settled_blocks_stay_settled : (j j' : ℕ) (c e : List s.Block) → j ≤ j' → j' ≤ s.end + 1 → Viable s j c → Viable s j' e
        → Begins (settled s depth j c) (settled s depth j' e)
    settled_blocks_stay_settled = later_settled s laws depth window

  -- all of it, for n controllers that take turns
  module _ (n t : ℕ) (faulty : ℕ → Bool) (turns : Turns s n t faulty) where
    pub no_two_settled_lists_differ : (j : ℕ) (c e : List s.Block) → j ≤ s.end + 1 → Viable s j c → Viable s j e
        → settled s (depth_for n t) j c ≡ settled s (depth_for n t) j e
    no_two_settled_lists_differ = same_slot s laws (depth_for n t) (windows s n t faulty turns)

    pub no_settled_list_is_taken_back : (j j' : ℕ) (c e : List s.Block) → j ≤ j' → j' ≤ s.end + 1 → Viable s j c → Viable s j' e
        → Begins (settled s (depth_for n t) j c) (settled s (depth_for n t) j' e)
    no_settled_list_is_taken_back = later_settled s laws (depth_for n t) (windows s n t faulty turns)

-- section 2: a controller that issues in slot j reports what it reported before
pub issuing_settles_nothing : (s : Setting) (depth j : ℕ) (c : List s.Block) (b : s.Block) → s.stamp b ≡ j
    → settled s depth j (c ++ (b ∷ [])) ≡ settled s depth j c
issuing_settles_nothing = issued_unsettled
