-- What a table that was read is.
-- Assumes nothing.
use mathlib.Core.Path.{◌≡◌, subst}
use mathlib.Core.List.{List}
use Prim.Native.Nat.{ℕ, ◌+◌, ◌*◌, ◌≤◌}
use lib.Dec.{leb}
use lib.ListN.{length}
use borrow.Author.Tests.{leb-true, eqb-true}
use Rattle.laws.specs.Told.{gives}
use Rattle.laws.specs.Every.{both, within}
use Rattle.laws.specs.Repeated.{repeated}
use Rattle.laws.proofs.Told.{gives_same, then_gives, unless_gives}
use Rattle.laws.specs.Depth.{depth_for}
use Rattle.laws.proofs.Every.{both_true, within_true}
use Rattle.laws.proofs.Repeated.{repeated_length}
use Rattle.number.specs.Number.{number_at}
use Rattle.genesis.specs.Genesis.{head_at, enough, rules, ended, genesis_of, depth}
use Rattle.genesis.specs.declared.Genesis.{Genesis}
use Rattle.genesis.proofs.Faults.{no_fault}
use Rattle.genesis.proofs.Depths.{many_enough}

pub record Sound (s : List ℕ) (g : Genesis) : Type 0 where
  pub some : 1 ≤ g.n
  pub few : g.n ≤ 31
  pub faults : 3 * g.t + 1 ≤ g.n
  pub kept : 1 ≤ g.u
  pub dropped : g.u ≤ 64
  pub displays : length g.releases ≡ 64
  pub whole : g.keys_at + 32 * g.n ≡ length s

pub sound : (s : List ℕ) (g : Genesis) → genesis_of s ≡ gives g → Sound s g
unfolding genesis_of
sound s g e =
    let (head, headed, rest) = then_gives (head_at s) _ g (no_fault _ g e) in
    let (releases, read, last) = then_gives (repeated number_at 64 s head.next) _ g rest in
    let (fine, is) = unless_gives (both (rules head.value) (ended s (releases.next + 32 * head.value.n))) 1 0 _ g last in
    let (keeps, ends) = both_true (rules head.value) (ended s (releases.next + 32 * head.value.n)) fine in
    let h = head.value in
    let (many, u) = both_true (enough h.n h.t) (within 1 64 h.u) keeps in
    let (n, t) = both_true (within 1 31 h.n) (leb (3 * h.t + 1) h.n) many in
    subst (Sound s) (gives_same is)
    (record {
      some = (within_true 1 31 h.n n).0;
      few = (within_true 1 31 h.n n).1;
      faults = leb-true _ _ t;
      kept = (within_true 1 64 h.u u).0;
      dropped = (within_true 1 64 h.u u).1;
      displays = repeated_length number_at 64 s head.next releases read;
      whole = eqb-true _ _ ends;
    })

-- the depth of a table that was read is the formula's
pub depth_is : (s : List ℕ) (g : Genesis) → genesis_of s ≡ gives g → depth g ≡ depth_for g.n g.t
depth_is s g e =
    let fine = sound s g e in
    many_enough g.n g.t fine.some fine.few fine.faults
