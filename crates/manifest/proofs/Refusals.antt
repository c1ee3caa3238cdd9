-- Which refusals the steps of a check have.
-- Assumes nothing.
use mathlib.Core.Path.{◌≡◌, sym, ap, ◌∙◌}
use mathlib.Core.Bool.{Bool, true, false}
use mathlib.Core.Logic.{◌⊎◌, inl, inr}
use mathlib.Core.List.{List}
use Prim.Native.Nat.{ℕ, zero, suc, ◌+◌, ◌-◌, ◌≤◌}
use native.Mathlib.Omega.{arith}
use lib.Dec.{ltb, leb}
use lib.ListN.{length, get_or, take, drop, length-drop}
use lib.Seq.{length-take-le, take_all}
use borrow.Author.Tests.{le-leb}
use Rattle.laws.specs.Bytes.{part, bytes_at}
use Rattle.laws.specs.Pick.{pick}
use Rattle.laws.specs.Told.{Told, gives, refuses, found, then, unless, number_of}
use Rattle.number.specs.Number.{joined, read_groups, number_at}
use Rattle.lms.specs.Lms.{longest_message, signs, verified, verifies, well_formed}
use Rattle.manifest.specs.Manifest.{head_at}
use Rattle.manifest.specs.Answers.{head_in}
use Rattle.manifest.proofs.Heads.{head_ends}

unless_low : {A : Type 0} (fine : Bool) (number place : ℕ) (t : Told A) → number ≤ 4 → number_of t ≤ 4 → number_of (unless fine number place t) ≤ 4
unless_low true number place t low rest = rest
unless_low false number place t low rest = low

pick_low : {A : Type 0} (test : Bool) (t u : Told A) → number_of t ≤ 4 → number_of u ≤ 4 → number_of (pick test t u) ≤ 4
pick_low true t u one other = one
pick_low false t u one other = other

then_low : {A B : Type 0} (t : Told A) (go : A → Told B) → number_of t ≤ 4 → ((a : A) → number_of (go a) ≤ 4) → number_of (then t go) ≤ 4
then_low (gives a) go low rest = rest a
then_low (refuses number place) go low rest = low

groups_low : (k : ℕ) (s : List ℕ) (at : ℕ) → number_of (read_groups k s at) ≤ 4
unfolding read_groups
groups_low zero s at = omega arith
groups_low (suc k) s at =
    unless_low (ltb at (length s)) 3 0 _ (omega arith)
    (pick_low (ltb (get_or s at 0) 128) _ (joined (get_or s at 0) (read_groups k s (at + 1))) (omega arith)
    (then_low (read_groups k s (at + 1)) _ (groups_low k s (at + 1)) λ r. unless_low (ltb 0 r.value) 4 0 _ (omega arith) (omega arith)))

-- 3 and 4
pub head_low : (s : List ℕ) (at : ℕ) → number_of (head_at s at) ≤ 4
unfolding number_at
head_low s at =
    then_low (number_at s at) _ (groups_low 5 s at) λ release.
    then_low (bytes_at 32 s release.next) _
    (unless_low (leb (release.next + 32) (length s)) 3 0 _ (omega arith) (omega arith)) λ digest. omega arith

-- a message that is not too long
pub short_verified : (key signature message : List ℕ) → length message ≤ longest_message → verified key signature message ≡ signs key signature message
short_verified key signature message short = rw (le-leb _ _ short)

-- what stands behind the head signs what stands before: at most 37 bytes, so that no message is too long
pub signed : (key manifest : List ℕ) (release at : ℕ) → found (head_in manifest release at) (at + 32) ≡ head_at manifest 0
    → verified key (part manifest (at + 32) (length manifest - (at + 32))) (take (at + 32) manifest)
    ≡ signs key (drop (at + 32) manifest) (take (at + 32) manifest)
signed key manifest release at head =
    let end = at + 32 in
    let (inside, soon) = head_ends manifest _ (sym head) in
    let few : length (take end manifest) ≤ 256 = omega (arith, length-take-le end manifest inside, soon) in
    let all : part manifest end (length manifest - end) ≡ drop end manifest = take_all (length manifest - end) (drop end manifest) (rw length-drop (omega arith)) in
    ap (λ (signature : List ℕ). verified key signature (take end manifest)) all ∙ short_verified key (drop end manifest) (take end manifest) few

-- 23 and 24
pub signs_not_16 : (key signature message : List ℕ) → number_of (signs key signature message) ≡ 16 → ⊥
signs_not_16 key signature message = by (well_formed key signature) (verifies key signature message)
  where
    by : (formed fits : Bool) → number_of {A = Unit {0}} (unless formed 23 0 (unless fits 24 0 (gives tt))) ≡ 16 → ⊥
    by false fits e = omega arith
    by true false e = omega arith
    by true true e = omega arith
