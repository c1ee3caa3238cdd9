-- The two cases of writing bytes at a place of a lent buffer.
-- Assumes nothing.
use mathlib.Core.Path.{◌≡◌, refl, sym, ap, ◌∙◌, subst}
use mathlib.Core.Bool.{Bool, true, false}
use mathlib.Core.List.{List, [], ◌++◌, append_assoc, append-nil}
use Prim.Native.Nat.{ℕ, ◌+◌, ◌-◌, ◌<◌, ◌≤◌}
use native.Mathlib.Nat.{add-sub_cancel_left}
use lib.Dec.{leb}
use native.Mathlib.Omega.{arith}
use lib.ListN.{length, take, drop, replicate, drop_of_length-le, length-drop, length-append, length-replicate}
use lib.Seq.{sets, sets-eq, length-sets, length-take-le, take_at, drop_at}
use borrow.Author.Tests.{le-leb, lt-leb, leb-true, leb-false}
use Rattle.laws.specs.Told.{gives, refuses}
use Rattle.laws.specs.Placed.{placed, placing, placed_if, placing_if, Room, Wrote}
use Rattle.laws.specs.Bytes.{part}
use Rattle.laws.specs.Format.{Bytes}
use Rattle.laws.proofs.Bytes.{bytes_append, bytes_take, bytes_drop}
use Rattle.laws.proofs.Sets.{sets_join}
use Rattle.laws.proofs.Told.{gives_same, unless_gives}

module _ (out : List ℕ) (at : ℕ) (bytes : List ℕ) where
  pub too_short : length out < at + length bytes → (refuses 15 0 ≡ placed out at bytes) × (out ≡ placing out at bytes)
  too_short short = (simp (lt-leb _ _ short), simp (lt-leb _ _ short))

  pub with_room : at + length bytes ≤ length out
      → (gives (at + length bytes) ≡ placed out at bytes) × (sets out at bytes ≡ placing out at bytes)
  with_room room = (simp (le-leb _ _ room), simp (le-leb _ _ room))

  -- where bytes were written there was room
  pub was_room : (next : ℕ) → placed out at bytes ≡ gives next → (at + length bytes ≤ length out) × (next ≡ at + length bytes)
  was_room next e =
      let (fits, same) = unless_gives (leb (at + length bytes) (length out)) 15 0 (gives (at + length bytes)) next e in
      (leb-true _ _ fits, sym (gives_same same))

-- bytes that were placed: where they stand, and what stands around them
module _ (out : List ℕ) (at : ℕ) (bytes : List ℕ) (next : ℕ) (e : placed out at bytes ≡ gives next) where
  pub is_next : next ≡ at + length bytes
  is_next = (was_room out at bytes next e).1

  room : at + length bytes ≤ length out
  room = (was_room out at bytes next e).0

  pub laid : placing out at bytes ≡ (take at out ++ bytes) ++ drop (at + length bytes) out
  laid = rw (le-leb (at + length bytes) (length out) room) (sets-eq bytes out at room)

  pub placed_size : length (placing out at bytes) ≡ length out
  placed_size = rw (le-leb (at + length bytes) (length out) room) (length-sets out at bytes)

  pub placed_part : part (placing out at bytes) at (next - at) ≡ bytes
  placed_part =
      let size : next - at ≡ length bytes = omega (arith, is_next) in
      ap (λ (l : List ℕ). part l at (next - at)) (laid ∙ append_assoc (take at out) bytes _)
      ∙ ap (take (next - at)) (drop_at (take at out) _ at (length-take-le at out (omega (arith, room))))
      ∙ take_at bytes _ (next - at) (sym size)

  pub placed_front : take next (placing out at bytes) ≡ take at out ++ bytes
  placed_front =
      let front : length (take at out) ≡ at = length-take-le at out (omega (arith, room)) in
      let size : length (take at out ++ bytes) ≡ next = omega (arith, is_next, length-append (take at out) bytes) in
      ap (take next) laid ∙ take_at (take at out ++ bytes) _ next size

  pub placed_bytes : Bytes out → Bytes bytes → Bytes (placing out at bytes)
  placed_bytes before new =
      subst Bytes (sym laid)
      (bytes_append (take at out ++ bytes) _ (bytes_append (take at out) bytes (bytes_take at out before) new) (bytes_drop (at + length bytes) out before))

-- bytes that fill a buffer are then what it holds
pub filling : (out bytes : List ℕ) → length bytes ≡ length out → placing out 0 bytes ≡ bytes
filling out bytes long =
    let room : 0 + length bytes ≤ length out = omega arith in
    let rest : drop (0 + length bytes) out ≡ [] = drop_of_length-le out {i = 0 + length bytes} (omega arith) in
    simp (le-leb _ _ room) (sets-eq bytes out 0 room ∙ ap (λ (l : List ℕ). bytes ++ l) rest ∙ append-nil bytes)

-- a part of a slice, copied whole
pub copied_part : (s : List ℕ) (at size : ℕ) → at + size ≤ length s
    → placing (replicate size 0) 0 (take (at + size - at) (drop at s)) ≡ part s at size
copied_part s at size room =
    let long : length (part s at size) ≡ length {A = ℕ} (replicate size 0) =
    length-take-le size (drop at s) (rw length-drop (omega arith)) ∙ sym (length-replicate {A = ℕ} size 0) in
    ap (λ (n : ℕ). placing (replicate size 0) 0 (take n (drop at s))) (add-sub_cancel_left at size) ∙ filling (replicate size 0) (part s at size) long

-- values that are refused, a buffer that is too short, and bytes that were written
module _ (fine : Bool) (number : ℕ) (out : List ℕ) (at : ℕ) (bytes : List ℕ) where
  pub judged_refused : fine ≡ false → (refuses number 0 ≡ placed_if fine number out at bytes) × (out ≡ placing_if fine out at bytes)
  judged_refused e = rw e (refl, refl)

  pub judged_short : fine ≡ true → length out < at + length bytes
      → (refuses 15 0 ≡ placed_if fine number out at bytes) × (out ≡ placing_if fine out at bytes)
  judged_short e short = rw e (too_short out at bytes short)

  pub judged_wrote : (next : ℕ) (later : List ℕ) → fine ≡ true → Room out at bytes → Wrote out at bytes next later
      → (gives next ≡ placed_if fine number out at bytes) × (later ≡ placing_if fine out at bytes)
  judged_wrote next later e room wrote = rw (e, wrote.place, wrote.buffer) (with_room out at bytes room.enough)

module _ {out : List ℕ} {at : ℕ} {xs ys : List ℕ} where
  pub room_same : xs ≡ ys → Room out at xs → Room out at ys
  room_same e room = subst (λ l. Room out at l) e room

  pub wrote_same : {next : ℕ} {later : List ℕ} → xs ≡ ys → Wrote out at xs next later → Wrote out at ys next later
  wrote_same {next} {later} e wrote = subst (λ l. Wrote out at l next later) e wrote

-- what a test of the size says
module _ (out : List ℕ) (at size : ℕ) (bytes : List ℕ) (is : size ≡ length bytes) where
  pub enough_room : leb (at + size) (length out) ≡ true → Room out at bytes
  enough_room e = record { enough = omega (arith, leb-true (at + size) (length out) e) }

  pub too_little : leb (at + size) (length out) ≡ false → length out < at + length bytes
  too_little e = omega (arith, leb-false (at + size) (length out) e)

-- writing changes no length
pub wrote_length : {out : List ℕ} {at next : ℕ} {bytes later : List ℕ} → Wrote out at bytes next later → length later ≡ length out
wrote_length {out} {at} {next} {bytes} wrote = ap length wrote.buffer ∙ length-sets out at bytes

-- pieces written one behind the other
pub wrote_none : {out : List ℕ} {at : ℕ} → Wrote out at [] at out
wrote_none = record { place = omega arith; buffer = refl }

module _ (xs ys : List ℕ) {out : List ℕ} {at : ℕ} where
  pub room_first : Room out at (xs ++ ys) → Room out at xs
  room_first room = record { enough = omega (arith, room.enough, length-append xs ys) }

  pub room_then : {middle : ℕ} {between : List ℕ} → Wrote out at xs middle between → Room out at (xs ++ ys) → Room between middle ys
  room_then first room = record {
    enough = omega (arith, room.enough, length-append xs ys, first.place, ap length first.buffer, length-sets out at xs);
  }

  pub wrote_then : {middle next : ℕ} {between later : List ℕ} → Wrote out at xs middle between → Wrote between middle ys next later
      → Wrote out at (xs ++ ys) next later
  wrote_then first second = record {
    place = omega (arith, first.place, second.place, length-append xs ys);
    buffer = second.buffer ∙ rw (first.place, first.buffer) (sets_join out at xs ys);
  }
