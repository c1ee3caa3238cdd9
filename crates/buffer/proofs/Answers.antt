-- What an answer tells where there was room.
-- Assumes nothing.
use mathlib.Core.Path.{◌≡◌, sym, ◌∙◌}
use mathlib.Core.List.{List}
use Prim.Native.Nat.{ℕ}
use Rattle.laws.specs.Told.{Told, given_or}
use Rattle.laws.specs.Placed.{placed, placing, Room, Wrote}
use Rattle.laws.proofs.Placed.{with_room}

pub wrote : {out : List ℕ} {at : ℕ} {bytes later : List ℕ} {t : Told ℕ} → Room out at bytes → t ≡ placed out at bytes → later ≡ placing out at bytes
    → Wrote out at bytes (given_or at t) later
wrote {out} {at} {bytes} room answer buffer =
    let (next, sets) = with_room out at bytes room.enough in
    record { place = rw (answer, ← next); buffer = buffer ∙ sym sets }
