-- What `number::write` and `number::read` do one after the other, in the words of their contracts: `answers` and `leaves` are the two clauses of
-- the write's.
-- Assumes nothing.
use mathlib.Core.Path.{◌≡◌}
use mathlib.Core.Bool.{true}
use mathlib.Core.List.{List}
use Prim.Native.Nat.{ℕ, ◌+◌, ◌-◌, ◌≤◌}
use lib.Dec.{leb}
use lib.ListN.{length}
use borrow.Author.Tests.{le-leb, leb-true}
use Rattle.laws.specs.Told.{Told, gives, Found, found}
use Rattle.laws.specs.Bytes.{part}
use Rattle.laws.specs.Placed.{placed, placed_if, placing_if}
use Rattle.laws.specs.Format.{Bytes}
use Rattle.laws.proofs.Told.{unless_gives}
use Rattle.laws.proofs.Calls.{placed_reads_back, read_is_placed}
use Rattle.number.specs.Number.{largest, written, number_at}
use Rattle.number.proofs.RoundTrip.{number_inverse}

abbrev pub answers : ℕ → List ℕ → ℕ → Told ℕ
answers value out at = placed_if (leb value largest) 4 out at (written value)

abbrev pub leaves : ℕ → List ℕ → ℕ → List ℕ
leaves value out at = placing_if (leb value largest) out at (written value)

-- where the write gives a next place, the read of what it leaves gives the number and that place
pub writing_then_reading_gives_the_same_number : (out : List ℕ) (at value next : ℕ) → answers value out at ≡ gives next
    → number_at (leaves value out at) at ≡ found value next
writing_then_reading_gives_the_same_number out at value next e =
    let (small, writes) = unless_gives (leb value largest) 4 0 (placed out at (written value)) next e in
    rw small (placed_reads_back number_inverse out at value next (leb-true _ _ small) writes)

-- a number that the read gives, the write takes wherever there is room for as many bytes, and leaves the same bytes there
pub a_number_that_reads_writes_back_to_the_same_bytes : (s : List ℕ) (at : ℕ) (r : Found ℕ) → Bytes s → number_at s at ≡ gives r
    → (out : List ℕ) (to : ℕ) → to + (r.next - at) ≤ length out
    → (answers r.value out to ≡ gives (to + (r.next - at)))
    × (part (leaves r.value out to) to (r.next - at) ≡ part s at (r.next - at))
a_number_that_reads_writes_back_to_the_same_bytes s at r bytes e out to room =
    let small : leb r.value largest ≡ true = le-leb _ _ (number_inverse.only_written s at r bytes e).0 in
    rw small (read_is_placed number_inverse s at r bytes e out to room)
