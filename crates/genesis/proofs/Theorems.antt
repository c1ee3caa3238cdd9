-- What a reader may take of a table's bytes, 02's "so t goes up to 10" (e) and 01's "At most 1,315 bytes", and of the sheet of depths (02, f).
-- Assumes nothing.
use mathlib.Core.Path.{◌≡◌, ◌∙◌}
use mathlib.Core.List.{List}
use Prim.Native.Nat.{ℕ, ◌+◌, ◌-◌, ◌*◌, ◌/◌, ◌%◌, ◌<◌, ◌≤◌}
use native.Mathlib.Omega.{arith}
use lib.ListN.{length, get_or}
use Rattle.laws.specs.Told.{gives}
use Rattle.laws.specs.Depth.{depth_for}
use Rattle.laws.specs.Format.{Bytes}
use Rattle.laws.specs.Tabulate.{tabulate}
use Rattle.genesis.specs.Genesis.{genesis_of, depth_of}
use Rattle.genesis.specs.Depths.{depths}
use Rattle.genesis.specs.declared.Genesis.{Genesis}
use Rattle.genesis.proofs.Sound.{sound}
use Rattle.genesis.proofs.Lengths.{table_length}
use Rattle.genesis.proofs.Depths.{sheet_is, entry_is, many_enough, too_few}

pub few_are_faulty : (s : List ℕ) (g : Genesis) → genesis_of s ≡ gives g → g.t ≤ 10
few_are_faulty s g e = let fine = sound s g e in omega (arith, fine.faults, fine.few)

pub a_genesis_has_at_most_1315_bytes : (s : List ℕ) → Bytes s → (g : Genesis) → genesis_of s ≡ gives g → length s ≤ 1315
a_genesis_has_at_most_1315_bytes = table_length

-- "Show once for the whole table that it equals request e)'s formula": 31 rows, n from 1 on, of 11 entries, t from 0 on
pub the_sheet_of_depths_is_the_formula : depths ≡ tabulate 341 (λ place. depth_of (place / 11 + 1) (place % 11))
the_sheet_of_depths_is_the_formula = sheet_is

-- the same by n and t, "with 0 where n is below 3t + 1"
pub each_depth_stands_at_its_place : (n t : ℕ)
    → 1 ≤ n
    → n ≤ 31
    → t ≤ 10
    → (3 * t + 1 ≤ n → get_or depths ((n - 1) * 11 + t) 0 ≡ depth_for n t) × (n < 3 * t + 1 → get_or depths ((n - 1) * 11 + t) 0 ≡ 0)
each_depth_stands_at_its_place n t one many few =
    let entry : get_or depths ((n - 1) * 11 + t) 0 ≡ depth_of n t = entry_is n t one many few in
    (λ enough. entry ∙ many_enough n t one many enough, λ below. entry ∙ too_few n t below)
