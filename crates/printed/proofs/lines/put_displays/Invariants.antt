-- `printed::lines::put_displays` meets its contract.
-- Assumes nothing.
use Prim.Native.Nat.{◌-◌, ◌≤◌}
use Rattle.laws.specs.Placed.{Wrote}
use Rattle.printed.specs.Station.{display_lines}
use Rattle.printed.proofs.lines.put_displays.Given as goal

abbrev pub invariant-loop-display : goal.invariant-loop-display
invariant-loop-display l = (l.display ≤ 64) × Wrote l.initial.out l.at (display_lines l.releases l.display) l.place l.out

abbrev pub decreases-loop-display : goal.decreases-loop-display
decreases-loop-display l = 64 - l.display
