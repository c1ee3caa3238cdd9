-- `printed::lines::put_displays` meets its contract.
-- Assumes nothing.
use mathlib.Core.Path.{sym}
use native.Mathlib.Omega.{arith}
use Rattle.laws.proofs.Placed.{wrote_same, wrote_none}
use Rattle.printed.proofs.Texts.{lines_none, room_line, wrote_line}
use Rattle.printed.proofs.lines.put_displays.Goals as goal

pub loop-display-init : goal.loop-display-init
loop-display-init c = (omega arith, wrote_same (sym (lines_none c.args.releases.now)) wrote_none)

pub put_display-place-requires : goal.put_display-place-requires
put_display-place-requires c =
    let loop = c.loop-display in
    room_line c.args.releases.now 64 loop.display c.loop-display-test.true c.requires loop.invariant.1

pub loop-display-preserved : goal.loop-display-preserved
loop-display-preserved c =
    let loop = c.loop-display in
    (omega arith, wrote_line c.args.releases.now loop.display loop.invariant.1 c.put_display-place.ensures)
