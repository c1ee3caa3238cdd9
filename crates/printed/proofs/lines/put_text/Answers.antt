-- `printed::lines::put_text` meets its contract.
-- Assumes nothing.
use mathlib.Core.Path.{◌≡◌, sym}
use mathlib.Core.List.{◌++◌}
use Rattle.laws.proofs.Placed.{wrote_same, wrote_then}
use Rattle.printed.specs.Station.{text_of, first_line, display_lines}
use Rattle.printed.specs.Answers.{told_asked}
use Rattle.printed.proofs.lines.put_text.Goals as goal

pub returns-in-Ok : goal.returns-in-Ok
returns-in-Ok c =
    let r = c.in-Ok.asked.report in
    let clock = c.in-Ok.asked.clock in
    let report-is : text_of (told_asked c.args.asked) ≡ first_line c.in-Ok.asked.clock.0 c.in-Ok.asked.report.held.0 c.in-Ok.asked.report.settled.0 ++ display_lines c.in-Ok.asked.report.releases 64 = rw c.in-Ok.is in
    wrote_same (sym report-is)
    (wrote_then (first_line clock.0 r.held.0 r.settled.0) (display_lines r.releases 64) c.put_first-at.ensures c.put_displays.ensures)
