-- `printed::station` meets its contract.
-- Assumes nothing.
use Prim.Native.Nat.{◌≤◌}
use mathlib.Core.Path.{◌≡◌, sym, ap, ◌∙◌}
use native.Mathlib.Omega.{arith}
use lib.ListN.{length, take}
use lib.Seq.{length-take-le}
use Rattle.laws.specs.Placed.{placed, placing}
use Rattle.laws.proofs.Placed.{wrote_length}
use Rattle.printed.specs.Station.{text_of, station_text}
use Rattle.printed.specs.Answers.{told_asked}
use Rattle.printed.proofs.Texts.{text_room, front_written}
use Rattle.printed.proofs.station.Goals as goal

pub put_text-length-requires : goal.put_text-length-requires
put_text-length-requires c = text_room (told_asked c.answered.result)

pub slice_bounds-text-end : goal.slice_bounds-text-end
slice_bounds-text-end c =
    let within : c.put_text-length.result ≤ length c.put_text-length.new.out = (let wrote = c.put_text-length.ensures in
    omega (arith, wrote.place, (text_room (told_asked c.answered.result)).enough, wrote_length wrote)) in
    within

pub slice_bounds-put-end : goal.slice_bounds-put-end
slice_bounds-put-end c =
    let within : c.put_text-length.result ≤ length c.put_text-length.new.out = (let wrote = c.put_text-length.ensures in
    omega (arith, wrote.place, (text_room (told_asked c.answered.result)).enough, wrote_length wrote)) in
    sym (length-take-le _ _ within)

pub returns : goal.returns
returns c =
    let a = c.args in
    let is : take c.put_text-length.result c.put_text-length.new.out ≡ station_text a.input.now =
    front_written (text_room (told_asked c.answered.result)) c.put_text-length.ensures ∙ ap text_of c.answered.ensures in
    record { answer = c.put.ensures.answer ∙ ap (placed a.out.now 0) is; buffer = c.put.ensures.buffer ∙ ap (placing a.out.now 0) is }
