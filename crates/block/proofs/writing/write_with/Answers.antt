-- `block::writing::write_with` meets its contract.
-- Assumes nothing.
use mathlib.Core.Path.{sym, ◌∙◌}
use mathlib.Core.List.{◌++◌}
use Rattle.laws.proofs.Placed.{judged_short, judged_wrote, enough_room, too_little, room_first, room_then, wrote_then}
use Rattle.block.specs.Blocks.{front_fits, front_of}
use Rattle.block.proofs.writing.write_with.Goals as goal

pub returns-then-not-fits : goal.returns-then-not-fits
returns-then-not-fits g c =
    let f = c.args.front.now in
    let bytes = front_of f ++ c.args.behind.now in
    let done = judged_short (front_fits f) 5 c.args.out.now c.args.at bytes (sym c.in_range.ensures ∙ c.if-not-in_range.false)
    (too_little c.args.out.now c.args.at _ bytes c.length_with.ensures (sym c.fits.ensures ∙ c.if-not-fits.true)) in
    record { answer = done.0; buffer = done.1 }

pub put_front-end-requires : goal.put_front-end-requires
put_front-end-requires g c =
    let f = c.args.front.now in
    let room = enough_room c.args.out.now c.args.at _ (front_of f ++ c.args.behind.now) c.length_with.ensures (sym c.fits.ensures ∙ c.if-not-fits.false) in
    (sym c.in_range.ensures ∙ c.if-not-in_range.false, room_first (front_of f) c.args.behind.now room)

pub put_bytes-requires : goal.put_bytes-requires
put_bytes-requires g c =
    let f = c.args.front.now in
    let room = enough_room c.args.out.now c.args.at _ (front_of f ++ c.args.behind.now) c.length_with.ensures (sym c.fits.ensures ∙ c.if-not-fits.false) in
    room_then (front_of f) c.args.behind.now c.put_front-end.ensures room

pub returns : goal.returns
returns g c =
    let f = c.args.front.now in
    let bytes = front_of f ++ c.args.behind.now in
    let room = enough_room c.args.out.now c.args.at _ bytes c.length_with.ensures (sym c.fits.ensures ∙ c.if-not-fits.false) in
    let done = judged_wrote (front_fits f) 5 c.args.out.now c.args.at bytes _ _ (sym c.in_range.ensures ∙ c.if-not-in_range.false) room
    (wrote_then (front_of f) c.args.behind.now c.put_front-end.ensures c.put_bytes.ensures) in
    record { answer = done.0; buffer = done.1 }
