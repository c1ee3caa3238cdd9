-- `lms::strings::lay` meets its contract. The loop's invariant: the text begins with the parts so far.
-- Assumes nothing.
use Rattle.std.proofs.Common.{◌≡◌, ℕ, ◌+◌, ◌<◌, ◌≤◌, List, [], ◌++◌, length, get_or, take, ap, ◌∙◌, add-one, arith, length-append, take_all}
use Rattle.std.proofs.lemmas.Slice.{take-put_mid}
use denote.Ref.{Bor}
use Rattle.laws.specs.Bytes.{joined}
use Rattle.laws.proofs.Taken.{joined_more, joined_less}
use Rattle.lms.proofs.strings.lay.Goals as goal

abbrev now : Bor (List ℕ) → List ℕ
now part = part.now

abbrev none : Bor (List ℕ)
none = record { ref_ptr = (0, 0); now = [] }

module _ (parts : List (Bor (List ℕ))) (i : ℕ) (inside : i < length parts) where
  grows : joined now (take (i + 1) parts) ≡ joined now (take i parts) ++ (get_or parts i none).now
  grows = rw add-one (joined_more now parts i none inside)

  fits : length (joined now (take i parts)) + length (get_or parts i none).now ≤ length (joined now parts)
  fits =
      let whole = ap (λ (l : List (Bor (List ℕ))). length (joined now l)) (take_all (length parts) parts (omega arith)) in
      omega (arith, ap length grows, length-append (joined now (take i parts)) (get_or parts i none).now, joined_less now parts (i + 1) (length parts) (omega arith))

pub slice_bounds-copy_from_slice-end : goal.slice_bounds-copy_from_slice-end
slice_bounds-copy_from_slice-end c = omega (arith, fits c.args.parts.now c.loop-part.part-index c.loop-part-test.true)

pub loop-part-preserved : goal.loop-part-preserved
loop-part-preserved c =
    let loop = c.loop-part in
    let parts = c.args.parts.now in
    let i = loop.part-index in
    let more = grows parts i c.loop-part-test.true in
    let room = fits parts i c.loop-part-test.true in (
      omega (arith, ap length more, length-append (joined now (take i parts)) (get_or parts i none).now),
      take-put_mid loop.end _ loop.text c.copy_from_slice.new.self _ (omega arith) (omega arith) ∙ rw (more, loop.invariant.1, c.copy_from_slice.ensures.after),
    )
