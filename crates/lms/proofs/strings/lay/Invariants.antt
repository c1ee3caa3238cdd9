-- `lms::strings::lay` meets its contract. The loop's invariant: the text begins with the parts so far.
-- Assumes nothing.
use Rattle.std.proofs.Common.{◌≡◌, List, ℕ, length, take}
use denote.Ref.{Bor}
use Rattle.laws.specs.Bytes.{joined}
use Rattle.lms.proofs.strings.lay.Given as goal

abbrev pub invariant-loop-part : goal.invariant-loop-part
invariant-loop-part l =
    (l.end ≡ length (joined (λ (part : Bor (List ℕ)). part.now) (take l.part-index l.parts)))
    × (take l.end l.text ≡ joined (λ (part : Bor (List ℕ)). part.now) (take l.part-index l.parts))
