-- What is told of an answer loses nothing.
-- Assumes nothing.
use mathlib.Core.Path.{◌≡◌, refl, ap}
use Prim.Native.Nat.{ℕ}
use lib.Dec.{eqb}
use Rattle.std.specs.Prelude.{Result, Ok, Err}
use Rattle.laws.specs.Pick.{pick}
use Rattle.laws.specs.Told.{Told, gives, refuses, Found}
use Rattle.laws.specs.Answers.{Faithful}
use Rattle.laws.proofs.Answers.{undone}
use Rattle.refusal.specs.Answers.{number_of, told, told_found}
use Rattle.refusal.specs.declared.Refusal.{Refusal}
use Rattle.refusal.specs.declared.Refusal.TheVariants.{BadGenesis, BadClock, Cut, BadNumber, OutOfRange, BadStamp, LateStamp, BadVerdict, BadLink, BadOrder, NotLonger, WrongController, PoolFull, BadOffer, ShortBuffer, TooLong, BadHeld, BadPool, DepotFull, BadForm, BadSignature, WrongImage, WrongRelease}

pub refusal_of : ℕ → Refusal
refusal_of n =
    pick (eqb n 1) BadGenesis (
    pick (eqb n 2) BadClock (
    pick (eqb n 3) Cut (
    pick (eqb n 4) BadNumber (
    pick (eqb n 5) OutOfRange (
    pick (eqb n 6) BadStamp (
    pick (eqb n 7) LateStamp (
    pick (eqb n 8) BadVerdict (
    pick (eqb n 9) BadLink (
    pick (eqb n 10) BadOrder (
    pick (eqb n 11) NotLonger (
    pick (eqb n 12) WrongController (
    pick (eqb n 13) PoolFull (
    pick (eqb n 14) BadOffer (
    pick (eqb n 15) ShortBuffer (
    pick (eqb n 16) TooLong (
    pick (eqb n 17) BadHeld (
    pick (eqb n 18) BadPool (
    pick (eqb n 20) DepotFull (
    pick (eqb n 23) BadForm (
    pick (eqb n 24) BadSignature (
    pick (eqb n 25) WrongImage (
    WrongRelease))))))))))))))))))))))

pub refusal_back : (r : Refusal) → refusal_of (number_of r) ≡ r
unfolding refusal_of
refusal_back BadGenesis = refl
refusal_back BadClock = refl
refusal_back Cut = refl
refusal_back BadNumber = refl
refusal_back OutOfRange = refl
refusal_back BadStamp = refl
refusal_back LateStamp = refl
refusal_back BadVerdict = refl
refusal_back BadLink = refl
refusal_back BadOrder = refl
refusal_back NotLonger = refl
refusal_back WrongController = refl
refusal_back PoolFull = refl
refusal_back BadOffer = refl
refusal_back ShortBuffer = refl
refusal_back TooLong = refl
refusal_back BadHeld = refl
refusal_back BadPool = refl
refusal_back DepotFull = refl
refusal_back BadForm = refl
refusal_back BadSignature = refl
refusal_back WrongImage = refl
refusal_back WrongRelease = refl

module _ {A : Type 0} where
  answer_of : Told A → Result A Refusal
  answer_of (gives a) = Ok a
  answer_of (refuses number place) = Err (refusal_of number)

  answer_back : (r : Result A Refusal) → answer_of (told r) ≡ r
  unfolding answer_of
  answer_back (Ok a) = refl
  answer_back (Err refusal) = ap Err (refusal_back refusal)

  pub told_faithful : Faithful (told {A = A})
  told_faithful = undone told answer_of answer_back

  reading_of : Told (Found A) → Result (A × ℕ) Refusal
  reading_of (gives f) = Ok (f.value, f.next)
  reading_of (refuses number place) = Err (refusal_of number)

  reading_back : (r : Result (A × ℕ) Refusal) → reading_of (told_found r) ≡ r
  unfolding reading_of
  reading_back (Ok f) = refl
  reading_back (Err refusal) = ap Err (refusal_back refusal)

  pub found_faithful : Faithful (told_found {A = A})
  found_faithful = undone told_found reading_of reading_back
