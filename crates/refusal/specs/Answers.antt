-- A refusal's number, and what an answer tells: the value, or the refusal.
-- Assumes nothing.
use Rattle.std.specs.Prelude.{ℕ, Result, Ok, Err}
use Rattle.laws.specs.Told.{Told, gives, refuses, Found, found}
use Rattle.refusal.specs.declared.Refusal.{Refusal}
use Rattle.refusal.specs.declared.Refusal.TheVariants.{BadGenesis, BadClock, Cut, BadNumber, OutOfRange, BadStamp, LateStamp, BadVerdict, BadLink, BadOrder, NotLonger, WrongController, PoolFull, BadOffer, ShortBuffer, TooLong, BadHeld, BadPool, DepotFull, BadForm, BadSignature, WrongImage, WrongRelease}

-- 01, "Refusal numbers", and 02
abbrev pub number_of : Refusal → ℕ
number_of BadGenesis = 1
number_of BadClock = 2
number_of Cut = 3
number_of BadNumber = 4
number_of OutOfRange = 5
number_of BadStamp = 6
number_of LateStamp = 7
number_of BadVerdict = 8
number_of BadLink = 9
number_of BadOrder = 10
number_of NotLonger = 11
number_of WrongController = 12
number_of PoolFull = 13
number_of BadOffer = 14
number_of ShortBuffer = 15
number_of TooLong = 16
number_of BadHeld = 17
number_of BadPool = 18
number_of DepotFull = 20
number_of BadForm = 23
number_of BadSignature = 24
number_of WrongImage = 25
number_of WrongRelease = 26

-- an answer that refuses no block by its place
abbrev pub told : {A : Type 0} → Result A Refusal → Told A
told (Ok a) = gives a
told (Err refusal) = refuses (number_of refusal) 0

-- a value, and the place after it
abbrev pub told_found : {A : Type 0} → Result (A × ℕ) Refusal → Told (Found A)
told_found (Ok f) = found f.0 f.1
told_found (Err refusal) = refuses (number_of refusal) 0
