-- What the answers of this crate's private functions tell.
-- Assumes nothing.
use Rattle.std.specs.Prelude.{ℕ, List, Result, Ok, Err}
use Rattle.std.specs.Borrow.{Bor}
use Rattle.laws.specs.Told.{Told, gives, refuses, Found, found}
use Rattle.refusal.specs.Answers.{number_of}
use Rattle.refusal.specs.declared.Refusal.{Refusal}
use Rattle.chain.specs.declared.refused.Refused.{Refused}
use Rattle.report.specs.Report.{Report}
use Rattle.report.specs.declared.Reported.{Reported}
use Rattle.printed.specs.declared.Asked.{Asked}

-- a part of the input, and the place after it
abbrev pub told_genesis : Result (Bor (List ℕ) × ℕ) Refusal → Told (Found (List ℕ))
told_genesis (Ok f) = found f.0.now f.1
told_genesis (Err refusal) = refuses (number_of refusal) 0

abbrev pub values_of : Reported → Report
values_of r = record { held = r.held.0; settled = r.settled.0; length = r.length; releases = r.releases }

abbrev pub told_asked : Result Asked Refused → Told (ℕ × Report)
told_asked (Ok a) = gives (a.clock.0, values_of a.report)
told_asked (Err refused) = refuses (number_of refused.refusal) refused.place.0
