-- What the answers of calls on a chain tell.
-- Assumes nothing.
use Rattle.std.specs.Prelude.{ℕ, List, replicate, Result, Ok, Err}
use Rattle.laws.specs.Told.{Told, gives, refuses, given_or}
use Rattle.refusal.specs.Answers.{number_of}
use Rattle.chain.specs.Chain as chain
use Rattle.chain.specs.declared.Way.{Way}
use Rattle.chain.specs.declared.Way.TheVariants.{Delivered, Held}
use Rattle.chain.specs.declared.Checked.{Checked}
use Rattle.chain.specs.declared.refused.Refused.{Refused}

abbrev pub way_of : Way → chain.Way
way_of (Delivered verdicts) = chain.delivered verdicts.now
way_of Held = chain.held

abbrev pub told : {A : Type 0} → Result A Refused → Told A
told (Ok a) = gives a
told (Err refused) = refuses (number_of refused.refusal) refused.place.0

-- the end of a checked chain, as the code holds it
abbrev pub end_held : ℕ × List ℕ → Checked
end_held e = record { count = record { 0 = e.0 }; releases = e.1 }

-- a host is given zeros beside a refusal
abbrev pub no_end : ℕ × List ℕ
no_end = (0, replicate 64 0)

abbrev pub end_or : Told (ℕ × List ℕ) → ℕ × List ℕ
end_or t = given_or no_end t
