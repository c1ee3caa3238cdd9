-- What the head of a manifest tells, read with its digest left where it stands.
-- Assumes nothing.
use Rattle.std.specs.Prelude.{ℕ, ◌+◌, List, Result, Ok, Err}
use Rattle.laws.specs.Bytes.{part}
use Rattle.laws.specs.Told.{Told, refuses, Found, found}
use Rattle.refusal.specs.Answers.{number_of}
use Rattle.refusal.specs.declared.Refusal.{Refusal}
use Rattle.manifest.specs.Manifest.{Head}

abbrev pub head_in : List ℕ → (release at : ℕ) → Head
head_in s release at = record { release = release; digest = part s at 32 }

abbrev pub told_head : List ℕ → Result (ℕ × ℕ) Refusal → Told (Found Head)
told_head s (Ok h) = found (head_in s h.0 h.1) (h.1 + 32)
told_head s (Err refusal) = refuses (number_of refusal) 0
