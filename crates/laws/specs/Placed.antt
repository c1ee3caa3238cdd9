-- Bytes written at a place of a lent buffer: the next place, or 15 where they do not fit, and what the buffer then holds.
-- Assumes nothing.
use Rattle.std.specs.Prelude.{ℕ, ◌+◌, ◌≤◌, ◌≡◌, Bool, List, leb, length}
use Rattle.std.proofs.lemmas.List.Edits.{sets}
use Rattle.laws.specs.Pick.{pick}
use Rattle.laws.specs.Told.{Told, gives, unless}

abbrev pub fits : List ℕ → ℕ → List ℕ → Bool
fits out at bytes = leb (at + length bytes) (length out)

abbrev pub placed : List ℕ → ℕ → List ℕ → Told ℕ
placed out at bytes = unless (fits out at bytes) 15 0 (gives (at + length bytes))

-- "bytes past what a call writes stay", and on a refusal all of them
abbrev pub placing : List ℕ → ℕ → List ℕ → List ℕ
placing out at bytes = pick (fits out at bytes) (sets out at bytes) out

-- values that are judged before they are written
abbrev pub placed_if : Bool → ℕ → List ℕ → ℕ → List ℕ → Told ℕ
placed_if fine number out at bytes = unless fine number 0 (placed out at bytes)

abbrev pub placing_if : Bool → List ℕ → ℕ → List ℕ → List ℕ
placing_if fine out at bytes = pick fine (placing out at bytes) out

-- a piece that is written where there is room for it
pub record Room (out : List ℕ) (at : ℕ) (bytes : List ℕ) : Type 0 where
  pub enough : at + length bytes ≤ length out

pub record Wrote (out : List ℕ) (at : ℕ) (bytes : List ℕ) (next : ℕ) (later : List ℕ) : Type 0 where
  pub place : next ≡ at + length bytes
  pub buffer : later ≡ sets out at bytes
