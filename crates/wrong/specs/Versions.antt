-- 01, "How the contracts are judged": "Versions that the contracts must reject: one that refuses everything, one constant answer, and one that
-- touches nothing". A version of a call is looked at in one of its arguments, the others being named inputs: what it does wrong there, it does wrong.
-- Assumes nothing.
use Rattle.std.specs.Prelude.{ℕ, ◌≡◌, Bool, true, false, eqb}
use Rattle.laws.specs.Told.{Told, gives, refuses, then}
use Rattle.laws.specs.Every.{both}
use Rattle.report.specs.Report.{Report}

abbrev pub RefusesEverything : {I A : Type 0} → (I → Told A) → Type 0
RefusesEverything {I} call = (i : I) → (number : ℕ) × (place : ℕ) × (call i ≡ refuses number place)

abbrev pub OneAnswer : {I A : Type 0} → (I → Told A) → Type 0
OneAnswer {I} call = (i j : I) → call i ≡ call j

-- a lent buffer, or the pool, and what it is after the call
abbrev pub TouchesNothing : {B : Type 0} → (B → B) → Type 0
TouchesNothing {B} after = (b : B) → after b ≡ b

pub record Rejected {I A : Type 0} (call : I → Told A) : Type 0 where
  pub refuses_everything : RefusesEverything call → ⊥
  pub one_answer : OneAnswer call → ⊥

-- tests that compute
abbrev pub given : {A : Type 0} → Told A → Bool
given (gives a) = true
given (refuses number place) = false

abbrev pub refused_as : {A : Type 0} → ℕ → ℕ → Told A → Bool
refused_as number place (gives a) = false
refused_as number place (refuses n p) = both (eqb n number) (eqb p place)

-- "the held or settled count"
abbrev pub counts_of : Told Report → Told (ℕ × ℕ)
counts_of t = then t λ r. gives (r.held, r.settled)
