-- What is told of an answer, with a refusal's place, loses nothing.
-- Assumes nothing.
use mathlib.Core.Path.{◌≡◌, refl, ap}
use Rattle.std.specs.Prelude.{Result, Ok, Err}
use Rattle.laws.specs.Told.{Told, gives, refuses}
use Rattle.laws.specs.Answers.{Faithful}
use Rattle.laws.proofs.Answers.{undone}
use Rattle.refusal.proofs.Answers.{refusal_of, refusal_back}
use Rattle.chain.specs.Answers.{told}
use Rattle.chain.specs.declared.refused.Refused.{Refused}

module _ {A : Type 0} where
  answer_of : Told A → Result A Refused
  answer_of (gives a) = Ok a
  answer_of (refuses number place) = Err (record { refusal = refusal_of number; place = record { 0 = place } })

  answer_back : (r : Result A Refused) → answer_of (told r) ≡ r
  unfolding answer_of
  answer_back (Ok a) = refl
  answer_back (Err refused) = ap Err (λ i. record { refusal = refusal_back refused.refusal i; place = refused.place })

  pub told_faithful : Faithful (told {A = A})
  told_faithful = undone told answer_of answer_back
