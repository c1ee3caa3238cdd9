-- What it is for a contract to leave no choice: two runs of a function on the same arguments that both meet it answer the same, and leave the same in
-- what was lent to be written. `post` is the function's whole contract, as the checker reads it off the code, so a weaker one would not do.
-- Assumes nothing.
use Rattle.std.specs.Prelude.{ℕ, ◌≡◌, List}
use borrow.Fn.Kinds.{ParamKind, ResultKind, Out, Dens, res_t, ended_of}
use contract.Lifetimes.{Lfts}
use denote.Triple.Clauses.{AtExit}

module _ (n : ℕ) (ps : List (ParamKind n)) (r : ResultKind n) (post : Out n ps r) where
  abbrev pub OneAnswer : Type 0
  OneAnswer =
      (κs : Lfts n) (a : Dens κs ps) (x y : (res_t r κs).Denot) (s t : AtExit (ended_of n ps r) κs) → post κs a x s → post κs a y t → x ≡ y

  -- `seen` reads what is lent as the answer
  abbrev pub OneSeen : {B : Type 0} → ((κs : Lfts n) → (res_t r κs).Denot → B) → Type 0
  OneSeen seen =
      (κs : Lfts n) (a : Dens κs ps) (x y : (res_t r κs).Denot) (s t : AtExit (ended_of n ps r) κs) → post κs a x s → post κs a y t
      → seen κs x ≡ seen κs y

  -- `later` reads what was lent, when the call has ended
  abbrev pub OneLater : {B : Type 0} → ((κs : Lfts n) → AtExit (ended_of n ps r) κs → B) → Type 0
  OneLater later =
      (κs : Lfts n) (a : Dens κs ps) (x y : (res_t r κs).Denot) (s t : AtExit (ended_of n ps r) κs) → post κs a x s → post κs a y t
      → later κs s ≡ later κs t
