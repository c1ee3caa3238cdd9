-- An answer that gives nothing but its refusal, and what stands beside it.
-- Assumes nothing.
use Prim.Native.Nat.{ℕ}
use mathlib.Core.Path.{◌≡◌, refl, ap, ◌∙◌}
use Rattle.laws.specs.Told.{Told, gives, refuses, given_as, number_of}
use Rattle.order.specs.declared.BlockCount.{BlockCount}
use Rattle.pool.specs.Answers.{pool_or}
use Rattle.pool.specs.declared.Pool.{Pool}
use Rattle.ledger.specs.Answers.{block_place, pool_answer}
use Rattle.ledger.specs.declared.pools.PoolAnswer.{PoolAnswer}

module _ {A B : Type 0} (held : A → B) where
  number_as : (t : Told A) → number_of (given_as held t) ≡ number_of t
  number_as (gives a) = refl
  number_as (refuses number place) = refl

  place_as : (t : Told A) → block_place (given_as held t) ≡ block_place t
  place_as (gives a) = refl
  place_as (refuses number place) = refl

pub pool_crosses : (t : Told Pool) (before pool : Pool) (told : Told (Unit {0})) (refusal : ℕ) (place : BlockCount)
    → told ≡ given_as (λ _. tt) t → pool ≡ pool_or before t → refusal ≡ number_of told → place ≡ block_place told
    → ◌≡◌ {A = PoolAnswer} (record { refusal = refusal; place = place; pool = pool }) (pool_answer before t)
pool_crosses t before pool told refusal place answer later number at = λ i. record {
  refusal = (number ∙ ap number_of answer ∙ number_as (λ _. tt) t) i;
  place = (at ∙ ap block_place answer ∙ place_as (λ _. tt) t) i;
  pool = later i;
}
