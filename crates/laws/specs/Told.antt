-- How an answer is told: what it gives, or 01's refusal number and place.
-- Assumes nothing.
use Rattle.std.specs.Prelude.{ℕ, Bool}
use Rattle.laws.specs.Pick.{pick}

pub data Told (A : Type 0) : Type 0 where
  gives : A → Told A
  refuses : (number place : ℕ) → Told A

-- what was read at a place, and the next place
pub record Found (A : Type 0) : Type 0 where
  pub value : A
  pub next : ℕ

abbrev pub found : {A : Type 0} → A → ℕ → Told (Found A)
found value next = gives (record { value = value; next = next })

-- goes on with what an answer gives; a refusal stays
abbrev pub then : {A B : Type 0} → Told A → (A → Told B) → Told B
then (gives a) go = go a
then (refuses number place) go = refuses number place

-- what is given, and what was found, as the code holds it
abbrev pub given_as : {A B : Type 0} → (A → B) → Told A → Told B
given_as held t = then t λ a. gives (held a)

abbrev pub found_as : {A B : Type 0} → (A → B) → Told (Found A) → Told (Found B)
found_as held t = then t λ r. found (held r.value) r.next

-- goes on where a test holds, else refuses
abbrev pub unless : {A : Type 0} → Bool → ℕ → ℕ → Told A → Told A
unless fine number place go = pick fine go (refuses number place)

-- what an answer gives, or what stands beside a refusal
abbrev pub given_or : {A : Type 0} → A → Told A → A
given_or beside (gives a) = a
given_or beside (refuses number place) = beside

-- the refusal's number, 0 where there is none, and its place
abbrev pub number_of : {A : Type 0} → Told A → ℕ
number_of (gives a) = 0
number_of (refuses number place) = number

abbrev pub place_of : {A : Type 0} → Told A → ℕ
place_of (gives a) = 0
place_of (refuses number place) = place
