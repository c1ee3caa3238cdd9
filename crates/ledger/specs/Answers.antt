-- What crosses to a host in the place of an answer: the refusal's number, 0 where there is none, its place, and the values, or what stands beside a
-- refusal: zeros, the pool as it came, the length that was held before, the place that a walk has reached.
-- Assumes nothing.
use Rattle.std.specs.Prelude.{ℕ, Bool, true, false, List}
use Rattle.laws.specs.Told.{Told, gives, refuses, Found, given_or, number_of, place_of}
use Rattle.sha256.specs.Sha256.{digest_of}
use Rattle.sha256.specs.Answer.{bytes_of}
use Rattle.order.specs.declared.BlockCount.{BlockCount}
use Rattle.genesis.specs.Genesis.{genesis_of}
use Rattle.genesis.specs.Answers.{table_of}
use Rattle.block.specs.Block.{Parts}
use Rattle.block.specs.Blocks.{block_of}
use Rattle.walk.specs.Walk.{Ahead, block, end, place_after, block_beside}
use Rattle.chain.specs.Answers.{end_or}
use Rattle.adopt.specs.Adopt.{chosen}
use Rattle.adopt.specs.Answers.{size_and_count_or}
use Rattle.pool.specs.Answers.{pool_or}
use Rattle.pool.specs.declared.Pool.{Pool}
use Rattle.report.specs.Report.{Report}
use Rattle.report.specs.Answers.{values_or}
use Rattle.ledger.specs.declared.numbers.NumberAnswer.{NumberAnswer}
use Rattle.ledger.specs.declared.numbers.WriteAnswer.{WriteAnswer}
use Rattle.ledger.specs.declared.numbers.DigestAnswer.{DigestAnswer}
use Rattle.ledger.specs.declared.tables.GenesisAnswer.{GenesisAnswer}
use Rattle.ledger.specs.declared.tables.KeyAnswer.{KeyAnswer}
use Rattle.ledger.specs.declared.blocks.BlockAnswer.{BlockAnswer}
use Rattle.ledger.specs.declared.blocks.StepAnswer.{StepAnswer}
use Rattle.ledger.specs.declared.chains.CheckAnswer.{CheckAnswer}
use Rattle.ledger.specs.declared.chains.ChooseAnswer.{ChooseAnswer}
use Rattle.ledger.specs.declared.chains.AdoptAnswer.{AdoptAnswer}
use Rattle.ledger.specs.declared.chains.ReportAnswer.{ReportAnswer}
use Rattle.ledger.specs.declared.manifests.ManifestAnswer.{ManifestAnswer}
use Rattle.ledger.specs.declared.pools.PoolAnswer.{PoolAnswer}
use Rattle.ledger.specs.declared.pools.IssueAnswer.{IssueAnswer}

-- ---- what was told, as the exports answer it
abbrev pub block_place : {A : Type 0} → Told A → BlockCount
block_place t = record { 0 = place_of t }

-- a value found at a place of a slice, and the place after it
abbrev pub value_or0 : Told (Found ℕ) → ℕ
value_or0 (gives f) = f.value
value_or0 (refuses number place) = 0

abbrev pub next_or0 : {A : Type 0} → Told (Found A) → ℕ
next_or0 (gives f) = f.next
next_or0 (refuses number place) = 0

abbrev pub number_answer : Told (Found ℕ) → NumberAnswer
number_answer t = record { refusal = number_of t; place = block_place t; value = value_or0 t; next = next_or0 t }

abbrev pub write_answer : Told ℕ → WriteAnswer
write_answer t = record { refusal = number_of t; place = block_place t; next = given_or 0 t }

abbrev pub digest_answer : List ℕ → DigestAnswer
digest_answer message = record { refusal = number_of (digest_of message); place = block_place (digest_of message); digest = bytes_of message }

abbrev pub genesis_answer : List ℕ → GenesisAnswer
genesis_answer bytes = record { refusal = number_of (genesis_of bytes); place = block_place (genesis_of bytes); table = table_of bytes }

abbrev pub key_answer : Told ℕ → KeyAnswer
key_answer t = record { refusal = number_of t; place = block_place t; at = given_or 0 t }

abbrev pub block_answer : Told (Found Parts) → BlockAnswer
block_answer t = record { refusal = number_of t; place = block_place t; next = next_or0 t; block = block_of t }

-- whether a walk has come to the end
abbrev pub is_end : Told Ahead → Bool
is_end (gives (block b)) = false
is_end (gives end) = true
is_end (refuses number place) = false

abbrev pub step_answer : (at : ℕ) → Told Ahead → StepAnswer
step_answer at t = record { refusal = number_of t; place = block_place t; end = is_end t; next = place_after at t; block = block_beside t }

abbrev pub check_answer : Told (ℕ × List ℕ) → CheckAnswer
check_answer t = record { refusal = number_of t; place = block_place t; count = record { 0 = (end_or t).0 }; releases = (end_or t).1 }

abbrev pub choose_answer : Told ℕ → ChooseAnswer
choose_answer t = record { refusal = number_of t; place = block_place t; delivered = chosen t false true }

abbrev pub adopt_answer : (before : ℕ) → Told (ℕ × ℕ) → AdoptAnswer
adopt_answer before t = record {
  refusal = number_of t;
  place = block_place t;
  length = (size_and_count_or before t).0;
  count = record { 0 = (size_and_count_or before t).1 };
}

abbrev pub report_answer : Told Report → ReportAnswer
report_answer t = record {
  refusal = number_of t;
  place = block_place t;
  held = record { 0 = (values_or t).held };
  settled = record { 0 = (values_or t).settled };
  settled_length = (values_or t).length;
  releases = (values_or t).releases;
}

abbrev pub pool_answer : (before : Pool) → Told Pool → PoolAnswer
pool_answer before t = record { refusal = number_of t; place = block_place t; pool = pool_or before t }

abbrev pub issue_answer : (before : ℕ) → Told ℕ → IssueAnswer
issue_answer before t = record { refusal = number_of t; place = block_place t; length = given_or before t }

abbrev pub manifest_answer : Told (Unit {0}) → ManifestAnswer
manifest_answer t = record { refusal = number_of t; place = block_place t }
