-- No call, as its contract defines it, is one of the wrong versions that 01 names. A call is looked at in one argument, and an input of it is taken
-- that the call accepts, and one that it refuses.
-- Assumes nothing.
use mathlib.Core.Path.{◌≡◌, refl, ap}
use mathlib.Core.Bool.{true}
use mathlib.Core.List.{[], ◌∷◌, ◌++◌}
use Prim.Native.Nat.{◌≤◌}
use native.Mathlib.Omega.{arith}
use lib.Dec.{leb}
use lib.ListN.{length, get_or, length-append}
use Rattle.std.specs.List.{list_all}
use Rattle.laws.specs.Told.{gives}
use Rattle.laws.specs.Every.{within}
use Rattle.laws.specs.Run.{run}
use Rattle.laws.specs.Placed.{placed_if, placing_if}
use Rattle.number.specs.Number.{largest, groups, written, number_at, read_groups}
use Rattle.sha256.specs.Sha256.{sha256, digest_of}
use Rattle.lms.specs.Lms.{longest_message, verified}
use Rattle.lms.proofs.Sizes.{hash_size}
use Rattle.lms.proofs.Theorems.{what_is_signed_verifies}
use Rattle.manifest.specs.Manifest.{checked as manifest_checked}
use Rattle.manifest.proofs.Theorems.{promised, what_is_signed_is_accepted}
use Rattle.genesis.specs.Genesis.{genesis_of, key_at}
use Rattle.block.specs.Block.{block_at, front_bytes, block_bytes}
use Rattle.block.specs.Blocks.{block_in, front_fits, slot_text}
use Rattle.walk.specs.Walk.{step_at}
use Rattle.chain.specs.Chain.{checked, judged, delivered_chain, held_chain, holding}
use Rattle.adopt.specs.Adopt.{accepted, choice, adopted, adopting}
use Rattle.pool.specs.Pool.{pool_of, added, dropped, taking}
use Rattle.pool.specs.Answers.{pool_or}
use Rattle.issue.specs.Issue.{front, draft_bytes, text_bytes, append_bytes, writing, written as issued}
use Rattle.report.specs.Report.{reported}
use Rattle.wrong.specs.Versions.{Rejected, TouchesNothing, given, refused_as, counts_of}
use Rattle.wrong.specs.Named.{zeros, genesis, signature, parts, first, seconds, held_seconds, verdicts, upgrade, no_pool, front_for}
use Rattle.wrong.proofs.Laws.{rejected, touched}
use Rattle.wrong.proofs.Opens.{opens}
use Rattle.wrong.proofs.Signature.{secrets, key, signature as signature_of, made}
use Rattle.wrong.proofs.Continued.{check_from, holding_from, accepted_from, front_from, reported_from}

-- ---- "one that refuses everything, one constant answer"
pub read_number : Rejected λ s. number_at s 0
unfolding number_at read_groups
read_number = rejected _ (0 ∷ []) [] refl refl

pub write_number : Rejected λ out. placed_if (leb 300 largest) 4 out 0 (written 300)
unfolding written groups
write_number = rejected _ (zeros 2) [] refl refl

pub read_genesis : Rejected genesis_of
unfolding genesis_of number_at read_groups
read_genesis = rejected _ genesis [] refl refl

pub find_key : Rejected λ controller. key_at genesis controller
unfolding genesis_of number_at read_groups
find_key = rejected _ 1 2 refl refl

pub slot_text_law : Rejected λ slot. placed_if (within 1 256 slot) 2 (zeros 6) 0 (slot_text slot)
unfolding written groups
slot_text_law = rejected _ 1 0 refl refl

pub read_block : Rejected λ s. block_at s 0
unfolding block_at number_at read_groups
read_block = rejected _ first [] refl refl

pub write_block : Rejected λ out. placed_if (front_fits (block_in parts).front) 5 out 0 (block_bytes parts)
unfolding front_bytes block_bytes written groups
write_block = rejected _ (zeros 162) [] refl refl

pub walk_step : Rejected λ chain. step_at chain 0
unfolding block_at number_at read_groups
walk_step = rejected _ first (0 ∷ []) refl refl

pub digest : Rejected digest_of
digest = rejected _ [] (zeros 65537) refl refl

pub verify : Rejected λ message. verified key (signature_of []) message
verify = rejected _ [] (zeros 257) (ap given (what_is_signed_verifies secrets key (signature_of []) [] (made [] (omega arith)))) refl

-- an image of no bytes, signed as release 0
pub check_manifest : Rejected λ manifest. manifest_checked ([]) manifest key 0
unfolding number_at read_groups written groups
check_manifest =
    let signed = promised [] 0 in
    let short : length signed ≤ longest_message = omega (arith, length-append (written 0) (sha256 []), hash_size []) in
    rejected _ (signed ++ signature_of signed) []
    (ap given (what_is_signed_is_accepted secrets [] key (signature_of signed) 0 (omega arith) (omega arith) (made signed short))) refl

pub check : Rejected λ chain. checked genesis 4 chain verdicts
unfolding delivered_chain run judged block_at number_at read_groups
check =
    rejected _ first (0 ∷ [])
    (ap (λ t. given (check_from first verdicts t)) (opens 4 refl))
    (ap (λ t. given (check_from (0 ∷ []) verdicts t)) (opens 4 refl))

pub hold : Rejected λ size. holding genesis 3 first size
unfolding held_chain run judged block_at number_at read_groups
hold = rejected _ 162 161 (ap (λ t. given (holding_from first 162 t)) (opens 3 refl)) (ap (λ t. given (holding_from first 161 t)) (opens 3 refl))

pub choose : Rejected λ chain. choice genesis 4 ([]) chain verdicts
unfolding accepted held_chain delivered_chain run judged block_at number_at read_groups
choose =
    rejected _ first []
    (ap (λ t. given (accepted_from [] 0 first verdicts t)) (opens 4 refl))
    (ap (λ t. given (accepted_from [] 0 [] verdicts t)) (opens 4 refl))

pub adopt : Rejected λ chain. adopted (accepted genesis 4 (zeros 162) 0 chain verdicts) (zeros 162) chain
unfolding accepted held_chain delivered_chain run judged block_at number_at read_groups
adopt =
    rejected _ first []
    (ap (λ t. given (adopted (accepted_from (zeros 162) 0 first verdicts t) (zeros 162) first)) (opens 4 refl))
    (ap (λ t. given (adopted (accepted_from (zeros 162) 0 [] verdicts t) (zeros 162) [])) (opens 4 refl))

pub drop : Rejected λ pool. dropped genesis 1 ([]) 0 pool
unfolding genesis_of number_at read_groups held_chain run
drop = rejected _ no_pool (record { count = 65; entries = no_pool.entries }) refl refl

pub add : Rejected λ order. added genesis 1 ([]) 0 no_pool order 0
unfolding genesis_of number_at read_groups held_chain run taking
add = rejected _ (upgrade 7 8) (upgrade 7 7) refl refl

pub draft : Rejected λ controller. writing draft_bytes (front_for controller []) (zeros 98) 0
unfolding front held_chain run taking front_bytes written groups
draft =
    rejected _ 1 2
    (ap (λ t. given (writing draft_bytes (front_from 1 t) (zeros 98) 0)) (opens 1 refl))
    (ap (λ t. given (writing draft_bytes (front_from 2 t) (zeros 98) 0)) (opens 1 refl))

pub block_text : Rejected λ controller. writing text_bytes (front_for controller []) (zeros 103) 0
unfolding front held_chain run taking front_bytes written groups
block_text =
    rejected _ 1 2
    (ap (λ t. given (writing text_bytes (front_from 1 t) (zeros 103) 0)) (opens 1 refl))
    (ap (λ t. given (writing text_bytes (front_from 2 t) (zeros 103) 0)) (opens 1 refl))

pub append : Rejected λ controller. writing (append_bytes signature) (front_for controller (zeros 162)) (zeros 162) 0
unfolding front held_chain run taking front_bytes written groups
append =
    rejected _ 1 2
    (ap (λ t. given (writing (append_bytes signature) (front_from 1 t) (zeros 162) 0)) (opens 1 refl))
    (ap (λ t. given (writing (append_bytes signature) (front_from 2 t) (zeros 162) 0)) (opens 1 refl))

pub report : Rejected λ size. reported genesis 3 first size
unfolding held_chain run judged block_at number_at read_groups
report = rejected _ 162 161 (ap (λ t. given (reported_from first 162 t)) (opens 3 refl)) (ap (λ t. given (reported_from first 161 t)) (opens 3 refl))

-- ---- "one that touches nothing"
pub writing_a_number_touches : TouchesNothing (λ out. placing_if (leb 300 largest) out 0 (written 300)) → ⊥
unfolding written groups
writing_a_number_touches = touched _ (λ b. get_or b 0 0) (zeros 2) 0 172 refl refl refl

pub the_slot_text_touches : TouchesNothing (λ out. placing_if (within 1 256 1) out 0 (slot_text 1)) → ⊥
unfolding written groups
the_slot_text_touches = touched _ (λ b. get_or b 0 0) (zeros 5) 0 115 refl refl refl

pub writing_a_block_touches : TouchesNothing (λ out. placing_if (front_fits (block_in parts).front) out 0 (block_bytes parts)) → ⊥
unfolding front_bytes block_bytes written groups
writing_a_block_touches = touched _ (λ b. get_or b 33 0) (zeros 162) 0 1 refl refl refl

pub adopting_touches : TouchesNothing (λ held. adopting (accepted genesis 4 held 0 first verdicts) held first) → ⊥
unfolding accepted held_chain delivered_chain run judged block_at number_at read_groups
adopting_touches =
    touched _ (λ b. get_or b 33 0) (zeros 162) 0 1 refl
    (ap (λ t. get_or (adopting (accepted_from (zeros 162) 0 first verdicts t) (zeros 162) first) 33 0) (opens 4 refl)) refl

pub dropping_touches : TouchesNothing (λ pool. pool_or pool (dropped genesis 1 ([]) 0 pool)) → ⊥
unfolding genesis_of number_at read_groups held_chain run
dropping_touches = touched _ (λ p. p.count) (pool_of (record { order = upgrade 6 8; slot = record { 0 = 1 }; depot = 0 } ∷ [])) 1 0 refl refl refl

pub adding_touches : TouchesNothing (λ pool. pool_or pool (added genesis 1 ([]) 0 pool (upgrade 7 8) 0)) → ⊥
unfolding genesis_of number_at read_groups held_chain run taking
adding_touches = touched _ (λ p. p.count) no_pool 0 1 refl refl refl

pub drafting_touches : TouchesNothing (λ out. issued draft_bytes (front_for 1 []) out 0) → ⊥
unfolding front held_chain run taking front_bytes written groups
drafting_touches =
    touched _ (λ b. get_or b 33 0) (zeros 98) 0 1 refl
    (ap (λ t. get_or (issued draft_bytes (front_from 1 t) (zeros 98) 0) 33 0) (opens 1 refl)) refl

pub the_block_text_touches : TouchesNothing (λ out. issued text_bytes (front_for 1 []) out 0) → ⊥
unfolding front held_chain run taking front_bytes written groups
the_block_text_touches =
    touched _ (λ b. get_or b 0 0) (zeros 103) 0 98 refl
    (ap (λ t. get_or (issued text_bytes (front_from 1 t) (zeros 103) 0) 0 0) (opens 1 refl)) refl

pub appending_touches : TouchesNothing (λ held. issued (append_bytes signature) (front_for 1 held) held 0) → ⊥
unfolding front held_chain run taking front_bytes written groups
appending_touches =
    touched _ (λ b. get_or b 33 0) (zeros 162) 0 1 refl
    (ap (λ t. get_or (issued (append_bytes signature) (front_from 1 t) (zeros 162) 0) 33 0) (opens 1 refl)) refl

-- ---- "one that checks the first block fully and nods the later ones through": whatever is wrong with the second block, 3 to 8. For every chain and
-- every refusal it is `the_first_bad_block_is_refused` of crate chain
pub the_second_block_is_judged_as_the_first_is :
    list_all (λ s. refused_as s.number 2 (checked genesis 4 (first ++ s.bytes) s.verdicts)) seconds ≡ true
unfolding delivered_chain run judged block_at number_at read_groups
the_second_block_is_judged_as_the_first_is =
    ap (λ t. list_all (λ s. refused_as s.number 2 (check_from (first ++ s.bytes) s.verdicts t)) seconds) (opens 4 refl)

-- of adoption and of the choice, which hang on this
pub the_second_block_to_adopt_is_judged_as_the_first_is :
    list_all (λ s. refused_as s.number 2 (accepted genesis 4 ([]) 0 (first ++ s.bytes) s.verdicts)) seconds ≡ true
unfolding accepted held_chain delivered_chain run judged block_at number_at read_groups
the_second_block_to_adopt_is_judged_as_the_first_is =
    ap (λ t. list_all (λ s. refused_as s.number 2 (accepted_from [] 0 (first ++ s.bytes) s.verdicts t)) seconds) (opens 4 refl)

-- of the held chain, with which every call on it begins
pub the_second_held_block_is_judged_as_the_first_is :
    list_all (λ b. refused_as 17 2 (holding genesis 4 (first ++ b) (length (first ++ b)))) held_seconds ≡ true
unfolding held_chain run judged block_at number_at read_groups
the_second_held_block_is_judged_as_the_first_is =
    ap (λ t. list_all (λ b. refused_as 17 2 (holding_from (first ++ b) (length (first ++ b)) t)) held_seconds) (opens 4 refl)

-- ---- "one that invents the held or settled count": the named block, stamped 1, is settled from slot 3 on
pub no_block_is_no_block : counts_of (reported genesis 3 first 0) ≡ gives (0, 0)
unfolding held_chain run judged block_at number_at read_groups
no_block_is_no_block = ap (λ t. counts_of (reported_from first 0 t)) (opens 3 refl)

pub one_held_is_not_settled : counts_of (reported genesis 2 first 162) ≡ gives (1, 0)
unfolding held_chain run judged block_at number_at read_groups
one_held_is_not_settled = ap (λ t. counts_of (reported_from first 162 t)) (opens 2 refl)

pub one_held_is_settled : counts_of (reported genesis 3 first 162) ≡ gives (1, 1)
unfolding held_chain run judged block_at number_at read_groups
one_held_is_settled = ap (λ t. counts_of (reported_from first 162 t)) (opens 3 refl)
