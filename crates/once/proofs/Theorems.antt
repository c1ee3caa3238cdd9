-- No second answer: of each public function, two runs on the same arguments that both meet its contract answer the same, and leave the same in what was
-- lent to be written. `Post` is the function's contract, read off the code: these would not hold of a weaker one.
-- Assumes nothing.
use mathlib.Core.Path.{sym, ◌∙◌}
use Rattle.laws.specs.NoChoice.{OneAnswer, OneSeen, OneLater}
use Rattle.refusal.proofs.Answers.{told_faithful, found_faithful}
use Rattle.chain.proofs.Answers.{told_faithful as placed_faithful}
use Rattle.adopt.proofs.adopt.Kinds as adopt-kinds
use Rattle.adopt.proofs.adopt.Reads as adopt
use Rattle.adopt.proofs.choose.Kinds as adopt-choose-kinds
use Rattle.adopt.proofs.choose.Reads as adopt-choose
use Rattle.adopt.proofs.judge.Kinds as adopt-judge-kinds
use Rattle.adopt.proofs.judge.Reads as adopt-judge
use Rattle.block.proofs.Orders.as_slice.Kinds as block-as-slice-kinds
use Rattle.block.proofs.Orders.as_slice.Reads as block-as-slice
use Rattle.block.proofs.length.Kinds as block-length-kinds
use Rattle.block.proofs.length.Reads as block-length
use Rattle.block.proofs.none.Kinds as block-no-block-kinds
use Rattle.block.proofs.none.Reads as block-no-block
use Rattle.block.proofs.read.Kinds as block-read-block-kinds
use Rattle.block.proofs.read.Reads as block-read-block
use Rattle.block.proofs.read_body.Kinds as block-read-body-kinds
use Rattle.block.proofs.read_body.Reads as block-read-body
use Rattle.block.proofs.slot_text.Kinds as block-slot-text-kinds
use Rattle.block.proofs.slot_text.Reads as block-slot-text
use Rattle.block.proofs.write.Kinds as block-write-block-kinds
use Rattle.block.proofs.write.Reads as block-write-block
use Rattle.block.proofs.write_front.Kinds as block-write-front-kinds
use Rattle.block.proofs.write_front.Reads as block-write-front
use Rattle.buffer.proofs.fits.Kinds as buffer-fits-kinds
use Rattle.buffer.proofs.fits.Reads as buffer-fits
use Rattle.buffer.proofs.put.Kinds as buffer-put-kinds
use Rattle.buffer.proofs.put.Reads as buffer-put
use Rattle.chain.proofs.check.Kinds as chain-check-kinds
use Rattle.chain.proofs.check.Reads as chain-check
use Rattle.chain.proofs.delivered.Kinds as chain-delivered-kinds
use Rattle.chain.proofs.delivered.Reads as chain-delivered
use Rattle.chain.proofs.held.Kinds as chain-held-kinds
use Rattle.chain.proofs.held.Reads as chain-held
use Rattle.chain.proofs.hold.Kinds as chain-hold-kinds
use Rattle.chain.proofs.hold.Reads as chain-hold
use Rattle.chain.proofs.open.Kinds as chain-open-kinds
use Rattle.chain.proofs.open.Reads as chain-open
use Rattle.genesis.proofs.clock_fits.Kinds as genesis-clock-fits-kinds
use Rattle.genesis.proofs.clock_fits.Reads as genesis-clock-fits
use Rattle.genesis.proofs.depth.Kinds as genesis-depth-kinds
use Rattle.genesis.proofs.depth.Reads as genesis-depth
use Rattle.genesis.proofs.find_key.Kinds as genesis-find-key-kinds
use Rattle.genesis.proofs.find_key.Reads as genesis-find-key
use Rattle.genesis.proofs.none.Kinds as genesis-no-table-kinds
use Rattle.genesis.proofs.none.Reads as genesis-no-table
use Rattle.genesis.proofs.read.Kinds as genesis-read-genesis-kinds
use Rattle.genesis.proofs.read.Reads as genesis-read-genesis
use Rattle.genesis.proofs.turn.Kinds as genesis-turn-kinds
use Rattle.genesis.proofs.turn.Reads as genesis-turn
use Rattle.issue.proofs.append.Kinds as issue-append-kinds
use Rattle.issue.proofs.append.Reads as issue-append
use Rattle.issue.proofs.block_text.Kinds as issue-block-text-kinds
use Rattle.issue.proofs.block_text.Reads as issue-block-text
use Rattle.issue.proofs.draft.Kinds as issue-draft-kinds
use Rattle.issue.proofs.draft.Reads as issue-draft
use Rattle.ledger.proofs.ledger_adopt.Kinds as ledger-adopt-kinds
use Rattle.ledger.proofs.ledger_adopt.Reads as ledger-adopt
use Rattle.ledger.proofs.ledger_append.Kinds as ledger-append-kinds
use Rattle.ledger.proofs.ledger_append.Reads as ledger-append
use Rattle.ledger.proofs.ledger_block_text.Kinds as ledger-block-text-kinds
use Rattle.ledger.proofs.ledger_block_text.Reads as ledger-block-text
use Rattle.ledger.proofs.ledger_check.Kinds as ledger-check-kinds
use Rattle.ledger.proofs.ledger_check.Reads as ledger-check
use Rattle.ledger.proofs.ledger_check_manifest.Kinds as ledger-check-manifest-kinds
use Rattle.ledger.proofs.ledger_check_manifest.Reads as ledger-check-manifest
use Rattle.ledger.proofs.ledger_choose.Kinds as ledger-choose-kinds
use Rattle.ledger.proofs.ledger_choose.Reads as ledger-choose
use Rattle.ledger.proofs.ledger_depth.Kinds as ledger-depth-kinds
use Rattle.ledger.proofs.ledger_depth.Reads as ledger-depth
use Rattle.ledger.proofs.ledger_digest.Kinds as ledger-digest-kinds
use Rattle.ledger.proofs.ledger_digest.Reads as ledger-digest
use Rattle.ledger.proofs.ledger_draft.Kinds as ledger-draft-kinds
use Rattle.ledger.proofs.ledger_draft.Reads as ledger-draft
use Rattle.ledger.proofs.ledger_find_key.Kinds as ledger-find-key-kinds
use Rattle.ledger.proofs.ledger_find_key.Reads as ledger-find-key
use Rattle.ledger.proofs.ledger_drop_entries.Kinds as ledger-drop-entries-kinds
use Rattle.ledger.proofs.ledger_drop_entries.Reads as ledger-drop-entries
use Rattle.ledger.proofs.ledger_add_order.Kinds as ledger-add-order-kinds
use Rattle.ledger.proofs.ledger_add_order.Reads as ledger-add-order
use Rattle.ledger.proofs.ledger_read_block.Kinds as ledger-read-block-kinds
use Rattle.ledger.proofs.ledger_read_block.Reads as ledger-read-block
use Rattle.ledger.proofs.ledger_read_genesis.Kinds as ledger-read-genesis-kinds
use Rattle.ledger.proofs.ledger_read_genesis.Reads as ledger-read-genesis
use Rattle.ledger.proofs.ledger_read_number.Kinds as ledger-read-number-kinds
use Rattle.ledger.proofs.ledger_read_number.Reads as ledger-read-number
use Rattle.ledger.proofs.ledger_report.Kinds as ledger-report-kinds
use Rattle.ledger.proofs.ledger_report.Reads as ledger-report
use Rattle.ledger.proofs.ledger_slot_text.Kinds as ledger-slot-text-kinds
use Rattle.ledger.proofs.ledger_slot_text.Reads as ledger-slot-text
use Rattle.ledger.proofs.ledger_turn.Kinds as ledger-turn-kinds
use Rattle.ledger.proofs.ledger_turn.Reads as ledger-turn
use Rattle.ledger.proofs.ledger_walk_step.Kinds as ledger-walk-step-kinds
use Rattle.ledger.proofs.ledger_walk_step.Reads as ledger-walk-step
use Rattle.ledger.proofs.ledger_write_block.Kinds as ledger-write-block-kinds
use Rattle.ledger.proofs.ledger_write_block.Reads as ledger-write-block
use Rattle.ledger.proofs.ledger_write_number.Kinds as ledger-write-number-kinds
use Rattle.ledger.proofs.ledger_write_number.Reads as ledger-write-number
use Rattle.lms.proofs.verify.Kinds as lms-verify-kinds
use Rattle.lms.proofs.verify.Reads as lms-verify
use Rattle.manifest.proofs.check.Kinds as manifest-check-kinds
use Rattle.manifest.proofs.check.Reads as manifest-check
use Rattle.number.proofs.length.Kinds as number-length-kinds
use Rattle.number.proofs.length.Reads as number-length
use Rattle.number.proofs.read.Kinds as number-read-number-kinds
use Rattle.number.proofs.read.Reads as number-read-number
use Rattle.order.proofs.in_range.Kinds as order-in-range-kinds
use Rattle.order.proofs.in_range.Reads as order-in-range
use Rattle.order.proofs.in_run.Kinds as order-in-run-kinds
use Rattle.order.proofs.in_run.Reads as order-in-run
use Rattle.order.proofs.slots_before.Kinds as order-slots-before-kinds
use Rattle.order.proofs.slots_before.Reads as order-slots-before
use Rattle.order.proofs.within.Kinds as order-within-kinds
use Rattle.order.proofs.within.Reads as order-within
use Rattle.number.proofs.write.Kinds as number-write-number-kinds
use Rattle.number.proofs.write.Reads as number-write-number
use Rattle.order.proofs.earlier.Kinds as order-earlier-kinds
use Rattle.order.proofs.earlier.Reads as order-earlier
use Rattle.order.proofs.more.Kinds as order-more-kinds
use Rattle.order.proofs.more.Reads as order-more
use Rattle.order.proofs.more_slots_ago.Kinds as order-more-slots-ago-kinds
use Rattle.order.proofs.more_slots_ago.Reads as order-more-slots-ago
use Rattle.order.proofs.take.Kinds as order-take-an-order-kinds
use Rattle.order.proofs.take.Reads as order-take-an-order
use Rattle.order.proofs.valid.Kinds as order-valid-kinds
use Rattle.order.proofs.valid.Reads as order-valid
use Rattle.pool.proofs.counting.Kinds as pool-counting-kinds
use Rattle.pool.proofs.counting.Reads as pool-counting
use Rattle.pool.proofs.fits.Kinds as pool-fits-kinds
use Rattle.pool.proofs.fits.Reads as pool-fits
use Rattle.pool.proofs.drop.Kinds as pool-drop-kinds
use Rattle.pool.proofs.drop.Reads as pool-drop
use Rattle.pool.proofs.add.Kinds as pool-add-kinds
use Rattle.pool.proofs.add.Reads as pool-add
use Rattle.pool.proofs.take.Kinds as pool-take-kinds
use Rattle.pool.proofs.take.Reads as pool-take
use Rattle.printed.proofs.station.Kinds as printed-station-kinds
use Rattle.printed.proofs.station.Reads as printed-station
use Rattle.refusal.proofs.Refusal.number.Kinds as refusal-number-kinds
use Rattle.refusal.proofs.Refusal.number.Reads as refusal-number
use Rattle.report.proofs.report.Kinds as report-kinds
use Rattle.report.proofs.report.Reads as report
use Rattle.sha256.proofs.digest.Kinds as sha256-digest-kinds
use Rattle.sha256.proofs.digest.Reads as sha256-digest
use Rattle.sha256.proofs.stands_at.Kinds as sha256-stands-at-kinds
use Rattle.sha256.proofs.stands_at.Reads as sha256-stands-at
use Rattle.walk.proofs.place_after.Kinds as walk-place-after-kinds
use Rattle.walk.proofs.place_after.Reads as walk-place-after
use Rattle.walk.proofs.step.Kinds as walk-step-kinds
use Rattle.walk.proofs.step.Reads as walk-step
use Rattle.walk.proofs.Walk.next.Kinds as walk-next-kinds
use Rattle.walk.proofs.Walk.next.Reads as walk-next
use Rattle.walk.proofs.walked.Kinds as walked-kinds
use Rattle.walk.proofs.walked.Reads as walked
use Rattle.walk.proofs.walked_on.Kinds as walked-on-kinds
use Rattle.walk.proofs.walked_on.Reads as walked-on
use Rattle.once.proofs.Pairs.{paired}

-- ---- refusal
pub refusal_number_answers_once : OneAnswer 0 refusal-number-kinds.ps refusal-number-kinds.r refusal-number.Post
refusal_number_answers_once κs a x y s t p q = p ∙ sym q

-- ---- buffer
pub fits_answers_once : OneAnswer 0 buffer-fits-kinds.ps buffer-fits-kinds.r buffer-fits.Post
fits_answers_once κs a x y s t p q = p ∙ sym q

pub put_answers_once : OneAnswer 2 buffer-put-kinds.ps buffer-put-kinds.r buffer-put.Post
put_answers_once κs a x y s t p q = told_faithful x y (p.0 ∙ sym q.0)

pub put_leaves_its_buffer_once : OneLater 2 buffer-put-kinds.ps buffer-put-kinds.r buffer-put.Post (λ κs s. s.0.now)
put_leaves_its_buffer_once κs a x y s t p q = p.1 ∙ sym q.1

-- ---- number
pub read_number_answers_once : OneAnswer 1 number-read-number-kinds.ps number-read-number-kinds.r number-read-number.Post
read_number_answers_once κs a x y s t p q = found_faithful x y (p ∙ sym q)

pub number_length_answers_once : OneAnswer 0 number-length-kinds.ps number-length-kinds.r number-length.Post
number_length_answers_once κs a x y s t p q = p ∙ sym q

pub write_number_answers_once : OneAnswer 1 number-write-number-kinds.ps number-write-number-kinds.r number-write-number.Post
write_number_answers_once κs a x y s t p q = told_faithful x y (p.0 ∙ sym q.0)

pub write_number_leaves_its_buffer_once : OneLater 1 number-write-number-kinds.ps number-write-number-kinds.r number-write-number.Post (λ κs s. s.0.now)
write_number_leaves_its_buffer_once κs a x y s t p q = p.1 ∙ sym q.1

-- ---- sha256
pub digest_answers_once : OneAnswer 1 sha256-digest-kinds.ps sha256-digest-kinds.r sha256-digest.Post
digest_answers_once κs a x y s t p q = told_faithful x y (p ∙ sym q)

pub stands_at_answers_once : OneAnswer 1 sha256-stands-at-kinds.ps sha256-stands-at-kinds.r sha256-stands-at.Post
stands_at_answers_once κs a x y s t p q = p ∙ sym q

-- ---- lms
pub verify_answers_once : OneAnswer 3 lms-verify-kinds.ps lms-verify-kinds.r lms-verify.Post
verify_answers_once κs a x y s t p q = told_faithful x y (p ∙ sym q)

-- ---- manifest
pub check_manifest_answers_once : OneAnswer 3 manifest-check-kinds.ps manifest-check-kinds.r manifest-check.Post
check_manifest_answers_once κs a x y s t p q = told_faithful x y (p ∙ sym q)

-- ---- order
pub more_answers_once : OneAnswer 0 order-more-kinds.ps order-more-kinds.r order-more.Post
more_answers_once κs a x y s t p q = p ∙ sym q

pub within_answers_once : OneAnswer 0 order-within-kinds.ps order-within-kinds.r order-within.Post
within_answers_once κs a x y s t p q = p ∙ sym q

pub in_run_answers_once : OneAnswer 0 order-in-run-kinds.ps order-in-run-kinds.r order-in-run.Post
in_run_answers_once κs a x y s t p q = p ∙ sym q

pub order_in_range_answers_once : OneAnswer 0 order-in-range-kinds.ps order-in-range-kinds.r order-in-range.Post
order_in_range_answers_once κs a x y s t p q = p ∙ sym q

pub slots_before_answers_once : OneAnswer 0 order-slots-before-kinds.ps order-slots-before-kinds.r order-slots-before.Post
slots_before_answers_once κs a x y s t p q = p ∙ sym q

pub earlier_answers_once : OneAnswer 0 order-earlier-kinds.ps order-earlier-kinds.r order-earlier.Post
earlier_answers_once κs a x y s t p q = p ∙ sym q

pub more_slots_ago_answers_once : OneAnswer 0 order-more-slots-ago-kinds.ps order-more-slots-ago-kinds.r order-more-slots-ago.Post
more_slots_ago_answers_once κs a x y s t p q = p ∙ sym q

pub valid_answers_once : OneAnswer 1 order-valid-kinds.ps order-valid-kinds.r order-valid.Post
valid_answers_once κs a x y s t p q = p ∙ sym q

pub take_an_order_answers_once : OneAnswer 1 order-take-an-order-kinds.ps order-take-an-order-kinds.r order-take-an-order.Post
take_an_order_answers_once κs a x y s t p q = p.0 ∙ sym q.0

pub take_an_order_leaves_its_releases_once : OneLater 1 order-take-an-order-kinds.ps order-take-an-order-kinds.r order-take-an-order.Post (λ κs s. s.0.now)
take_an_order_leaves_its_releases_once κs a x y s t p q = p.1 ∙ sym q.1

-- ---- genesis
pub read_genesis_answers_once : OneAnswer 1 genesis-read-genesis-kinds.ps genesis-read-genesis-kinds.r genesis-read-genesis.Post
read_genesis_answers_once κs a x y s t p q = told_faithful x y (p ∙ sym q)

pub no_table_answers_once : OneAnswer 0 genesis-no-table-kinds.ps genesis-no-table-kinds.r genesis-no-table.Post
no_table_answers_once κs a x y s t p q = p ∙ sym q

pub turn_answers_once : OneAnswer 0 genesis-turn-kinds.ps genesis-turn-kinds.r genesis-turn.Post
turn_answers_once κs a x y s t p q = p ∙ sym q

pub clock_fits_answers_once : OneAnswer 0 genesis-clock-fits-kinds.ps genesis-clock-fits-kinds.r genesis-clock-fits.Post
clock_fits_answers_once κs a x y s t p q = p ∙ sym q

pub depth_answers_once : OneAnswer 0 genesis-depth-kinds.ps genesis-depth-kinds.r genesis-depth.Post
depth_answers_once κs a x y s t p q = p ∙ sym q

pub find_key_answers_once : OneAnswer 1 genesis-find-key-kinds.ps genesis-find-key-kinds.r genesis-find-key.Post
find_key_answers_once κs a x y s t p q = told_faithful x y (p ∙ sym q)

-- ---- block
pub read_block_answers_once : OneAnswer 1 block-read-block-kinds.ps block-read-block-kinds.r block-read-block.Post
read_block_answers_once κs a x y s t p q = found_faithful x y (p ∙ sym q)

pub no_block_answers_once : OneAnswer 0 block-no-block-kinds.ps block-no-block-kinds.r block-no-block.Post
no_block_answers_once κs a x y s t p q = p ∙ sym q

pub read_body_answers_once : OneAnswer 1 block-read-body-kinds.ps block-read-body-kinds.r block-read-body.Post
read_body_answers_once κs a x y s t p q = found_faithful x y (p ∙ sym q)

pub write_block_answers_once : OneAnswer 1 block-write-block-kinds.ps block-write-block-kinds.r block-write-block.Post
write_block_answers_once κs a x y s t p q = told_faithful x y (p.0 ∙ sym q.0)

pub write_block_leaves_its_buffer_once : OneLater 1 block-write-block-kinds.ps block-write-block-kinds.r block-write-block.Post (λ κs s. s.0.now)
write_block_leaves_its_buffer_once κs a x y s t p q = p.1 ∙ sym q.1

pub write_front_answers_once : OneAnswer 1 block-write-front-kinds.ps block-write-front-kinds.r block-write-front.Post
write_front_answers_once κs a x y s t p q = told_faithful x y (p.0 ∙ sym q.0)

pub write_front_leaves_its_buffer_once : OneLater 1 block-write-front-kinds.ps block-write-front-kinds.r block-write-front.Post (λ κs s. s.0.now)
write_front_leaves_its_buffer_once κs a x y s t p q = p.1 ∙ sym q.1

pub slot_text_answers_once : OneAnswer 1 block-slot-text-kinds.ps block-slot-text-kinds.r block-slot-text.Post
slot_text_answers_once κs a x y s t p q = told_faithful x y (p.0 ∙ sym q.0)

pub slot_text_leaves_its_buffer_once : OneLater 1 block-slot-text-kinds.ps block-slot-text-kinds.r block-slot-text.Post (λ κs s. s.0.now)
slot_text_leaves_its_buffer_once κs a x y s t p q = p.1 ∙ sym q.1

pub as_slice_answers_once : OneSeen 1 block-as-slice-kinds.ps block-as-slice-kinds.r block-as-slice.Post (λ κs r. r.now)
as_slice_answers_once κs a x y s t p q = p ∙ sym q

pub block_length_answers_once : OneAnswer 0 block-length-kinds.ps block-length-kinds.r block-length.Post
block_length_answers_once κs a x y s t p q = p ∙ sym q

-- ---- walk
pub step_answers_once : OneAnswer 1 walk-step-kinds.ps walk-step-kinds.r walk-step.Post
step_answers_once κs a x y s t p q = told_faithful x y (p ∙ sym q)

pub place_after_answers_once : OneAnswer 1 walk-place-after-kinds.ps walk-place-after-kinds.r walk-place-after.Post
place_after_answers_once κs a x y s t p q = p ∙ sym q

pub next_answers_once : OneAnswer 2 walk-next-kinds.ps walk-next-kinds.r walk-next.Post
next_answers_once κs a x y s t p q = told_faithful x y (p.0 ∙ sym q.0)

pub next_leaves_the_place_once : OneLater 2 walk-next-kinds.ps walk-next-kinds.r walk-next.Post (λ κs s. s.0.now.at)
next_leaves_the_place_once κs a x y s t p q = p.1.1 ∙ sym q.1.1

pub walked_answers_once : OneAnswer 1 walked-kinds.ps walked-kinds.r walked.Post
walked_answers_once κs a x y s t p q = told_faithful x y (p ∙ sym q)

pub walked_on_answers_once : OneAnswer 1 walked-on-kinds.ps walked-on-kinds.r walked-on.Post
walked_on_answers_once κs a x y s t p q = told_faithful x y (p ∙ sym q)

-- ---- chain
pub open_answers_once : OneAnswer 1 chain-open-kinds.ps chain-open-kinds.r chain-open.Post
open_answers_once κs a x y s t p q = told_faithful x y (p ∙ sym q)

pub delivered_answers_once : OneAnswer 2 chain-delivered-kinds.ps chain-delivered-kinds.r chain-delivered.Post
delivered_answers_once κs a x y s t p q = placed_faithful x y (p ∙ sym q)

pub held_answers_once : OneAnswer 1 chain-held-kinds.ps chain-held-kinds.r chain-held.Post
held_answers_once κs a x y s t p q = placed_faithful x y (p ∙ sym q)

pub hold_answers_once : OneAnswer 2 chain-hold-kinds.ps chain-hold-kinds.r chain-hold.Post
hold_answers_once κs a x y s t p q = placed_faithful x y (p ∙ sym q)

pub check_answers_once : OneAnswer 3 chain-check-kinds.ps chain-check-kinds.r chain-check.Post
check_answers_once κs a x y s t p q = placed_faithful x y (p ∙ sym q)

-- ---- adopt
pub judge_answers_once : OneAnswer 4 adopt-judge-kinds.ps adopt-judge-kinds.r adopt-judge.Post
judge_answers_once κs a x y s t p q = placed_faithful x y (p ∙ sym q)

pub choose_answers_once : OneAnswer 3 adopt-choose-kinds.ps adopt-choose-kinds.r adopt-choose.Post
choose_answers_once κs a x y s t p q = paired (p.0 ∙ sym q.0) (placed_faithful x.1 y.1 (p.1 ∙ sym q.1))

pub adopt_answers_once : OneAnswer 4 adopt-kinds.ps adopt-kinds.r adopt.Post
adopt_answers_once κs a x y s t p q = placed_faithful x y (p.0 ∙ sym q.0)

pub adopt_leaves_the_held_buffer_once : OneLater 4 adopt-kinds.ps adopt-kinds.r adopt.Post (λ κs s. s.1.1.0.now)
adopt_leaves_the_held_buffer_once κs a x y s t p q = p.1 ∙ sym q.1

-- ---- pool
pub pool_fits_answers_once : OneAnswer 3 pool-fits-kinds.ps pool-fits-kinds.r pool-fits.Post
pool_fits_answers_once κs a x y s t p q = p ∙ sym q

pub counting_answers_once : OneAnswer 2 pool-counting-kinds.ps pool-counting-kinds.r pool-counting.Post
counting_answers_once κs a x y s t p q = p ∙ sym q

pub take_answers_once : OneAnswer 1 pool-take-kinds.ps pool-take-kinds.r pool-take.Post
take_answers_once κs a x y s t p q = p ∙ sym q

pub drop_answers_once : OneAnswer 3 pool-drop-kinds.ps pool-drop-kinds.r pool-drop.Post
drop_answers_once κs a x y s t p q = placed_faithful x y (p.0 ∙ sym q.0)

pub drop_leaves_the_pool_once : OneLater 3 pool-drop-kinds.ps pool-drop-kinds.r pool-drop.Post (λ κs s. s.1.1.1.1.0.now)
drop_leaves_the_pool_once κs a x y s t p q = p.1 ∙ sym q.1

pub add_answers_once : OneAnswer 3 pool-add-kinds.ps pool-add-kinds.r pool-add.Post
add_answers_once κs a x y s t p q = placed_faithful x y (p.0 ∙ sym q.0)

pub add_leaves_the_pool_once : OneLater 3 pool-add-kinds.ps pool-add-kinds.r pool-add.Post (λ κs s. s.1.1.1.1.0.now)
add_leaves_the_pool_once κs a x y s t p q = p.1 ∙ sym q.1

-- ---- issue
pub draft_answers_once : OneAnswer 4 issue-draft-kinds.ps issue-draft-kinds.r issue-draft.Post
draft_answers_once κs a x y s t p q = placed_faithful x y (p.0 ∙ sym q.0)

pub draft_leaves_its_buffer_once : OneLater 4 issue-draft-kinds.ps issue-draft-kinds.r issue-draft.Post (λ κs s. s.1.1.1.1.1.1.1.0.now)
draft_leaves_its_buffer_once κs a x y s t p q = p.1 ∙ sym q.1

pub block_text_answers_once : OneAnswer 4 issue-block-text-kinds.ps issue-block-text-kinds.r issue-block-text.Post
block_text_answers_once κs a x y s t p q = placed_faithful x y (p.0 ∙ sym q.0)

pub block_text_leaves_its_buffer_once : OneLater 4 issue-block-text-kinds.ps issue-block-text-kinds.r issue-block-text.Post (λ κs s. s.1.1.1.1.1.1.1.0.now)
block_text_leaves_its_buffer_once κs a x y s t p q = p.1 ∙ sym q.1

pub append_answers_once : OneAnswer 3 issue-append-kinds.ps issue-append-kinds.r issue-append.Post
append_answers_once κs a x y s t p q = placed_faithful x y (p.0 ∙ sym q.0)

pub append_leaves_the_held_buffer_once : OneLater 3 issue-append-kinds.ps issue-append-kinds.r issue-append.Post (λ κs s. s.1.1.0.now)
append_leaves_the_held_buffer_once κs a x y s t p q = p.1 ∙ sym q.1

-- ---- report
pub report_answers_once : OneAnswer 2 report-kinds.ps report-kinds.r report.Post
report_answers_once κs a x y s t p q = placed_faithful x y (p ∙ sym q)

-- ---- printed
pub station_answers_once : OneAnswer 2 printed-station-kinds.ps printed-station-kinds.r printed-station.Post
station_answers_once κs a x y s t p q = told_faithful x y (p.0 ∙ sym q.0)

pub station_leaves_its_buffer_once : OneLater 2 printed-station-kinds.ps printed-station-kinds.r printed-station.Post (λ κs s. s.1.0.now)
station_leaves_its_buffer_once κs a x y s t p q = p.1 ∙ sym q.1

-- ---- ledger
pub ledger_read_number_answers_once : OneAnswer 1 ledger-read-number-kinds.ps ledger-read-number-kinds.r ledger-read-number.Post
ledger_read_number_answers_once κs a x y s t p q = p ∙ sym q

pub ledger_write_number_answers_once : OneAnswer 1 ledger-write-number-kinds.ps ledger-write-number-kinds.r ledger-write-number.Post
ledger_write_number_answers_once κs a x y s t p q = p.0 ∙ sym q.0

pub ledger_write_number_leaves_its_buffer_once : OneLater 1 ledger-write-number-kinds.ps ledger-write-number-kinds.r ledger-write-number.Post (λ κs s. s.1.1.0.now)
ledger_write_number_leaves_its_buffer_once κs a x y s t p q = p.1 ∙ sym q.1

pub ledger_digest_answers_once : OneAnswer 1 ledger-digest-kinds.ps ledger-digest-kinds.r ledger-digest.Post
ledger_digest_answers_once κs a x y s t p q = p ∙ sym q

pub ledger_read_genesis_answers_once : OneAnswer 1 ledger-read-genesis-kinds.ps ledger-read-genesis-kinds.r ledger-read-genesis.Post
ledger_read_genesis_answers_once κs a x y s t p q = p ∙ sym q

pub ledger_find_key_answers_once : OneAnswer 1 ledger-find-key-kinds.ps ledger-find-key-kinds.r ledger-find-key.Post
ledger_find_key_answers_once κs a x y s t p q = p ∙ sym q

pub ledger_turn_answers_once : OneAnswer 0 ledger-turn-kinds.ps ledger-turn-kinds.r ledger-turn.Post
ledger_turn_answers_once κs a x y s t p q = p ∙ sym q

pub ledger_depth_answers_once : OneAnswer 0 ledger-depth-kinds.ps ledger-depth-kinds.r ledger-depth.Post
ledger_depth_answers_once κs a x y s t p q = p ∙ sym q

pub ledger_read_block_answers_once : OneAnswer 1 ledger-read-block-kinds.ps ledger-read-block-kinds.r ledger-read-block.Post
ledger_read_block_answers_once κs a x y s t p q = p ∙ sym q

pub ledger_write_block_answers_once : OneAnswer 1 ledger-write-block-kinds.ps ledger-write-block-kinds.r ledger-write-block.Post
ledger_write_block_answers_once κs a x y s t p q = p.0 ∙ sym q.0

pub ledger_write_block_leaves_its_buffer_once : OneLater 1 ledger-write-block-kinds.ps ledger-write-block-kinds.r ledger-write-block.Post (λ κs s. s.1.1.0.now)
ledger_write_block_leaves_its_buffer_once κs a x y s t p q = p.1 ∙ sym q.1

pub ledger_slot_text_answers_once : OneAnswer 1 ledger-slot-text-kinds.ps ledger-slot-text-kinds.r ledger-slot-text.Post
ledger_slot_text_answers_once κs a x y s t p q = p.0 ∙ sym q.0

pub ledger_slot_text_leaves_its_buffer_once : OneLater 1 ledger-slot-text-kinds.ps ledger-slot-text-kinds.r ledger-slot-text.Post (λ κs s. s.1.0.now)
ledger_slot_text_leaves_its_buffer_once κs a x y s t p q = p.1 ∙ sym q.1

pub ledger_walk_step_answers_once : OneAnswer 1 ledger-walk-step-kinds.ps ledger-walk-step-kinds.r ledger-walk-step.Post
ledger_walk_step_answers_once κs a x y s t p q = p ∙ sym q

pub ledger_check_answers_once : OneAnswer 3 ledger-check-kinds.ps ledger-check-kinds.r ledger-check.Post
ledger_check_answers_once κs a x y s t p q = p ∙ sym q

pub ledger_choose_answers_once : OneAnswer 4 ledger-choose-kinds.ps ledger-choose-kinds.r ledger-choose.Post
ledger_choose_answers_once κs a x y s t p q = p ∙ sym q

pub ledger_adopt_answers_once : OneAnswer 4 ledger-adopt-kinds.ps ledger-adopt-kinds.r ledger-adopt.Post
ledger_adopt_answers_once κs a x y s t p q = p.0 ∙ sym q.0

pub ledger_adopt_leaves_the_held_buffer_once : OneLater 4 ledger-adopt-kinds.ps ledger-adopt-kinds.r ledger-adopt.Post (λ κs s. s.1.1.0.now)
ledger_adopt_leaves_the_held_buffer_once κs a x y s t p q = p.1 ∙ sym q.1

pub ledger_drop_entries_answers_once : OneAnswer 2 ledger-drop-entries-kinds.ps ledger-drop-entries-kinds.r ledger-drop-entries.Post
ledger_drop_entries_answers_once κs a x y s t p q = p ∙ sym q

pub ledger_add_order_answers_once : OneAnswer 2 ledger-add-order-kinds.ps ledger-add-order-kinds.r ledger-add-order.Post
ledger_add_order_answers_once κs a x y s t p q = p ∙ sym q

pub ledger_draft_answers_once : OneAnswer 3 ledger-draft-kinds.ps ledger-draft-kinds.r ledger-draft.Post
ledger_draft_answers_once κs a x y s t p q = p.0 ∙ sym q.0

pub ledger_draft_leaves_its_buffer_once : OneLater 3 ledger-draft-kinds.ps ledger-draft-kinds.r ledger-draft.Post (λ κs s. s.1.1.1.1.1.1.1.0.now)
ledger_draft_leaves_its_buffer_once κs a x y s t p q = p.1 ∙ sym q.1

pub ledger_block_text_answers_once : OneAnswer 3 ledger-block-text-kinds.ps ledger-block-text-kinds.r ledger-block-text.Post
ledger_block_text_answers_once κs a x y s t p q = p.0 ∙ sym q.0

pub ledger_block_text_leaves_its_buffer_once : OneLater 3 ledger-block-text-kinds.ps ledger-block-text-kinds.r ledger-block-text.Post (λ κs s. s.1.1.1.1.1.1.1.0.now)
ledger_block_text_leaves_its_buffer_once κs a x y s t p q = p.1 ∙ sym q.1

pub ledger_append_answers_once : OneAnswer 2 ledger-append-kinds.ps ledger-append-kinds.r ledger-append.Post
ledger_append_answers_once κs a x y s t p q = p.0 ∙ sym q.0

pub ledger_append_leaves_the_held_buffer_once : OneLater 2 ledger-append-kinds.ps ledger-append-kinds.r ledger-append.Post (λ κs s. s.1.1.0.now)
ledger_append_leaves_the_held_buffer_once κs a x y s t p q = p.1 ∙ sym q.1

pub ledger_report_answers_once : OneAnswer 2 ledger-report-kinds.ps ledger-report-kinds.r ledger-report.Post
ledger_report_answers_once κs a x y s t p q = p ∙ sym q

pub ledger_check_manifest_answers_once : OneAnswer 3 ledger-check-manifest-kinds.ps ledger-check-manifest-kinds.r ledger-check-manifest.Post
ledger_check_manifest_answers_once κs a x y s t p q = p ∙ sym q
