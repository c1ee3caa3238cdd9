-- What a reader may take from this crate (01, "Draft and append"): "Same arguments, same bytes: what was signed is what is appended", and an appended
-- chain is as good as the one before it.
-- Assumes nothing.
use Prim.Native.Nat.{ℕ, ◌+◌, ◌-◌, ◌<◌}
use mathlib.Core.Path.{◌≡◌, refl, sym, ap, ◌∙◌}
use mathlib.Core.List.{List, [], ◌∷◌, ◌++◌}
use lib.ListN.{take, get_or}
use Rattle.laws.specs.Told.{Told, gives}
use Rattle.laws.specs.Bytes.{part}
use Rattle.laws.specs.Format.{Bytes}
use Rattle.laws.proofs.Told.{gives_same, then_gives}
use Rattle.block.specs.declared.Front.{Front}
use Rattle.chain.specs.Chain.{opened, held_chain, checked}
use Rattle.chain.specs.declared.Opened.{Opened}
use Rattle.chain.specs.declared.Summary.{Summary}
use Rattle.pool.specs.declared.Pool.{Pool}
use Rattle.issue.specs.Issue.{front, writing, written, draft_bytes, text_bytes, append_bytes}
use Rattle.issue.proofs.Appending.{Given}
use Rattle.issue.proofs.Signed.{piece, front_piece, draft_is}
use Rattle.issue.proofs.Went as went

-- ---- what was signed is what is appended: `t` is the front that the three calls have in common, for the same arguments
module _ (t : Told Front) (out : List ℕ) (drafted : ℕ) (draft : writing draft_bytes t out 0 ≡ gives drafted) where
  pub the_text_is_block_and_the_draft : (texts : List ℕ) (size : ℕ) → writing text_bytes t texts 0 ≡ gives size
      → take size (written text_bytes t texts 0) ≡ (98 ∷ 108 ∷ 111 ∷ 99 ∷ 107 ∷ []) ++ take drafted (written draft_bytes t out 0)
  the_text_is_block_and_the_draft texts size text =
      let (f, e, fits) = then_gives t _ size text in
      front_piece text_bytes t texts size f e fits ∙ ap (λ (l : List ℕ). (98 ∷ 108 ∷ 111 ∷ 99 ∷ 107 ∷ []) ++ l) (draft_is t out drafted draft f e)

  pub what_is_appended_is_the_draft_and_the_seal : (buffer seal : List ℕ) (size next : ℕ) → writing (append_bytes seal) t buffer size ≡ gives next
      → part (written (append_bytes seal) t buffer size) size (next - size) ≡ take drafted (written draft_bytes t out 0) ++ seal
  what_is_appended_is_the_draft_and_the_seal buffer seal size next append =
      let (f, e, fits) = then_gives t _ next append in
      piece (append_bytes seal) t buffer size next f e fits ∙ ap (λ (l : List ℕ). l ++ seal) (draft_is t out drafted draft f e)

-- ---- an appended chain: `o` is what the call is opened with, and `h` what it holds before
module _ (genesis : List ℕ) (clock : ℕ) (buffer : List ℕ) (size : ℕ) (pool : Pool) (controller : ℕ) (signature seal : List ℕ) (next : ℕ)
    (bytes : Bytes buffer) (given : Given signature seal) (o : Opened) (h : Summary)
    (opens : opened genesis clock ≡ gives o) (holds : held_chain o buffer size ≡ gives h)
    (append : writing (append_bytes seal) (front genesis clock buffer size pool controller signature) buffer size ≡ gives next) where
  -- the buffer then
  abbrev pub after : List ℕ
  after = written (append_bytes seal) (front genesis clock buffer size pool controller signature) buffer size

  pub an_appended_chain_is_good_at_now : (s : Summary) × (held_chain o after next ≡ gives s) × (s.whole.count.0 ≡ h.whole.count.0 + 1)
  an_appended_chain_is_good_at_now =
      (_, went.held_then genesis clock buffer size pool controller signature seal next bytes given o h opens holds append, refl)

  -- given verdict 3 for each of its blocks; `s` is what it comes to where it is held
  pub and_for_another_controller_in_the_next_slot : (verdicts : List ℕ) → clock < 256 → ((i : ℕ) → i < h.whole.count.0 + 1 → get_or verdicts i 0 ≡ 3)
      → (s : Summary) → held_chain o after next ≡ gives s
      → checked genesis (clock + 1) (take next after) verdicts ≡ gives (h.whole.count.0 + 1, s.whole.releases)
  and_for_another_controller_in_the_next_slot verdicts below good s is =
      went.good_elsewhere genesis clock buffer size pool controller signature seal next bytes given o h opens holds append verdicts below good
      ∙ ap (λ (q : Summary). gives (h.whole.count.0 + 1, q.whole.releases))
      (gives_same (sym (went.held_then genesis clock buffer size pool controller signature seal next bytes given o h opens holds append) ∙ is))
